-- Trying a command under the extremes finds the first of its faults under all that is set in a track.
use Prim.Native.Nat.{ℕ, ◌%◌, ◌≤◌}
use mathlib.Core.Bool.{Bool, true, false}
use mathlib.Core.List.{List, [], ◌∷◌, map}
use mathlib.Core.Path.{◌≡◌, refl, sym, subst, ◌∙◌}
use native.Mathlib.Omega.{arith}
use lib.Dec.{eqb}
use lib.ListN.{get_or}
use Rattle.std.specs.Prelude.{Option, Some, None}
use Rattle.engine_base.specs.Pick.{pick}
use Rattle.engine_base.proofs.Picks.{by-test}
use Rattle.mother_format.specs.Bank.{banks}
use Rattle.mother_format.specs.Channel.{Source, block_source, played_at}
use Rattle.mother_format.specs.declared.bank.Places.{Places}
use Rattle.mother_format.specs.declared.command.Kind.{Kind}
use Rattle.mother_format.specs.declared.channel.Setting.{Setting}
use Rattle.mother_format.specs.declared.channel.Played.{Played}
use Rattle.mother_check.specs.Settings.{settings_by}
use Rattle.mother_check.specs.Faults.{fault_by, length_by, command_faults, first_of}
use Rattle.mother_check.specs.First.{then_first, tried_at, window_for, first_tried}
use Rattle.mother_check.proofs.Member.{In, here, there, in_left, in_right, in_one}
use Rattle.mother_check.proofs.settings.Spans.{Spans}
use Rattle.mother_check.proofs.clean.Laws.{setting_in}
use Rattle.mother_check.proofs.first.Order.{first_found_in, first_is}
use Rattle.mother_check.proofs.first.Tests.{NoSooner, same_first, when, Follows, nothing_follows, Tests, tests}
use Rattle.mother_check.specs.declared.settings.Extremes.{Extremes}
use Rattle.mother_check.specs.declared.faults.Site.{Site}
use Rattle.mother_check.specs.declared.faults.Fault.{Fault}

module _ (m : ℕ) where
  with_window_lem : (ws : List ℕ) {s : Setting} → In s (map (λ t. record { transpose = m; window = t }) ws) → (s.transpose ≡ m) × In s.window ws
  with_window_lem (w ∷ ws) here = (refl, here)
  with_window_lem (w ∷ ws) (there i) = let (e, j) = with_window_lem ws i in (e, there j)
  with_window_lem [] {s = s} x' = elim x' [ ]

setting_of_lem : (ms ws : List ℕ) {s : Setting} → In s (settings_by ms ws) → In s.transpose ms × In s.window ws
setting_of_lem (m ∷ ms) ws {s} i =
    in_one (map (λ t. record { transpose = m; window = t }) ws)
    (λ j. let (e, k) = with_window_lem m ws j in (subst (λ n. In n (m ∷ ms)) (sym e) here, k))
    (λ j. let (k, n) = setting_of_lem ms ws j in (there k, n)) i
setting_of_lem [] ws {s = s} i = elim i [ ]

none_first : (fs : List Fault) → ((f : Fault) → In f fs → ⊥) → first_of fs ≡ None
unfolding first_of
none_first [] k = refl
none_first (f ∷ fs) k = absurd (k f here)

module _ (source : Source) (site : Site) (sized : Bool) (at : ℕ) where
  abbrev played : Setting → Played
  played s = played_at source s (length_by sized) at

  abbrev found : Setting → Option Fault
  found s = first_of (fault_by site (played s))

  faults_of : (ss : List Setting) {s : Setting} {f : Fault} → In s ss → found s ≡ Some f → In f (command_faults source site ss sized at)
  unfolding command_faults
  faults_of (s ∷ ss) {f = f} here e = in_left (command_faults source site ss sized at) (first_found_in _ f e)
  faults_of (s ∷ ss) (there i) e = in_right (fault_by site (played s)) (faults_of ss i e)
  faults_of [] {s = s} {f = f} x'' e = elim x'' [ ]

  only : (p : Played) {f : Fault} → In f (fault_by site p) → first_of (fault_by site p) ≡ Some f
  unfolding first_of
  only (Played.Refused refusal offset address) here = refl
  only Played.End {f = f} x' = elim x' [ ]
  only (Played.Transpose _ _) {f = f} x4 = elim x4 [ ]
  only (Played.Window _ _) {f = f} x5 = elim x5 [ ]
  only (Played.EndLoop _) {f = f} x5 = elim x5 [ ]
  only (Played.BeginLoop _ _) {f = f} x7 = elim x7 [ ]
  only (Played.Length _ _ _) {f = f} x9 = elim x9 [ ]
  only (Played.Timbre _ _ _) {f = f} x10 = elim x10 [ ]
  only (Played.Note _ _) {f = f} x10 = elim x10 [ ]
  only (Played.Refused refusal offset address) {f = f} (there x12) = elim x12 [ ]

  record From (ss : List Setting) (f : Fault) : Type 0 where
    setting : Setting
    is_in : In setting ss
    finds : found setting ≡ Some f

  from_faults : (ss : List Setting) {f : Fault} → In f (command_faults source site ss sized at) → From ss f
  unfolding command_faults
  from_faults (s ∷ ss) i =
      in_one (fault_by site (played s)) (λ j. record { setting = s; is_in = here; finds = only (played s) j })
      (λ j. let r = from_faults ss j in record { setting = r.setting; is_in = there r.is_in; finds = r.finds }) i
  from_faults [] {f = f} i = elim i [ ]

  -- what a setting finds is the first, if none finds a sooner one
  first_by : (ss : List Setting) (s : Setting) → In s ss → ((x : Setting) → In x ss → NoSooner (found x) (found s)) →
      first_of (command_faults source site ss sized at) ≡ found s
  first_by ss s i k = by (found s) refl k
    where
      by : (r : Option Fault) → found s ≡ r → ((x : Setting) → In x ss → NoSooner (found x) r) → first_of (command_faults source site ss sized at) ≡ r
      by None e k = none_first _ λ g j. let r = from_faults ss j in subst (λ x. NoSooner x None) r.finds (k r.setting r.is_in)
      by (Some f) e k =
          first_is f _ (faults_of ss i e) λ g j.
          let r = from_faults ss j in subst (λ x. NoSooner x (Some f)) r.finds (k r.setting r.is_in)

then_later : (a b c d : Option Fault) → NoSooner a c → NoSooner b d → Follows b c → NoSooner (then_first a b) (then_first c d)
then_later None b None d p q r = q
then_later None b (Some f) d p q r = r
then_later (Some g) b None d p q r = absurd p
then_later (Some g) b (Some f) d p q r = p

then_follows : (a b c : Option Fault) → Follows a c → Follows b c → Follows (then_first a b) c
then_follows None b c p q = q
then_follows (Some f) b c p q = p

when_follows : (t : Bool) (a c : Option Fault) → Follows a c → Follows (when t a) c
when_follows true a c p = p
when_follows false a c p = nothing_follows c

follows_when : (t : Bool) (a c : Option Fault) → Follows a c → Follows a (when t c)
follows_when true a c p = p
follows_when false a c p = tt

when_later : (a : Option Fault) (t u : Bool) → (t ≡ true → u ≡ true) → NoSooner (when t a) (when u a)
when_later a true u k = rw (k refl) (same_first a)
when_later a false u k = tt

when_nothing : (t : Bool) → when t None ≡ None
when_nothing true = refl
when_nothing false = refl

abbrev in_turn : Option Fault → Option Fault → Option Fault → Bool → ℕ → Option Fault
in_turn early sound last outside n = then_first early (then_first (when outside sound) (when (eqb n 0) last))

-- the three tries, as one under the better transpose
tries : (early sound last : Option Fault) (low high sized : Bool) →
    then_first (in_turn early sound last low 1) (then_first (in_turn early sound last high 1) (pick sized None (in_turn early sound last low 0)))
    ≡ in_turn early sound last (pick low true high) (pick sized 1 0)
tries (Some f) sound last low high sized = refl
tries None None last low high true = simp when_nothing
tries None None last low high false = simp when_nothing
tries None (Some f) last true high sized = refl
tries None (Some f) last false true sized = refl
tries None (Some f) last false false true = refl
tries None (Some f) last false false false = refl

module _ (source : Source) (ms ws : List ℕ) (e : Extremes) (spans : Spans source.bank source.places.note_lengths ms ws e)
    (bytes : (m : ℕ) → In m ms → m ≤ 255) (site : Site) (sized : Bool) (at : ℕ) where
  abbrev kept : ℕ
  kept = window_for source.bytes e.windows at

  kept_in : In kept ws
  unfolding window_for
  kept_in = spans.window_in (get_or source.bytes at 0 % 16) (omega arith)

  module _ (t : Tests ms ws e source site at (λ s f. played_at source s f at)) where
    abbrev by_tests : ℕ → ℕ → ℕ → Option Fault
    by_tests m w n = in_turn (t.early w) t.sound t.last (t.outside m) n

    best : ℕ
    best = pick (t.outside e.low) e.low e.high

    best_in : In best ms
    unfolding best
    best_in = by-test (λ m. In m ms) (t.outside e.low) (λ _. spans.low_in) (λ _. spans.high_in)

    best_outside : t.outside best ≡ pick (t.outside e.low) true (t.outside e.high)
    unfolding best
    best_outside = by (t.outside e.low) refl
      where
        by : (u : Bool) → t.outside e.low ≡ u → t.outside (pick u e.low e.high) ≡ pick u true (t.outside e.high)
        by true k = k
        by false k = refl

    best_first : (m w n : ℕ) → In m ms → In w ws → NoSooner (by_tests m w n) (by_tests best kept n)
    best_first m w n i j =
        then_later (t.early w) (then_first sound last) (t.early kept) (then_first best_sound last) (t.worst w j)
        (then_later sound last best_sound last
        (when_later t.sound (t.outside m) (t.outside best) (λ u. best_outside ∙ t.widest m i u))
        (same_first last)
        (when_follows (eqb n 0) t.last best_sound (follows_when (t.outside best) t.last t.sound t.last_after)))
        (then_follows sound last (t.early kept)
        (when_follows (t.outside m) t.sound (t.early kept) (t.sound_later kept))
        (when_follows (eqb n 0) t.last (t.early kept) (t.last_later kept)))
      where
        sound : Option Fault
        sound = when (t.outside m) t.sound

        best_sound : Option Fault
        best_sound = when (t.outside best) t.sound

        last : Option Fault
        last = when (eqb n 0) t.last

    tried_is : (m n : ℕ) → tried_at source site m kept n at ≡ by_tests m kept n
    unfolding tried_at
    tried_is m n = t.are (record { transpose = m; window = kept }) (record { count = n })

    tried_by : first_tried source site e sized at ≡ by_tests best kept (pick sized 1 0)
    unfolding first_tried
    tried_by =
        rw (tried_is e.low 1, tried_is e.high 1, tried_is e.low 0, best_outside)
        (tries (t.early kept) t.sound t.last (t.outside e.low) (t.outside e.high) sized)

    faults_by : first_of (command_faults source site (settings_by ms ws) sized at) ≡ by_tests best kept (pick sized 1 0)
    faults_by =
        first_by source site sized at (settings_by ms ws) (record { transpose = best; window = kept }) (setting_in ms best_in kept_in)
        (λ x i.
        let (j, k) = setting_of_lem ms ws i in
        rw (t.are x (length_by sized), t.are (record { transpose = best; window = kept }) (length_by sized))
        (best_first x.transpose x.window (pick sized 1 0) j k))
        ∙ t.are (record { transpose = best; window = kept }) (length_by sized)

pub tried_is_first : (bank8 banka : List ℕ) (places : Places) (ms ws : List ℕ) (e : Extremes) →
    Spans (banks bank8 banka) places.note_lengths ms ws e → ((m : ℕ) → In m ms → m ≤ 255) →
    (kind : Kind) (start : ℕ) (site : Site) (sized : Bool) (at : ℕ) →
    first_tried (block_source bank8 banka places kind start) site e sized at
    ≡ first_of (command_faults (block_source bank8 banka places kind start) site (settings_by ms ws) sized at)
tried_is_first bank8 banka places ms ws e spans bytes kind start site sized at =
    tried_by source ms ws e spans bytes site sized at found ∙ sym (faults_by source ms ws e spans bytes site sized at found)
  where
    source : Source
    source = block_source bank8 banka places kind start

    found : Tests ms ws e source site at (λ s f. played_at source s f at)
    found = tests ms ws e source site at spans bytes
