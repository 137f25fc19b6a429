-- A command's tests in their order: one by the window, one by the transpose and one by the length.
use Prim.Native.Nat.{ℕ, ◌+◌, ◌%◌, ◌≤◌}
use mathlib.Core.Bool.{Bool, true, false}
use mathlib.Core.List.{List}
use mathlib.Core.Path.{◌≡◌, refl, sym, ap, ◌∙◌}
use native.Mathlib.Omega.{arith}
use lib.Dec.{leb, eqb}
use lib.ListN.{length, get_or}
use Rattle.std.specs.Prelude.{Option, Some, None, Ok, Err, Result}
use Rattle.engine_base.specs.Pick.{pick}
use Rattle.engine_base.specs.declared.refusal.Refusal.{Refusal}
use Rattle.engine_base.specs.declared.refusal.Refusal.TheVariants.{InvalidNote, PastLengths, ZeroLength, NoLength, PastData}
use Rattle.engine_base.specs.declared.time.Frames.{Frames}
use Rattle.engine_base.proofs.Picks.{by-test, false_true}
use Rattle.mother_format.specs.Bank.{lengths_size}
use Rattle.mother_format.specs.Command.{is_note, rule_of, note_after, timbre_after}
use Rattle.mother_format.specs.Channel.{Source, address_of, refused_at, unless_refused, length_at, length_fault, early_fault, sounding_of, length_played, note_played, played_of, played_by, played_rule, played_at}
use Rattle.mother_format.specs.declared.command.Rule.{Rule}
use Rattle.mother_format.specs.declared.command.Command.{Command}
use Rattle.mother_format.specs.Command.{Decoded}
use Rattle.mother_format.specs.declared.channel.Setting.{Setting}
use Rattle.mother_format.specs.declared.channel.Played.{Played}
use Rattle.mother_format.proofs.command.Laws.{Sorted, sorted}
use Rattle.mother_check.specs.Extremes.{is_sooner}
use Rattle.mother_check.specs.Faults.{fault_at, fault_by, first_of}
use Rattle.mother_check.specs.First.{then_first, window_for, is_outside}
use Rattle.mother_check.proofs.Member.{In}
use Rattle.mother_check.proofs.settings.Spans.{Spans}
use Rattle.mother_check.proofs.first.Order.{SameOrLater, same, later, later_at, later_number}
use Rattle.mother_check.proofs.first.Rank.{extreme}
use Rattle.mother_check.specs.declared.settings.Extremes.{Extremes}
use Rattle.mother_check.specs.declared.faults.Site.{Site}
use Rattle.mother_check.specs.declared.faults.Fault.{Fault}

-- the one isn't sooner than the other, and is nothing where that is
abbrev pub NoSooner : Option Fault → Option Fault → Type 0
NoSooner None a = Unit {0}
NoSooner (Some g) None = ⊥
NoSooner (Some g) (Some f) = SameOrLater f g

-- the one isn't sooner than the other, if that is a fault
abbrev pub Follows : Option Fault → Option Fault → Type 0
Follows b None = Unit {0}
Follows b (Some f) = NoSooner b (Some f)

pub nothing_follows : (a : Option Fault) → Follows None a
nothing_follows None = tt
nothing_follows (Some f) = tt

abbrev pub when : Bool → Option Fault → Option Fault
when t a = pick t a None

module _ (ms ws : List ℕ) (e : Extremes) (source : Source) (site : Site) (at : ℕ) where
  abbrev kept : ℕ
  kept = window_for source.bytes e.windows at

  abbrev fault : Played → Option Fault
  fault played = first_of (fault_by site played)

  -- of a command that is played so: early by the window, then sound where the transpose is outside, then last where there is no length.
  -- No window's is sooner than the kept one's, and where some transpose is outside the lowest or the highest is.
  pub record Tests (play : Setting → Frames → Played) : Type 0 where
    pub early : ℕ → Option Fault
    pub outside : ℕ → Bool
    pub sound : Option Fault
    pub last : Option Fault
    pub are : (s : Setting) (f : Frames) →
        fault (play s f) ≡
        then_first (early s.window) (then_first (when (outside s.transpose) sound) (when (eqb f.count 0) last))
    pub sound_later : (w : ℕ) → Follows sound (early w)
    pub last_later : (w : ℕ) → Follows last (early w)
    pub last_after : Follows last sound
    pub worst : (w : ℕ) → In w ws → NoSooner (early w) (early kept)
    pub widest : (m : ℕ) → In m ms → outside m ≡ true → pick (outside e.low) true (outside e.high) ≡ true

pub same_first : (a : Option Fault) → NoSooner a a
same_first None = tt
same_first (Some f) = same refl

alone : (a : Option Fault) (t : Bool) → a ≡ then_first a (when t None)
alone (Some f) t = refl
alone None true = refl
alone None false = refl

-- none, or 12 or 13 of BL
data Fails : Result (Unit {0}) Refusal → Type 0 where
  not : Fails (Ok tt)
  past : Fails (Err PastLengths)
  silent : Fails (Err ZeroLength)

length_fails : (bank : List ℕ) (table window l : ℕ) → Fails (length_fault bank table window l)
unfolding length_fault
length_fails bank table window l =
    by-test Fails (leb lengths_size (window + l)) (λ _. past) λ _.
    by-test Fails (eqb (length_at bank table window l) 0) (λ _. silent) λ _. not

module _ (ms ws : List ℕ) (e : Extremes) (source : Source) (site : Site) (at : ℕ)
    (spans : Spans source.bank source.places.note_lengths ms ws e) (bytes : (m : ℕ) → In m ms → m ≤ 255) where
  abbrev Tried : (Setting → Frames → Played) → Type 0
  Tried = Tests ms ws e source site at

  abbrev found : Played → Option Fault
  found played = first_of (fault_by site played)

  abbrev decoded : Setting → Frames → Decoded → Played
  decoded s f = played_by source.start (played_of source.bank source.places source.kind source.start s f at)

  -- neither setting nor length is looked at
  fixed : (play : Setting → Frames → Played) → ((s t : Setting) (f g : Frames) → play s f ≡ play t g) → Tried play
  fixed play k = record {
    early = λ w. one;
    outside = λ m. false;
    sound = None;
    last = None;
    are = λ s f. ap found (k s any f none) ∙ alone one (eqb f.count 0);
    sound_later = λ w. nothing_follows one;
    last_later = λ w. nothing_follows one;
    last_after = tt;
    worst = λ w i. same_first one;
    widest = λ m i t. absurd (false_true t);
  }
    where
      any : Setting
      any = record { transpose = 0; window = 0 }

      none : Frames
      none = record { count = 0 }

      one : Option Fault
      one = found (play any none)

  -- a refusal at an offset
  abbrev fault_of : Refusal → ℕ → Fault
  fault_of refusal offset = fault_at site refusal offset (address_of refusal source.start offset)

  abbrev unsounded : ℕ → ℕ → Bool
  unsounded b m = is_outside (sounding_of source.kind b m)

  unsounded_widest : (b m : ℕ) → In m ms → unsounded b m ≡ true → pick (unsounded b e.low) true (unsounded b e.high) ≡ true
  unsounded_widest b m i =
      extreme b e.low m e.high (bytes e.low spans.low_in) (bytes m i) (bytes e.high spans.high_in)
      (spans.lowest m i) (spans.highest m i) source.kind

  -- 11, then 14
  note_tests : (b next : ℕ) → Tried (λ s f. note_played source.start at f next (sounding_of source.kind b s.transpose))
  unfolding first_of
  note_tests b next = record {
    early = λ w. None;
    outside = unsounded b;
    sound = Some (fault_of InvalidNote at);
    last = Some (fault_of NoLength at);
    are = λ s f. by f (sounding_of source.kind b s.transpose);
    sound_later = λ w. tt;
    last_later = λ w. tt;
    last_after = later (later_number (fault_of InvalidNote at) (fault_of NoLength at) refl refl refl (omega arith));
    worst = λ w i. tt;
    widest = unsounded_widest b;
  }
    where
      asked : (sound : ℕ) (t : Bool) → found (pick t (refused_at source.start NoLength at) (Played.Note sound next)) ≡
          when t (Some (fault_of NoLength at))
      asked sound true = refl
      asked sound false = refl

      by : (f : Frames) (x : Option ℕ) → found (note_played source.start at f next x) ≡
          then_first (when (is_outside x) (Some (fault_of InvalidNote at))) (when (eqb f.count 0) (Some (fault_of NoLength at)))
      by f None = refl
      by f (Some sound) = asked sound (eqb f.count 0)

  -- 12 or 13 here, then one by the transpose at the next byte
  module _ (l : ℕ) (index : l ≡ get_or source.bytes at 0 % 16) where
    abbrev numbered : Result (Unit {0}) Refusal → Option Fault
    numbered (Ok none) = None
    numbered (Err refusal) = Some (fault_of refusal at)

    abbrev fails : ℕ → Result (Unit {0}) Refusal
    fails w = length_fault source.bank source.places.note_lengths w l

    worse : {n k : Result (Unit {0}) Refusal} → Fails n → Fails k → is_sooner n k ≡ false → NoSooner (numbered n) (numbered k)
    worse not c t = tt
    worse past not t = absurd (false_true (sym t))
    worse past past t = same refl
    worse past silent t = absurd (false_true (sym t))
    worse silent not t = absurd (false_true (sym t))
    worse silent past t = later (later_number (fault_of PastLengths at) (fault_of ZeroLength at) refl refl refl (omega arith))
    worse silent silent t = same refl

    length_worst : (w : ℕ) → In w ws → NoSooner (numbered (fails w)) (numbered (fails (window_for source.bytes e.windows at)))
    unfolding window_for
    length_worst w i =
        rw (← index)
        (worse (length_fails _ _ _ _) (length_fails _ _ _ _) (spans.worst l (omega arith) w i))

    -- the one at the next byte is later
    at_next : (refusal : Refusal) (x : Result (Unit {0}) Refusal) → Follows (Some (fault_of refusal (at + 1))) (numbered x)
    at_next refusal (Ok none) = tt
    at_next refusal (Err r) = later (later_at (fault_of r at) (fault_of refusal (at + 1)) refl refl (omega arith))

    length_tests : (outside : ℕ → Bool) (refusal : Refusal) (rest : Setting → Played) →
        ((s : Setting) → found (rest s) ≡ when (outside s.transpose) (Some (fault_of refusal (at + 1)))) →
        ((m : ℕ) → In m ms → outside m ≡ true → pick (outside e.low) true (outside e.high) ≡ true) →
        Tried (λ s f. unless_refused source.start at (fails s.window) (rest s))
    unfolding first_of
    length_tests outside refusal rest k wide = record {
      early = λ w. numbered (fails w);
      outside = outside;
      sound = Some (fault_of refusal (at + 1));
      last = None;
      are = λ s f. by s (eqb f.count 0) (fails s.window);
      sound_later = λ w. at_next refusal (fails w);
      last_later = λ w. nothing_follows (numbered (fails w));
      last_after = tt;
      worst = length_worst;
      widest = wide;
    }
      where
        by : (s : Setting) (u : Bool) (x : Result (Unit {0}) Refusal) → found (unless_refused source.start at x (rest s)) ≡
            then_first (numbered x) (then_first (when (outside s.transpose) (Some (fault_of refusal (at + 1)))) (when u None))
        by s u (Ok none) = k s ∙ alone (when (outside s.transpose) (Some (fault_of refusal (at + 1)))) u
        by s u (Err r) = refl

    -- what stands after BL
    abbrev Note : Decoded → Type 0
    Note d = Tried (λ s f. unless_refused source.start at (fails s.window) (decoded s f d))

    refused_tests : (refusal : Refusal) → Note (Err (refusal, at + 1))
    unfolding first_of
    refused_tests refusal = length_tests (λ m. true) refusal _ (λ s. refl) (λ m i t. refl)

    sounding_tests : (b next : ℕ) → Note (Ok (Command.Length l b, next))
    unfolding first_of
    sounding_tests b next = length_tests (unsounded b) InvalidNote _ (λ s. by s (sounding_of source.kind b s.transpose)) (unsounded_widest b)
      where
        by : (s : Setting) (x : Option ℕ) →
            found (length_played source.start (at + 1) (record { count = length_at source.bank source.places.note_lengths s.window l }) next x)
            ≡ when (is_outside x) (Some (fault_of InvalidNote (at + 1)))
        by s None = refl
        by s (Some sound) = refl

    after_tests : Note (note_after source.kind source.bytes (at + 1) l)
    unfolding note_after
    after_tests =
        by-test Note (leb (length source.bytes) (at + 1)) (λ _. refused_tests PastData) λ _.
        by-test Note (is_note source.kind (get_or source.bytes (at + 1) 0)) (λ _. sounding_tests _ _) λ _. refused_tests InvalidNote

  abbrev Plain : Decoded → Type 0
  Plain d = (s t : Setting) (f g : Frames) → decoded s f d ≡ decoded t g d

  timbre_plain : Plain (timbre_after source.bytes (at + 1))
  unfolding timbre_after
  timbre_plain =
      by-test Plain (leb (length source.bytes) (at + 1)) (λ _ s t f g. refl) λ _.
      by-test Plain (leb (length source.bytes) (at + 1 + 1)) (λ _ s t f g. refl) λ _ s t f g. refl

  rule_tests : (rule : Result Rule Refusal) → Sorted source.kind (get_or source.bytes at 0) rule → Tried (λ s f. played_rule source s f at rule)
  unfolding played_rule
  rule_tests (Ok Rule.End) x = fixed _ λ s t f g. refl
  rule_tests (Ok Rule.Transpose) x = fixed _ (by-test Plain (leb (length source.bytes) (at + 1)) (λ _ s t f g. refl) λ _ s t f g. refl)
  rule_tests (Ok Rule.Window) x = fixed _ (by-test Plain (leb (length source.bytes) (at + 1)) (λ _ s t f g. refl) λ _ s t f g. refl)
  rule_tests (Ok Rule.EndLoop) x = fixed _ λ s t f g. refl
  rule_tests (Ok (Rule.Length l)) x = after_tests l x
  rule_tests (Ok (Rule.BeginLoop n)) x = fixed _ λ s t f g. refl
  rule_tests (Ok Rule.Timbre) x = fixed _ λ s t f g. ap (unless_refused source.start at early) (timbre_plain s t f g)
    where
      early : Result (Unit {0}) Refusal
      early = early_fault source.bank source.places source.kind source.bytes 0 at (Ok Rule.Timbre)
  rule_tests (Ok Rule.Note) x = note_tests _ _
  rule_tests (Err refusal) x = fixed _ λ s t f g. refl

  pub tests : Tried (λ s f. played_at source s f at)
  unfolding played_at
  tests = by (leb (length source.bytes) at)
    where
      rule : Result Rule Refusal
      rule = rule_of source.kind (get_or source.bytes at 0)

      by : (t : Bool) → Tried (λ s f. pick t (refused_at source.start PastData at) (played_rule source s f at rule))
      by true = fixed _ λ s t f g. refl
      by false = rule_tests rule (sorted source.kind (get_or source.bytes at 0))
