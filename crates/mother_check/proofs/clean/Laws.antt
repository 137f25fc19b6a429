-- What it says of a block that it has no fault, and what the commands of a block set and sound.
use Prim.Native.Nat.{ℕ, zero, suc, ◌+◌, ◌-◌, ◌%◌, ◌≤◌, ◌<◌}
use mathlib.Core.Bool.{Bool, true, false, cond}
use mathlib.Core.List.{List, [], ◌∷◌, map}
use mathlib.Core.Path.{◌≡◌, refl, sym, subst, ◌∙◌}
use native.Mathlib.Omega.{arith}
use borrow.Author.Tests.{ltb-true, ltb-false, le-leb, lt-leb, leb-true, leb-false, ne_eqb, eqb-true, eqb-false}
use lib.Dec.{leb, ltb, eqb}
use lib.IntN.{ℤ, pos, negsuc, nat_abs, ◌+ℤ◌}
use lib.ListN.{length, get_or}
use Rattle.std.specs.Prelude.{Ok, Err, Option, Some, None, Result}
use Rattle.engine_base.specs.declared.refusal.Refusal.{Refusal}
use Rattle.engine_base.specs.declared.refusal.Refusal.TheVariants.{EnvelopeTooHigh}
use Rattle.engine_base.specs.declared.time.Frames.{Frames}
use Rattle.engine_base.proofs.Picks.{by-test, refused_given, passed as test-passed}
use Rattle.mother_format.specs.Bank.{block_of, lengths_size}
use Rattle.mother_format.specs.Command.{is_key, is_note, rule_of, note_after, timbre_after, command_by, command_at, bytes_of}
use Rattle.mother_format.specs.Transpose.{amount_of, is_odd, rest_key, last_key, in_table, transposed_of}
use Rattle.mother_format.specs.Envelope.{last_envelope, envelope_fault}
use Rattle.mother_format.specs.Channel.{Source, block_source, length_at, length_fault, timbre_fault, early_fault, sounding_of, note_played, played_of, played_by, unless_refused, played_rule, played_at}
use Rattle.mother_format.specs.Straight.{Placed, Straight, is_end, before, straight_by, straight_from, straight}
use Rattle.mother_format.proofs.command.Laws.{Sorted, sorted, stands, command_is}
use Rattle.mother_format.proofs.straight.Within.{bytes_some}
use Rattle.mother_format.specs.declared.bank.Places.{Places}
use Rattle.mother_format.specs.declared.command.Kind.{Kind}
use Rattle.mother_format.specs.declared.command.Kind.TheVariants.{Square, Triangle, Noise}
use Rattle.mother_format.specs.declared.command.Rule.{Rule}
use Rattle.mother_format.specs.declared.command.Command.{Command}
use Rattle.mother_format.specs.Command.{Decoded}
use Rattle.mother_format.specs.declared.channel.Setting.{Setting}
use Rattle.mother_format.specs.declared.channel.Played.{Played}
use Rattle.mother_format.specs.Straight.{Finish}
use Rattle.mother_player.specs.Record.{sounds_in, timbre_fits}
use Rattle.mother_check.specs.Settings.{transpose_of, window_of, in_commands, settings_by}
use Rattle.mother_check.specs.Reading.{passed}
use Rattle.mother_check.specs.Faults.{fault_by, length_by, command_faults, finish_faults, read_faults, entering, block_faults}
use Rattle.mother_check.proofs.Member.{In, here, there, in_left, in_right, in_one, none_in, cons_none, none_both}
use Rattle.mother_check.proofs.clean.Visits.{Visits, at_first, at_next, Unrefused}
use Rattle.mother_check.specs.declared.reading.Progress.{Progress}
use Rattle.mother_check.specs.declared.faults.Site.{Site}

module _ (kind : Kind) (bytes : List ℕ) where
  -- straight reading at a command that is found: it had bytes left, and goes on
  record Onward (more at : ℕ) (c : Command) (next : ℕ) : Type 0 where
    less : ℕ
    room : length bytes ≤ next + less
    is : straight_from kind bytes more at ≡ straight_by at (λ n. straight_from kind bytes less n) (Ok (c, next))

  onward : (more at : ℕ) {c : Command} {next : ℕ} → length bytes ≤ at + more → command_at kind bytes at ≡ Ok (c, next) →
      Onward more at c next
  unfolding straight_from
  onward zero at {c} h e =
      let (size, near, small) = stands kind bytes at e in
      absurd (omega (arith, bytes_some c))
  onward (suc less) at {c} h e =
      let (size, near, small) = stands kind bytes at e in
      record { less = less; room = omega (arith, bytes_some c); is = rw e }

  module _ (P : ℕ → Progress → Straight → Type 0) where
    -- of straight reading from an offset on, with enough bytes left
    record Reached (at : ℕ) (p : Progress) : Type 0 where
      more : ℕ
      room : length bytes ≤ at + more
      holds : P at p (straight_from kind bytes more at)

    -- what holds at the start and is kept from command to command holds wherever it visits
    reached : {first : Progress} → P 0 first (straight kind bytes) →
        ((at : ℕ) (p : Progress) (c : Command) (rest : Straight) → P at p (before at c rest) → P (at + length (bytes_of c)) (passed p c) rest) →
        {at : ℕ} {p : Progress} → Visits kind bytes first at p → Reached at p
    reached h on at_first = record { more = length bytes; room = omega arith; holds = h }
    reached h on (at_next {at} {next} {p} {c} v e t) =
        let r = reached h on v in
        let o = onward r.more at r.room e in
        let (size, near, small) = stands kind bytes at e in
        let rest = straight_from kind bytes o.less next in
        let past : straight_from kind bytes r.more at ≡ before at c rest = o.is ∙ rw t in
        let after = on at p c rest (subst (P at p) past r.holds) in
        record { more = o.less; room = o.room; holds = subst (λ n. P n (passed p c) rest) (sym size) after }

unrefused : (site : Site) (played : Played) → fault_by site played ≡ [] → Unrefused played
unrefused site Played.End e = tt
unrefused site (Played.Transpose m next) e = tt
unrefused site (Played.Window t next) e = tt
unrefused site (Played.EndLoop next) e = tt
unrefused site (Played.BeginLoop counter next) e = tt
unrefused site (Played.Length b frames next) e = tt
unrefused site (Played.Timbre x c next) e = tt
unrefused site (Played.Note b next) e = tt
unrefused site (Played.Refused refusal at address) e = cons_none e

module _ (source : Source) (site : Site) where
  command_clean : (ss : List Setting) (sized : Bool) (at : ℕ) {s : Setting} → command_faults source site ss sized at ≡ [] → In s ss →
      Unrefused (played_at source s (length_by sized) at)
  unfolding command_faults
  command_clean (s ∷ ss) sized at e here =
      let played = played_at source s (length_by sized) at in
      unrefused site played (none_both (fault_by site played) _ e).0
  command_clean (s ∷ ss) sized at e (there m) =
      command_clean ss sized at (none_both (fault_by site (played_at source s (length_by sized) at)) _ e).1 m
  command_clean [] sized at {s = s} e x'' = elim x'' [ ]

  module _ (ss : List Setting) where
    abbrev Clean : ℕ → Progress → Straight → Type 0
    Clean at p s = read_faults source site ss p at s.commands s.finish ≡ []

    clean_here : (p : Progress) (at : ℕ) (cs : List Placed) (f : Finish) → read_faults source site ss p at cs f ≡ [] →
        command_faults source site ss p.sized at ≡ []
    unfolding read_faults
    clean_here p at [] f e = (none_both (command_faults source site ss p.sized at) _ e).0
    clean_here p at (c ∷ cs) f e = (none_both (command_faults source site ss p.sized at) _ e).0

    clean_after : (at : ℕ) (p : Progress) (c : Command) (rest : Straight) → Clean at p (before at c rest) →
        Clean (at + length (bytes_of c)) (passed p c) rest
    unfolding read_faults
    clean_after at p c rest e = (none_both (command_faults source site ss p.sized at) _ e).1

    clean_finish : (at : ℕ) (p : Progress) (f : Finish) → Clean at p (record { commands = []; finish = f }) → finish_faults site p.noted f ≡ []
    unfolding read_faults
    clean_finish at p f e = (none_both (command_faults source site ss p.sized at) _ e).1

module _ (bank8 banka : List ℕ) (places : Places) (kind : Kind) (start : ℕ) where
  abbrev bytes : List ℕ
  bytes = block_of bank8 banka start

  abbrev source : Source
  source = block_source bank8 banka places kind start

  module _ (site : Site) (ss : List Setting) (sized : Bool) (none : block_faults bank8 banka places kind start site ss sized ≡ []) where
    clean_from : {at : ℕ} {p : Progress} → Visits kind bytes (entering sized) at p → Reached kind bytes (Clean source site ss) at p
    unfolding block_faults
    clean_from v = reached kind bytes (Clean source site ss) none (clean_after source site ss) v

    pub clean_plays : {at : ℕ} {p : Progress} {s : Setting} → Visits kind bytes (entering sized) at p → In s ss →
        Unrefused (played_at source s (length_by p.sized) at)
    clean_plays {at} {p} v m = command_clean source site ss p.sized at (clean_here source site ss p at _ _ (clean_from v).holds) m

    pub clean_ends : {at next : ℕ} {p : Progress} → Visits kind bytes (entering sized) at p →
        command_at kind bytes at ≡ Ok (Command.End, next) → p.noted ≡ true
    clean_ends {at} {next} {p} v e =
        let r = clean_from v in
        let o = onward kind bytes r.more at r.room e in
        from p.noted (clean_finish source site ss at p (Ok at) (subst (Clean source site ss at p) o.is r.holds))
      where
        from : (noted : Bool) → finish_faults site noted (Ok at) ≡ [] → noted ≡ true
        from true f = refl
        from false f = absurd (cons_none f)

module _ (kind : Kind) (bytes : List ℕ) (at : ℕ) where
  -- of a command that a rule finds: the rule, and its note or timbre
  abbrev Means : Result Rule Refusal → Decoded → Type 0
  Means rule (Ok (Command.End, next)) = Unit {0}
  Means rule (Ok (Command.Transpose m, next)) = Unit {0}
  Means rule (Ok (Command.Window t, next)) = Unit {0}
  Means rule (Ok (Command.EndLoop, next)) = Unit {0}
  Means rule (Ok (Command.Length l b, next)) = (rule ≡ Ok (Rule.Length l)) × (is_note kind b ≡ true)
  Means rule (Ok (Command.BeginLoop n, next)) = Unit {0}
  Means rule (Ok (Command.Timbre x c, next)) = (rule ≡ Ok Rule.Timbre) × (at + 1 < length bytes) × (get_or bytes (at + 1) 0 ≡ x)
  Means rule (Ok (Command.Note b, next)) = is_note kind b ≡ true
  Means rule (Err (refusal, offset)) = Unit {0}

  means : (rule : Result Rule Refusal) → Sorted kind (get_or bytes at 0) rule → Means rule (command_by kind bytes at rule)
  unfolding note_after timbre_after
  means (Ok Rule.End) s = tt
  means (Ok Rule.Transpose) s = by-test (Means (Ok Rule.Transpose)) (leb (length bytes) (at + 1)) (λ _. tt) λ _. tt
  means (Ok Rule.Window) s = by-test (Means (Ok Rule.Window)) (leb (length bytes) (at + 1)) (λ _. tt) λ _. tt
  means (Ok Rule.EndLoop) s = tt
  means (Ok (Rule.Length l)) s =
      by-test (Means (Ok (Rule.Length l))) (leb (length bytes) (at + 1)) (λ _. tt) λ _.
      by-test (Means (Ok (Rule.Length l))) (is_note kind (get_or bytes (at + 1) 0)) (λ t. (refl, t)) λ _. tt
  means (Ok (Rule.BeginLoop n)) s = tt
  means (Ok Rule.Timbre) s =
      by-test (Means (Ok Rule.Timbre)) (leb (length bytes) (at + 1)) (λ _. tt) λ n.
      by-test (Means (Ok Rule.Timbre)) (leb (length bytes) (at + 1 + 1)) (λ _. tt) λ _. (refl, leb-false _ _ n, refl)
  means (Ok Rule.Note) s = s
  means (Err refusal) s = tt

  found_means : {c : Command} {next : ℕ} → command_at kind bytes at ≡ Ok (c, next) →
      Means (rule_of kind (get_or bytes at 0)) (Ok (c, next))
  found_means {c} e =
      let (size, near, small) = stands kind bytes at e in
      let inside : at < length bytes = omega (arith, bytes_some c) in
      subst (Means (rule_of kind (get_or bytes at 0))) (sym (command_is kind bytes at inside) ∙ e)
      (means (rule_of kind (get_or bytes at 0)) (sorted kind (get_or bytes at 0)))

  pub note_is : {b next : ℕ} → command_at kind bytes at ≡ Ok (Command.Note b, next) → is_note kind b ≡ true
  note_is e = found_means e

  pub length_note : {l b next : ℕ} → command_at kind bytes at ≡ Ok (Command.Length l b, next) → is_note kind b ≡ true
  length_note e = (found_means e).1

-- a command that is not refused: its early tests passed, and so did those of what it does
module _ (source : Source) (s : Setting) (f : Frames) (at : ℕ) where
  abbrev early : Result (Unit {0}) Refusal
  early = early_fault source.bank source.places source.kind source.bytes s.window at (rule_of source.kind (get_or source.bytes at 0))

  abbrev decoded : Decoded → Played
  decoded = played_by source.start (played_of source.bank source.places source.kind source.start s f at)

  record Accepted : Type 0 where
    inside : at < length source.bytes
    none_early : early ≡ Ok tt
    played : Unrefused (decoded (command_at source.kind source.bytes at))

  accepted : Unrefused (played_at source s f at) → Accepted
  unfolding played_at played_rule
  accepted =
      by-test (λ x. Unrefused x → Accepted) (leb (length source.bytes) at) (λ _ x. absurd x) λ n. by (leb-false _ _ n) early refl
    where
      by : at < length source.bytes → (x : Result (Unit {0}) Refusal) → early ≡ x →
          Unrefused (unless_refused source.start at x (decoded (command_by source.kind source.bytes at (rule_of source.kind (get_or source.bytes at 0))))) → Accepted
      by inside (Ok none) e u = record {
        inside = inside;
        none_early = e;
        played = rw (command_is source.kind source.bytes at inside) u;
      }
      by inside (Err refusal) e u = absurd u

  accepts : Accepted → Unrefused (played_at source s f at)
  unfolding played_at played_rule
  accepts a =
      rw (lt-leb (length source.bytes) at a.inside, a.none_early, ← (command_is source.kind source.bytes at a.inside))
      a.played

longer_note : (start at next : ℕ) (f g : Frames) (x : Option ℕ) → Unrefused (note_played start at f next x) → 0 < g.count →
    Unrefused (note_played start at g next x)
longer_note start at next f g (Some b) u h = rw (ne_eqb g.count 0 (omega arith)) tt
longer_note start at next f g None u h = u

longer_by : (source : Source) (s : Setting) (f g : Frames) (at : ℕ) (d : Decoded) → Unrefused (decoded source s f at d) → 0 < g.count →
    Unrefused (decoded source s g at d)
longer_by source s f g at (Ok (Command.End, next)) u h = u
longer_by source s f g at (Ok (Command.Transpose m, next)) u h = u
longer_by source s f g at (Ok (Command.Window t, next)) u h = u
longer_by source s f g at (Ok (Command.EndLoop, next)) u h = u
longer_by source s f g at (Ok (Command.Length l b, next)) u h = u
longer_by source s f g at (Ok (Command.BeginLoop n, next)) u h = u
longer_by source s f g at (Ok (Command.Timbre x c, next)) u h = u
longer_by source s f g at (Ok (Command.Note b, next)) u h =
    longer_note source.start at next f g (sounding_of source.kind b s.transpose) u h
longer_by source s f g at (Err (refusal, offset)) u h = u

-- 14 asks only that there is a length
pub longer : (source : Source) (s : Setting) (f g : Frames) (at : ℕ) → Unrefused (played_at source s f at) → 0 < g.count →
    Unrefused (played_at source s g at)
longer source s f g at u h =
    let a = accepted source s f at u in
    accepts source s g at
    (record {
      inside = a.inside;
      none_early = a.none_early;
      played = longer_by source s f g at (command_at source.kind source.bytes at) a.played h;
    })

timbre_is : (bank : List ℕ) (table : ℕ) (kind : Kind) (x : ℕ) → timbre_fault bank table kind x ≡ Ok tt → timbre_fits kind x ≡ true
unfolding envelope_fault
timbre_is bank table Square x e = (test-passed (leb (x % 32) last_envelope) EnvelopeTooHigh _ e).0
timbre_is bank table Triangle x e = refl
timbre_is bank table Noise x e = refl

length_is : (bank : List ℕ) (table window l : ℕ) → length_fault bank table window l ≡ Ok tt → 0 < length_at bank table window l
unfolding length_fault
length_is bank table window l =
    by-test Known (leb lengths_size (window + l)) (λ _ e. absurd (refused_given _ _ e)) λ _.
    by-test Known (eqb (length_at bank table window l) 0) (λ _ e. absurd (refused_given _ _ e)) λ t _.
    let above : length_at bank table window l ≡ 0 → ⊥ = eqb-false _ _ t in omega arith
  where
    Known : Result (Unit {0}) Refusal → Type 0
    Known x = x ≡ Ok tt → 0 < length_at bank table window l

module _ (source : Source) (s : Setting) (f : Frames) (at : ℕ) (u : Unrefused (played_at source s f at)) where
  pub timbre_fits_lem : {x c next : ℕ} → command_at source.kind source.bytes at ≡ Ok (Command.Timbre x c, next) →
      timbre_fits source.kind x ≡ true
  timbre_fits_lem {x} e =
      let (rule, inside, is) = found_means source.kind source.bytes at e in
      let none = (accepted source s f at u).none_early in
      timbre_is source.bank source.places.envelope_addresses source.kind x
      (rw (rule, lt-leb (length source.bytes) (at + 1) inside, is) at none)

  pub length_some : {l b next : ℕ} → command_at source.kind source.bytes at ≡ Ok (Command.Length l b, next) →
      0 < length_at source.bank source.places.note_lengths s.window l
  length_some {l} e =
      let none = (accepted source s f at u).none_early in
      length_is source.bank source.places.note_lengths s.window l (rw (found_means source.kind source.bytes at e).0 at none)

module _ (kind : Kind) (bytes : List ℕ) (first : Progress) (set : Command → List ℕ) (x : ℕ) where
  set_in : {at next : ℕ} {p : Progress} {c : Command} → Visits kind bytes first at p → command_at kind bytes at ≡ Ok (c, next) →
      is_end c ≡ false → In x (set c) → In x (in_commands set (straight kind bytes).commands)
  set_in {at} {next} {p} {c} v e t m =
      let r = reached kind bytes Later (λ h. h) (λ at p c rest on h. on (in_right (set c) h)) v in
      let o = onward kind bytes r.more at r.room e in
      let is : straight_from kind bytes r.more at ≡ before at c (straight_from kind bytes o.less next) = o.is ∙ rw t in
      subst (Later at p) is r.holds (in_left _ m)
    where
      Later : ℕ → Progress → Straight → Type 0
      Later at p s = In x (in_commands set s.commands) → In x (in_commands set (straight kind bytes).commands)

module _ (kind : Kind) (bytes : List ℕ) {first : Progress} {at next : ℕ} {p : Progress} (v : Visits kind bytes first at p) where
  pub transpose_in : {m : ℕ} → command_at kind bytes at ≡ Ok (Command.Transpose m, next) → is_odd m ≡ false →
      In m (in_commands transpose_of (straight kind bytes).commands)
  transpose_in {m} e even = set_in kind bytes first transpose_of m v e refl (rw even here)

  pub window_in : {t : ℕ} → command_at kind bytes at ≡ Ok (Command.Window t, next) →
      In t (in_commands window_of (straight kind bytes).commands)
  window_in {t} e = set_in kind bytes first window_of t v e refl here

in_map : {A B : Type 0} (f : A → B) {x : A} {xs : List A} → In x xs → In (f x) (map f xs)
in_map f here = here
in_map f (there m) = there (in_map f m)

pub setting_in : (ms : List ℕ) {ts : List ℕ} {m t : ℕ} → In m ms → In t ts → In (record { transpose = m; window = t }) (settings_by ms ts)
setting_in (m ∷ ms) {ts} here j = in_left (settings_by ms ts) (in_map (λ t. record { transpose = m; window = t }) j)
setting_in (n ∷ ms) {ts} (there i) j = in_right (map (λ t. record { transpose = n; window = t }) ts) (setting_in ms i j)
setting_in [] {ts = ts} {m = m} {t = t} x'' j = elim x'' [ ]

single_even : (n m : ℕ) → is_odd n ≡ false → In m (n ∷ []) → is_odd m ≡ false
single_even n _ t here = t
single_even n m t (there i) = none_in i

command_even : (c : Command) (m : ℕ) → In m (transpose_of c) → is_odd m ≡ false
command_even Command.End m = λ i. none_in i
command_even (Command.Transpose n) m =
    by-test (λ (ms : List ℕ). In m ms → is_odd m ≡ false) (is_odd n) (λ _ i. none_in i) λ t i. single_even n m t i
command_even (Command.Window t) m = λ i. none_in i
command_even Command.EndLoop m = λ i. none_in i
command_even (Command.Length l b) m = λ i. none_in i
command_even (Command.BeginLoop n) m = λ i. none_in i
command_even (Command.Timbre x c) m = λ i. none_in i
command_even (Command.Note b) m = λ i. none_in i

pub all_even : (cs : List Placed) {m : ℕ} → In m (in_commands transpose_of cs) → is_odd m ≡ false
all_even [] i = none_in i
all_even (c ∷ cs) {m} i = in_one (transpose_of c.command) (command_even c.command m) (λ j. all_even cs j) i

abbrev Sounds : Kind → Option ℕ → Type 0
Sounds kind (Some sound) = sounds_in kind sound ≡ true
Sounds kind None = Unit {0}

-- a key and an amount are even, and so is the key that sounds
sum_even : (b : ℕ) (z : ℤ) → b % 2 ≡ 0 → nat_abs z % 2 ≡ 0 → nat_abs (pos b +ℤ z) % 2 ≡ 0
sum_even b (pos n) h e = omega arith
sum_even b (negsuc n) h e = from (ltb b (suc n)) refl
  where
    from : (t : Bool) → ltb b (suc n) ≡ t → nat_abs (cond t (negsuc (suc n - suc b)) (pos (b - suc n))) % 2 ≡ 0
    from true t = let less : b < suc n = ltb-true _ _ t in omega arith
    from false t = let least : suc n ≤ b = ltb-false _ _ t in omega arith

key_sounds : (n : ℕ) → n % 2 ≡ 0 → n ≤ last_key → Sounds Square (Some n)
unfolding is_key
key_sounds n e h = rw (le-leb n last_key h, e)

table_sounds : (z : ℤ) → nat_abs z % 2 ≡ 0 → Sounds Square (in_table z)
table_sounds (pos n) e = by-test (Sounds Square) (leb n last_key) (λ t. key_sounds n e (leb-true _ _ t)) λ _. tt
table_sounds (negsuc n) e = tt

transposed_sounds : (b m : ℕ) → is_key b ≡ true → is_odd m ≡ false → Sounds Square (transposed_of b m)
unfolding transposed_of is_key is_odd
transposed_sounds b m k o =
    by-test (Sounds Square) (eqb b rest_key) (λ _. refl) λ _.
    let key : b % 2 ≡ 0 = eqb-true _ _ k in
    let not-odd : nat_abs (amount_of m) % 2 ≡ 1 → ⊥ = eqb-false _ _ o in
    table_sounds (pos b +ℤ amount_of m) (sum_even b (amount_of m) key (omega arith))

pub sounds_fit : (kind : Kind) (b m sound : ℕ) → is_note kind b ≡ true → is_odd m ≡ false → sounding_of kind b m ≡ Some sound →
    sounds_in kind sound ≡ true
sounds_fit Square b m sound k o e = subst (Sounds Square) e (transposed_sounds b m k o)
sounds_fit Triangle b m sound k o e = subst (Sounds Square) e (transposed_sounds b m k o)
sounds_fit Noise b m sound k o e = subst (Sounds Noise) e k
