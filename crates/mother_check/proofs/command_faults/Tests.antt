-- The tries of a command under the extremes, as the code tests it: each test once.
use Prim.Native.Nat.{ℕ, ◌+◌, ◌≤◌, ◌<◌}
use mathlib.Core.Bool.{Bool, true, false}
use mathlib.Core.List.{List}
use mathlib.Core.Path.{◌≡◌, refl, sym, ap, ◌∙◌}
use native.Mathlib.Omega.{arith}
use mir.Syntax.{w16}
use mir.Val.{Fits}
use borrow.Author.Tests.{le-leb, lt-leb, leb-false}
use lib.Dec.{leb}
use lib.ListN.{length, get_or}
use Rattle.std.specs.Prelude.{Option, Some, None, Result, Ok, Err}
use Rattle.engine_base.specs.Pick.{pick}
use Rattle.engine_base.specs.declared.refusal.Refusal.{Refusal}
use Rattle.engine_base.specs.declared.refusal.Refusal.TheVariants.{InvalidNote, NoLength, PastData, OddTranspose}
use Rattle.engine_base.specs.declared.time.Frames.{Frames}
use Rattle.mother_format.specs.Bank.{block_limit, banks, block_of}
use Rattle.mother_format.specs.Transpose.{is_odd}
use Rattle.mother_format.specs.Command.{rule_of, command_by, command_at}
use Rattle.mother_format.specs.Channel.{Source, block_source, early_fault, refused_at, unless_refused, sounding_of, length_played, note_played, played_of, played_by, played_rule, played_at}
use Rattle.mother_format.proofs.bank.Joined.{block_within}
use Rattle.mother_format.proofs.command.Laws.{stands, command_is}
use Rattle.mother_format.specs.declared.command.Kind.{Kind}
use Rattle.mother_format.specs.declared.bank.Places.{Places}
use Rattle.mother_format.specs.declared.command.Rule.{Rule}
use Rattle.mother_format.specs.declared.command.Command.{Command}
use Rattle.mother_format.specs.Command.{Decoded}
use Rattle.mother_format.specs.declared.channel.Played.{Played}
use Rattle.mother_check.specs.Faults.{fault_by, first_of}
use Rattle.mother_check.specs.First.{then_first, tried_at, window_for, first_tried, refused_first, is_outside, is_invalid, command_first, decoded_first, early_at, early_first, tested_first, unless_found}
use Rattle.mother_check.specs.declared.settings.Extremes.{Extremes}
use Rattle.mother_check.specs.declared.faults.Site.{Site}
use Rattle.mother_check.specs.declared.faults.Fault.{Fault}

module _ (source : Source) (site : Site) (e : Extremes) (sized : Bool) (at : ℕ) where
  abbrev window : ℕ
  window = window_for source.bytes e.windows at

  -- under a transpose and a length
  abbrev plays : ℕ → ℕ → Decoded → Played
  plays m n =
      played_by source.start
      (played_of source.bank source.places source.kind source.start (record { transpose = m; window = window }) (record { count = n }) at)

  abbrev found : Played → Option Fault
  found played = first_of (fault_by site played)

  abbrev three : (ℕ → ℕ → Played) → Option Fault
  three play =
      then_first (found (play e.low 1))
      (then_first (found (play e.high 1)) (pick sized None (found (play e.low 0))))

  nothing : (b : Bool) → pick {A = Option Fault} b None None ≡ None
  nothing true = refl
  nothing false = refl

  length_tried : (frames : Frames) (next : ℕ) (low high : Option ℕ) →
      then_first (found (length_played source.start (at + 1) frames next low))
      (then_first (found (length_played source.start (at + 1) frames next high))
      (pick sized None (found (length_played source.start (at + 1) frames next low))))
      ≡ pick (pick (is_outside low) true (is_outside high)) (refused_first site source.start InvalidNote (at + 1)) None
  unfolding first_of
  length_tried frames next None high = refl
  length_tried frames next (Some b) None = refl
  length_tried frames next (Some b) (Some d) = nothing sized

  note_tried : (next : ℕ) (low high : Option ℕ) →
      then_first (found (note_played source.start at (record { count = 1 }) next low))
      (then_first (found (note_played source.start at (record { count = 1 }) next high))
      (pick sized None (found (note_played source.start at (record { count = 0 }) next low))))
      ≡ pick (pick (is_outside low) true (is_outside high)) (refused_first site source.start InvalidNote at)
      (pick sized None (refused_first site source.start NoLength at))
  unfolding first_of
  note_tried next None high = refl
  note_tried next (Some b) None = refl
  note_tried next (Some b) (Some d) = refl

  command_tried : (c : Command) (next : ℕ) →
      three (λ m n. plays m n (Ok (c, next))) ≡ command_first source.kind source.start site e sized at c
  unfolding first_of is_invalid
  command_tried Command.End next = nothing sized
  command_tried (Command.Transpose m) next = by (is_odd m)
    where
      by : (t : Bool) → three (λ _ n. pick t (refused_at source.start OddTranspose at) (Played.Transpose m next)) ≡ pick t (refused_first site source.start OddTranspose at) None
      by true = refl
      by false = nothing sized
  command_tried (Command.Window t) next = nothing sized
  command_tried Command.EndLoop next = nothing sized
  command_tried (Command.Length l b) next = length_tried _ next (sounding_of source.kind b e.low) (sounding_of source.kind b e.high)
  command_tried (Command.BeginLoop n) next = nothing sized
  command_tried (Command.Timbre x c) next = nothing sized
  command_tried (Command.Note b) next = note_tried next (sounding_of source.kind b e.low) (sounding_of source.kind b e.high)

  decoded_tried : (d : Decoded) → three (λ m n. plays m n d) ≡ decoded_first source.kind source.start site e sized at d
  unfolding first_of
  decoded_tried (Ok (c, next)) = command_tried c next
  decoded_tried (Err (refusal, offset)) = refl

  pub tried_tests : first_tried source site e sized at ≡ tested_first source site e sized at
  unfolding first_tried tried_at played_at played_rule tested_first first_of early_at
  tried_tests = by (leb (length source.bytes) at) refl
    where
      early : Result (Unit {0}) Refusal
      early = early_at source e.windows at

      late : Decoded
      late = command_by source.kind source.bytes at (rule_of source.kind (get_or source.bytes at 0))

      inside : (x : Result (Unit {0}) Refusal) → three (λ m n. unless_refused source.start at x (plays m n late))
          ≡ early_first site source.start at x (decoded_first source.kind source.start site e sized at late)
      inside (Ok none) = decoded_tried late
      inside (Err refusal) = refl

      by : (t : Bool) → leb (length source.bytes) at ≡ t →
          three (λ m n. pick t (refused_at source.start PastData at) (unless_refused source.start at early (plays m n late)))
          ≡ pick t (refused_first site source.start PastData at)
          (early_first site source.start at early (decoded_first source.kind source.start site e sized at (command_at source.kind source.bytes at)))
      by true h = refl
      by false h = rw (command_is source.kind source.bytes at (leb-false _ _ h)) (inside early)

  -- r is what the code answers
  module _ (r : Result (Unit {0}) Fault) where
    pub past_tested : length source.bytes ≤ at → r ≡ unless_found (refused_first site source.start PastData at) → r ≡ unless_found (first_tried source site e sized at)
    unfolding tested_first
    past_tested h q =
        let is : first_tried source site e sized at ≡ refused_first site source.start PastData at = tried_tests ∙ rw (le-leb _ _ h) in
        q ∙ ap unless_found (sym is)

    module _ (h : at < length source.bytes) (early : Result (Unit {0}) Refusal) (g : early ≡ early_at source e.windows at) where
      pub early_tested : (refusal : Refusal) → early ≡ Err refusal → r ≡ unless_found (refused_first site source.start refusal at) → r ≡ unless_found (first_tried source site e sized at)
      unfolding tested_first
      early_tested refusal z q =
          let is : first_tried source site e sized at ≡ refused_first site source.start refusal at = tried_tests ∙ rw (lt-leb _ _ h, ← g, z) in
          q ∙ ap unless_found (sym is)

      pub command_tested : early ≡ Ok tt → (d x : Decoded) → d ≡ command_at source.kind source.bytes at → d ≡ x →
          r ≡ unless_found (decoded_first source.kind source.start site e sized at x) → r ≡ unless_found (first_tried source site e sized at)
      unfolding tested_first
      command_tested z d x k i q = q ∙ ap unless_found (sym (tried_tests ∙ rw (lt-leb _ _ h, ← g, z, ← k, i)))

-- what the code hands on; d is what `command_at` answers
module _ (bank8 banka : List ℕ) (start : ℕ) (block : List ℕ) (b : block ≡ block_of bank8 banka start) (at : ℕ) (h : at < length block) where
  block_small : length block ≤ block_limit
  block_small = rw b (block_within bank8 banka start)

  pub offset_small : at < block_limit
  offset_small = omega (arith, block_small)

  pub refusal_fits : (kind : Kind) (d : Decoded) → d ≡ command_at kind block at →
      (refusal : Refusal) (offset : ℕ) → d ≡ Err (refusal, offset) → Fits w16 offset
  refusal_fits kind d k number offset i =
      let ((low, high, near), wants) = stands kind block at (sym k ∙ i) in
      record { fits = omega (arith, block_small) }

-- what the code asks of a command's rule; k is what `rule_of` answers
module _ (bank8 banka : List ℕ) (places : Places) (kind : Kind) (start : ℕ) (windows : List ℕ) (at window : ℕ) (block : List ℕ) (b : block ≡ block_of bank8 banka start)
    (w : window ≡ window_for block windows at) (rule : Result Rule Refusal) (k : rule ≡ rule_of kind (get_or block at 0)) where
  pub early_is : early_fault (banks bank8 banka) places kind block window at rule ≡ early_at (block_source bank8 banka places kind start) windows at
  unfolding early_at
  early_is = rw (w, k, b)
