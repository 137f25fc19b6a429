-- What is played at an offset is refused, or it is what the command does that straight reading finds there.
use Prim.Native.Nat.{ℕ, ◌+◌, ◌%◌, ◌≤◌, ◌<◌, max}
use mathlib.Core.Bool.{false}
use mathlib.Core.List.{List}
use mathlib.Core.Path.{◌≡◌, refl}
use native.Mathlib.Omega.{arith}
use borrow.Author.Tests.{leb-false, eqb-false}
use lib.Dec.{leb, eqb}
use lib.ListN.{length, get_or}
use Rattle.engine_base.specs.Envelope.{envelope_ends}
use Rattle.engine_base.specs.Loops.{counter_of}
use Rattle.std.specs.Prelude.{Option, Some, None, Result, Ok, Err}
use Rattle.engine_base.specs.Refusal.{number_of}
use Rattle.engine_base.specs.declared.refusal.Refusal.{Refusal}
use Rattle.engine_base.specs.declared.refusal.Refusal.TheVariants.{EnvelopeTooHigh, NoEnvelopeEnd, InvalidCommand, InvalidNote, NoLength, PastData, OddTranspose}
use Rattle.engine_base.specs.declared.time.Frames.{Frames}
use Rattle.mother_format.specs.Bank.{lengths_size}
use Rattle.mother_format.specs.Envelope.{last_envelope, envelope_fault}
use Rattle.mother_format.specs.Transpose.{is_odd}
use Rattle.mother_format.specs.Command.{Decoded, rule_of, command_by, command_at}
use Rattle.mother_format.specs.Channel.{Source, refused_at, length_at, length_fault, timbre_fault, early_fault, sounding_of, length_played, note_played, played_of, played_by, unless_refused, played_rule, played_at}
use Rattle.engine_base.proofs.Picks.{by-test}
use Rattle.mother_format.proofs.command.Laws.{stands, command_is}
use Rattle.mother_format.specs.declared.bank.Places.{Places}
use Rattle.mother_format.specs.declared.command.Kind.{Kind}
use Rattle.mother_format.specs.declared.command.Kind.TheVariants.{Square, Triangle, Noise}
use Rattle.mother_format.specs.declared.command.Rule.{Rule}
use Rattle.mother_format.specs.declared.command.Command.{Command}
use Rattle.mother_format.specs.declared.channel.Setting.{Setting}
use Rattle.mother_format.specs.declared.channel.Played.{Played}

-- 6, 7, 10 to 15 and 19
pub data Refusing : Refusal → Type 0 where
  of_envelope : {refusal : Refusal} → number_of EnvelopeTooHigh ≤ number_of refusal → number_of refusal ≤ number_of NoEnvelopeEnd → Refusing refusal
  of_data : {refusal : Refusal} → number_of InvalidCommand ≤ number_of refusal → number_of refusal ≤ number_of PastData → Refusing refusal
  of_transpose : Refusing OddTranspose

abbrev Early : Result (Unit {0}) Refusal → Type 0
Early (Ok passed) = Unit {0}
Early (Err refusal) = Refusing refusal

length_early : (bank : List ℕ) (table window l : ℕ) → Early (length_fault bank table window l)
unfolding length_fault
length_early bank table window l =
    by-test Early (leb lengths_size (window + l)) (λ _. of_data (omega arith) (omega arith)) λ _.
    by-test Early (eqb (length_at bank table window l) 0) (λ _. of_data (omega arith) (omega arith)) λ _. tt

timbre_early : (bank : List ℕ) (table : ℕ) (kind : Kind) (x : ℕ) → Early (timbre_fault bank table kind x)
unfolding envelope_fault
timbre_early bank table Square x =
    by-test Early (leb (x % 32) last_envelope)
    (λ _. by-test Early (envelope_ends bank table (x % 32)) (λ _. tt) (λ _. of_envelope (omega arith) (omega arith))) λ _.
    of_envelope (omega arith) (omega arith)
timbre_early bank table Triangle x = tt
timbre_early bank table Noise x = tt

early : (bank : List ℕ) (places : Places) (kind : Kind) (bytes : List ℕ) (window at : ℕ) (rule : Result Rule Refusal) →
    Early (early_fault bank places kind bytes window at rule)
early bank places kind bytes window at (Ok Rule.End) = tt
early bank places kind bytes window at (Ok Rule.Transpose) = tt
early bank places kind bytes window at (Ok Rule.Window) = tt
early bank places kind bytes window at (Ok Rule.EndLoop) = tt
early bank places kind bytes window at (Ok (Rule.Length l)) = length_early bank places.note_lengths window l
early bank places kind bytes window at (Ok (Rule.BeginLoop n)) = tt
early bank places kind bytes window at (Ok Rule.Timbre) =
    by-test Early (leb (length bytes) (at + 1)) (λ _. tt)
    (λ _. timbre_early bank places.envelope_addresses kind (get_or bytes (at + 1) 0))
early bank places kind bytes window at (Ok Rule.Note) = tt
early bank places kind bytes window at (Err refusal) = tt

module _ (source : Source) (setting : Setting) (frames : Frames) (at : ℕ) where
  abbrev Finds : Command → ℕ → Type 0
  Finds c next = command_at source.kind source.bytes at ≡ Ok (c, next)

  abbrev Sounds : ℕ → ℕ → Type 0
  Sounds b sound = sounding_of source.kind b setting.transpose ≡ Some sound

  pub data Plays : Played → Type 0 where
    ends_block : (next : ℕ) → Finds Command.End next → Plays Played.End
    transposes : (m next : ℕ) → Finds (Command.Transpose m) next → is_odd m ≡ false → Plays (Played.Transpose m next)
    windows : (t next : ℕ) → Finds (Command.Window t) next → Plays (Played.Window t next)
    ends_loop : (next : ℕ) → Finds Command.EndLoop next → Plays (Played.EndLoop next)
    begins_loop : (n counter next : ℕ) → Finds (Command.BeginLoop n) next → counter ≡ counter_of n → Plays (Played.BeginLoop counter next)
    sets_length : (l b sound next : ℕ) (long : Frames) → Finds (Command.Length l b) next → Sounds b sound →
        long.count ≡ length_at source.bank source.places.note_lengths setting.window l → Plays (Played.Length sound long next)
    sets_timbre : (x c next : ℕ) → Finds (Command.Timbre x c) next → Plays (Played.Timbre x c next)
    notes : (b sound next : ℕ) → Finds (Command.Note b) next → Sounds b sound → 0 < frames.count → Plays (Played.Note sound next)
    refuses : (refusal : Refusal) (offset : ℕ) → Refusing refusal → offset ≤ max at (length source.bytes) → Plays (refused_at source.start refusal offset)

  by_command : (c : Command) (next : ℕ) → Finds c next → Plays (played_of source.bank source.places source.kind source.start setting frames at c next)
  by_command Command.End next e = ends_block next e
  by_command (Command.Transpose m) next e =
      by-test Plays (is_odd m) (λ _. refuses OddTranspose at of_transpose (omega arith)) λ t. transposes m next e t
  by_command (Command.Window t) next e = windows t next e
  by_command Command.EndLoop next e = ends_loop next e
  by_command (Command.Length l b) next e = from (sounding_of source.kind b setting.transpose) refl
    where
      from : (s : Option ℕ) → sounding_of source.kind b setting.transpose ≡ s →
          Plays (length_played source.start (at + 1) (record { count = length_at source.bank source.places.note_lengths setting.window l }) next s)
      from (Some sound) f = sets_length l b sound next _ e f refl
      from None f =
          let (size, near, small) = stands source.kind source.bytes at e in
          refuses InvalidNote (at + 1) (of_data (omega arith) (omega arith)) (omega arith)
  by_command (Command.BeginLoop n) next e = begins_loop n (counter_of n) next e refl
  by_command (Command.Timbre x c) next e = sets_timbre x c next e
  by_command (Command.Note b) next e = from (sounding_of source.kind b setting.transpose) refl
    where
      from : (s : Option ℕ) → sounding_of source.kind b setting.transpose ≡ s → Plays (note_played source.start at frames next s)
      from (Some sound) f =
          by-test Plays (eqb frames.count 0) (λ _. refuses NoLength at (of_data (omega arith) (omega arith)) (omega arith)) λ t.
          let above : frames.count ≡ 0 → ⊥ = eqb-false _ _ t in
          notes b sound next e f (omega arith)
      from None f = refuses InvalidNote at (of_data (omega arith) (omega arith)) (omega arith)

  pub plays : Plays (played_at source setting frames at)
  unfolding played_at played_rule
  plays =
      by-test Plays (leb (length source.bytes) at) (λ _. refuses PastData at (of_data (omega arith) (omega arith)) (omega arith)) λ n.
      unless (early_fault source.bank source.places source.kind source.bytes setting.window at rule)
      (early source.bank source.places source.kind source.bytes setting.window at rule)
      (by (command_by source.kind source.bytes at rule) (command_is source.kind source.bytes at (leb-false _ _ n)))
    where
      unless : {played : Played} (fault : Result (Unit {0}) Refusal) → Early fault → Plays played → Plays (unless_refused source.start at fault played)
      unless (Ok passed) x p = p
      unless (Err refusal) x p = refuses refusal at x (omega arith)

      rule : Result Rule Refusal
      rule = rule_of source.kind (get_or source.bytes at 0)

      by : (d : Decoded) → command_at source.kind source.bytes at ≡ d →
          Plays (played_by source.start (played_of source.bank source.places source.kind source.start setting frames at) d)
      by (Ok (c, next)) e = by_command c next e
      by (Err (refusal, offset)) e =
          let ((low, high, near), wants) = stands source.kind source.bytes at e in
          refuses refusal offset (of_data low high) near
