-- A block read straight, which runs no loop: its commands up to where reading stops. 6, 7, 12, 13, 14, 19 and a key that is out
-- of range under some transpose don't stop it.
use Rattle.std.specs.Prelude.{ℕ, zero, suc, ◌+◌, Bool, true, false, List, [], ◌∷◌, length, Result, Ok, Err}
use Rattle.engine_base.specs.Pick.{pick}
use Rattle.engine_base.specs.Told.{Told}
use Rattle.engine_base.specs.Refusal.{number_of}
use Rattle.engine_base.specs.declared.refusal.Refusal.{Refusal}
use Rattle.engine_base.specs.declared.refusal.Refusal.TheVariants.{PastData}
use Rattle.mother_format.specs.Command.{Decoded, command_at}
use Rattle.mother_format.specs.declared.command.Kind.{Kind}
use Rattle.mother_format.specs.declared.command.Command.{Command}
use Rattle.mother_format.specs.declared.straight.Reading.{Reading}

-- the offset of the 00, or 10, 11 or 15 and the offset of the byte
abbrev pub Finish : Type 0
Finish = Result ℕ (Refusal × ℕ)

-- a command and its offset
pub record Placed : Type 0 where
  pub at : ℕ
  pub command : Command

-- the commands before the stop, and the stop: at 00, at 10, at an 11 that no transpose could mend, or at 15
pub record Straight : Type 0 where
  pub commands : List Placed
  pub finish : Finish

abbrev pub is_end : Command → Bool
is_end Command.End = true
is_end (Command.Transpose m) = false
is_end (Command.Window t) = false
is_end Command.EndLoop = false
is_end (Command.Length l b) = false
is_end (Command.BeginLoop n) = false
is_end (Command.Timbre x c) = false
is_end (Command.Note b) = false

abbrev pub before : ℕ → Command → Straight → Straight
before at c rest = record { commands = record { at = at; command = c } ∷ rest.commands; finish = rest.finish }

abbrev pub straight_by : ℕ → (ℕ → Straight) → Decoded → Straight
straight_by at on (Ok (c, next)) = pick (is_end c) (record { commands = []; finish = Ok at }) (before at c (on next))
straight_by at on (Err fault) = record { commands = []; finish = Err fault }

-- from an offset on, with at most so many bytes left
unfoldable pub straight_from : Kind → List ℕ → ℕ → ℕ → Straight
straight_from kind bytes zero at = record { commands = []; finish = Err (PastData, at) }
straight_from kind bytes (suc left) at = straight_by at (λ next. straight_from kind bytes left next) (command_at kind bytes at)

abbrev pub straight : Kind → List ℕ → Straight
straight kind bytes = straight_from kind bytes (length bytes) 0

-- 1 for a note or rest
abbrev pub notes_of : Command → ℕ
notes_of Command.End = 0
notes_of (Command.Transpose m) = 0
notes_of (Command.Window t) = 0
notes_of Command.EndLoop = 0
notes_of (Command.Length l b) = 1
notes_of (Command.BeginLoop n) = 0
notes_of (Command.Timbre x c) = 0
notes_of (Command.Note b) = 1

abbrev pub notes_in : List Placed → ℕ
notes_in [] = 0
notes_in (c ∷ cs) = notes_of c.command + notes_in cs

-- how many notes and rests there are, and the stop
abbrev pub reading_of : Straight → Reading
reading_of s = record { notes = notes_in s.commands; finish = s.finish }

abbrev pub told_finish : ℕ → Finish → Told
told_finish notes (Ok at) = record { number = 0; values = notes ∷ at ∷ [] }
told_finish notes (Err (refusal, at)) = record { number = number_of refusal; values = notes ∷ at ∷ [] }

abbrev pub told_reading : Reading → Told
told_reading r = told_finish r.notes r.finish
