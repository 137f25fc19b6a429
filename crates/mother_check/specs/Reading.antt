-- What stands before a command of a block.
use Rattle.std.specs.Prelude.{true, List, [], ◌∷◌}
use Rattle.mother_format.specs.Straight.{Placed}
use Rattle.mother_format.specs.declared.command.Command.{Command}
use Rattle.mother_check.specs.declared.reading.Progress.{Progress}

-- past a note or rest, and past a length, which has one
abbrev pub passed : Progress → Command → Progress
passed p Command.End = p
passed p (Command.Transpose m) = p
passed p (Command.Window t) = p
passed p Command.EndLoop = p
passed p (Command.Length l b) = record { noted = true; sized = true }
passed p (Command.BeginLoop n) = p
passed p (Command.Timbre x c) = p
passed p (Command.Note b) = record { noted = true; sized = p.sized }

abbrev pub passed_all : Progress → List Placed → Progress
passed_all p [] = p
passed_all p (c ∷ cs) = passed_all (passed p c.command) cs
