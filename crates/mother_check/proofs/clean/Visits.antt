-- The offsets of a block that straight reading visits.
use Prim.Native.Nat.{ℕ}
use mathlib.Core.Bool.{false}
use mathlib.Core.List.{List}
use mathlib.Core.Path.{◌≡◌}
use Rattle.std.specs.Prelude.{Ok}
use Rattle.mother_format.specs.Command.{command_at}
use Rattle.mother_format.specs.Straight.{is_end}
use Rattle.mother_format.specs.declared.command.Kind.{Kind}
use Rattle.mother_format.specs.declared.command.Command.{Command}
use Rattle.mother_format.specs.declared.channel.Played.{Played}
use Rattle.mother_check.specs.Reading.{passed}
use Rattle.mother_check.specs.declared.reading.Progress.{Progress}

-- with what stands before them
pub data Visits (kind : Kind) (bytes : List ℕ) (first : Progress) : ℕ → Progress → Type 0 where
  at_first : Visits kind bytes first 0 first
  at_next : {at next : ℕ} {p : Progress} {c : Command} → Visits kind bytes first at p → command_at kind bytes at ≡ Ok (c, next) →
      is_end c ≡ false → Visits kind bytes first next (passed p c)

abbrev pub Unrefused : Played → Type 0
Unrefused Played.End = Unit {0}
Unrefused (Played.Transpose m next) = Unit {0}
Unrefused (Played.Window t next) = Unit {0}
Unrefused (Played.EndLoop next) = Unit {0}
Unrefused (Played.BeginLoop counter next) = Unit {0}
Unrefused (Played.Length b frames next) = Unit {0}
Unrefused (Played.Timbre x c next) = Unit {0}
Unrefused (Played.Note b next) = Unit {0}
Unrefused (Played.Refused refusal at address) = ⊥
