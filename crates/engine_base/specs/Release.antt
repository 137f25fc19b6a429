-- The release of a triangle note.
use Rattle.std.specs.Prelude.{ℕ, ◌-◌, ◌*◌, min}
use Rattle.engine_base.specs.declared.time.Frames.{Frames}
use Rattle.engine_base.specs.declared.time.QuarterFrames.{QuarterFrames}
use Rattle.engine_base.specs.declared.release.Release.{Release}
use Rattle.engine_base.specs.declared.release.Release.TheVariants.{After, Never}

-- the smaller of 4 x (length - 1) and 60 quarter-frames
unfoldable pub dynamic : Frames → QuarterFrames
dynamic length = record { count = min (4 * (length.count - 1)) 60 }

-- never is told as 255
abbrev pub told_release : Release → ℕ
told_release (After q) = q.count
told_release Never = 255
