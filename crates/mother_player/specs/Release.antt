-- Document 003, 'Channel Data Format': the triangle's linear counter byte, and its release.
use Rattle.std.specs.Prelude.{ℕ, ◌/◌, ◌%◌, leb, eqb}
use Rattle.engine_base.specs.Pick.{pick}
use Rattle.engine_base.specs.Release.{dynamic}
use Rattle.engine_base.specs.declared.time.Frames.{Frames}
use Rattle.engine_base.specs.declared.release.Release.{Release}
use Rattle.engine_base.specs.declared.release.Release.TheVariants.{After, Never}

-- what BL makes of pppx xxxx, with the length it has just set: x not 0, x; else p 2 to 5, $ff; else dynamic
unfoldable pub linear_of : ℕ → Frames → ℕ
linear_of timbre length =
    pick (eqb (timbre % 32) 0)
    (pick (leb 2 (timbre / 32)) (pick (leb (timbre / 32) 5) 0xff (dynamic length).count) (dynamic length).count)
    (timbre % 32)

-- Fnnn nnnn: F set and n not 0, never; else after n quarter-frames
unfoldable pub release_of : ℕ → Release
release_of linear = pick (eqb (linear / 128) 0) after (pick (eqb (linear % 128) 0) after Never)
  where
    after : Release
    after = After (record { count = linear % 128 })
