-- Document 01, 'A frame': triangle release.
use Rattle.std.specs.Prelude.{ℕ, ◌/◌, ◌%◌, eqb}
use Rattle.engine_base.specs.Pick.{pick}
use Rattle.engine_base.specs.Release.{dynamic}
use Rattle.engine_base.specs.declared.time.Frames.{Frames}
use Rattle.engine_base.specs.declared.release.Release.{Release}
use Rattle.engine_base.specs.declared.release.Release.TheVariants.{After, Never}

-- FFFF LLLL: L not 0, after L quarter-frames; else F not 0, never; else dynamic
unfoldable pub release_of : ℕ → Frames → Release
release_of byte length =
    pick (eqb (byte % 16) 0) (pick (eqb (byte / 16) 0) (After (dynamic length)) Never) (After (record { count = byte % 16 }))
