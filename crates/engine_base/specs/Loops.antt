-- Loops of one level.
use Rattle.std.specs.Prelude.{ℕ, ◌-◌, eqb}
use Rattle.engine_base.specs.Pick.{pick}

-- begin loop, counter n - 1; n = 0 counts as 256 plays
unfoldable pub counter_of : ℕ → ℕ
counter_of n = pick (eqb n 0) 255 (n - 1)
