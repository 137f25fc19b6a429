-- Demand 3: the most commands that a channel reads in a frame of a run.
use Rattle.std.specs.Prelude.{ℕ, ◌*◌, ◌/◌}
use Rattle.metroid_format.specs.Command.{data_limit}

-- 257 commands for two bytes: 32,896
abbrev pub most_commands : ℕ
most_commands = data_limit / 2 * 257
