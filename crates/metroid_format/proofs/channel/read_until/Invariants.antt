use Prim.Native.Nat.{ℕ, ◌-◌}
use mathlib.Core.Path.{◌≡◌}
use Rattle.engine_base.specs.Address.{address_of}
use Rattle.metroid_format.specs.Command.{data_limit}
use Rattle.metroid_format.specs.Channel.{source_of, fuel_of, read_from, read_until}
use Rattle.metroid_format.proofs.channel.read_until.Given as goal

abbrev pub fuel : ℕ
fuel = fuel_of data_limit

-- the rest, read from here, gives the whole
abbrev pub invariant-loop-count : goal.invariant-loop-count
invariant-loop-count l =
    read_from (source_of l.source.kind l.source.bytes.now l.source.lengths.now l.source.window (address_of l.source.base)) (fuel - l.count) l.cursor l.count ≡
    read_until data_limit (source_of l.source.kind l.source.bytes.now l.source.lengths.now l.source.window (address_of l.source.base)) l.initial.cursor
