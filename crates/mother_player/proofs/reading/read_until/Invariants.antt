use Prim.Native.Nat.{◌-◌, ◌≤◌}
use mathlib.Core.Path.{◌≡◌}
use Rattle.mother_player.specs.Reading.{most_commands, read_from, read_until}
use Rattle.mother_player.proofs.reading.read_until.Given as goal

abbrev pub invariant-loop-count : goal.invariant-loop-count
invariant-loop-count l = (l.count ≤ most_commands)
    × (read_from l.banks.bank8.now l.banks.banka.now l.places l.kind (most_commands - l.count) l.reader l.count ≡ read_until l.banks.bank8.now l.banks.banka.now l.places l.kind l.initial.reader)
