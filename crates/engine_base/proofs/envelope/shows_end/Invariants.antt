use mathlib.Core.Path.{◌≡◌}
use lib.ListN.{drop}
use Rattle.engine_base.specs.Envelope.{shows_end}
use Rattle.engine_base.proofs.envelope.shows_end.Given as goal

abbrev pub invariant-loop-i : goal.invariant-loop-i
invariant-loop-i l = shows_end (drop l.i l.bytes) ≡ shows_end l.bytes
