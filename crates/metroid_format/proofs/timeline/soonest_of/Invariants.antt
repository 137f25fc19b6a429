use Rattle.metroid_format.proofs.timeline.FirstStop.{Looking}
use Rattle.metroid_format.proofs.timeline.soonest_of.Given as goal

abbrev pub invariant-loop-i : goal.invariant-loop-i
invariant-loop-i l = Looking l.bank l.fn.track l.fn.track.voices l.i l.soonest
