use Rattle.metroid_player.proofs.frame.Laws.{Settling}
use Rattle.metroid_player.proofs.frame.settle.Given as goal

abbrev pub invariant-loop-i : goal.invariant-loop-i
invariant-loop-i l = Settling l.bank l.fn.track l.player l.events l.counts l.channels l.i
