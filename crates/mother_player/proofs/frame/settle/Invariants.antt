use Rattle.mother_player.proofs.frame.Laws.{Settling}
use Rattle.mother_player.proofs.frame.settle.Given as goal

abbrev pub invariant-loop-i : goal.invariant-loop-i
invariant-loop-i l = Settling l.banks.bank8.now l.banks.banka.now l.places l.fn.voices l.player l.events l.counts l.channels l.setting l.i
