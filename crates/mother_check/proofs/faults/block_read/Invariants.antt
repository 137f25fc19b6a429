use Rattle.mother_check.proofs.faults.Laws.{Midblock}
use Rattle.mother_check.proofs.faults.block_read.Given as goal

abbrev pub invariant-loop : goal.invariant-loop
invariant-loop l = Midblock l.fn.visit.source.banks.bank8.now l.fn.visit.source.banks.banka.now l.fn.visit.source.places l.fn.visit.source.kind l.fn.visit.source.start l.fn.visit.site l.fn.visit.extremes l.sized l.progress l.at l.counter
