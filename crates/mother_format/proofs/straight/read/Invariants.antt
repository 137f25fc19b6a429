use Rattle.mother_format.proofs.straight.Laws.{Midway}
use Rattle.mother_format.proofs.straight.read.Given as goal

abbrev pub invariant-loop : goal.invariant-loop
invariant-loop l = Midway l.kind l.bytes l.counter l.at l.notes
