use Rattle.metroid_format.proofs.mend.Laws.{Midway}
use Rattle.metroid_format.proofs.mend.mend_data.Given as goal

abbrev pub invariant-loop : goal.invariant-loop
invariant-loop l = Midway l.kind l.initial.bytes l.counter l.at l.bytes
