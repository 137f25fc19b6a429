use Rattle.mother_check.proofs.faults.Lists.{Midlist}
use Rattle.mother_check.proofs.faults.channel_first.Given as goal

abbrev pub invariant-loop-n : goal.invariant-loop-n
invariant-loop-n l = Midlist l.banks.bank8.now l.banks.banka.now l.places l.voice.kind l.voice.list l.channel l.extremes l.marks l.spot l.sized l.n
