use Rattle.mother_check.proofs.faults.Lists.{Midtrack}
use Rattle.mother_check.proofs.faults.track_first.Given as goal

abbrev pub invariant-loop-i : goal.invariant-loop-i
invariant-loop-i l = Midtrack l.banks.bank8.now l.banks.banka.now l.places l.extremes l.voice-items l.i
