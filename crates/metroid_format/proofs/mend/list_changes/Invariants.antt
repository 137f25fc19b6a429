use Rattle.metroid_format.proofs.mend.Laws.{Listing}
use Rattle.metroid_format.proofs.mend.list_changes.Given as goal

abbrev pub invariant-loop-i : goal.invariant-loop-i
invariant-loop-i l = Listing l.fn.before l.fn.after l.initial.list l.list l.i l.n
