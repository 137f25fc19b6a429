use Rattle.metroid_format.proofs.words.Laws.{Halfway}
use Rattle.metroid_format.proofs.words.encode.Given as goal

abbrev pub invariant-loop-i : goal.invariant-loop-i
invariant-loop-i l = Halfway l.kind l.words l.initial.out l.out l.i l.n
