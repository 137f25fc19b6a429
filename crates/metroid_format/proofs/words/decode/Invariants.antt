use Rattle.metroid_format.proofs.words.Laws.{Midway}
use Rattle.metroid_format.proofs.words.decode.Given as goal

abbrev pub invariant-loop-n : goal.invariant-loop-n
invariant-loop-n l = Midway l.kind l.bytes l.initial.out l.out l.n l.at
