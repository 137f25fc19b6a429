use Rattle.metroid_text.specs.Line.{after_space, spaced_most}
use Rattle.metroid_text.proofs.line.Laws.{Putting}
use Rattle.metroid_text.proofs.line.Line.spaced.Given as goal

abbrev pub invariant-loop-number : goal.invariant-loop-number
invariant-loop-number l = Putting spaced_most after_space l.numbers l.initial.self l.self l.number-index
