use mathlib.Core.Path.{refl, ◌∙◌}
use native.Mathlib.Omega.{arith}
use Rattle.mother_player.specs.Reading.{most_commands, read_until}
use Rattle.mother_player.proofs.reading.Laws.{read_turn, read_none}
use Rattle.mother_player.proofs.reading.read_until.Goals as goal

-- the rest, read from here, gives the whole

pub loop-count-init : goal.loop-count-init
unfolding read_until
loop-count-init c = (omega arith, refl)

pub loop-count-preserved : goal.loop-count-preserved
unfolding read_until
loop-count-preserved c = (omega arith, read_turn _ _ _ _ _ _ most_commands _ _ _ c.step_from-step.ensures c.in-Again.is c.loop-count-test.true c.loop-count.invariant.1)

pub returns-in-Note : goal.returns-in-Note
unfolding read_until
returns-in-Note c = c.turn_of.ensures ∙ read_turn _ _ _ _ _ _ most_commands _ _ _ c.step_from-step.ensures c.in-Note.is c.loop-count-test.true c.loop-count.invariant.1

pub returns-in-End : goal.returns-in-End
unfolding read_until
returns-in-End c = c.turn_of-in-End.ensures ∙ read_turn _ _ _ _ _ _ most_commands _ _ _ c.step_from-step.ensures c.in-End.is c.loop-count-test.true c.loop-count.invariant.1

pub returns-in-Refused : goal.returns-in-Refused
unfolding read_until
returns-in-Refused c = c.turn_of-in-Refused.ensures ∙ read_turn _ _ _ _ _ _ most_commands _ _ _ c.step_from-step.ensures c.in-Refused.is c.loop-count-test.true c.loop-count.invariant.1

pub returns : goal.returns
unfolding read_until
returns c = (rw c.offset_at-at.ensures at c.turn_of-2.ensures) ∙ read_none _ _ _ _ _ _ _ _ most_commands (omega (arith, c.loop-count.invariant.0, c.loop-count-test.false)) (omega arith) c.loop-count.invariant.1
