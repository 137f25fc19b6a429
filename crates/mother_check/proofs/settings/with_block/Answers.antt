use Rattle.mother_check.specs.Extremes.{with_block}
use Rattle.mother_check.proofs.settings.Laws.{gathered_refused}
use Rattle.mother_check.proofs.settings.with_block.Goals as goal

pub returns-in_default : goal.returns-in_default
unfolding with_block
returns-in_default c = rw (← c.block-block.ensures) (gathered_refused _ _ _ _ _ _ _ _ c.loop.invariant c.loop-test.true _ c.command_at.ensures.same _ _ c.in_default.is)
