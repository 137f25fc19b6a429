use mathlib.Core.Bool.{false}
use mathlib.Core.Path.{◌∙◌}
use native.Mathlib.Omega.{arith}
use lib.ListN.{length-replicate}
use Rattle.mother_check.specs.Walk.{addresses, named}
use Rattle.mother_check.specs.Extremes.{with_channel}
use Rattle.mother_check.proofs.settings.Laws.{walked_past, walked_over, walking_goto, walking_block}
use Rattle.mother_check.proofs.settings.with_channel.Goals as goal
use Rattle.mother_check.proofs.settings.with_channel.Goals.{in-Goto, in-Block}

pub loop-init : goal.loop-init
unfolding with_channel named
loop-init c = record { within = omega arith; marked = length-replicate addresses false; same = rw c.first-spot.ensures }

pub returns-in-Done : goal.returns-in-Done
returns-in-Done c = walked_over _ _ _ _ _ _ _ _ _ _ c.loop.invariant c.loop-test.true _ _ c.word_at.ensures c.in-Done.is

pub loop-preserved : goal.loop-preserved
loop-preserved c =
    elim c.match-word_at.branch [
      | in-Goto w ↦ walking_goto _ _ _ _ _ _ _ _ _ _ c.loop.invariant c.loop-test.true _ _ c.word_at.ensures _ w.in-Goto.is _ w.e-is _ w.spot-is
      | in-Block w ↦ walking_block _ _ _ _ _ _ _ _ _ _ c.loop.invariant c.loop-test.true _ _ c.word_at.ensures _ _ w.in-Block.is _ (w.e-is ∙ w.with_block-e.ensures) _ w.spot-is
    ]

pub returns : goal.returns
returns c = walked_past _ _ _ _ _ _ _ _ _ _ c.loop.invariant c.loop-test.false
