use Rattle.std.proofs.lemmas.Result.{err_from_is_err_and}
use Rattle.mother_check.proofs.faults.Lists.{midlist_none, list_goto, list_faulty, list_clean}
use Rattle.mother_check.proofs.faults.channel_first.Goals as goal
use Rattle.mother_check.proofs.faults.channel_first.Goals.{in-Goto, in-Block+in_ok-sized-in-Block}

pub loop-n-init : goal.loop-n-init
loop-n-init c = midlist_none _ _ _ _ _ _ _ _ c.first-spot.ensures

pub returns-in_err-sized-in-Block : goal.returns-in_err-sized-in-Block
returns-in_err-sized-in-Block c = let p = err_from_is_err_and c.from_residual.result c.from_residual.ensures.1 in rw (p.1, p.2) (list_faulty _ _ _ _ _ _ _ _ _ _ _ c.loop-n.invariant c.loop-n-test.true _ _ c.word_at.ensures _ _ c.in-Block.is _ c.block_read.ensures _ c.in_err-sized-in-Block.was)

pub loop-n-preserved : goal.loop-n-preserved
loop-n-preserved c =
    elim c.match-word_at.branch [
      | in-Goto w ↦ list_goto _ _ _ _ _ _ _ _ _ _ _ c.loop-n.invariant c.loop-n-test.true _ _ c.word_at.ensures _ w.in-Goto.is _ w.spot-is _ w.sized-is
      | in-Block+in_ok-sized-in-Block w ↦ list_clean _ _ _ _ _ _ _ _ _ _ _ c.loop-n.invariant c.loop-n-test.true _ _ c.word_at.ensures _ _ w.in-Block.is _ w.block_read.ensures _ w.in_ok-sized-in-Block.was _ w.spot-is _ w.sized-is
    ]
