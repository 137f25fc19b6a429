use borrow.Author.Rules.{rules}
use mathlib.Core.Path.{sym, ◌∙◌}
use Rattle.std.proofs.lemmas.Result.{err_from_is_err_and}
use Rattle.std.specs.Prelude.{Some, None}
use Rattle.mother_check.proofs.faults.Laws.{block_stopped, block_ended, block_more}
use Rattle.mother_check.proofs.faults.block_read.Goals as goal

pub returns-in_default : goal.returns-in_default
returns-in_default c = block_stopped _ _ _ _ _ _ _ _ _ _ _ c.loop.invariant c.first_tried.result (search rules) c.in_ok-first_tried.was (rw (← c.block-data.ensures) c.loop-test.true) _ (rw (← c.block-data.ensures) c.command_at.ensures.same) _ _ c.in_default.is

pub returns-in_err-end_fault : goal.returns-in_err-end_fault
returns-in_err-end_fault c = let p = err_from_is_err_and c.from_residual-in_err-end_fault.result c.from_residual-in_err-end_fault.ensures.1 in rw (p.1, p.2) (block_ended _ _ _ _ _ _ _ _ _ _ _ c.loop.invariant c.first_tried.result (search rules) c.in_ok-first_tried.was (rw (← c.block-data.ensures) c.loop-test.true) _ (rw (← c.block-data.ensures) c.command_at.ensures.same) _ _ c.in-Ok.is (sym c.is_end.ensures ∙ c.if-is_end.true) _ c.end_fault.ensures (Some _) c.in_err-end_fault.was)

pub returns-then-is_end : goal.returns-then-is_end
returns-then-is_end c = block_ended _ _ _ _ _ _ _ _ _ _ _ c.loop.invariant c.first_tried.result (search rules) c.in_ok-first_tried.was (rw (← c.block-data.ensures) c.loop-test.true) _ (rw (← c.block-data.ensures) c.command_at.ensures.same) _ _ c.in-Ok.is (sym c.is_end.ensures ∙ c.if-is_end.true) _ c.end_fault.ensures None c.in_ok-end_fault.was

pub loop-preserved : goal.loop-preserved
loop-preserved c = block_more _ _ _ _ _ _ _ _ _ _ _ c.loop.invariant c.first_tried.result (search rules) c.in_ok-first_tried.was (rw (← c.block-data.ensures) c.loop-test.true) _ (rw (← c.block-data.ensures) c.command_at.ensures.same) _ _ c.in-Ok.is (sym c.is_end.ensures ∙ c.if-is_end.false) _ c.past-progress.ensures
