use Rattle.mother_check.proofs.command_faults.Tests.{early_tested}
use Rattle.mother_check.proofs.command_faults.first_tried.Goals as goal

pub returns-in-Err : goal.returns-in-Err
returns-in-Err c = early_tested _ _ _ _ _ _ (rw (← c.block-block.ensures, ← c.from-index.ensures) c.if-block-index.false) _ c.early_at.ensures _ c.in-Err.is c.refused-in-Err.ensures
