use Rattle.engine_base.specs.Ctrl1.{default_ctrl1}
use Rattle.engine_base.proofs.Picks.{picks}
use Rattle.engine_base.proofs.ctrl1.default_ctrl1.Goals as goal

pub returns-then-default-eq0 : goal.returns-then-default-eq0
unfolding default_ctrl1
returns-then-default-eq0 c = search picks depth 12

pub returns-else-default-eq0 : goal.returns-else-default-eq0
unfolding default_ctrl1
returns-else-default-eq0 c = search picks depth 12
