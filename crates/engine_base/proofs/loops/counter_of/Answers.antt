use Rattle.engine_base.specs.Loops.{counter_of}
use Rattle.engine_base.proofs.Picks.{picks}
use Rattle.engine_base.proofs.loops.counter_of.Goals as goal

pub returns-then-n-eq0 : goal.returns-then-n-eq0
unfolding counter_of
returns-then-n-eq0 c = search picks depth 12

pub returns-else-n-eq0 : goal.returns-else-n-eq0
unfolding counter_of
returns-else-n-eq0 c = search picks depth 12
