use borrow.Author.Rules.{rules}
use Rattle.engine_base.specs.Ctrl1.{combined}
use Rattle.engine_base.proofs.ctrl1.combine.Goals as goal

pub returns : goal.returns
unfolding combined
returns c = search rules
