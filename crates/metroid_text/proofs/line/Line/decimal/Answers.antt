use Rattle.metroid_text.proofs.decimal.Laws.{decimal_writes}
use Rattle.metroid_text.proofs.line.Line.decimal.Goals as goal

pub returns : goal.returns
returns c = decimal_writes _ _ _ c.ranges.number c.decimal-count.ensures.len c.decimal-count.ensures.digits c.text.ensures
