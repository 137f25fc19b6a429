use Rattle.metroid_text.proofs.line.Laws.{putting_more, putting_done}
use Rattle.metroid_text.proofs.line.Line.spaced.Goals as goal

pub loop-number-preserved : goal.loop-number-preserved
loop-number-preserved c = search putting_more depth 12

pub returns : goal.returns
returns c = search putting_done depth 8
