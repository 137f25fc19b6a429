use native.Mathlib.Omega.{arith}
use Rattle.metroid_text.proofs.line.Laws.{spelled_whole}
use Rattle.trace.proofs.line_of.Goals as goal

pub returns : goal.returns
returns c = spelled_whole c.line-n.ensures (omega arith)
