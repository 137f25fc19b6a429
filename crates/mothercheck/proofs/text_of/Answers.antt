use native.Mathlib.Omega.{arith}
use Rattle.metroid_text.proofs.line.Laws.{spelled_whole}
use Rattle.mothercheck.proofs.text_of.Goals as goal

pub returns : goal.returns
returns c = rw (← c.verdict_of-verdict.ensures) (spelled_whole c.text-n.ensures (omega arith))
