use mathlib.Core.Path.{refl}
use native.Mathlib.Omega.{arith}
use borrow.Author.Rules.{rules}
use Rattle.metroid_text.proofs.line.Laws.{writes_then, spelled}
use Rattle.metroid_text.proofs.verdict.line.Goals as goal

pub returns : goal.returns
returns c =
    rw (← c.from.ensures)
    (spelled (writes_then (writes_then c.decimal.ensures c.text.ensures) c.put.ensures) refl (search rules) (omega arith))
