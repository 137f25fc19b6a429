use Rattle.metroid_text.proofs.line.Laws.{writes_then}
use Rattle.metroid_text.proofs.answer.put_kind.Goals as goal

pub returns : goal.returns
returns c =
    rw (← c.number_of.ensures, ← c.kind_of.ensures, ← c.from.ensures, ← c.from-2.ensures)
    (writes_then c.decimal.ensures c.spaced.ensures)
