use borrow.Author.Rules.{rules}
use Rattle.metroid_text.proofs.line.Laws.{writes_then}
use Rattle.metroid_text.proofs.answer.Laws.{place_writes}
use Rattle.metroid_text.proofs.answer.put_place.Goals as goal

pub returns : goal.returns
returns c =
    rw (← c.from.ensures)
    (place_writes c.args.answer _ _ (writes_then c.put_group.ensures c.put_group-2.ensures) c.place_of.ensures (search rules))
