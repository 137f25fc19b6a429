use mathlib.Core.Path.{refl}
use borrow.Author.Rules.{rules}
use Rattle.metroid_text.proofs.line.Laws.{writes_then}
use Rattle.metroid_text.proofs.answer.Laws.{answer_spelled, widened}
use Rattle.metroid_text.proofs.answer.line.Goals as goal

pub returns : goal.returns
returns c =
    answer_spelled c.args.framed _
    (writes_then
    (writes_then
    (writes_then (writes_then c.put_kind.ensures c.put_group.ensures) c.put_place.ensures)
    c.put_events.ensures)
    c.text.ensures)
    refl
    (search rules)
    (widened _ (λ f x y f' k. search rules) _ _ (search rules) c.map.ensures.items)
    (search rules)
