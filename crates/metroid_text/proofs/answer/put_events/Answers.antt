use mathlib.Core.Path.{◌∙◌}
use native.Mathlib.Omega.{arith}
use borrow.Author.Rules.{rules}
use Rattle.metroid_text.proofs.answer.Laws.{events_more, events_done, widened}
use Rattle.metroid_text.proofs.answer.put_events.Goals as goal

pub loop-event-preserved : goal.loop-event-preserved
loop-event-preserved c =
    let p = c.loop-event.invariant in
    let numbers = widened _ (λ f x y f' k. search rules) _ _ (search rules) c.map.ensures.items ∙ c.told.ensures in
    (p.0, events_more p.0 p.1 (omega arith) _ _ (search rules) numbers c.put_group.ensures)

pub returns : goal.returns
returns c = search events_done depth 8
