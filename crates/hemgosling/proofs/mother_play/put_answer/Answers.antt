use mathlib.Core.Path.{◌≡◌, refl, ◌∙◌}
use borrow.Author.Rules.{rules}
use Rattle.mother_player.specs.Event.{told_event}
use Rattle.mother_player.specs.Frame.{told_events}
use Rattle.hemgosling.proofs.tell.Laws.{behind_head, flat_words}
use Rattle.hemgosling.proofs.mother_play.put_answer.Goals as goal

pub returns : goal.returns
returns c =
    let framed = c.args.framed in
    let words : c.as_flattened.result.now ≡ told_events framed.events =
    c.as_flattened.ensures.value ∙ flat_words _ told_event (λ f e words f' k. search rules) told_events refl (λ _ _. refl) _ _ (search rules) c.map.ensures.items in
    behind_head framed.answer framed.counts _ _ _ c.put_head.ensures _ (rw words at c.fill.ensures) (search rules)
