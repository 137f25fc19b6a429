use mathlib.Core.List.{[], ◌∷◌}
use mathlib.Core.Path.{◌≡◌, refl, sym, ◌∙◌}
use borrow.Author.Rules.{rules}
use Rattle.engine_base.proofs.Buffers.{sets_append}
use Rattle.metroid_player.specs.Event.{told_event}
use Rattle.metroid_player.specs.Frame.{told_events}
use Rattle.hemgosling.proofs.tell.Laws.{behind_head, flat_words}
use Rattle.hemgosling.proofs.play.put_answer.Goals as goal

pub returns : goal.returns
returns c =
    let framed = c.args.framed in
    let words : c.as_flattened.result.now ≡ told_events framed.events =
    c.as_flattened.ensures.value ∙ flat_words _ told_event (λ f e words f' k. search rules) told_events refl (λ _ _. refl) _ _ (search rules) c.map.ensures.items in
    behind_head framed.answer framed.counts _ _ _ c.put_head.ensures _
    (c.fill-2.ensures ∙ rw (words, c.fill.ensures) (sym (sets_append c.put_head.new.out 8 (framed.frames_left ∷ []) (told_events framed.events)))) (search rules)
