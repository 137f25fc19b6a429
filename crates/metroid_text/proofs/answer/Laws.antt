-- The counts and the events of an answer.
use Prim.Native.Nat.{ℕ, ◌+◌, ◌≤◌, ◌<◌}
use mathlib.Core.List.{List, [], ◌∷◌, ◌++◌}
use mathlib.Core.Path.{◌≡◌, sym, ◌∙◌}
use native.Mathlib.Omega.{arith}
use lib.ListN.{length, get_or}
use Rattle.std.proofs.lemmas.List.{ext_get_or}
use Rattle.std.specs.Array.{IsMapOf}
use Rattle.std.specs.Fn.{Mut, Called}
use Rattle.metroid_player.specs.Event.{told_event}
use Rattle.engine_base.specs.Answer.{answer_place}
use Rattle.engine_base.specs.declared.answer.Answer.{Answer}
use Rattle.metroid_player.specs.declared.event.Event.{Event}
use Rattle.metroid_player.specs.declared.frame.Framed.{Framed}
use Rattle.metroid_text.specs.Line.{newline, each, Spells, Writes}
use Rattle.metroid_text.specs.declared.line.Line.{Line}
use Rattle.metroid_text.specs.Answer.{
  after_bar,
  refusal_and_kind,
  place_and_left,
  event_text,
  answer_line,
  kind_most,
  group_most,
  place_most,
  event_most,
  events_most,
}
use Rattle.metroid_text.proofs.line.Laws.{Putting, putting_more, putting_done, writes_within, spelled}

-- each number as it was, in 64 bits
module _ {F : Type 0} (g : Mut F (ℕ × Unit {0}) ℕ) (gives : (f : F) (x y : ℕ) (f' : F) → Called g f (x, tt) y f' → y ≡ x) where
  pub widened : {f : F} {n : ℕ} (xs ys : List ℕ) → length xs ≡ n → IsMapOf g f xs ys n → ys ≡ xs
  widened xs ys n m = ext_get_or 0 ys xs (m.long ∙ sym n) λ i b. gives _ _ _ _ (m.at i 0 0 (omega (arith, m.long))).2

module _ {events : List Event} {before now : Line} {i : ℕ}
    (all : length events ≡ 4) (p : Putting event_most event_text events before now i)
  where
    -- numbers are what `told` gives of the channel
    pub events_more : i < 4 → (d : Event) (numbers : List ℕ) → length numbers ≡ 5 → numbers ≡ told_event (get_or events i d) → {after : Line} →
        Writes (group_most (length numbers)) (after_bar numbers) now after → Putting event_most event_text events before after (i + 1)
    events_more h d numbers five e q =
        putting_more p (omega arith) d (rw e at (writes_within q {n = event_most} (omega arith)))

    pub events_done : 4 ≤ i → Writes events_most (each event_text events) before now
    events_done h = writes_within (putting_done p (omega arith)) (omega arith)

pub answer_spelled : (f : Framed) (counts : List ℕ) {before after : Line} {bytes : List ℕ} →
    Writes (kind_most + group_most (length counts) + place_most + events_most + 1)
    (refusal_and_kind f.answer ++ after_bar counts ++ place_and_left f.answer f.frames_left ++ each event_text f.events ++ newline)
    before after →
    before.at ≡ 0 → bytes ≡ after.out.now → counts ≡ f.counts → length counts ≡ 4 → Spells (answer_line f) before.out.now after.at bytes
unfolding answer_line
answer_spelled f counts p z e c four =
    let q = spelled p z e (omega arith) in
    rw (← c) q

pub place_writes : (answer : Answer) (place : List ℕ) (left : ℕ) {before after : Line} →
    Writes (group_most (length place) + group_most 1) (after_bar place ++ after_bar (left ∷ [])) before after →
    place ≡ answer_place answer → length place ≡ 3 → Writes place_most (place_and_left answer left) before after
place_writes answer place left p a three = rw a at (writes_within p {n = place_most} (omega arith))
