-- An answer told to a host.
use Rattle.std.specs.Prelude.{ℕ, ◌<◌, List, ◌∷◌, ◌++◌, ◌≡◌}
use Rattle.std.proofs.lemmas.List.Edits.{sets}
use Rattle.engine_base.specs.Told.{Told}
use Rattle.engine_base.specs.Answer.{answer_kind, answer_place}
use Rattle.engine_base.specs.declared.answer.Answer.{Answer}

-- its number, and its values from the start of the lent buffer as far as they fit, the rest of it unchanged
pub record Tells (answer : Told) (before : List ℕ) (number : ℕ) (after : List ℕ) : Type 0 where
  pub says : number ≡ answer.number
  pub shows : after ≡ sets before 0 answer.values

-- Below: only private contracts and laws use these.

-- the words that the answers of both engines begin with
abbrev pub head_of : Answer → List ℕ → List ℕ
head_of answer counts = answer_kind answer ∷ counts ++ answer_place answer

-- a refusal that has a place is in one of the four channels
abbrev pub Placed : Answer → Type 0
Placed Answer.Events = Unit {0}
Placed Answer.End = Unit {0}
Placed Answer.Stopped = Unit {0}
Placed (Answer.Refused refusal) = Unit {0}
Placed (Answer.Fault refusal i at address) = i < 4
