-- What a frame answers, told as numbers.
use Rattle.std.specs.Prelude.{ℕ, List, [], ◌∷◌}
use Rattle.engine_base.specs.declared.answer.Answer.{Answer}
use Rattle.engine_base.specs.Refusal.{number_of}

abbrev pub answer_number : Answer → ℕ
answer_number Answer.Events = 0
answer_number Answer.End = 0
answer_number Answer.Stopped = 0
answer_number (Answer.Refused refusal) = number_of refusal
answer_number (Answer.Fault refusal i at address) = number_of refusal

-- 0 events, 1 end, 2 stopped, 3 refused
abbrev pub answer_kind : Answer → ℕ
answer_kind Answer.Events = 0
answer_kind Answer.End = 1
answer_kind Answer.Stopped = 2
answer_kind (Answer.Refused refusal) = 3
answer_kind (Answer.Fault refusal i at address) = 3

-- channel, offset and address of a fault, else 0
abbrev pub answer_place : Answer → List ℕ
answer_place Answer.Events = 0 ∷ 0 ∷ 0 ∷ []
answer_place Answer.End = 0 ∷ 0 ∷ 0 ∷ []
answer_place Answer.Stopped = 0 ∷ 0 ∷ 0 ∷ []
answer_place (Answer.Refused refusal) = 0 ∷ 0 ∷ 0 ∷ []
answer_place (Answer.Fault refusal i at address) = i ∷ at ∷ address ∷ []
