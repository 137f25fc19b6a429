-- An answer as document 01 tells it.
use Rattle.std.specs.Prelude.{ℕ, List, ◌≡◌}

-- 0 or the number of the refusal, and the values that come with it
pub record Told : Type 0 where
  pub number : ℕ
  pub values : List ℕ

-- an answer is the one that a definition gives, and tells the same number and values
pub record Answers {A : Type 0} (told : A → Told) (answer given : A) : Type 0 where
  pub same : answer ≡ given
  pub tells : told answer ≡ told given
