-- Choices by tests.
use Rattle.std.specs.Prelude.{Bool, true, false, List, [], ◌∷◌, Result, Err}
use Rattle.engine_base.specs.declared.refusal.Refusal.{Refusal}

-- the first where the test holds, else the second
abbrev pub pick : {A : Type 0} → Bool → A → A → A
pick true x y = x
pick false x y = y

-- the refusal, unless the test holds
abbrev pub unless : {A : Type 0} → Bool → Refusal → Result A Refusal → Result A Refusal
unless test refusal rest = pick test rest (Err refusal)

-- each test of a list holds
abbrev pub all : List Bool → Bool
all [] = true
all (test ∷ tests) = pick test (all tests) false
