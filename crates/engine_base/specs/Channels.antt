-- Square 1, square 2, triangle, noise.
use Rattle.std.specs.Prelude.{ℕ, ◌≤◌, List, [], ◌∷◌}

abbrev pub four : {A : Type 0} → A → List A
four x = x ∷ x ∷ x ∷ x ∷ []

abbrev pub AtMost : ℕ → List ℕ → Type 0
AtMost most [] = Unit {0}
AtMost most (n ∷ ns) = (n ≤ most) × AtMost most ns
