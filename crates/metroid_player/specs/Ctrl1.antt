-- Document 01, 'A frame': ctrl 1, one envelope byte a frame from the note's first.
use Rattle.std.specs.Prelude.{ℕ, zero, suc, List, [], ◌∷◌}
use Rattle.engine_base.specs.Ctrl1.{default_ctrl1, combined, by_byte}

-- one envelope byte a frame; what F0 or FF gives holds from then on, another byte v gives v OR (default AND $F0). No envelope behaves as a lone FF.
unfoldable pub ctrl1_at : ℕ → List ℕ → ℕ → ℕ
ctrl1_at default [] index = default_ctrl1 default
ctrl1_at default (v ∷ vs) zero = by_byte default v (combined v default)
ctrl1_at default (v ∷ vs) (suc index) = by_byte default v (ctrl1_at default vs index)
