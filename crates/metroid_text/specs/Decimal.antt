-- Numbers as text, in ASCII.
use Rattle.std.specs.Prelude.{ℕ, zero, suc, ◌+◌, ◌/◌, ◌%◌, List, [], ◌∷◌, ◌++◌, ltb}
use Rattle.engine_base.specs.Pick.{pick}

-- `0` to `9`
abbrev pub digit : ℕ → ℕ
digit d = 0x30 + d

-- the most significant digit first, no zero in front; at most so many digits
unfoldable pub digits_within : ℕ → ℕ → List ℕ
digits_within zero n = []
digits_within (suc most) n =
    pick (ltb n 10) (digit n ∷ []) (digits_within most (n / 10) ++ (digit (n % 10) ∷ []))

-- 20 digits hold every number below 2 ^ 64
abbrev pub digits_most : ℕ
digits_most = 20

abbrev pub decimal : ℕ → List ℕ
decimal n = digits_within digits_most n
