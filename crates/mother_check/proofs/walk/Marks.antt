-- How many marks are not set.
use Prim.Native.Nat.{ℕ, zero, suc, ◌<◌}
use mathlib.Core.Bool.{Bool, true, false}
use mathlib.Core.List.{List, [], ◌∷◌}
use mathlib.Core.Path.{◌≡◌, refl, sym, ap}
use native.Mathlib.Omega.{arith}
use lib.ListN.{length, get_or, set, replicate}
use Rattle.engine_base.proofs.Picks.{false_true}

pub falses : List Bool → ℕ
falses [] = 0
falses (true ∷ marks) = falses marks
falses (false ∷ marks) = suc (falses marks)

pub fewer_falses : (marks : List Bool) (i : ℕ) → i < length marks → get_or marks i false ≡ false →
    falses marks ≡ suc (falses (set marks i true))
unfolding falses
fewer_falses [] i h e = absurd (omega arith)
fewer_falses (true ∷ marks) zero h e = absurd (false_true (sym e))
fewer_falses (false ∷ marks) zero h e = refl
fewer_falses (true ∷ marks) (suc i) h e = fewer_falses marks i (omega arith) e
fewer_falses (false ∷ marks) (suc i) h e = ap suc (fewer_falses marks i (omega arith) e)

pub all_false : (n : ℕ) → falses (replicate n false) ≡ n
unfolding falses
all_false zero = refl
all_false (suc n) = ap suc (all_false n)

pub each_false : (n i : ℕ) → get_or (replicate n false) i false ≡ false
each_false zero i = refl
each_false (suc n) zero = refl
each_false (suc n) (suc i) = each_false n i
