-- A loop that counts its turns, against a recursion on fuel.
use Prim.Native.Nat.{ℕ, suc, ◌+◌, ◌-◌, ◌<◌}
use mathlib.Core.Path.{◌≡◌, sym, ◌∙◌}
use native.Mathlib.Omega.{arith}

-- a turn: if what is left to run gives the whole, it does so after the step that was taken
pub turn : {S T R : Type 0} (run : ℕ → S → R) (by : (S → R) → S → T → R) (step : S → T) →
    ((fuel : ℕ) (s : S) → run (suc fuel) s ≡ by (run fuel) s (step s)) →
    (s : S) (n fuel : ℕ) (r t : T) (whole : R) → r ≡ step s → r ≡ t → n < fuel → run (fuel - n) s ≡ whole →
    by (run (fuel - (n + 1))) s t ≡ whole
turn run by step unroll s n fuel r t whole e g h w =
    let less : fuel - n ≡ suc (fuel - (n + 1)) = omega arith in
    rw (← g, e) (sym (unroll (fuel - (n + 1)) s) ∙ (rw less at w))
