-- The walk of a playlist, a word at a time.
use Prim.Native.Nat.{ℕ, suc, ◌+◌, ◌-◌, ◌≤◌, ◌<◌}
use mathlib.Core.Bool.{Bool, true}
use mathlib.Core.List.{List, []}
use mathlib.Core.Path.{◌≡◌, refl, sym, ap, ◌∙◌}
use native.Mathlib.Omega.{arith}
use lib.ListN.{length, length-set}
use Rattle.engine_base.specs.Address.{offset_of}
use Rattle.mother_check.specs.Walk.{word_at, marks_by, marks_at, named_by, named_from}
use Rattle.mother_check.specs.declared.walk.Spot.{Spot}
use Rattle.mother_check.specs.declared.walk.Word.{Word}

marks_length : (marks : List Bool) (word : Word) → length (marks_by marks word) ≡ length marks
marks_length marks Word.Done = refl
marks_length marks Word.Bad = refl
marks_length marks (Word.Goto spot) = length-set marks (offset_of spot.list) true
marks_length marks (Word.Block address spot) = refl

-- word and after are what `word_at` answers and leaves
module _ (bank : List ℕ) (most : ℕ) (spot : Spot) (marks : List Bool) (n : ℕ) where
  pub names_none : most ≤ n → named_from bank (most - n) spot marks n ≡ []
  unfolding named_from
  names_none h = let none : most - n ≡ 0 = omega arith in rw none

  module _ (word : Word) (after : List Bool) (q : (word ≡ word_at bank spot marks) × (after ≡ marks_at bank spot marks)) where
    pub names_step : n < most → (x : Word) → word ≡ x →
        named_from bank (most - n) spot marks n ≡ named_by n (λ next. named_from bank (most - (n + 1)) next after (n + 1)) x
    unfolding named_from
    names_step h x e =
        let less : most - n ≡ suc (most - (n + 1)) = omega arith in
        rw (less, q.1, sym q.0 ∙ e)

    pub still_marked : (k : ℕ) → length marks ≡ k → length after ≡ k
    still_marked k l = ap {B = ℕ} length q.1 ∙ marks_length marks (word_at bank spot marks) ∙ l
