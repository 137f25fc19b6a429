-- The changes of data to other data of its size: rising, each of a byte to another, and put back they give the data.
use Prim.Native.Nat.{ℕ, ◌+◌, ◌≤◌}
use mathlib.Core.List.{List, [], ◌∷◌, ◌++◌}
use mathlib.Core.Path.{◌≡◌, refl, sym, ap, ◌∙◌}
use native.Mathlib.Omega.{arith}
use borrow.Author.Tests.{eq-eqb, eqb-true, eqb-false}
use lib.Dec.{eqb}
use lib.ListN.{length, length-append}
use lib.Seq.{set_at, append_snoc}
use Rattle.metroid_format.specs.Mend.{Change, change_at, changes_from, changes, put_back, Rising, Differing}
use Rattle.engine_base.proofs.Picks.{by-test}
use Rattle.metroid_format.proofs.mend.Laws.{one_at_most}

pub no_changes : (at : ℕ) (bytes : List ℕ) → changes_from at bytes bytes ≡ []
unfolding changes_from
no_changes at [] = refl
no_changes at (b ∷ bytes) = rw (eq-eqb b b refl) (no_changes (at + 1) bytes)

pub few_changes : (at : ℕ) (before after : List ℕ) → length (changes_from at before after) ≤ length before
unfolding changes_from
few_changes at [] after = omega arith
few_changes at (b ∷ before) [] = omega arith
few_changes at (b ∷ before) (a ∷ after) =
    omega (arith, length-append (change_at at b a) (changes_from (at + 1) before after), one_at_most at b a, few_changes (at + 1) before after)

pub rising : (from at size : ℕ) (before after : List ℕ) → from ≤ at → at + length before ≤ size → Rising from size (changes_from at before after)
unfolding changes_from
rising from at size [] after h n = tt
rising from at size (b ∷ before) [] h n = tt
rising from at size (b ∷ before) (a ∷ after) h n =
    by-test {A = List Change} (λ (cs : List Change). Rising from size (cs ++ changes_from (at + 1) before after)) (eqb b a)
    (λ _. rising from (at + 1) size before after (omega arith) (omega arith))
    (λ _. (h, omega arith, rising (at + 1) (at + 1) size before after (omega arith) (omega arith)))

pub differing : (at : ℕ) (before after : List ℕ) → Differing (changes_from at before after)
unfolding changes_from
differing at [] after = tt
differing at (b ∷ before) [] = tt
differing at (b ∷ before) (a ∷ after) =
    by-test {A = List Change} (λ (cs : List Change). Differing (cs ++ changes_from (at + 1) before after)) (eqb b a)
    (λ _. differing (at + 1) before after)
    (λ e. (eqb-false b a e, differing (at + 1) before after))

-- behind bytes that are put back already
put_back_from : (front : List ℕ) (at : ℕ) (before after : List ℕ) → length front ≡ at → length after ≡ length before → put_back (changes_from at before after) (front ++ after) ≡ front ++ before
unfolding changes_from put_back
put_back_from front at [] [] h n = refl
put_back_from front at [] (a ∷ after) h n = absurd (omega arith)
put_back_from front at (b ∷ before) [] h n = absurd (omega arith)
put_back_from front at (b ∷ before) (a ∷ after) h n =
    let cs = changes_from (at + 1) before after in
    let rest : put_back cs (front ++ b ∷ after) ≡ front ++ b ∷ before =
    ap (put_back cs) (sym (append_snoc front b after))
    ∙ put_back_from (front ++ (b ∷ [])) (at + 1) before after (omega (arith, length-append front (b ∷ []))) (omega arith)
    ∙ append_snoc front b before
    in
    by-test {A = List Change} (λ (ds : List Change). put_back (ds ++ cs) (front ++ a ∷ after) ≡ front ++ b ∷ before) (eqb b a)
    (λ e. rw (← eqb-true b a e) rest)
    (λ _. ap (put_back cs) (set_at front a after b at h) ∙ rest)

pub put_back_lem : (before after : List ℕ) → length after ≡ length before → put_back (changes before after) after ≡ before
put_back_lem before after n = put_back_from [] 0 before after refl n
