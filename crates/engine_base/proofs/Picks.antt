-- Which side a `pick` takes, from the fact behind its test: the set `picks` closes a return after a chain of tests.
use Prim.Native.Nat.{ℕ, ◌≤◌, ◌<◌}
use mathlib.Core.Bool.{Bool, true, false, not}
use mathlib.Core.Path.{◌≡◌, refl, sym, ap, subst, ◌∙◌}
use borrow.Author.Tests.{eq-eqb, ne_eqb, le-leb, lt-leb, lt-ltb, le-ltb, not-true, not-false}
use lib.Dec.{T, eqb, leb, ltb}
use Rattle.std.specs.Prelude.{Result, Ok, Err}
use Rattle.engine_base.specs.declared.refusal.Refusal.{Refusal}
use Rattle.engine_base.specs.Pick.{pick}
use Rattle.engine_base.specs.Told.{Told, Answers}

pub pick_true : {A : Type 0} (b : Bool) (x y z : A) → b ≡ true → z ≡ x → z ≡ pick b x y
pick_true b x y z h e = rw h e

pub pick_false : {A : Type 0} (b : Bool) (x y z : A) → b ≡ false → z ≡ y → z ≡ pick b x y
pick_false b x y z h e = rw h e

pub pick_eq : {A : Type 0} (m n : ℕ) (x y z : A) → m ≡ n → z ≡ x → z ≡ pick (eqb m n) x y
pick_eq m n x y z h e = pick_true (eqb m n) x y z (eq-eqb m n h) e

pub pick_ne : {A : Type 0} (m n : ℕ) (x y z : A) → (m ≡ n → ⊥) → z ≡ y → z ≡ pick (eqb m n) x y
pick_ne m n x y z h e = pick_false (eqb m n) x y z (ne_eqb m n h) e

pub pick_le : {A : Type 0} (m n : ℕ) (x y z : A) → m ≤ n → z ≡ x → z ≡ pick (leb m n) x y
pick_le m n x y z h e = pick_true (leb m n) x y z (le-leb m n h) e

pub pick_gt : {A : Type 0} (m n : ℕ) (x y z : A) → n < m → z ≡ y → z ≡ pick (leb m n) x y
pick_gt m n x y z h e = pick_false (leb m n) x y z (lt-leb m n h) e

pub pick_lt : {A : Type 0} (m n : ℕ) (x y z : A) → m < n → z ≡ x → z ≡ pick (ltb m n) x y
pick_lt m n x y z h e = pick_true (ltb m n) x y z (lt-ltb m n h) e

pub pick_ge : {A : Type 0} (m n : ℕ) (x y z : A) → n ≤ m → z ≡ y → z ≡ pick (ltb m n) x y
pick_ge m n x y z h e = pick_false (ltb m n) x y z (le-ltb m n h) e

-- the last of a row of tests is the answer
pub pick_last : (r b : Bool) → r ≡ b → r ≡ pick b true false
pick_last r true e = e
pick_last r false e = e

-- the test is what a call returned
pub pick_yes : {A : Type 0} (r b : Bool) (x y z : A) → r ≡ b → r ≡ true → z ≡ x → z ≡ pick b x y
pick_yes r b x y z q h e = pick_true b x y z (sym q ∙ h) e

pub pick_not : {A : Type 0} (r b : Bool) (x y z : A) → r ≡ b → r ≡ false → z ≡ y → z ≡ pick b x y
pick_not r b x y z q h e = pick_false b x y z (sym q ∙ h) e

-- the code tests that a call returned false
pub pick_denied : {A : Type 0} (r b : Bool) (x y z : A) → r ≡ b → not r ≡ true → z ≡ y → z ≡ pick b x y
pick_denied r b x y z q h e = pick_false b x y z (sym q ∙ not-true r h) e

pub pick_granted : {A : Type 0} (r b : Bool) (x y z : A) → r ≡ b → not r ≡ false → z ≡ x → z ≡ pick b x y
pick_granted r b x y z q h e = pick_true b x y z (sym q ∙ not-false r h) e

-- the test is of a number that a call returned
pub pick_call_eq : {A : Type 0} (r m n : ℕ) (x y z : A) → r ≡ m → r ≡ n → z ≡ x → z ≡ pick (eqb m n) x y
pick_call_eq r m n x y z q h e = pick_eq m n x y z (sym q ∙ h) e

pub pick_call_ne : {A : Type 0} (r m n : ℕ) (x y z : A) → r ≡ m → (r ≡ n → ⊥) → z ≡ y → z ≡ pick (eqb m n) x y
pick_call_ne r m n x y z q h e = pick_ne m n x y z (λ f. h (q ∙ f)) e

-- what holds of both sides holds of the pick
pub by-test {κ} : {A : Type 0} (P : A → Type κ) {x y : A} (b : Bool) → (b ≡ true → P x) → (b ≡ false → P y) → P (pick b x y)
by-test P true f g = f refl
by-test P false f g = g refl

-- a refusal
abbrev is_refused : {A : Type 0} → Result A Refusal → Type 0
is_refused (Ok given) = ⊥
is_refused (Err refusal) = Unit {0}

-- both of two tests hold
pub both : (a b : Bool) → pick a b false ≡ true → (a ≡ true) × (b ≡ true)
both true b e = (refl, e)
both false b e = absurd (subst T (sym e) tt)

-- what is not refused has passed the test, or is none that a test refuses where it holds
pub refused_given : {A : Type 0} (refusal : Refusal) (given : A) → Err refusal ≡ Ok given → ⊥
refused_given refusal given e = subst is_refused e tt

pub passed : {A : Type 0} {given : A} (test : Bool) (refusal : Refusal) (rest : Result A Refusal) → pick test rest (Err refusal) ≡ Ok given →
    (test ≡ true) × (rest ≡ Ok given)
passed true refusal rest e = (refl, e)
passed false refusal rest e = absurd (refused_given refusal _ e)

pub unpassed : {A : Type 0} {given : A} (test : Bool) (refusal : Refusal) (rest : Result A Refusal) → pick test (Err refusal) rest ≡ Ok given →
    test ≡ false
unpassed true refusal rest e = absurd (refused_given refusal _ e)
unpassed false refusal rest e = refl

pub false_true : false ≡ true → ⊥
false_true e = subst T (sym e) tt

pub answers : {A : Type 0} (told : A → Told) (r d : A) → r ≡ d → Answers told r d
answers told r d e = record { same = e; tells = ap told e }

pub ruleset picks = (pick_eq, pick_ne, pick_le, pick_gt, pick_yes, pick_not, pick_call_eq, pick_call_ne, pick_true, pick_false, refl, answers)

-- for a row of tests, each of which refuses
pub ruleset guards = (pick_eq, pick_ne, pick_le, pick_gt, pick_lt, pick_ge, pick_denied, pick_granted, pick_yes, pick_not, pick_last, refl)
