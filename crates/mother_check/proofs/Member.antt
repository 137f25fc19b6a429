-- What a list holds.
use Prim.Native.Nat.{ℕ}
use mathlib.Core.List.{List, [], ◌∷◌, ◌++◌}
use mathlib.Core.Path.{◌≡◌, refl}
use native.Mathlib.Omega.{arith}

pub data In {A : Type 0} (x : A) : List A → Type 0 where
  here : {xs : List A} → In x (x ∷ xs)
  there : {y : A} {xs : List A} → In x xs → In x (y ∷ xs)

pub in_left : {A : Type 0} {x : A} {xs : List A} (ys : List A) → In x xs → In x (xs ++ ys)
in_left ys here = here
in_left ys (there m) = there (in_left ys m)

pub in_right : {A : Type 0} {x : A} (xs : List A) {ys : List A} → In x ys → In x (xs ++ ys)
in_right [] m = m
in_right (y ∷ xs) m = there (in_right xs m)

pub data Either {A : Type 0} (x : A) (xs ys : List A) : Type 0 where
  left : In x xs → Either x xs ys
  right : In x ys → Either x xs ys

pub in_either : {A : Type 0} {x : A} (xs : List A) {ys : List A} → In x (xs ++ ys) → Either x xs ys
in_either [] m = right m
in_either (y ∷ xs) here = left here
in_either {x = x} (y ∷ xs) {ys} (there m) = from (in_either xs m)
  where
    from : Either x xs ys → Either x (y ∷ xs) ys
    from (left h) = left (there h)
    from (right h) = right h

-- what follows from either
pub in_one : {A P : Type 0} {x : A} (xs : List A) {ys : List A} → (In x xs → P) → (In x ys → P) → In x (xs ++ ys) → P
in_one {A} {P} {x} xs {ys} f g m = from (in_either xs m)
  where
    from : Either x xs ys → P
    from (left i) = f i
    from (right i) = g i

pub none_in : {A P : Type 0} {x : A} → In x [] → P
none_in m = elim m [ ]

pub cons_none : {A : Type 0} {x : A} {xs : List A} → x ∷ xs ≡ [] → ⊥
cons_none e = let z : ◌≡◌ {A = ℕ} 0 1 = cc in omega arith

pub none_both : {A : Type 0} (xs ys : List A) → xs ++ ys ≡ [] → (xs ≡ []) × (ys ≡ [])
none_both [] ys e = (refl, e)
none_both (x ∷ xs) ys e = absurd (cons_none e)
