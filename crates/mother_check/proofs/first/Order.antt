-- The first of a list of faults, by their keys.
use Prim.Native.Nat.{ℕ, ◌<◌}
use mathlib.Core.Bool.{Bool, true, false}
use mathlib.Core.List.{List, [], ◌∷◌, ◌++◌}
use mathlib.Core.Path.{◌≡◌, refl, sym, ap, subst, ◌∙◌}
use native.Mathlib.Omega.{arith}
use borrow.Author.Tests.{ltb-true, lt-ltb, le-ltb}
use lib.Dec.{ltb}
use Rattle.std.specs.Prelude.{Option, Some, None}
use Rattle.engine_base.specs.Pick.{pick}
use Rattle.engine_base.proofs.Picks.{by-test, false_true}
use Rattle.mother_check.specs.Faults.{order, position_in, key_of, is_lower, sooner, first_of}
use Rattle.mother_check.specs.First.{then_first}
use Rattle.mother_check.proofs.Member.{In, here, there, in_one}
use Rattle.mother_check.specs.declared.faults.Fault.{Fault}

-- where two keys first differ
data Below : List ℕ → List ℕ → Type 0 where
  by_first : {m n : ℕ} {ms ns : List ℕ} → m < n → Below (m ∷ ms) (n ∷ ns)
  by_rest : {m n : ℕ} {ms ns : List ℕ} → m ≡ n → Below ms ns → Below (m ∷ ms) (n ∷ ns)

lower : {ms ns : List ℕ} → Below ms ns → is_lower ms ns ≡ true
lower (by_first {m} {n} h) = rw (lt-ltb m n h)
lower (by_rest {m} {n} e b) = rw (le-ltb m n (omega arith), le-ltb n m (omega arith)) (lower b)

lower_once : (ms ns : List ℕ) → is_lower ms ns ≡ true → is_lower ns ms ≡ false
lower_once [] ns h = absurd (false_true h)
lower_once (m ∷ ms) [] h = absurd (false_true h)
lower_once (m ∷ ms) (n ∷ ns) h = by (lower_once ms ns) (ltb m n) refl (ltb n m) refl h
  where
    by : (is_lower ms ns ≡ true → is_lower ns ms ≡ false) → (a : Bool) → ltb m n ≡ a → (b : Bool) → ltb n m ≡ b →
        pick a true (pick b false (is_lower ms ns)) ≡ true → pick b true (pick a false (is_lower ns ms)) ≡ false
    by rest true p true q h = absurd (omega (arith, ltb-true m n p, ltb-true n m q))
    by rest true p false q h = refl
    by rest false p true q h = absurd (false_true h)
    by rest false p false q h = rest h

module _ (f g : Fault) where
  pub later_channel : f.channel < g.channel → is_lower (key_of f) (key_of g) ≡ true
  later_channel h = lower {ms = key_of f} {ns = key_of g} (by_first h)

  pub later_place : f.channel ≡ g.channel → f.place < g.place → is_lower (key_of f) (key_of g) ≡ true
  later_place c h = lower {ms = key_of f} {ns = key_of g} (by_rest c (by_first h))

  pub later_at : f.channel ≡ g.channel → f.place ≡ g.place → f.at < g.at → is_lower (key_of f) (key_of g) ≡ true
  later_at c p h = lower {ms = key_of f} {ns = key_of g} (by_rest c (by_rest p (by_first h)))

  pub later_number : f.channel ≡ g.channel → f.place ≡ g.place → f.at ≡ g.at → position_in order f.refusal < position_in order g.refusal →
      is_lower (key_of f) (key_of g) ≡ true
  later_number c p a h = lower {ms = key_of f} {ns = key_of g} (by_rest c (by_rest p (by_rest a (by_first h))))

  pub never_both : is_lower (key_of f) (key_of g) ≡ true → is_lower (key_of g) (key_of f) ≡ false
  never_both h = lower_once (key_of f) (key_of g) h

pub first_found_in : (fs : List Fault) (g : Fault) → first_of fs ≡ Some g → In g fs
unfolding first_of
first_found_in [] g e = let z : ◌≡◌ {A = ℕ} 0 1 = cc in absurd (omega arith)
first_found_in (f ∷ fs) g e = from (first_found_in fs) (first_of fs) refl e
  where
    from : ((x : Fault) → first_of fs ≡ Some x → In x fs) → (r : Option Fault) → first_of fs ≡ r → sooner f r ≡ Some g → In g (f ∷ fs)
    from rest None q e = let same : f ≡ g = cc in subst (λ x. In x (f ∷ fs)) same here
    from rest (Some x) q e =
        let same : pick (is_lower (key_of x) (key_of f)) x f ≡ g = cc in
        subst (λ y. In y (f ∷ fs)) same (by-test (λ y. In y (f ∷ fs)) (is_lower (key_of x) (key_of f)) (λ _. there (rest x q)) (λ _. here))

pub data SameOrLater (f g : Fault) : Type 0 where
  same : g ≡ f → SameOrLater f g
  later : is_lower (key_of f) (key_of g) ≡ true → SameOrLater f g

-- of a list that has f, where every other is the same or later
pub first_is : (f : Fault) (fs : List Fault) → In f fs → ((g : Fault) → In g fs → SameOrLater f g) → first_of fs ≡ Some f
unfolding first_of
first_is f (x ∷ fs) here k = from (first_of fs) refl
  where
    from : (r : Option Fault) → first_of fs ≡ r → sooner f r ≡ Some f
    from None q = refl
    from (Some g) q = by (k g (there (first_found_in fs g q)))
      where
        by : SameOrLater f g → sooner f (Some g) ≡ Some f
        by (same e) = by-test (λ x. Some x ≡ Some f) (is_lower (key_of g) (key_of f)) (λ _. ap Some e) (λ _. refl)
        by (later h) = rw (never_both f g h)
first_is f (x ∷ fs) (there m) k = ap (sooner x) (first_is f fs m (λ g n. k g (there n))) ∙ by (k x here)
  where
    by : SameOrLater f x → sooner x (Some f) ≡ Some f
    by (same e) = by-test (λ y. Some y ≡ Some f) (is_lower (key_of f) (key_of x)) (λ _. refl) (λ _. ap Some e)
    by (later h) = rw h
first_is f [] x'' k = elim x'' [ ]

-- where none of the second list is sooner
pub first_append : (fs gs : List Fault) → ((f g : Fault) → In f fs → In g gs → is_lower (key_of g) (key_of f) ≡ false) →
    first_of (fs ++ gs) ≡ then_first (first_of fs) (first_of gs)
unfolding first_of
first_append [] gs k = refl
first_append (f ∷ fs) gs k =
    ap (sooner f) (first_append fs gs (λ x g m n. k x g (there m) n)) ∙ from (first_of fs) (first_of gs) refl
  where
    from : (r s : Option Fault) → first_of gs ≡ s → sooner f (then_first r s) ≡ then_first (sooner f r) s
    from (Some x) s q = refl
    from None None q = refl
    from None (Some g) q = rw (k f g here (first_found_in gs g q))

-- as the code looks: the first of one list, else of the next
pub then_first_is : (fs gs : List Fault) (r s : Option Fault) → r ≡ first_of fs → s ≡ first_of gs → ((f g : Fault) → In f fs → In g gs → is_lower (key_of f) (key_of g) ≡ true) →
    then_first r s ≡ first_of (fs ++ gs)
then_first_is fs gs r s p q k = rw (p, q) (sym (first_append fs gs (λ f g m n. never_both f g (k f g m n))))

pub each_of : (P : Fault → Type 0) (fs gs : List Fault) → ((f : Fault) → In f fs → P f) → ((f : Fault) → In f gs → P f) → (f : Fault) → In f (fs ++ gs) → P f
each_of P fs gs k l f m = in_one fs (k f) (l f) m
