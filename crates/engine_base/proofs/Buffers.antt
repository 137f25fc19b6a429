-- A lent buffer that is filled, as far as the values fit.
use Prim.Native.Nat.{ℕ, suc, ◌+◌, ◌≤◌, ◌<◌}
use mathlib.Core.List.{List, [], ◌∷◌, ◌++◌}
use mathlib.Core.Path.{◌≡◌, refl, sym, ◌∙◌}
use native.Mathlib.Nat.{add-zero, add-suc, suc-add, add_assoc}
use native.Mathlib.Numerals.{add-one}
use native.Mathlib.Omega.{arith}
use lib.ListN.{length, get_or, set, drop, drop_of_length-le, length-set, length-append}
use lib.Seq.{sets, set_out, length-sets, drop-cons}

pub sets_append : {A : Type 0} (l : List A) (i : ℕ) (vs ws : List A) → sets l i (vs ++ ws) ≡ sets (sets l i vs) (i + length vs) ws
sets_append l i [] ws = rw add-zero
sets_append l i (v ∷ vs) ws = rw (add-suc i (length vs), ← suc-add i (length vs)) (sets_append (set l i v) (suc i) vs ws)

-- with n values of the whole written, the rest is still to come
pub record Written (before whole now : List ℕ) (n : ℕ) (rest : List ℕ) : Type 0 where
  pub count : length whole ≡ n + length rest
  pub buffer : sets before 0 whole ≡ sets now n rest
  pub size : length now ≡ length before

pub written_more : {before whole now rest : List ℕ} {n : ℕ} (vs : List ℕ) → Written before whole now n (vs ++ rest) → Written before whole (sets now n vs) (n + length vs) rest
written_more {now = now} {rest = rest} {n = n} vs w =
    record {
      count = omega (arith, w.count, length-append vs rest);
      buffer = w.buffer ∙ sets_append now n vs rest;
      size = length-sets now n vs ∙ w.size;
    }

-- from its end on nothing is written
pub sets_out : {A : Type 0} (l : List A) (i : ℕ) (vs : List A) → length l ≤ i → l ≡ sets l i vs
sets_out l i [] h = refl
sets_out l i (v ∷ vs) h = rw (set_out l i v h) (sets_out l (suc i) vs (omega arith))

-- with i values written from an index on, as far as they fit, the rest is still to come
pub record Filling {A : Type 0} (before : List A) (at : ℕ) (values now : List A) (i : ℕ) : Type 0 where
  pub same : sets before at values ≡ sets now (at + i) (drop i values)
  pub size : length now ≡ length before

module _ {A : Type 0} (before : List A) (at : ℕ) (values now : List A) (i : ℕ) (f : Filling before at values now i) where
  pub filling_more : (d : A) → i < length values → (next : List A) → next ≡ set now (at + i) (get_or values i d) → Filling before at values next (i + 1)
  filling_more d h next e = record {
    same = f.same ∙ rw (drop-cons values i d h, e, ← add-one i, ← add_assoc at i 1, add-one (at + i));
    size = rw e (length-set now (at + i) (get_or values i d) ∙ f.size);
  }

  pub filling_out : length now ≤ at + i → Filling before at values now (i + 1)
  filling_out h = record {
    same = f.same ∙ sym (sets_out now (at + i) (drop i values) h) ∙ sets_out now (at + (i + 1)) (drop (i + 1) values) (omega (arith, h));
    size = f.size;
  }

  pub filled : length values ≤ i → now ≡ sets before at values
  filled h = rw (f.same, drop_of_length-le values {i = i} h)
