-- Two lists of four, the channels of a header and of a record, gone through together, and four counts.
use Prim.Native.Nat.{ℕ, zero, suc, ◌+◌, ◌≤◌, ◌<◌}
use mathlib.Core.Bool.{Bool, true, false, ◌&&◌}
use mathlib.Core.List.{List, [], ◌∷◌}
use mathlib.Core.Path.{◌≡◌, refl, sym, ap, ◌∙◌}
use native.Mathlib.Omega.{arith}
use native.Mathlib.Numerals.{add-one}
use lib.ListN.{length, get_or, set, drop, drop_of_length-le}
use lib.Seq.{sets, drop-cons, drop-drop, drop-set-lt}
use Rattle.std.specs.List.{list_all, zip}
use Rattle.engine_base.specs.Pick.{pick}
use Rattle.engine_base.specs.Channels.{four, AtMost}

pub drop_next : {A : Type 0} (l : List A) (i : ℕ) (d : A) → length l ≡ 4 → i < 4 → drop i l ≡ get_or l i d ∷ drop (i + 1) l
drop_next l i d four h =
    let c : i < length l = omega (arith, four) in
    rw add-one (drop-cons l i d c)

-- the second list is rewritten as it is gone through: behind the i-th place it is what was given
module _ {A : Type 0} (given now : List A) (i : ℕ) (rest : drop i now ≡ drop i given) where
  pub rest_next : drop (i + 1) now ≡ drop (i + 1) given
  rest_next = sym (drop-drop 1 i now) ∙ ap (drop 1) rest ∙ drop-drop 1 i given

  pub given_next : (d : A) → length now ≡ 4 → i < 4 → drop i given ≡ get_or now i d ∷ drop (i + 1) given
  given_next d four h = sym rest ∙ drop_next now i d four h ∙ rw rest_next

  pub rest_set : (a : A) → drop (i + 1) (set now i a) ≡ drop (i + 1) given
  rest_set a = drop-set-lt (i + 1) now i a (omega arith) ∙ rest_next

-- a test of two lists, pair by pair as far as both go, against all the pairs at once
pub all_zipped : {A B : Type 0} (fits : A → B → Bool) (all : List A → List B → Bool) →
    ((cs : List B) → all [] cs ≡ true) → ((v : A) (vs : List A) → all (v ∷ vs) [] ≡ true) →
    ((v : A) (vs : List A) (c : B) (cs : List B) → all (v ∷ vs) (c ∷ cs) ≡ pick (fits v c) (all vs cs) false) →
    (vs : List A) (cs : List B) → list_all (λ (p : A × B). fits p.0 p.1) (zip vs cs) ≡ all vs cs
all_zipped fits all none some each [] cs = sym (none cs)
all_zipped fits all none some each (v ∷ vs) [] = sym (some v vs)
all_zipped fits all none some each (v ∷ vs) (c ∷ cs) =
    both_pick (fits v c) _ _ (all_zipped fits all none some each vs cs) ∙ sym (each v vs c cs)
  where
    both_pick : (a b c : Bool) → b ≡ c → (a && b) ≡ pick a c false
    both_pick true b c e = e
    both_pick false b c e = refl

-- a test of both, pair by pair, from the i-th place on
pub record Fitting {A B : Type 0} (all : List A → List B → Bool) (vs : List A) (cs : List B) (i : ℕ) : Type 0 where
  pub within : i ≤ 4
  pub voices : length vs ≡ 4
  pub channels : length cs ≡ 4
  pub same : all vs cs ≡ all (drop i vs) (drop i cs)

module _ {A B : Type 0} (all : List A → List B → Bool) (vs : List A) (cs : List B) (i : ℕ) (m : Fitting all vs cs i) where
  module _ (fits : A → B → Bool) (each : (v : A) (vs : List A) (c : B) (cs : List B) → all (v ∷ vs) (c ∷ cs) ≡ pick (fits v c) (all vs cs) false) (h : i < 4) (dv : A) (dc : B) (r : Bool) (q : r ≡ fits (get_or vs i dv) (get_or cs i dc)) where
    fit_next : all vs cs ≡ pick r (all (drop (i + 1) vs) (drop (i + 1) cs)) false
    fit_next = m.same ∙ rw (drop_next vs i dv m.voices h, drop_next cs i dc m.channels h, q) (each _ _ _ _)

    pub fit_more : r ≡ true → Fitting all vs cs (i + 1)
    fit_more t = record { within = omega arith; voices = m.voices; channels = m.channels; same = fit_next ∙ rw t }

    pub fit_not : r ≡ false → false ≡ all vs cs
    fit_not f = sym (fit_next ∙ rw f)

  pub fit_all : ((cs : List B) → all [] cs ≡ true) → 4 ≤ i → true ≡ all vs cs
  fit_all none h =
      let v : length vs ≤ i = omega (arith, m.voices) in
      sym (m.same ∙ rw (drop_of_length-le vs v) (none _))

-- counts of which none is above a number
module _ (most : ℕ) where
  set_most : (ns : List ℕ) (i n : ℕ) → n ≤ most → AtMost most ns → AtMost most (set ns i n)
  set_most [] i n h a = tt
  set_most (m ∷ ns) zero n h (l, a) = (h, a)
  set_most (m ∷ ns) (suc i) n h (l, a) = (l, set_most ns i n h a)

  pub sets_most : (ns : List ℕ) (i : ℕ) (read : List ℕ) → AtMost most read → AtMost most ns → AtMost most (sets ns i read)
  sets_most ns i [] r a = a
  sets_most ns i (n ∷ read) (h, r) a = sets_most (set ns i n) (suc i) read r (set_most ns i n h a)

  pub none_most : AtMost most (four 0)
  none_most = (omega arith, (omega arith, (omega arith, (omega arith, tt))))
