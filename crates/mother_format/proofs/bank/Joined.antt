-- Two banks one after the other: bytes, words and parts of them by offset.
use Prim.Native.Nat.{ℕ, zero, suc, ◌+◌, ◌-◌, ◌*◌, ◌≤◌, ◌<◌}
use mathlib.Core.Bool.{Bool, true, false}
use mathlib.Core.List.{List, [], ◌∷◌, ◌++◌}
use mathlib.Core.Path.{◌≡◌, refl, ap}
use native.Mathlib.Nat.{sub-zero, le_of_suc-le-suc}
use native.Mathlib.Omega.{arith}
use lib.ListN.{length, get_or, take, drop, get_or-append, length-take}
use lib.Seq.{take-nil}
use Rattle.engine_base.specs.Pick.{pick}
use Rattle.engine_base.specs.Bytes.{word_at}
use Rattle.mother_format.specs.Bank.{block_limit, block_of}

pub byte_right : (a b : List ℕ) (n : ℕ) → length a ≤ n → get_or (a ++ b) n 0 ≡ get_or b (n - length a) 0
byte_right [] b n h = rw (sub-zero n)
byte_right (x ∷ a) b zero h = absurd (omega arith)
byte_right (x ∷ a) b (suc n) h =
    let e : suc n - suc (length a) ≡ n - length a = omega arith in
    rw e (byte_right a b n (le_of_suc-le-suc h))

module _ (a b : List ℕ) (at : ℕ) where
  pub word_left : at + 1 < length a → word_at (a ++ b) at ≡ word_at a at
  unfolding word_at
  word_left h = rw (get_or-append a b 0 at (omega arith), get_or-append a b 0 (at + 1) h)

  pub word_right : length a ≤ at → word_at (a ++ b) at ≡ word_at b (at - length a)
  unfolding word_at
  word_right h =
      let e : at + 1 - length a ≡ at - length a + 1 = omega arith in
      rw (byte_right a b at h, byte_right a b (at + 1) (omega arith), e)

  pub word_across : at < length a → length a ≤ at + 1 → word_at (a ++ b) at ≡ get_or a at 0 + 256 * get_or b 0 0
  unfolding word_at
  word_across h w =
      let e : at + 1 - length a ≡ 0 = omega arith in
      rw (get_or-append a b 0 at h, byte_right a b (at + 1) w, e)

pub drop_right : (a b : List ℕ) (at : ℕ) → length a ≤ at → drop at (a ++ b) ≡ drop (at - length a) b
drop_right [] b at h = rw (sub-zero at)
drop_right (x ∷ a) b zero h = absurd (omega arith)
drop_right (x ∷ a) b (suc at) h =
    let e : suc at - suc (length a) ≡ at - length a = omega arith in
    rw e (drop_right a b at (le_of_suc-le-suc h))

pub drop_left : (a b : List ℕ) (at : ℕ) → at ≤ length a → drop at (a ++ b) ≡ drop at a ++ b
drop_left a b zero h = refl
drop_left [] b (suc at) h = absurd (omega arith)
drop_left (x ∷ a) b (suc at) h = drop_left a b at (le_of_suc-le-suc h)

pub take_both : (a b : List ℕ) (n : ℕ) → take n (a ++ b) ≡ take n a ++ take (n - length a) b
take_both [] b n = rw (sub-zero n, take-nil {A = ℕ} n)
take_both (x ∷ a) b zero = let e : 0 - suc (length a) ≡ 0 = omega arith in rw e
take_both (x ∷ a) b (suc n) =
    let e : suc n - suc (length a) ≡ n - length a = omega arith in
    rw e (ap {B = List ℕ} (λ r. x ∷ r) (take_both a b n))

cut : (t : Bool) (n : ℕ) (a b : List ℕ) → length (pick t (take n a) (take n b)) ≤ n
cut true n a b = rw (length-take n a) (omega arith)
cut false n a b = rw (length-take n b) (omega arith)

-- a block has at most 256 bytes
pub block_within : (bank8 banka : List ℕ) (address : ℕ) → length (block_of bank8 banka address) ≤ block_limit
unfolding block_of
block_within bank8 banka address = search cut depth 4
