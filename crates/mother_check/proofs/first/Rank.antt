-- A key that some transpose takes out of the table, the lowest or the highest does.
use Prim.Native.Nat.{ℕ, suc, ◌+◌, ◌-◌, ◌≤◌, ◌<◌}
use mathlib.Core.Bool.{Bool, true, false, cond}
use mathlib.Core.Path.{◌≡◌, refl, sym}
use native.Mathlib.Omega.{arith}
use borrow.Author.Tests.{ltb-true, ltb-false, lt-ltb, le-ltb, leb-true, leb-false}
use lib.Dec.{leb, ltb, eqb}
use lib.IntN.{pos, negsuc, ◌+ℤ◌}
use Rattle.std.specs.Prelude.{Some}
use Rattle.engine_base.specs.Pick.{pick}
use Rattle.engine_base.proofs.Picks.{by-test, false_true}
use Rattle.mother_format.specs.Transpose.{amount_of, rest_key, last_key, in_table, transposed_of}
use Rattle.mother_format.specs.Channel.{sounding_of}
use Rattle.mother_format.specs.declared.command.Kind.{Kind}
use Rattle.mother_format.specs.declared.command.Kind.TheVariants.{Square, Triangle, Noise}
use Rattle.mother_check.specs.Extremes.{rank_of}
use Rattle.mother_check.specs.First.{is_outside}

-- of a sum of key and amount, plus 128
abbrev is_beyond : ℕ → Bool
is_beyond r = pick (ltb r 128) true (ltb (last_key + 128) r)

in_table_lem : (n r : ℕ) → r ≡ n + 128 → is_outside (in_table (pos n)) ≡ is_beyond r
in_table_lem n r e =
    rw (le-ltb r 128 (omega arith))
    (by-test (λ x. is_outside x ≡ ltb (last_key + 128) r) (leb n last_key)
    (λ t. sym (le-ltb (last_key + 128) r (omega (arith, leb-true n last_key t)))) λ t.
    sym (lt-ltb (last_key + 128) r (omega (arith, leb-false n last_key t))))

below : (b k r : ℕ) → r + suc k ≡ b + 128 → is_outside (in_table (pos b +ℤ negsuc k)) ≡ is_beyond r
below b k r e = by (ltb b (suc k)) refl
  where
    by : (t : Bool) → ltb b (suc k) ≡ t → is_outside (in_table (cond t (negsuc (suc k - suc b)) (pos (b - suc k)))) ≡ is_beyond r
    by true t = let h : b < suc k = ltb-true _ _ t in rw (lt-ltb r 128 (omega arith))
    by false t = let h : suc k ≤ b = ltb-false _ _ t in in_table_lem (b - suc k) r (omega arith)

module _ (b m : ℕ) (h : m ≤ 255) where
  sum_outside : is_outside (in_table (pos b +ℤ amount_of m)) ≡ is_beyond (b + rank_of m)
  unfolding amount_of rank_of
  sum_outside = by (ltb m 0x80) refl
    where
      by : (t : Bool) → ltb m 0x80 ≡ t → is_outside (in_table (pos b +ℤ pick t (pos m) (negsuc (m - 0x80)))) ≡ is_beyond (b + pick t (m + 0x80) (0xff - m))
      by true t = in_table_lem (b + m) (b + (m + 0x80)) (omega arith)
      by false t = let least : 0x80 ≤ m = ltb-false _ _ t in below b (m - 0x80) (b + (0xff - m)) (omega arith)

  key_outside : is_outside (transposed_of b m) ≡ pick (eqb b rest_key) false (is_beyond (b + rank_of m))
  unfolding transposed_of
  key_outside = by (eqb b rest_key)
    where
      by : (t : Bool) → is_outside (pick t (Some rest_key) (in_table (pos b +ℤ amount_of m))) ≡ pick t false (is_beyond (b + rank_of m))
      by true = refl
      by false = sum_outside

either_beyond : (b low r high : ℕ) → low ≤ r → r ≤ high → is_beyond (b + r) ≡ true → pick (is_beyond (b + low)) true (is_beyond (b + high)) ≡ true
either_beyond b low r high h k = by (ltb (b + r) 128) refl
  where
    by : (t : Bool) → ltb (b + r) 128 ≡ t → pick t true (ltb (last_key + 128) (b + r)) ≡ true → pick (is_beyond (b + low)) true (is_beyond (b + high)) ≡ true
    by true t e = let less : b + r < 128 = ltb-true _ _ t in rw (lt-ltb (b + low) 128 (omega arith))
    by false t e =
        let least : 128 ≤ b + r = ltb-false _ _ t in
        let more : last_key + 128 < b + r = ltb-true _ _ e in
        let beyond : is_beyond (b + high) ≡ true = rw (le-ltb (b + high) 128 (omega arith)) (lt-ltb (last_key + 128) (b + high) (omega arith)) in
        by-test (λ x. x ≡ true) (is_beyond (b + low)) (λ _. refl) (λ _. beyond)

module _ (b low m high : ℕ) (low_byte : low ≤ 255) (byte : m ≤ 255) (high_byte : high ≤ 255)
    (least : rank_of low ≤ rank_of m) (most : rank_of m ≤ rank_of high) where
  key_extreme : is_outside (transposed_of b m) ≡ true → pick (is_outside (transposed_of b low)) true (is_outside (transposed_of b high)) ≡ true
  key_extreme = rw (key_outside b m byte, key_outside b low low_byte, key_outside b high high_byte) (by (eqb b rest_key))
    where
      by : (t : Bool) → pick t false (is_beyond (b + rank_of m)) ≡ true →
          pick (pick t false (is_beyond (b + rank_of low))) true (pick t false (is_beyond (b + rank_of high))) ≡ true
      by true e = absurd (false_true e)
      by false e = either_beyond b (rank_of low) (rank_of m) (rank_of high) least most e

  pub extreme : (kind : Kind) → is_outside (sounding_of kind b m) ≡ true →
      pick (is_outside (sounding_of kind b low)) true (is_outside (sounding_of kind b high)) ≡ true
  extreme Square e = key_extreme e
  extreme Triangle e = key_extreme e
  extreme Noise e = absurd (false_true e)
