-- The signed sum of a key byte and a transpose, as the machine reads it back from its 16 bits.
use Prim.Native.Nat.{ℕ, zero, suc, ◌-◌, ◌≤◌, ◌<◌, ◌^◌}
use mathlib.Core.Bool.{Bool, true, false, cond}
use mathlib.Core.Path.{◌≡◌, refl, sym, ap, subst, ◌∙◌}
use native.Mathlib.Nat.{zero-add}
use native.Mathlib.Omega.{arith}
use borrow.Author.Tests.{lt-ltb, le-leb, lt-leb, ne_eqb}
use mir.Syntax.{w16}
use mir.Val.{SFits, to_z, of_z}
use mir.ValLaws.{to_z-of_z}
use lib.Dec.{ltb}
use lib.IntN.{ℤ, pos, negsuc, nat_abs, sub_ℕ, ◌+ℤ◌, ◌-ℤ◌}
use Rattle.mother_format.specs.Transpose.{amount_of, rest_key, last_key, in_table, transposed_of}
use Rattle.engine_base.proofs.Picks.{by-test}
use Rattle.std.specs.Prelude.{Option, Some, None}
use Rattle.std.specs.Int.{FitsUnsignedBits}

pub read_small : (n : ℕ) → n < 256 → to_z w16 n ≡ pos n
read_small n h = let k : n < 2 ^ 15 = omega arith in rw (lt-ltb n (2 ^ 15) k)

pub minus : (m : ℕ) → negsuc 0 -ℤ pos m ≡ negsuc m
minus zero = refl
minus (suc m) = ap (λ n. negsuc (suc n)) (zero-add m)

-- -1 - m, of m as the machine reads it
module _ (m : ℕ) (h : m < 256) where
  minus_is : negsuc 0 -ℤ to_z w16 m ≡ negsuc m
  minus_is = rw (read_small m h) (minus m)

  pub minus_fits : SFits w16 (negsuc 0 -ℤ to_z w16 m)
  minus_fits = subst (SFits w16) (sym minus_is) (record { sfits = omega arith })

  pub read_minus : to_z w16 (of_z w16 (negsuc 0 -ℤ to_z w16 m)) ≡ negsuc m
  read_minus = to_z-of_z w16 _ minus_fits ∙ minus_is

-- a sum by what `u8::try_from` makes of it
pub sounds_byte : (z : ℤ) (n : ℕ) → FitsUnsignedBits 8 z × (n ≡ nat_abs z) → n ≤ last_key → Some n ≡ in_table z
sounds_byte (pos m) n (f, e) h = let k : m ≤ last_key = omega arith in rw (e, le-leb m last_key k)
sounds_byte (negsuc m) n (f, e) h = absurd f

pub too_high : (z : ℤ) (n : ℕ) → FitsUnsignedBits 8 z × (n ≡ nat_abs z) → last_key < n → None ≡ in_table z
too_high (pos m) n (f, e) h = let k : last_key < m = omega arith in rw (lt-leb m last_key k)
too_high (negsuc m) n (f, e) h = absurd f

pub no_byte : (z : ℤ) → (FitsUnsignedBits 8 z → ⊥) → None ≡ in_table z
no_byte (pos m) h = let k : last_key < m = omega (arith, h) in rw (lt-leb m last_key k)
no_byte (negsuc m) h = refl

module _ (b transpose : ℕ) (h : b < 256) (g : transpose < 256) where
  abbrev sum : ℤ
  sum = pos b +ℤ amount_of transpose

  amount_fits : SFits w16 (amount_of transpose)
  unfolding amount_of
  amount_fits = by-test (SFits w16) (ltb transpose 0x80) (λ _. record { sfits = omega arith }) λ _. record { sfits = omega arith }

  less_fits : (m : ℕ) → m < 256 → SFits w16 (sub_ℕ b (suc m))
  less_fits m w = one (ltb b (suc m))
    where
      one : (t : Bool) → SFits w16 (cond t (negsuc (suc m - suc b)) (pos (b - suc m)))
      one true = record { sfits = omega arith }
      one false = record { sfits = omega arith }

  sum_fits : SFits w16 sum
  unfolding amount_of
  sum_fits =
      by-test (λ z. SFits w16 (pos b +ℤ z)) (ltb transpose 0x80) (λ _. record { sfits = omega arith }) λ _.
      less_fits (transpose - 0x80) (omega arith)

  -- r is what `amount` answers
  module _ (r : ℤ) (e : r ≡ amount_of transpose) where
    operands : to_z w16 b +ℤ to_z w16 (of_z w16 r) ≡ sum
    operands = rw (read_small b h, e) (ap (λ z. pos b +ℤ z) (to_z-of_z w16 (amount_of transpose) amount_fits))

    pub add_fits : SFits w16 (to_z w16 b +ℤ to_z w16 (of_z w16 r))
    add_fits = subst (SFits w16) (sym operands) sum_fits

    pub read_sum : to_z w16 (of_z w16 (to_z w16 b +ℤ to_z w16 (of_z w16 r))) ≡ sum
    read_sum = to_z-of_z w16 _ add_fits ∙ operands

    abbrev found : ℤ
    found = to_z w16 (of_z w16 (to_z w16 b +ℤ to_z w16 (of_z w16 r)))

    pub sounds : (s : Option ℕ) → s ≡ in_table found → (b ≡ rest_key → ⊥) → s ≡ transposed_of b transpose
    unfolding transposed_of
    sounds s q n = rw (ne_eqb b rest_key n) (q ∙ ap in_table read_sum)
