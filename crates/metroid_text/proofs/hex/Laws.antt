-- What `io::hex` gives of a number's last 16 bits is the definition's text.
use Prim.Native.Nat.{ℕ, ◌+◌, ◌-◌, ◌/◌, ◌%◌, ◌^◌, ◌≤◌, ◌<◌}
use mathlib.Core.Bool.{Bool, true, false}
use mathlib.Core.List.{List}
use mathlib.Core.Path.{◌≡◌, refl, ◌∙◌}
use native.Mathlib.Nat.{pow-le-pow_right, mod-lt}
use native.Mathlib.Omega.{arith}
use borrow.Author.Tests.{leb-true, leb-false}
use lib.Dec.{leb}
use lib.ListN.{length, take}
use Rattle.io.specs.Digits.{last_digits, IsDigitCount}
use Rattle.metroid_text.specs.Hex.{hex_digits, hex}
use Rattle.metroid_text.specs.Line.{Writes}
use Rattle.metroid_text.specs.declared.line.Line.{Line}

low_digits : (n : ℕ) → last_digits 16 hex_digits (n % 65536) ≡ hex n
low_digits n =
    let first : n % 65536 / 16 / 16 / 16 % 16 ≡ n / 16 / 16 / 16 % 16 = omega arith in
    let second : n % 65536 / 16 / 16 % 16 ≡ n / 16 / 16 % 16 = omega arith in
    let third : n % 65536 / 16 % 16 ≡ n / 16 % 16 = omega arith in
    let last : n % 65536 % 16 ≡ n % 16 = omega arith in
    rw (first, second, third, last)

module _ (n k : ℕ) (bytes : List ℕ) (f : IsDigitCount 16 hex_digits (n % 65536) k) (e : take k bytes ≡ last_digits 16 k (n % 65536)) where
  four : k ≡ hex_digits
  four = one (leb k 4) refl
    where
      one : (b : Bool) → leb k 4 ≡ b → k ≡ hex_digits
      one true h = omega (arith, leb-true k 4 h, f.0)
      one false h =
          let more : 4 < k = leb-false k 4 h in
          let high : 65536 ≤ 16 ^ (k - 1) = pow-le-pow_right {n = 16} (omega arith) {i = 4} {j = k - 1} (omega arith) in
          absurd (omega (arith, f.2 more, mod-lt n {m = 65536} (omega arith)))

  taken : take k bytes ≡ hex n
  taken = e ∙ rw four (low_digits n)

  pub hex_room : (at : ℕ) → at + hex_digits < 2 ^ 64 → at + length (take k bytes) < 2 ^ 64
  hex_room at r = rw taken r

  pub hex_writes : {m : ℕ} {before after : Line} → Writes m (take k bytes) before after → Writes hex_digits (hex n) before after
  hex_writes p = record {
    put = record { size = rw taken at p.put.size; within = omega arith; buffer = rw taken at p.put.buffer };
    same = p.same;
  }
