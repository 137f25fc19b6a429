-- What `io::decimal` gives is the definition's text.
use Prim.Native.Nat.{ℕ, zero, suc, ◌+◌, ◌-◌, ◌/◌, ◌%◌, ◌^◌, ◌≤◌, ◌<◌}
use mathlib.Core.List.{List, [], ◌∷◌, ◌++◌}
use mathlib.Core.Path.{◌≡◌, ◌∙◌}
use native.Mathlib.Nat.{pow-suc, one-le-pow, mod-lt, mod-eq_of_lt}
use native.Mathlib.Omega.{arith}
use mir.Syntax.{w64}
use mir.Val.{Fits}
use borrow.Author.Tests.{lt-ltb, le-ltb}
use lib.Dec.{ltb}
use lib.ListN.{length, take, length-append}
use Rattle.io.specs.Digits.{last_digits, IsDigitCount}
use Rattle.engine_base.proofs.Picks.{by-test}
use Rattle.metroid_text.specs.Decimal.{digit, digits_within, digits_most, decimal}
use Rattle.metroid_text.specs.Line.{Writes}
use Rattle.metroid_text.specs.declared.line.Line.{Line}

pub digits_short : (most n : ℕ) → length (digits_within most n) ≤ most
unfolding digits_within
digits_short zero n = omega arith
digits_short (suc most) n =
    by-test (λ l. length l ≤ suc most) {x = digit n ∷ []} {y = digits_within most (n / 10) ++ (digit (n % 10) ∷ [])} (ltb n 10)
    (λ _. omega arith)
    (λ _. simp length-append (omega (arith, digits_short most (n / 10))))

-- a number that so many digits hold, with no zero in front
fewest : (most k n : ℕ) → n < 10 ^ suc most → n < 10 ^ suc k → (0 < k → 10 ^ k ≤ n) → last_digits 10 (suc k) n ≡ digits_within (suc most) n
unfolding digits_within
fewest most zero n r h l =
    let s : n < 10 = h in
    rw (mod-eq_of_lt s, lt-ltb n 10 s)
fewest zero (suc k) n r h l =
    let s : n < 10 = r in
    let p = pow-suc 10 k in
    let one : 1 ≤ 10 ^ k = one-le-pow k 10 (omega arith) in
    let low : 10 ^ suc k ≤ n = l (omega arith) in
    absurd (omega arith)
fewest (suc most) (suc k) n r h l =
    let o = pow-suc 10 (suc most) in
    let p = pow-suc 10 k in
    let q = pow-suc 10 (suc k) in
    let one : 1 ≤ 10 ^ k = one-le-pow k 10 (omega arith) in
    let low : 10 ^ suc k ≤ n = l (omega arith) in
    let shorter = fewest most k (n / 10) (omega arith) (omega arith) (λ _. omega arith) in
    rw (shorter, lt-ltb (n % 10) 10 (mod-lt n (omega arith)), le-ltb n 10 (omega arith))

pub fewest_decimal : (n k : ℕ) → Fits w64 n → IsDigitCount 10 1 n k → last_digits 10 k n ≡ decimal n
fewest_decimal n zero h f = absurd (omega arith)
fewest_decimal n (suc k) h f =
    let e : suc k - 1 ≡ k = omega arith in
    fewest 19 k n (omega (arith, h.fits)) f.1 (λ z. rw e at (f.2 (omega arith)))

module _ (n k : ℕ) (bytes : List ℕ) (h : Fits w64 n) (f : IsDigitCount 10 1 n k) (e : take k bytes ≡ last_digits 10 k n) where
  taken : take k bytes ≡ decimal n
  taken = e ∙ fewest_decimal n k h f

  pub decimal_room : (at : ℕ) → at + digits_most < 2 ^ 64 → at + length (take k bytes) < 2 ^ 64
  decimal_room at r = rw taken (omega (arith, digits_short digits_most n))

  pub decimal_writes : {m : ℕ} {before after : Line} → Writes m (take k bytes) before after → Writes digits_most (decimal n) before after
  decimal_writes p = record {
    put = record { size = rw taken at p.put.size; within = digits_short digits_most n; buffer = rw taken at p.put.buffer };
    same = p.same;
  }
