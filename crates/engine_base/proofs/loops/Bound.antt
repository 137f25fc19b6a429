-- Loops of one level: how many commands can be read in a row where none is a note. Two bytes make at most 257: a begin, and an end of loop met 256 times.
use Prim.Native.Nat.{ℕ, suc, ◌+◌, ◌-◌, ◌*◌, ◌/◌, ◌%◌, ◌≤◌, ◌<◌}
use mathlib.Core.Path.{◌≡◌, sym, ap, subst, ◌∙◌}
use native.Mathlib.Nat.{mul-suc, mul-zero, suc-mul, add-zero}
use native.Mathlib.Numerals.{add-one}
use native.Mathlib.Omega.{arith}
use lib.Dec.{eqb}
use Rattle.engine_base.specs.Loops.{counter_of}
use Rattle.engine_base.proofs.Picks.{by-test}

pub counter_bound : (n : ℕ) → n < 64 → counter_of n ≤ 255
unfolding counter_of
counter_bound n h = by-test (λ m. m ≤ 255) (eqb n 0) (λ _. omega arith) λ _. omega arith

-- the commands of k bytes at most, where no loop leads back before them
abbrev pub full : ℕ → ℕ
full k = 257 * (k / 2) + k % 2

-- what a command that is no note is to a loop: its begin, its end, or one to pass, with the offset after it
pub data Mark : Type 0 where
  begins : Mark
  ends : Mark
  passes : ℕ → Mark

-- a number for each, so that two of one command are the same
abbrev number_of : Mark → ℕ
number_of begins = 0
number_of ends = 1
number_of (passes after) = after + 2

mul_add_one : (a b : ℕ) → a * (b + 1) ≡ a * b + a
mul_add_one a b = rw (add-one b) (mul-suc a b)

-- a stretch of data up to an offset, by its commands
module _ (mark : ℕ → Mark) (end : ℕ) where
  -- what a command of the stretch does to the next offset, the loop's start and its counter
  pub data Moves (next start counter : ℕ) : ℕ → ℕ → ℕ → Type 0 where
    begin : (n : ℕ) → next < end → mark next ≡ begins → n ≤ 255 → Moves next start counter (next + 1) (next + 1) n
    pass : (after : ℕ) → mark next ≡ passes after → next + 2 ≤ after → after ≤ end → Moves next start counter after start counter
    go_on : next < end → mark next ≡ ends → counter ≡ 0 → Moves next start counter (next + 1) start counter
    go_back : next < end → mark next ≡ ends → 0 < counter → Moves next start counter start start (counter - 1)

  abbrev pub left : ℕ → ℕ
  left at = end - at

  -- passing so many commands leads to an end of loop
  pub data ToEnd (q : ℕ) : ℕ → ℕ → Type 0 where
    here : mark q ≡ ends → ToEnd q q 0
    more : {at after i : ℕ} → mark at ≡ passes after → ToEnd q after i → ToEnd q at (i + 1)

  -- the loop's start is so many passed commands before an offset
  abbrev pub Body : ℕ → ℕ → ℕ → Type 0
  Body start next j = (q i : ℕ) → ToEnd q next i → ToEnd q start (i + j)

  -- in no loop, in the first play of one, or in a later play; and what is left to read at most
  pub data Phase (next start counter : ℕ) : ℕ → Type 0 where
    fresh : counter ≡ 0 → Phase next start counter (full (left next))
    first : (j : ℕ) → counter ≤ 255 → Body start next j → Phase next start counter (full (left next + 1) - 1 + counter * j)
    later : (q i j : ℕ) → q < end → ToEnd q next i → ToEnd q start j → Phase next start counter (i + 1 + counter * (j + 1) + full (left (q + 1)))

  -- at the byte after a begin
  pub begun : (start counter : ℕ) → counter ≤ 255 → Phase start start counter (full (left start + 1) - 1)
  begun start counter h =
      subst (Phase start start counter) (rw (mul-zero counter) (add-zero (full (left start + 1) - 1)))
      (first 0 h (λ q i t. subst (ToEnd q start) (sym (add-zero i)) t))

  pub record Lower (next start counter p : ℕ) : Type 0 where
    pub rest : ℕ
    pub phase : Phase next start counter rest
    pub less : rest < p

  same_mark : {m a b : Mark} → m ≡ a → m ≡ b → number_of a ≡ number_of b
  same_mark e f = ap number_of (sym e ∙ f)

  lower : {next start counter p : ℕ} (rest : ℕ) → Phase next start counter rest → rest < p → Lower next start counter p
  lower rest phase less = record { rest = rest; phase = phase; less = less }

  -- from the first play of a loop back to its start, or from a later one
  back : {q start j counter p : ℕ} → q < end → ToEnd q start j → 0 < counter → counter * (j + 1) + full (left (q + 1)) < p →
      Lower start start (counter - 1) p
  back {q = q} {j = j} {counter = counter} h t c b =
      let e : counter ≡ suc (counter - 1) = omega arith in
      let m : counter * (j + 1) ≡ (counter - 1) * (j + 1) + (j + 1) = subst (λ n. n * (j + 1) ≡ (counter - 1) * (j + 1) + (j + 1)) (sym e) (suc-mul (counter - 1) (j + 1)) in
      lower _ (later q j j h t t) (omega (arith, m, b))

  pub lowers : {next start counter next' start' counter' p : ℕ} → Moves next start counter next' start' counter' → Phase next start counter p →
      Lower next' start' counter' p
  lowers (begin n h m c) (fresh z) = lower _ (begun _ n c) (omega arith)
  lowers (begin n h m c) (first j b body) = lower _ (begun _ n c) (omega arith)
  lowers (begin n h m c) (later q i j g (here e) s) = absurd (omega (arith, same_mark m e))
  lowers (begin n h m c) (later q i j g (more e t) s) = absurd (omega (arith, same_mark m e))
  lowers (pass after m h w) (fresh z) = lower _ (fresh z) (omega arith)
  lowers {counter = counter} (pass after m h w) (first j b body) =
      lower _ (first (j + 1) b (λ q i t. subst (ToEnd q _) (omega arith) (body q (i + 1) (more m t))))
      (omega (arith, mul_add_one counter j))
  lowers (pass after m h w) (later q i j g (here e) s) = absurd (omega (arith, same_mark m e))
  lowers (pass after m h w) (later q i j g (more {after = a} {i = k} e t) s) =
      let same : a ≡ after = omega (arith, same_mark e m) in
      lower _ (later q k j g (subst (λ x. ToEnd q x k) same t) s) (omega arith)
  lowers (go_on h m z) (fresh y) = lower _ (fresh z) (omega arith)
  lowers (go_on h m z) (first j b body) = lower _ (fresh z) (omega arith)
  lowers (go_on h m z) (later q i j g (here e) s) = lower _ (fresh z) (omega arith)
  lowers (go_on h m z) (later q i j g (more e t) s) = absurd (omega (arith, same_mark m e))
  lowers (go_back h m c) (fresh z) = absurd (omega arith)
  lowers {counter = counter} (go_back h m c) (first j b body) = back h (body _ 0 (here m)) c (omega (arith, mul_add_one counter j))
  lowers (go_back h m c) (later q i j g (here e) s) = back g s c (omega arith)
  lowers (go_back h m c) (later q i j g (more e t) s) = absurd (omega (arith, same_mark m e))

  -- a command that can stop the reading counts, so that something is left before it
  pub some_left : {next start counter p : ℕ} → next < end → Phase next start counter p → 0 < p
  some_left h (fresh z) = omega arith
  some_left h (first j b body) = omega arith
  some_left h (later q i j g t s) = omega arith

  -- so many commands in a row
  pub data Row : ℕ → ℕ → ℕ → ℕ → Type 0 where
    none : {next start counter : ℕ} → Row next start counter 0
    then : {next start counter next' start' counter' n : ℕ} → Moves next start counter next' start' counter' → Row next' start' counter' n → Row next start counter (n + 1)

  pub row_bound : {next start counter p n : ℕ} → Phase next start counter p → Row next start counter n → n ≤ p
  row_bound f none = omega arith
  row_bound f (then m r) = let l = lowers m f in omega (arith, l.less, row_bound l.phase r)

  -- entered at a byte in no loop
  pub fresh_bound : {next start counter n : ℕ} → counter ≡ 0 → Row next start counter n → n ≤ full (left next)
  fresh_bound z r = row_bound (fresh z) r

  -- entered anywhere, with any loop: some commands are passed before an end of loop leads back
  pub any_bound : {next start counter n : ℕ} → counter ≤ 255 → Row next start counter n → n ≤ left next / 2 + full (end + 1)
  any_bound b none = omega arith
  any_bound b (then (begin n h m c) r) = omega (arith, row_bound (begun _ n c) r)
  any_bound b (then (pass after m h w) r) = omega (arith, any_bound b r)
  any_bound b (then (go_on h m z) r) = omega (arith, fresh_bound z r)
  any_bound {start = start} b (then (go_back h m c) r) = omega (arith, row_bound (begun start _ (omega arith)) r)
