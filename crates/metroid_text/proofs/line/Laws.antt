-- Texts put one behind the other.
use Prim.Native.Nat.{ℕ, ◌+◌, ◌*◌, ◌≤◌, ◌<◌}
use mathlib.Core.List.{List, [], ◌++◌}
use mathlib.Core.Path.{◌≡◌, sym, ◌∙◌}
use native.Mathlib.Nat.{mul-suc}
use native.Mathlib.Numerals.{add-one}
use native.Mathlib.Omega.{arith}
use lib.ListN.{length, get_or, take, drop, drop_of_length-le, length-append}
use lib.Seq.{sets, length-sets, sets-eq, take_at, drop-cons}
use Rattle.engine_base.proofs.Buffers.{sets_append}
use Rattle.metroid_text.specs.declared.line.Line.{Line}
use Rattle.metroid_text.specs.Line.{each, line_most, Spells, Writes}

module _ {m n : ℕ} {a b : List ℕ} {before mid after : Line} where
  pub writes_then : Writes m a before mid → Writes n b mid after → Writes (m + n) (a ++ b) before after
  writes_then p q = record {
    put = record {
      size = omega (arith, length-append a b, p.put.size, q.put.size);
      within = omega (arith, length-append a b, p.put.within, q.put.within);
      buffer = q.put.buffer ∙ rw (p.put.buffer, p.put.size) (sym (sets_append before.out.now before.at a b));
    };
    same = q.same ∙ p.same;
  }

module _ {m : ℕ} {text : List ℕ} {before after : Line} (p : Writes m text before after) where
  pub writes_within : {n : ℕ} → m ≤ n → Writes n text before after
  writes_within h = record {
    put = record { size = p.put.size; within = omega (arith, p.put.within); buffer = p.put.buffer };
    same = p.same;
  }

  pub spelled : {bytes : List ℕ} → before.at ≡ 0 → bytes ≡ after.out.now → m ≤ line_most → Spells text before.out.now after.at bytes
  spelled z e h = record {
    size = omega (arith, z, p.put.size);
    most = omega (arith, z, p.put.size, p.put.within);
    buffer = e ∙ rw z at p.put.buffer;
  }

-- a buffer of line_most bytes holds the line whole
pub spelled_whole : {line before after : List ℕ} {count : ℕ} → Spells line before count after → line_most ≤ length before → take count after ≡ line
spelled_whole {line} {before} {after} {count} s h =
    let fits : 0 + length line ≤ length before = omega (arith, s.size, s.most) in
    rw (s.buffer, sets-eq line before 0 fits) (take_at line (drop (0 + length line) before) count (omega (arith, s.size)))

-- with the texts of i items written, the rest is still to come
pub record Putting {A : Type 0} (m : ℕ) (text : A → List ℕ) (xs : List A) (before now : Line) (i : ℕ) : Type 0 where
  pub within : i ≤ length xs
  pub reached : now.at ≤ before.at + m * i
  pub count : before.at + length (each text xs) ≡ now.at + length (each text (drop i xs))
  pub buffer : sets before.out.now before.at (each text xs) ≡ sets now.out.now now.at (each text (drop i xs))
  pub size : length now.out.now ≡ length before.out.now
  pub same : now.out.ghost_name ≡ before.out.ghost_name

module _ {A : Type 0} {m : ℕ} {text : A → List ℕ} {xs : List A} {before now : Line} {i : ℕ} (p : Putting m text xs before now i) where
  pub putting_more : i < length xs → (d : A) {after : Line} → Writes m (text (get_or xs i d)) now after → Putting m text xs before after (i + 1)
  unfolding each
  putting_more h d {after} w =
      let q = w.put in
      let one = text (get_or xs i d) in
      let rest = each text (drop (i + 1) xs) in
      let e : each text (drop i xs) ≡ one ++ rest = rw (add-one i, drop-cons xs i d h) in
      record {
        within = omega arith;
        reached = rw (add-one i, mul-suc m i) (omega (arith, p.reached, q.size, q.within));
        count = p.count ∙ rw (e, length-append one rest, q.size) (omega arith);
        buffer = p.buffer ∙ rw (e, q.buffer, q.size) (sets_append now.out.now now.at one rest);
        size = rw q.buffer (length-sets now.out.now now.at one ∙ p.size);
        same = w.same ∙ p.same;
      }

  pub putting_done : length xs ≤ i → Writes (m * length xs) (each text xs) before now
  unfolding each
  putting_done h =
      let n : i ≡ length xs = omega (arith, p.within) in
      let none : drop i xs ≡ [] = drop_of_length-le xs {i = i} h in
      let size : before.at + length (each text xs) ≡ now.at + 0 = p.count ∙ rw none in
      record {
        put = record {
          size = omega arith;
          within = rw (← n) (omega (arith, p.reached));
          buffer = sym (p.buffer ∙ rw none);
        };
        same = p.same;
      }
