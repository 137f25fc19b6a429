-- The counts and offsets of reading and writing stay within the limit.
use Prim.Native.Nat.{ℕ, zero, suc, ◌+◌, ◌/◌, ◌≤◌}
use mathlib.Core.Bool.{Bool, true, false}
use mathlib.Core.List.{List}
use mathlib.Core.Path.{◌≡◌, refl, subst}
use native.Mathlib.Omega.{arith}
use borrow.Author.Tests.{leb-true}
use lib.Dec.{leb, eqb}
use lib.ListN.{length, get_or, take, length-take}
use Rattle.std.specs.Prelude.{Ok, Err}
use Rattle.metroid_format.specs.Command.{is_note, note_after, command_of, command_at, word_of, is_end, Decoded, Finish}
use Rattle.metroid_format.specs.Words.{Straight, straight, straight_from, straight_by, after_command, finished, read_words, Unreadable, is_10, is_11, is_15, ReadWithin, encoded, write_words, WroteWithin, is_17, is_18}
use Rattle.metroid_format.specs.declared.command.Kind.{Kind}
use Rattle.engine_base.proofs.Picks.{by-test}
use Rattle.metroid_format.proofs.command.Laws.{found, refused_near, next_within}

abbrev Shown : Decoded → Type 0
Shown (Ok (c, next)) = Unit {0}
Shown (Err (refusal, at)) = Unreadable refusal

-- a command's bytes show no other refusal
shown : (kind : Kind) (bytes : List ℕ) (at : ℕ) → Shown (command_at kind bytes at)
unfolding command_at command_of note_after
shown kind bytes at =
    by-test Shown (leb (length bytes) at) (λ _. is_15)
    (λ _. by-test Shown (eqb (get_or bytes at 0) 0x00) (λ _. tt)
    (λ _. by-test Shown (eqb (get_or bytes at 0) 0xff) (λ _. tt)
    (λ _. by-test Shown (eqb (get_or bytes at 0 / 64) 3) (λ _. tt)
    (λ _. by-test Shown (eqb (get_or bytes at 0 / 16) 0x0b)
    (λ _. by-test Shown (leb (length bytes) (at + 1)) (λ _. is_15)
    (λ _. by-test Shown (is_note kind (get_or bytes (at + 1) 0)) (λ _. tt) (λ _. is_11)))
    (λ _. by-test Shown (leb 0x80 (get_or bytes at 0)) (λ _. is_10)
    (λ _. by-test Shown (is_note kind (get_or bytes at 0)) (λ _. tt) (λ _. is_11)))))))

abbrev Near : ℕ → Finish → Type 0
Near limit (Ok passed) = Unit {0}
Near limit (Err (refusal, at)) = Unreadable refusal × (at ≤ limit)

module _ (kind : Kind) (bytes : List ℕ) where
  -- at most so many words, and a refusal within the data
  record Short (left : ℕ) (s : Straight) : Type 0 where
    words_few : length s.words ≤ left
    finish_near : Near (length bytes) s.finish

  module _ (at left : ℕ) (h : at ≤ length bytes) (go : ℕ → Straight) (rest : (next : ℕ) → next ≤ length bytes → Short left (go next)) where
    short_after : (b : Bool) (w next : ℕ) → next ≤ length bytes → Short (suc left) (after_command b w next (go next))
    short_after true w next n = record { words_few = omega arith; finish_near = tt }
    short_after false w next n =
        let r = rest next n in
        record { words_few = omega (arith, r.words_few); finish_near = r.finish_near }

    short_by : (d : Decoded) → command_at kind bytes at ≡ d → Short (suc left) (straight_by at go d)
    short_by (Ok (c, next)) e = short_after (is_end c) (word_of c) next (next_within (found kind bytes at e))
    short_by (Err (refusal, offset)) e =
        let near = (refused_near kind bytes at e).0 in
        record { words_few = omega arith; finish_near = (subst Shown e (shown kind bytes at), omega arith) }

  short : (left at : ℕ) → at ≤ length bytes → Short left (straight_from kind bytes left at)
  unfolding straight_from
  short zero at h = record { words_few = omega arith; finish_near = (is_15, h) }
  short (suc left) at h = short_by at left h (λ next. straight_from kind bytes left next) (λ next n. short left next n) (command_at kind bytes at) refl

finished_within : (limit n m : ℕ) (f : Finish) → n ≤ limit → m ≤ limit → Near m f → ReadWithin limit (finished n f)
finished_within limit n m (Ok passed) h g w = h
finished_within limit n m (Err (refusal, at)) h g (u, w) = (u, omega arith)

pub read_within : (limit : ℕ) (kind : Kind) (bytes : List ℕ) (room : ℕ) → ReadWithin limit (read_words limit kind bytes room)
unfolding read_words
read_within limit kind bytes room =
    let part = take limit bytes in
    let l : length part ≤ limit = omega (arith, length-take limit bytes) in
    let s = short kind part (length part) 0 (omega arith) in
    by-test (ReadWithin limit) (leb (length (straight kind part).words) room)
    (λ _. finished_within limit (length (straight kind part).words) (length part) (straight kind part).finish (omega (arith, s.words_few)) l s.finish_near)
    (λ _. tt)

pub wrote_within : (limit : ℕ) (kind : Kind) (words : List ℕ) (room : ℕ) → WroteWithin limit (write_words limit kind words room)
unfolding write_words
wrote_within limit kind words room =
    let n = length (encoded kind words).bytes in
    by-test (WroteWithin limit) (encoded kind words).valid
    (λ _. by-test (WroteWithin limit) (leb n room)
    (λ _. by-test (WroteWithin limit) (leb n limit) (λ l. leb-true n limit l) (λ _. is_18))
    (λ _. is_18))
    (λ _. is_17)
