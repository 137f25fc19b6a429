-- What stands where a command is found, and the other way round.
use Prim.Native.Nat.{ℕ, suc, ◌+◌, ◌-◌, ◌*◌, ◌/◌, ◌%◌, ◌≤◌, ◌<◌, max}
use mathlib.Core.Bool.{true}
use mathlib.Core.List.{List}
use mathlib.Core.Path.{◌≡◌, refl, sym, ap, subst, ◌∙◌}
use native.Mathlib.Nat.{add-zero}
use native.Mathlib.Numerals.{add-one}
use native.Mathlib.Omega.{arith}
use borrow.Author.Tests.{eqb-true, eqb-false, leb-true, leb-false, lt-leb}
use lib.Dec.{leb, eqb}
use lib.ListN.{length, get_or, take, drop}
use lib.Seq.{drop-cons}
use Rattle.std.specs.Prelude.{Ok, Err}
use Rattle.engine_base.specs.Bytes.{word_at}
use Rattle.engine_base.specs.Refusal.{number_of, FaultWithin}
use Rattle.engine_base.specs.declared.refusal.Refusal.{Refusal}
use Rattle.engine_base.specs.declared.refusal.Refusal.TheVariants.{PastData, InvalidCommand, InvalidNote}
use Rattle.metroid_format.specs.Command.{command_at, command_of, note_after, is_key, is_preset, is_note, word_of, Decoded}
use Rattle.metroid_format.specs.declared.command.Kind.{Kind}
use Rattle.metroid_format.specs.declared.command.Kind.TheVariants.{Melodic, Noise}
use Rattle.metroid_format.specs.declared.command.Command.{Command}
use Rattle.metroid_format.specs.declared.command.Command.TheVariants.{End, EndLoop, BeginLoop, Length, Note}
use Rattle.engine_base.proofs.Picks.{by-test, false_true, picks}

-- a command that stands at an offset, with the offset after it
pub data Stands (kind : Kind) (bytes : List ℕ) (at : ℕ) : Command → ℕ → Type 0 where
  at_end : at < length bytes → get_or bytes at 0 ≡ 0x00 → Stands kind bytes at End (at + 1)
  at_end_loop : at < length bytes → get_or bytes at 0 ≡ 0xff → Stands kind bytes at EndLoop (at + 1)
  at_begin : (n : ℕ) → n < 63 → at < length bytes → get_or bytes at 0 ≡ 0xc0 + n → Stands kind bytes at (BeginLoop n) (at + 1)
  at_length : (l note : ℕ) → l < 16 → is_note kind note ≡ true → at + 1 < length bytes → get_or bytes at 0 ≡ 0xb0 + l → get_or bytes (at + 1) 0 ≡ note → Stands kind bytes at (Length l note) (at + 1 + 1)
  at_note : (b : ℕ) → 0 < b → b < 0x80 → is_note kind b ≡ true → at < length bytes → get_or bytes at 0 ≡ b → Stands kind bytes at (Note b) (at + 1)

pub fault_further : (limit more : ℕ) (refusal : Refusal) (at : ℕ) → limit ≤ more → FaultWithin limit refusal at → FaultWithin more refusal at
fault_further limit more refusal at h (low, high, w) = (low, high, omega arith)

-- 15 wants a byte behind the data
abbrev pub Wants : List ℕ → Refusal → ℕ → Type 0
Wants bytes refusal at = refusal ≡ PastData → length bytes ≤ at

-- what is refused where a command stands: a byte past the data, the command's own, or the one behind BL
pub data Unfit (bytes : List ℕ) (at : ℕ) : Refusal → ℕ → Type 0 where
  past : (offset : ℕ) → length bytes ≤ offset → offset ≤ max at (length bytes) → offset ≤ at + 1 → Unfit bytes at PastData offset
  lone : (refusal : Refusal) → number_of InvalidCommand ≤ number_of refusal → number_of refusal < number_of PastData → at < length bytes → Unfit bytes at refusal at
  behind : (l : ℕ) → l < 16 → at + 1 < length bytes → get_or bytes at 0 ≡ 0xb0 + l → Unfit bytes at InvalidNote (at + 1)

abbrev Right : Kind → List ℕ → ℕ → Decoded → Type 0
Right kind bytes at (Ok (c, next)) = Stands kind bytes at c next
Right kind bytes at (Err (refusal, offset)) = Unfit bytes at refusal offset

-- it is at the offset, or at one in the data or at its end
near : {bytes : List ℕ} {at : ℕ} {refusal : Refusal} {offset : ℕ} → Unfit bytes at refusal offset → FaultWithin (max at (length bytes)) refusal offset × Wants bytes refusal offset
near (past offset h m i) = ((omega arith, omega arith, m), λ _. h)
near (lone refusal low high h) = ((low, omega arith, omega arith), λ z. absurd (omega (arith, ap number_of z)))
near (behind l s h e) = ((omega arith, omega arith, omega arith), λ z. absurd (omega (arith, ap number_of z)))

pub note_small : (kind : Kind) (b : ℕ) → is_note kind b ≡ true → b < 0x80
unfolding is_key is_preset
note_small Melodic b y =
    by-test (λ x. x ≡ true → b < 0x80) (eqb (b % 2) 0) (λ _ z. omega (arith, leb-true b 0x7e z)) (λ _ z. absurd (false_true z)) y
note_small Noise b y =
    by-test (λ x. x ≡ true → b < 0x80) (eqb b 0x01) (λ e _. omega (arith, eqb-true b 0x01 e))
    (λ _. by-test (λ x. x ≡ true → b < 0x80) (eqb b 0x04) (λ e _. omega (arith, eqb-true b 0x04 e))
    (λ _. by-test (λ x. x ≡ true → b < 0x80) (eqb b 0x07) (λ e _. omega (arith, eqb-true b 0x07 e))
    (λ _ z. omega (arith, eqb-true b 0x0a z)))) y

pub next_after : {kind : Kind} {bytes : List ℕ} {at : ℕ} {c : Command} {next : ℕ} → Stands kind bytes at c next → at < next
next_after (at_end h e) = omega arith
next_after (at_end_loop h e) = omega arith
next_after (at_begin n s h e) = omega arith
next_after (at_length l note s y h e g) = omega arith
next_after (at_note b p s y h e) = omega arith

pub next_within : {kind : Kind} {bytes : List ℕ} {at : ℕ} {c : Command} {next : ℕ} → Stands kind bytes at c next → next ≤ length bytes
next_within (at_end h e) = omega arith
next_within (at_end_loop h e) = omega arith
next_within (at_begin n s h e) = omega arith
next_within (at_length l note s y h e g) = omega arith
next_within (at_note b p s y h e) = omega arith

one_byte : (bytes : List ℕ) (at : ℕ) → at < length bytes → word_at (take (at + 1 - at) (drop at bytes)) 0 ≡ get_or bytes at 0
unfolding word_at
one_byte bytes at h =
    let n : at + 1 - at ≡ 1 = omega arith in
    rw (n, drop-cons bytes at 0 h) (add-zero (get_or bytes at 0))

two_bytes : (bytes : List ℕ) (at : ℕ) → at + 1 < length bytes → word_at (take (at + 1 + 1 - at) (drop at bytes)) 0 ≡ get_or bytes at 0 + 256 * get_or bytes (at + 1) 0
unfolding word_at
two_bytes bytes at h =
    let n : at + 1 + 1 - at ≡ 2 = omega arith in
    let i : at < length bytes = omega arith in
    let j : suc at < length bytes = omega arith in
    rw (n, drop-cons bytes at 0 i, drop-cons bytes (suc at) 0 j, ← add-one at)

-- a command's word is that of its bytes
pub word_there : {kind : Kind} {bytes : List ℕ} {at : ℕ} {c : Command} {next : ℕ} → Stands kind bytes at c next → word_at (take (next - at) (drop at bytes)) 0 ≡ word_of c
word_there (at_end h e) = one_byte _ _ h ∙ e
word_there (at_end_loop h e) = one_byte _ _ h ∙ e
word_there (at_begin n s h e) = one_byte _ _ h ∙ e
word_there (at_length l note s y h e g) = two_bytes _ _ h ∙ rw (e, g)
word_there (at_note b p s y h e) = one_byte _ _ h ∙ e

module _ (kind : Kind) (bytes : List ℕ) (at : ℕ) where
  after_right : at < length bytes → get_or bytes at 0 / 16 ≡ 0x0b → Right kind bytes at (note_after kind bytes (at + 1) (get_or bytes at 0 % 16))
  unfolding note_after
  after_right h q =
      by-test (Right kind bytes at) (leb (length bytes) (at + 1)) (λ n. let l = leb-true (length bytes) (at + 1) n in past (at + 1) l (omega arith) (omega arith))
      (λ n. by-test (Right kind bytes at) (is_note kind (get_or bytes (at + 1) 0))
      (λ y. at_length (get_or bytes at 0 % 16) (get_or bytes (at + 1) 0) (omega arith) y (leb-false _ _ n) (omega arith) refl)
      (λ _. behind (get_or bytes at 0 % 16) (omega arith) (leb-false _ _ n) (omega arith)))

  command_right : Right kind bytes at (command_at kind bytes at)
  unfolding command_at command_of
  command_right =
      by-test (Right kind bytes at) (leb (length bytes) at) (λ n. past at (leb-true _ _ n) (omega arith) (omega arith))
      (λ n. let h = leb-false (length bytes) at n in
      by-test (Right kind bytes at) (eqb (get_or bytes at 0) 0x00) (λ e. at_end h (eqb-true _ _ e))
      (λ e0. let z = eqb-false (get_or bytes at 0) 0x00 e0 in
      by-test (Right kind bytes at) (eqb (get_or bytes at 0) 0xff) (λ e. at_end_loop h (eqb-true _ _ e))
      (λ e1. let f = eqb-false (get_or bytes at 0) 0xff e1 in
      by-test (Right kind bytes at) (eqb (get_or bytes at 0 / 64) 3)
      (λ e. let q = eqb-true (get_or bytes at 0 / 64) 3 e in at_begin (get_or bytes at 0 % 64) (omega arith) h (omega arith))
      (λ e2. by-test (Right kind bytes at) (eqb (get_or bytes at 0 / 16) 0x0b) (λ e. after_right h (eqb-true _ _ e))
      (λ e3. by-test (Right kind bytes at) (leb 0x80 (get_or bytes at 0)) (λ _. lone InvalidCommand (omega arith) (omega arith) h)
      (λ e4. let s = leb-false 0x80 (get_or bytes at 0) e4 in
      by-test (Right kind bytes at) (is_note kind (get_or bytes at 0))
      (λ y. at_note (get_or bytes at 0) (omega arith) s y h refl)
      (λ _. lone InvalidNote (omega arith) (omega arith) h)))))))

  pub found : {c : Command} {next : ℕ} → command_at kind bytes at ≡ Ok (c, next) → Stands kind bytes at c next
  found e = subst (Right kind bytes at) e command_right

  pub within : {c : Command} {next : ℕ} → command_at kind bytes at ≡ Ok (c, next) → next ≤ length bytes
  within e = next_within (found e)

  pub unfit : {refusal : Refusal} {offset : ℕ} → command_at kind bytes at ≡ Err (refusal, offset) → Unfit bytes at refusal offset
  unfit e = subst (Right kind bytes at) e command_right

  pub refused_near : {refusal : Refusal} {offset : ℕ} → command_at kind bytes at ≡ Err (refusal, offset) → FaultWithin (max at (length bytes)) refusal offset × Wants bytes refusal offset
  refused_near e = near (unfit e)

  -- BL, and its next byte
  pub after_length : at < length bytes → (l : ℕ) → l < 16 → get_or bytes at 0 ≡ 0xb0 + l → note_after kind bytes (at + 1) l ≡ command_at kind bytes at
  unfolding command_at command_of
  after_length h l s e =
      let z : get_or bytes at 0 ≡ 0x00 → ⊥ = λ k. omega arith in
      let f : get_or bytes at 0 ≡ 0xff → ⊥ = λ k. omega arith in
      let q : get_or bytes at 0 / 64 ≡ 3 → ⊥ = λ k. omega arith in
      let p : get_or bytes at 0 / 16 ≡ 0x0b = omega arith in
      let r : get_or bytes at 0 % 16 ≡ l = omega arith in
      rw (← r) (search picks depth 12)

  pub stands : {c : Command} {next : ℕ} → Stands kind bytes at c next → command_at kind bytes at ≡ Ok (c, next)
  unfolding command_at command_of note_after
  stands (at_end h e) = simp (lt-leb _ _ h, e)
  stands (at_end_loop h e) = simp (lt-leb _ _ h, e)
  stands (at_begin n s h e) =
      let z : get_or bytes at 0 ≡ 0x00 → ⊥ = λ k. omega arith in
      let f : get_or bytes at 0 ≡ 0xff → ⊥ = λ k. omega arith in
      let q : get_or bytes at 0 / 64 ≡ 3 = omega arith in
      let r : get_or bytes at 0 % 64 ≡ n = omega arith in
      sym (rw (← r) (search picks depth 12))
  stands (at_length l note s y h e g) =
      let i : at < length bytes = omega arith in
      let w : is_note kind (get_or bytes (at + 1) 0) ≡ true = rw g y in
      sym (rw (← g) (search picks depth 12) ∙ after_length i l s e)
  stands (at_note b p s y h e) =
      let z : get_or bytes at 0 ≡ 0x00 → ⊥ = λ k. omega arith in
      let f : get_or bytes at 0 ≡ 0xff → ⊥ = λ k. omega arith in
      let q : get_or bytes at 0 / 64 ≡ 3 → ⊥ = λ k. omega arith in
      let g : get_or bytes at 0 / 16 ≡ 0x0b → ⊥ = λ k. omega arith in
      let k : get_or bytes at 0 < 0x80 = omega arith in
      let w : is_note kind (get_or bytes at 0) ≡ true = rw e y in
      sym (rw (← e) (search picks depth 12))

  -- r is what `command_at` answers
  module _ (r : Decoded) (q : r ≡ command_at kind bytes at) (c : Command) (next : ℕ) (e : r ≡ Ok (c, next)) where
    standing : Stands kind bytes at c next
    standing = found (sym q ∙ e)

    pub goes_on : at ≤ next
    goes_on = omega (arith, next_after standing)
