-- Where a command ends, and where and how it is refused.
use Prim.Native.Nat.{ℕ, ◌+◌, ◌/◌, ◌%◌, ◌≤◌, ◌<◌, max}
use mathlib.Core.Bool.{true}
use mathlib.Core.List.{List}
use mathlib.Core.Path.{◌≡◌, refl, ap, subst}
use native.Mathlib.Omega.{arith}
use borrow.Author.Tests.{leb-true, leb-false, lt-leb}
use lib.Dec.{leb, ltb, eqb}
use lib.ListN.{length, get_or}
use Rattle.engine_base.specs.Pick.{pick}
use Rattle.std.specs.Prelude.{Result, Ok, Err}
use Rattle.engine_base.specs.Refusal.{number_of, FaultWithin}
use Rattle.engine_base.specs.declared.refusal.Refusal.{Refusal}
use Rattle.engine_base.specs.declared.refusal.Refusal.TheVariants.{InvalidCommand, InvalidNote, PastData}
use Rattle.mother_format.specs.Command.{Decoded, is_key, is_preset, is_note, melodic_rule, noise_rule, own_rule, rule_of, needed, note_after, timbre_after, command_by, command_at, bytes_of}
use Rattle.engine_base.proofs.Picks.{by-test}
use Rattle.mother_format.specs.declared.command.Kind.{Kind}
use Rattle.mother_format.specs.declared.command.Kind.TheVariants.{Square, Triangle, Noise}
use Rattle.mother_format.specs.declared.command.Rule.{Rule}
use Rattle.mother_format.specs.declared.command.Command.{Command}

-- L of BL is in its byte, n of a begin has six bits, a note's byte is one of the channel, and a byte that is no command is 10 or 11
abbrev pub Sorted : Kind → ℕ → Result Rule Refusal → Type 0
Sorted kind b (Ok Rule.End) = Unit {0}
Sorted kind b (Ok Rule.Transpose) = Unit {0}
Sorted kind b (Ok Rule.Window) = Unit {0}
Sorted kind b (Ok Rule.EndLoop) = Unit {0}
Sorted kind b (Ok (Rule.Length l)) = l ≡ b % 16
Sorted kind b (Ok (Rule.BeginLoop n)) = n < 64
Sorted kind b (Ok Rule.Timbre) = Unit {0}
Sorted kind b (Ok Rule.Note) = is_note kind b ≡ true
Sorted kind b (Err refusal) = (number_of InvalidCommand ≤ number_of refusal) × (number_of refusal ≤ number_of InvalidNote)

melodic_sorted : (kind : Kind) (b : ℕ) → (is_key b ≡ true → is_note kind b ≡ true) → Sorted kind b (melodic_rule b)
unfolding melodic_rule
melodic_sorted kind b is =
    by-test (Sorted kind b) (eqb b 0x9f) (λ _. tt)
    (λ _. by-test (Sorted kind b) (is_key b) is
    (λ _. by-test (Sorted kind b) (ltb b 0x80) (λ _. (omega arith, omega arith)) (λ _. (omega arith, omega arith))))

own_sorted : (kind : Kind) (b : ℕ) → Sorted kind b (own_rule kind b)
unfolding noise_rule
own_sorted Square b = melodic_sorted Square b λ t. t
own_sorted Triangle b = melodic_sorted Triangle b λ t. t
own_sorted Noise b =
    by-test (Sorted Noise b) (eqb b 0x9f) (λ _. (omega arith, omega arith))
    (λ _. by-test (Sorted Noise b) (is_preset b) (λ t. t) (λ _. (omega arith, omega arith)))

pub sorted : (kind : Kind) (b : ℕ) → Sorted kind b (rule_of kind b)
unfolding rule_of
sorted kind b =
    by-test (Sorted kind b) (eqb b 0x00) (λ _. tt)
    (λ _. by-test (Sorted kind b) (eqb b 0x9c) (λ _. tt)
    (λ _. by-test (Sorted kind b) (eqb b 0x9e) (λ _. tt)
    (λ _. by-test (Sorted kind b) (eqb b 0xff) (λ _. tt)
    (λ _. by-test (Sorted kind b) (eqb (b / 16) 0x0b) (λ _. refl)
    (λ _. by-test (Sorted kind b) (eqb (b / 64) 3) (λ _. omega arith)
    (λ _. own_sorted kind b))))))

abbrev pub Small : Command → Type 0
Small Command.End = Unit {0}
Small (Command.Transpose m) = Unit {0}
Small (Command.Window t) = Unit {0}
Small Command.EndLoop = Unit {0}
Small (Command.Length l b) = Unit {0}
Small (Command.BeginLoop n) = n < 64
Small (Command.Timbre x c) = Unit {0}
Small (Command.Note b) = Unit {0}

-- 15 wants a byte behind the data
abbrev pub Wants : List ℕ → Refusal → ℕ → Type 0
Wants bytes refusal offset = refusal ≡ PastData → length bytes ≤ offset

-- a command stands wholly in the data; a refusal is one of 10 to 15 and names the offset, or one in the data or at its end
abbrev pub Stands : List ℕ → ℕ → Decoded → Type 0
Stands bytes at (Ok (c, next)) = (next ≡ at + length (bytes_of c)) × (next ≤ length bytes) × Small c
Stands bytes at (Err (refusal, offset)) = FaultWithin (max at (length bytes)) refusal offset × Wants bytes refusal offset

module _ (kind : Kind) (bytes : List ℕ) (at : ℕ) where
  needs_byte : (here : ℕ) (go : ℕ → Decoded) → here ≤ length bytes →
      (here < length bytes → Stands bytes at (go (get_or bytes here 0))) → Stands bytes at (needed bytes here go)
  needs_byte here go h k =
      by-test (Stands bytes at) (leb (length bytes) here) (λ n. ((omega arith, omega arith, omega arith), λ _. leb-true _ _ n)) λ n. k (leb-false _ _ n)

  rule_stands : at < length bytes → (rule : Result Rule Refusal) → Sorted kind (get_or bytes at 0) rule → Stands bytes at (command_by kind bytes at rule)
  unfolding note_after timbre_after
  rule_stands h (Ok Rule.End) s = (refl, omega arith, tt)
  rule_stands h (Ok Rule.Transpose) s = needs_byte (at + 1) (λ m. Ok (Command.Transpose m, at + 1 + 1)) (omega arith) λ w. (omega arith, omega arith, tt)
  rule_stands h (Ok Rule.Window) s = needs_byte (at + 1) (λ t. Ok (Command.Window t, at + 1 + 1)) (omega arith) λ w. (omega arith, omega arith, tt)
  rule_stands h (Ok Rule.EndLoop) s = (refl, omega arith, tt)
  rule_stands h (Ok (Rule.Length l)) s =
      needs_byte (at + 1) (λ b. pick (is_note kind b) (Ok (Command.Length l b, at + 1 + 1)) (Err (InvalidNote, at + 1))) (omega arith) λ w.
      by-test (Stands bytes at) (is_note kind (get_or bytes (at + 1) 0)) (λ _. (omega arith, omega arith, tt)) λ _.
      ((omega arith, omega arith, omega arith), λ z. let n : number_of InvalidNote ≡ number_of PastData = ap number_of z in absurd (omega arith))
  rule_stands h (Ok (Rule.BeginLoop n)) s = (refl, omega arith, s)
  rule_stands h (Ok Rule.Timbre) s =
      needs_byte (at + 1) (λ x. needed bytes (at + 1 + 1) (λ c. Ok (Command.Timbre x c, at + 1 + 1 + 1))) (omega arith) λ w.
      needs_byte (at + 1 + 1) (λ c. Ok (Command.Timbre (get_or bytes (at + 1) 0) c, at + 1 + 1 + 1)) (omega arith) λ v.
      (omega arith, omega arith, tt)
  rule_stands h (Ok Rule.Note) s = (refl, omega arith, tt)
  rule_stands h (Err refusal) (low, high) = ((low, omega arith, omega arith), λ z. let n : number_of refusal ≡ number_of PastData = ap number_of z in absurd (omega arith))

  command_stands : Stands bytes at (command_at kind bytes at)
  unfolding command_at
  command_stands =
      by-test (Stands bytes at) (leb (length bytes) at) (λ n. ((omega arith, omega arith, omega arith), λ _. leb-true _ _ n)) λ n.
      rule_stands (leb-false _ _ n) (rule_of kind (get_or bytes at 0)) (sorted kind (get_or bytes at 0))

  pub stands : {d : Decoded} → command_at kind bytes at ≡ d → Stands bytes at d
  stands e = subst (Stands bytes at) e command_stands

  -- by the rule of its first byte
  pub command_is : at < length bytes → command_at kind bytes at ≡ command_by kind bytes at (rule_of kind (get_or bytes at 0))
  unfolding command_at
  command_is h = rw (lt-leb (length bytes) at h)
