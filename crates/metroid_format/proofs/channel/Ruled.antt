-- What `played_at` says, by the rule of the byte where the command stands.
use Prim.Native.Nat.{ℕ, ◌+◌, ◌/◌, ◌<◌}
use mathlib.Core.List.{List}
use mathlib.Core.Path.{◌≡◌, refl}
use native.Mathlib.Omega.{arith}
use borrow.Author.Tests.{eq-eqb, ne_eqb}
use lib.ListN.{length, get_or}
use Rattle.std.specs.Prelude.{Ok, Err}
use Rattle.engine_base.specs.declared.refusal.Refusal.{Refusal}
use Rattle.engine_base.specs.declared.refusal.Refusal.TheVariants.{NoLength}
use Rattle.metroid_format.specs.Command.{command_at, note_after, Decoded}
use Rattle.metroid_format.specs.Channel.{source_of, length_fault, played_of, played_by, played_at, address_at}
use Rattle.metroid_format.proofs.command.Laws.{Stands, at_end, at_end_loop, at_begin, at_length, at_note, found, after_length}
use Rattle.metroid_format.specs.declared.command.Kind.{Kind}
use Rattle.metroid_format.specs.declared.command.Command.{Command}
use Rattle.engine_base.specs.declared.time.Frames.{Frames}
use Rattle.metroid_format.specs.declared.channel.Played.{Played}

-- a command of one byte is no BL
whole : {kind : Kind} {bytes : List ℕ} {at : ℕ} {c : Command} {next : ℕ} → Stands kind bytes at c next → next ≡ at + 1 → get_or bytes at 0 / 16 ≡ 0x0b → ⊥
whole (at_end h e) n z = omega arith
whole (at_end_loop h e) n z = omega arith
whole (at_begin m s h e) n z = omega arith
whole (at_length l note s y h e g) n z = omega arith
whole (at_note b p s y h e) n z = omega arith

module _ (kind : Kind) (bytes lengths : List ℕ) (window start at : ℕ) (current : Frames) where
  abbrev played : Decoded → Played
  played d = played_by start (played_of lengths window start at current) d

  abbrev Says : Played → Type 0
  Says p = p ≡ played_at (source_of kind bytes lengths window start) at current

  other : (get_or bytes at 0 / 16 ≡ 0x0b → ⊥) → (d : Decoded) → command_at kind bytes at ≡ d → Says (played d)
  unfolding played_at length_fault
  other z d e = rw (ne_eqb _ _ z, e)

  pub plays_lone : (c : Command) → command_at kind bytes at ≡ Ok (c, at + 1) → Says (played_of lengths window start at current c (at + 1))
  plays_lone c e = other (whole (found kind bytes at e) refl) (Ok (c, at + 1)) e

  -- a note or rest
  module _ (b : ℕ) (e : command_at kind bytes at ≡ Ok (Command.Note b, at + 1)) where
    pub plays_early : current.count ≡ 0 → Says (Played.Refused NoLength at (address_at start at))
    plays_early z = rw (eq-eqb _ 0 z) at (plays_lone (Command.Note b) e)

    pub plays_note : (current.count ≡ 0 → ⊥) → Says (Played.Note b (at + 1))
    plays_note z = rw (ne_eqb _ 0 z) at (plays_lone (Command.Note b) e)

  pub plays_invalid : (refusal : Refusal) → (get_or bytes at 0 / 16 ≡ 0x0b → ⊥) × (command_at kind bytes at ≡ Err (refusal, at)) → Says (Played.Refused refusal at (address_at start at))
  plays_invalid refusal (z, e) = other z (Err (refusal, at)) e

  -- BL
  module _ (h : at < length bytes) (l : ℕ) (s : l < 16) (e : get_or bytes at 0 ≡ 0xb0 + l) where
    pub plays_fault : (refusal : Refusal) → length_fault lengths window (0xb0 + l) ≡ Err refusal → Says (Played.Refused refusal at (address_at start at))
    unfolding played_at
    plays_fault refusal q = rw (e, q)

    pub plays_after : length_fault lengths window (0xb0 + l) ≡ Ok tt → (d : Decoded) → note_after kind bytes (at + 1) l ≡ d → Says (played d)
    unfolding played_at
    plays_after q d g = rw (e, q, ← (after_length kind bytes at h l s e), g)
