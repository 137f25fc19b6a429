-- Where a command of a block ends or is refused is a word of 16 bits.
use Prim.Native.Nat.{ℕ}
use mathlib.Core.List.{List}
use mathlib.Core.Path.{◌≡◌, sym, ap, ◌∙◌}
use native.Mathlib.Omega.{arith}
use mir.Syntax.{w16}
use mir.Val.{Fits}
use Rattle.mother_format.specs.Command.{Decoded, command_at, command_by}
use Rattle.mother_format.specs.Channel.{Sorts}
use Rattle.mother_format.proofs.command.Laws.{stands, command_is}
use Rattle.mother_format.specs.declared.command.Kind.{Kind}
use Rattle.mother_format.specs.declared.command.Rule.{Rule}
use Rattle.mother_format.specs.declared.command.Command.{Command}
use Rattle.engine_base.specs.declared.refusal.Refusal.{Refusal}
use Rattle.std.specs.Prelude.{Result, Ok, Err}

-- r is what `command_by` answers for that block at that offset, as the code has them
module _ (kind : Kind) (bytes : List ℕ) (at : ℕ) (rule : Result Rule Refusal) (s : Sorts kind bytes at rule) (r : Decoded) (block : List ℕ) (b : block ≡ bytes) (here : ℕ) (m : here ≡ at) (q : r ≡ command_by kind block here rule) where
  is_command : command_at kind bytes at ≡ r
  is_command =
      let (h, w, e) = s in
      command_is kind bytes at h ∙ ap (command_by kind bytes at) (sym e) ∙ ap (λ n. command_by kind bytes n rule) (sym m) ∙ ap (λ l. command_by kind l here rule) (sym b) ∙ sym q

  pub next_fits : (c : Command) (next : ℕ) → r ≡ Ok (c, next) → Fits w16 next
  next_fits c next e =
      let (h, w, f) = s in
      let (size, near, small) = stands kind bytes at (is_command ∙ e) in
      record { fits = omega arith }

  pub offset_fits : (refusal : Refusal) (offset : ℕ) → r ≡ Err (refusal, offset) → Fits w16 offset
  offset_fits refusal offset e =
      let (h, w, f) = s in
      let ((low, high, near), wants) = stands kind bytes at (is_command ∙ e) in
      record { fits = omega arith }
