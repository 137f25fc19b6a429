-- Straight reading stays in the data: of a block, within its 256 bytes.
use Prim.Native.Nat.{ℕ, zero, suc, ◌+◌, ◌≤◌, ◌<◌}
use mathlib.Core.List.{List, [], ◌∷◌}
use mathlib.Core.Path.{◌≡◌, refl}
use native.Mathlib.Omega.{arith}
use lib.ListN.{length}
use Rattle.engine_base.specs.Refusal.{FaultWithin}
use Rattle.mother_format.specs.Bank.{block_limit, block_of}
use Rattle.mother_format.specs.Command.{Decoded, command_at, bytes_of}
use Rattle.mother_format.specs.Straight.{Finish, Placed, Straight, is_end, straight_by, straight_from, straight}
use Rattle.engine_base.proofs.Picks.{by-test}
use Rattle.mother_format.proofs.bank.Joined.{block_within}
use Rattle.mother_format.proofs.command.Laws.{Wants, stands}
use Rattle.mother_format.specs.declared.command.Kind.{Kind}
use Rattle.mother_format.specs.declared.command.Command.{Command}
use Rattle.std.specs.Prelude.{Ok, Err}

pub bytes_some : (c : Command) → 0 < length (bytes_of c)
bytes_some Command.End = omega arith
bytes_some (Command.Transpose m) = omega arith
bytes_some (Command.Window t) = omega arith
bytes_some Command.EndLoop = omega arith
bytes_some (Command.Length l b) = omega arith
bytes_some (Command.BeginLoop n) = omega arith
bytes_some (Command.Timbre x c) = omega arith
bytes_some (Command.Note b) = omega arith

module _ (kind : Kind) (bytes : List ℕ) where
  -- each command stands where reading finds it, wholly in the data
  abbrev pub AllStand : List Placed → Type 0
  AllStand [] = Unit {0}
  AllStand (c ∷ cs) = ((c.at + length (bytes_of c.command) ≤ length bytes) × (command_at kind bytes c.at ≡ Ok (c.command, c.at + length (bytes_of c.command)))) × AllStand cs

  -- 00 stands in the data; a refusal is one of 10 to 15, in the data or at its end, and there if it is 15
  abbrev pub Finishes : Finish → Type 0
  Finishes (Ok at) = at < length bytes
  Finishes (Err (refusal, at)) = FaultWithin (length bytes) refusal at × Wants bytes refusal at

  pub record Within (s : Straight) : Type 0 where
    pub commands : AllStand s.commands
    pub finish : Finishes s.finish

  from_within : (left at : ℕ) → at ≤ length bytes → length bytes ≤ at + left → Within (straight_from kind bytes left at)
  unfolding straight_from
  from_within zero at h w = record { commands = tt; finish = ((omega arith, omega arith, h), λ _. omega arith) }
  from_within (suc left) at h w = by (from_within left) (command_at kind bytes at) refl
    where
      by : ((next : ℕ) → next ≤ length bytes → length bytes ≤ next + left → Within (straight_from kind bytes left next)) →
          (d : Decoded) → command_at kind bytes at ≡ d → Within (straight_by at (λ next. straight_from kind bytes left next) d)
      by further (Ok (c, next)) e =
          let (size, near, small) = stands kind bytes at e in
          let some = bytes_some c in
          let rest = further next near (omega arith) in
          let there : command_at kind bytes at ≡ Ok (c, at + length (bytes_of c)) = rw (← size) e in
          by-test Within (is_end c) (λ _. record { commands = tt; finish = omega arith }) λ _.
          record { commands = ((omega arith, there), rest.commands); finish = rest.finish }
      by further (Err (refusal, offset)) e =
          let ((low, high, near), wants) = stands kind bytes at e in
          record { commands = tt; finish = ((low, high, omega arith), wants) }

  pub straight_within : Within (straight kind bytes)
  straight_within = from_within (length bytes) 0 (omega arith) (omega arith)

-- a block's reading never passes 256 bytes
pub record BlockRead (bytes : List ℕ) (kind : Kind) : Type 0 where
  pub size : length bytes ≤ block_limit
  pub reading : Within kind bytes (straight kind bytes)

pub block_read : (bank8 banka : List ℕ) (address : ℕ) (kind : Kind) → BlockRead (block_of bank8 banka address) kind
block_read bank8 banka address kind = record { size = block_within bank8 banka address; reading = straight_within kind (block_of bank8 banka address) }
