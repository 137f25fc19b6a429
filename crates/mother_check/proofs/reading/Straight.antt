-- Straight reading of a block, a command at a time.
use Prim.Native.Nat.{ℕ, suc, ◌+◌, ◌-◌, ◌≤◌, ◌<◌}
use mathlib.Core.List.{List, []}
use mathlib.Core.Path.{◌≡◌}
use native.Mathlib.Omega.{arith}
use lib.ListN.{length}
use Rattle.std.specs.Prelude.{Err}
use Rattle.engine_base.specs.declared.refusal.Refusal.TheVariants.{PastData}
use Rattle.mother_format.specs.Command.{command_at}
use Rattle.mother_format.specs.Straight.{Straight, straight_by, straight_from}
use Rattle.mother_format.specs.declared.command.Kind.{Kind}
use Rattle.mother_format.specs.Command.{Decoded}

module _ (kind : Kind) (bytes : List ℕ) (n at : ℕ) where
  -- after n commands, from an offset on
  abbrev pub rest_from : Straight
  rest_from = straight_from kind bytes (length bytes - n) at

  pub rest_is : n < length bytes → (d : Decoded) → command_at kind bytes at ≡ d →
      rest_from ≡ straight_by at (λ next. straight_from kind bytes (length bytes - (n + 1)) next) d
  unfolding straight_from
  rest_is h d e =
      let less : length bytes - n ≡ suc (length bytes - (n + 1)) = omega arith in
      rw (less, e)

  pub rest_none : length bytes ≤ n → rest_from ≡ record { commands = []; finish = Err (PastData, at) }
  unfolding straight_from
  rest_none h = let none : length bytes - n ≡ 0 = omega arith in rw none
