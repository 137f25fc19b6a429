-- What stands wholly within $8000 to $bfff.
use Prim.Native.Nat.{ℕ, ◌+◌, ◌≤◌}
use mathlib.Core.Bool.{true}
use mathlib.Core.Path.{◌≡◌}
use borrow.Author.Tests.{leb-true}
use Rattle.engine_base.specs.Address.{bank_start, bank_end, within}
use Rattle.engine_base.proofs.Picks.{both}

pub inside : (address n : ℕ) → within address n ≡ true → (bank_start ≤ address) × (address + n ≤ bank_end)
unfolding within
inside address n e =
    let (low, high) = both _ _ e in
    (leb-true _ _ low, leb-true _ _ (both _ true high).0)
