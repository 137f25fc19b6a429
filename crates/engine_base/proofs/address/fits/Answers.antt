use Prim.Native.Nat.{ℕ, ◌+◌, ◌-◌, ◌≤◌, ◌<◌}
use mathlib.Core.Bool.{Bool, true, false}
use mathlib.Core.Path.{◌≡◌, refl}
use lib.Dec.{leb}
use borrow.Author.Tests.{le-leb, lt-leb, leb-true, leb-false}
use native.Mathlib.Omega.{arith}
use Rattle.engine_base.specs.Address.{within, bank_end}
use Rattle.engine_base.proofs.Picks.{picks, pick_le, pick_last}
use Rattle.engine_base.proofs.address.fits.Goals as goal
use Rattle.engine_base.proofs.address.fits.Goals.{then-address-ge-BANK_START, else-address-ge-BANK_START}

room : (address n : ℕ) (b : Bool) → address ≤ bank_end → leb (address + n) bank_end ≡ b → leb n (bank_end - address) ≡ b
room address n true h e = le-leb n (bank_end - address) (omega (arith, leb-true _ _ e))
room address n false h e = lt-leb n (bank_end - address) (omega (arith, leb-false _ _ e))

pub returns-then-address-le-BANK_END : goal.returns-then-address-le-BANK_END
unfolding within
returns-then-address-le-BANK_END c =
    let a = c.args in
    let (low, high) = c.if-address-le-BANK_END.true in
    pick_le _ _ _ _ _ low (pick_last _ _ (room a.address a.n _ high refl))

pub returns-else-address-le-BANK_END : goal.returns-else-address-le-BANK_END
unfolding within
returns-else-address-le-BANK_END c =
    let a = c.args in
    elim c.if-address-ge-BANK_START.branch [
      | then-address-ge-BANK_START w ↦
          let h : bank_end < a.address + a.n = omega arith in
          search picks depth 12
      | else-address-ge-BANK_START w ↦ search picks depth 12
    ]
