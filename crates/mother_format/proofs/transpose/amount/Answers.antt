use mathlib.Core.Path.{◌∙◌}
use Prim.Native.Nat.{◌-◌}
use native.Mathlib.Omega.{arith}
use borrow.Author.Tests.{lt-ltb, le-ltb}
use Rattle.mother_format.specs.Transpose.{amount_of}
use Rattle.mother_format.proofs.transpose.Signed.{read_small, read_minus}
use Rattle.mother_format.proofs.transpose.amount.Goals as goal

pub returns-then-b-lt128 : goal.returns-then-b-lt128
unfolding amount_of
returns-then-b-lt128 c = rw c.from.ensures (read_small c.args.b (omega arith) ∙ rw (lt-ltb _ _ c.if-b-lt128.true))

pub returns-else-b-lt128 : goal.returns-else-b-lt128
unfolding amount_of
returns-else-b-lt128 c = rw c.from-else-b-lt128.ensures (read_minus (c.args.b - 0x80) (omega (arith, c.ranges.b.fits)) ∙ rw (le-ltb _ _ c.if-b-lt128.false))
