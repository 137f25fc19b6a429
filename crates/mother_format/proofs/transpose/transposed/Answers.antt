use native.Mathlib.Omega.{arith}
use Rattle.mother_format.proofs.transpose.Signed.{sounds_byte, too_high, no_byte, add_fits, sounds}
use Rattle.mother_format.proofs.transpose.transposed.Goals as goal

pub overflow_add-from : goal.overflow_add-from
overflow_add-from c = rw c.from.ensures (add_fits _ _ (omega (arith, c.ranges.b.fits)) (omega (arith, c.ranges.transpose.fits)) _ c.amount.ensures)

pub returns-in-Ok : goal.returns-in-Ok
returns-in-Ok c = sounds _ _ (omega (arith, c.ranges.b.fits)) (omega (arith, c.ranges.transpose.fits)) _ c.amount.ensures _ (sounds_byte _ _ (rw c.from.ensures at c.in-Ok.ensures) c.if-sum-le-LAST_KEY.true) c.if-b-eq-REST.false

pub returns-in_default : goal.returns-in_default
returns-in_default c = sounds _ _ (omega (arith, c.ranges.b.fits)) (omega (arith, c.ranges.transpose.fits)) _ c.amount.ensures _ (too_high _ _ (rw c.from.ensures at c.in-Ok.ensures) c.if-sum-le-LAST_KEY.false) c.if-b-eq-REST.false

pub returns-in_default-2 : goal.returns-in_default-2
returns-in_default-2 c = sounds _ _ (omega (arith, c.ranges.b.fits)) (omega (arith, c.ranges.transpose.fits)) _ c.amount.ensures _ (no_byte _ (rw c.from.ensures at c.in_default.ensures)) c.if-b-eq-REST.false
