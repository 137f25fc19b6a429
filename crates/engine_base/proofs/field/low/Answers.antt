use Prim.Native.Nat.{◌<◌, ◌≤◌, ◌*◌, ◌^◌}
use native.Mathlib.Omega.{arith}
use native.Mathlib.Nat.{pow-le-pow_right, mod-eq_of_lt, one-mul}
use mathlib.Core.Path.{sym}
use lib.Bits.{and_mask}
use Rattle.engine_base.proofs.field.low.Goals as goal

pub returns-then-this-ge-BITS : goal.returns-then-this-ge-BITS
returns-then-this-ge-BITS g c =
    let wide : 2 ^ 8 ≤ 2 ^ g.row.BITS = pow-le-pow_right {n = 2} (omega arith) c.if-this-ge-BITS.true in
    sym (mod-eq_of_lt (omega (arith, wide, c.ranges.b.fits)))

pub returns : goal.returns
returns g c =
    let few : g.row.BITS ≤ 7 = omega (arith, c.if-this-ge-BITS.false) in
    let h : 1 * 2 ^ g.row.BITS < 256 = omega (arith, pow-le-pow_right {n = 2} (omega arith) few) in
    rw (mod-eq_of_lt h, one-mul) (and_mask _ _)
