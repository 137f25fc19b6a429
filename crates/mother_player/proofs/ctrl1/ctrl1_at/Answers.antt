use native.Mathlib.Omega.{arith}
use Rattle.mother_player.proofs.ctrl1.Envelope.{past_reach, past_banks, silenced, restored, shown, along}
use Rattle.mother_player.proofs.ctrl1.ctrl1_at.Goals as goal

pub returns-then-not-holds : goal.returns-then-not-holds
returns-then-not-holds c = past_banks _ _ _ _ _ _ c.loop-i.invariant _ (rw c.from.ensures at c.holds.ensures) c.if-not-holds.true _ c.default_ctrl1.ensures

pub returns-in-240 : goal.returns-in-240
returns-in-240 c = silenced _ _ _ _ _ _ c.loop-i.invariant _ (rw c.from.ensures at c.holds.ensures) c.loop-i-test.true c.if-not-holds.false _ (rw c.from.ensures at c.byte.ensures) c.in-240.is

pub returns-in-255 : goal.returns-in-255
returns-in-255 c = restored _ _ _ _ _ _ c.loop-i.invariant _ (rw c.from.ensures at c.holds.ensures) c.loop-i-test.true c.if-not-holds.false _ (rw c.from.ensures at c.byte.ensures) (λ z. omega (arith, c.in-255.is)) c.in-255.is _ c.default_ctrl1-in-255.ensures

pub returns-in_default : goal.returns-in_default
returns-in_default c = shown _ _ _ _ _ _ c.loop-i.invariant _ (rw c.from.ensures at c.holds.ensures) c.loop-i-test.true c.if-not-holds.false _ (rw c.from.ensures at c.byte.ensures) (λ z. omega arith) (λ z. omega arith) c.if-last-i.true _ c.half.ensures _ c.combine.ensures

pub loop-i-preserved : goal.loop-i-preserved
loop-i-preserved c = along _ _ _ _ _ _ c.loop-i.invariant _ (rw c.from.ensures at c.holds.ensures) c.loop-i-test.true c.if-not-holds.false _ (rw c.from.ensures at c.byte.ensures) (λ z. omega arith) (λ z. omega arith) c.if-last-i.false

pub returns : goal.returns
returns c = past_reach _ _ _ _ _ _ c.loop-i.invariant c.loop-i-test.false _ c.default_ctrl1-2.ensures
