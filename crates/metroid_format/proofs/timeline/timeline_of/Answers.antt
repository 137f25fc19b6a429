use mathlib.Core.Path.{ap}
use native.Mathlib.Omega.{arith}
use native.Mathlib.Nat.{sub-zero}
use lib.ListN.{length, length-take}
use Rattle.metroid_format.specs.Timeline.{timeline_of}
use Rattle.metroid_format.proofs.timeline.PassLoop.{pass_turn, pass_none, pass_bounded, timed}
use Rattle.metroid_format.proofs.timeline.timeline_of.Goals as goal

pub loop-init : goal.loop-init
unfolding timeline_of
loop-init c = (omega arith, rw sub-zero)

pub pass_on-requires : goal.pass_on-requires
unfolding timeline_of
pass_on-requires c =
    let cut = simp length-take at (ap length c.part.ensures) in
    (omega (arith, cut), omega (arith, cut))

pub loop-preserved : goal.loop-preserved
unfolding timeline_of
loop-preserved c = (
  pass_bounded _ _ c.loop.invariant.0 _ _ c.pass_on.ensures c.in-Ok.is (omega arith),
  pass_turn _ _ _ _ _ _ _ c.pass_on.ensures c.in-Ok.is c.loop-test.true c.loop.invariant.1,
)

pub returns-in-Err : goal.returns-in-Err
unfolding timeline_of
returns-in-Err c =
    rw (← c.part.ensures)
    (timed _ _
    (pass_turn _ _ _ _ _ _ _ c.pass_on.ensures c.in-Err.is c.loop-test.true c.loop.invariant.1)
    (omega (arith, c.loop.invariant.0)))

pub returns : goal.returns
unfolding timeline_of
returns c =
    rw (← c.part.ensures, c.address_at.ensures)
    (timed _ _ (pass_none _ _ _ _ (omega arith) c.loop.invariant.1) (omega (arith, c.loop.invariant.0)))
