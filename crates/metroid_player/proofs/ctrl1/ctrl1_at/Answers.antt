use Rattle.std.proofs.Common.{arith, ◌≢◌, get_or}
use borrow.Author.Tests.{ne_eqb, le-leb, lt-leb}
use lib.ListN.{drop_of_length-le}
use Rattle.metroid_player.specs.Ctrl1.{ctrl1_at}
use Rattle.metroid_player.proofs.ctrl1.Envelope.{envelope_turn}
use Rattle.metroid_player.proofs.ctrl1.ctrl1_at.Goals as goal

pub returns-in-240 : goal.returns-in-240
returns-in-240 c =
    let h = c.loop-i-test.true in
    let e = c.loop-i.invariant in
    rw (← c.from-last.ensures, ← e, envelope_turn, c.in-240.is)

pub returns-in-255 : goal.returns-in-255
returns-in-255 c =
    let h = c.loop-i-test.true in
    let e = c.loop-i.invariant in
    rw (← c.from-last.ensures, ← e, envelope_turn, c.in-255.is) c.default_ctrl1.ensures

pub returns-in_default : goal.returns-in_default
returns-in_default c =
    let h = c.loop-i-test.true in
    let e = c.loop-i.invariant in
    let silent : get_or c.args.envelope.now c.loop-i.i 0 ≢ 0xf0 = omega arith in
    let default : get_or c.args.envelope.now c.loop-i.i 0 ≢ 0xff = omega arith in
    rw (← c.from-last.ensures, ← e, envelope_turn, ne_eqb _ _ silent, ne_eqb _ _ default, le-leb _ _ c.if-last-i.true) c.combine.ensures

pub loop-i-preserved : goal.loop-i-preserved
loop-i-preserved c =
    let h = c.loop-i-test.true in
    let e = c.loop-i.invariant in
    let silent : get_or c.args.envelope.now c.loop-i.i 0 ≢ 0xf0 = omega arith in
    let default : get_or c.args.envelope.now c.loop-i.i 0 ≢ 0xff = omega arith in
    rw (← e, envelope_turn _ _ _ _ h, ne_eqb _ _ silent, ne_eqb _ _ default, lt-leb _ _ c.if-last-i.false)

pub returns : goal.returns
unfolding ctrl1_at
returns c =
    let h = c.loop-i-test.false in
    let e = c.loop-i.invariant in
    rw (← c.from-last.ensures, ← e, drop_of_length-le) c.default_ctrl1-2.ensures
