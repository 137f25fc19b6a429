use Rattle.std.proofs.Common.{arith}
use Rattle.metroid_player.specs.Record.{fresh_channel}
use Rattle.metroid_player.proofs.frame.Laws.{settling_none, settling_off, settling_plays, settles_events, settles_end, settles_fault}
use Rattle.metroid_player.proofs.frame.settle.Goals as goal

pub loop-i-init : goal.loop-i-init
loop-i-init c =
    let a = c.args in
    settling_none a.bank.now a.track a.player (omega arith) (omega arith) _ (rw c.off-events.ensures)

pub loop-i-preserved-in_default : goal.loop-i-preserved-in_default
loop-i-preserved-in_default c =
    settling_off _ _ _ _ _ _ _ c.loop-i.invariant c.loop-i-test.true _ fresh_channel c.in_default.not-Some

pub returns-in-End : goal.returns-in-End
returns-in-End c =
    settles_end _ _ _ _ _ _ _ c.loop-i.invariant c.loop-i-test.true _ _ _ c.in-Some.is _ c.take_turn-turn.ensures
    c.in-End.is _ c.ended-ended.ensures _ c.without_events.ensures

pub returns-in-Refused : goal.returns-in-Refused
returns-in-Refused c =
    settles_fault _ _ _ _ _ _ _ c.loop-i.invariant c.loop-i-test.true _ _ _ c.in-Some.is _ c.take_turn-turn.ensures
    _ _ _ c.in-Refused.is _ c.without_events-in-Refused.ensures

pub loop-i-preserved : goal.loop-i-preserved
loop-i-preserved c =
    settling_plays _ _ _ _ _ _ _ c.loop-i.invariant c.loop-i-test.true _ _ _ c.in-Some.is _ c.take_turn-turn.ensures
    c.in-Plays.is _ c.event_of.ensures _ c.one_off.ensures

pub returns : goal.returns
returns c = settles_events _ _ _ _ _ _ _ c.loop-i.invariant c.loop-i-test.false _ c.saturating_sub.ensures
