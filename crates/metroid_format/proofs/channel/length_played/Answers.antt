use Rattle.metroid_format.proofs.channel.Ruled.{plays_fault, plays_after}
use Rattle.metroid_format.proofs.channel.length_played.Goals as goal

pub returns-in-Err : goal.returns-in-Err
returns-in-Err c current =
    let p = c.requires in
    rw c.refused.ensures (plays_fault _ _ _ _ _ _ current p.1 _ p.2 p.3 _ c.in-Err.ensures)

pub returns-in-Ok-note_at : goal.returns-in-Ok-note_at
returns-in-Ok-note_at c current =
    let p = c.requires in
    let (fit, length) = c.in-Ok.ensures in
    rw length (plays_after _ _ _ _ _ _ current p.1 _ p.2 p.3 fit _ (c.in-Ok-note_at.ensures.1 c.args.l))

pub returns-in-Err-note_at : goal.returns-in-Err-note_at
returns-in-Err-note_at c current =
    let p = c.requires in
    rw c.address_at.ensures (plays_after _ _ _ _ _ _ current p.1 _ p.2 p.3 c.in-Ok.ensures.0 _ (c.in-Err-note_at.ensures c.args.l))
