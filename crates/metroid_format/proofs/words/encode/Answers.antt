use Rattle.metroid_format.proofs.words.Laws.{halfway_more, encodes_past, encodes_refused, encodes_end, encodes_early, bytes_fit}
use Rattle.metroid_format.proofs.words.encode.Goals as goal

pub returns-in_default : goal.returns-in_default
returns-in_default c =
    let i = encodes_refused _ _ _ _ _ _ c.loop-i.invariant c.loop-i-test.true _ c.command_of_word.ensures _ _ c.in_default.is in
    record { valid = i.valid; written = i.written }

pub overflow_add-n : goal.overflow_add-n
overflow_add-n c = search bytes_fit depth 12

pub returns-then-i-words : goal.returns-then-i-words
returns-then-i-words c =
    let e = encodes_end _ _ _ _ _ _ c.loop-i.invariant c.loop-i-test.true _ c.command_of_word.ensures _ _ c.in-Ok.is _ c.put_pair.ensures _ c.is_end.ensures c.if-is_end.true c.if-i-words.true in
    record { valid = e; written = e.filled }

pub returns-else-i-words : goal.returns-else-i-words
returns-else-i-words c =
    let i = encodes_early _ _ _ _ _ _ c.loop-i.invariant c.loop-i-test.true _ c.command_of_word.ensures _ _ c.in-Ok.is _ c.put_pair.ensures _ c.is_end.ensures c.if-is_end.true c.if-i-words.false in
    record { valid = i.valid; written = i.written }

pub loop-i-preserved : goal.loop-i-preserved
loop-i-preserved c = search halfway_more depth 14

pub returns : goal.returns
returns c =
    let i = encodes_past _ _ _ _ _ _ c.loop-i.invariant c.loop-i-test.false in
    record { valid = i.valid; written = i.written }
