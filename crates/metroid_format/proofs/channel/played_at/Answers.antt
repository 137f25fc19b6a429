use borrow.Author.Rules.{rules}
use Rattle.metroid_format.proofs.command.Laws.{within}
use Rattle.metroid_format.proofs.channel.Ruled.{plays_lone, plays_early, plays_note, plays_invalid}
use Rattle.metroid_format.proofs.channel.played_at.Goals as goal

pub overflow_add-result : goal.overflow_add-result
overflow_add-result c = let h = within _ _ _ (rw c.in-Ok-EndLoop.field-0-is at c.in-Ok-EndLoop.ensures) in search rules

pub overflow_add-result-in-Ok-BeginLoop : goal.overflow_add-result-in-Ok-BeginLoop
overflow_add-result-in-Ok-BeginLoop c = let h = within _ _ _ (rw c.in-Ok-BeginLoop.field-0-is at c.in-Ok-BeginLoop.ensures) in search rules

pub length_played-requires : goal.length_played-requires
length_played-requires c = let (h, s, e) = (rw c.in-Ok-Length.field-0-is at c.in-Ok-Length.ensures) in (c.requires, h, s, e)

pub overflow_add-result-in-Ok-Note-2 : goal.overflow_add-result-in-Ok-Note-2
overflow_add-result-in-Ok-Note-2 c = let h = within _ _ _ (rw c.in-Ok-Note.field-0-is at c.in-Ok-Note.ensures) in search rules

pub returns-in-Ok-End : goal.returns-in-Ok-End
returns-in-Ok-End c = plays_lone _ _ _ _ _ _ _ _ (rw c.in-Ok-End.field-0-is at c.in-Ok-End.ensures)

pub returns-in-Ok-EndLoop : goal.returns-in-Ok-EndLoop
returns-in-Ok-EndLoop c = plays_lone _ _ _ _ _ _ _ _ (rw c.in-Ok-EndLoop.field-0-is at c.in-Ok-EndLoop.ensures)

pub returns-in-Ok-BeginLoop : goal.returns-in-Ok-BeginLoop
returns-in-Ok-BeginLoop c = rw c.counter_of.ensures (plays_lone _ _ _ _ _ _ _ _ (rw c.in-Ok-BeginLoop.field-0-is at c.in-Ok-BeginLoop.ensures))

pub returns-in-Ok-Length : goal.returns-in-Ok-Length
returns-in-Ok-Length c = c.length_played.ensures _

pub returns-in-Ok-Note : goal.returns-in-Ok-Note
returns-in-Ok-Note c = rw c.refused.ensures (plays_early _ _ _ _ _ _ _ _ (rw c.in-Ok-Note.field-0-is at c.in-Ok-Note.ensures) c.if-length-eq0.true)

pub returns-in-Ok-Note-2 : goal.returns-in-Ok-Note-2
returns-in-Ok-Note-2 c = plays_note _ _ _ _ _ _ _ _ (rw c.in-Ok-Note.field-0-is at c.in-Ok-Note.ensures) c.if-length-eq0.false

pub returns-in-Err : goal.returns-in-Err
returns-in-Err c = rw c.refused-in-Err.ensures (plays_invalid _ _ _ _ _ _ _ _ c.in-Err.ensures)
