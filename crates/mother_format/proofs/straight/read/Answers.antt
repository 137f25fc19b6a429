use mathlib.Core.Path.{sym, ◌∙◌}
use borrow.Author.Rules.{rules}
use Rattle.mother_format.proofs.straight.Laws.{midway_none, more_few, read_refused, read_end, read_more, read_past}
use Rattle.mother_format.proofs.straight.read.Goals as goal

pub loop-init : goal.loop-init
loop-init c = midway_none _ _

pub returns-in-Err : goal.returns-in-Err
returns-in-Err c = read_refused _ _ _ _ _ c.loop.invariant c.loop-test.true _ c.command_at.ensures.same _ c.in-Err.is

pub returns-then-is_end : goal.returns-then-is_end
returns-then-is_end c = read_end _ _ _ _ _ c.loop.invariant c.loop-test.true _ c.command_at.ensures.same _ _ c.in-Ok.is (sym c.is_end.ensures ∙ c.if-is_end.true)

pub overflow_add-notes : goal.overflow_add-notes
overflow_add-notes c = let few = more_few _ _ _ _ _ c.loop.invariant c.in-Ok.command _ c.notes_of-notes.ensures in search rules

pub loop-preserved : goal.loop-preserved
loop-preserved c = read_more _ _ _ _ _ c.loop.invariant c.loop-test.true _ c.command_at.ensures.same _ _ c.in-Ok.is (sym c.is_end.ensures ∙ c.if-is_end.false) _ c.notes_of-notes.ensures

pub returns : goal.returns
returns c = read_past _ _ _ _ _ c.loop.invariant c.loop-test.false
