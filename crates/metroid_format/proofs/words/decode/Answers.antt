use Rattle.metroid_format.proofs.command.Laws.{goes_on}
use Rattle.metroid_format.proofs.words.Laws.{midway_more, decodes_past, decodes_refused, decodes_end}
use Rattle.metroid_format.proofs.words.decode.Goals as goal

pub returns-in-Err : goal.returns-in-Err
returns-in-Err c = search decodes_refused depth 12

pub overflow_sub-next : goal.overflow_sub-next
overflow_sub-next c = search goes_on depth 8

pub returns-then-is_end : goal.returns-then-is_end
returns-then-is_end c = search decodes_end depth 14

pub loop-n-preserved : goal.loop-n-preserved
loop-n-preserved c = search midway_more depth 14

pub returns : goal.returns
returns c = search decodes_past
