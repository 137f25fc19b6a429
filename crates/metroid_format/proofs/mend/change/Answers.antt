use Rattle.metroid_format.proofs.mend.Owed.{words_fit, changed_none, changed_all}
use Rattle.metroid_format.proofs.mend.change.Goals as goal

pub overflow_mul-count : goal.overflow_mul-count
overflow_mul-count c = search words_fit depth 10

pub returns-then-room-count : goal.returns-then-room-count
returns-then-room-count c = search changed_none depth 12

pub returns : goal.returns
returns c = search changed_all depth 12
