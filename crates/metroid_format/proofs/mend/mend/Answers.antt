use borrow.Author.Rules.{rules}
use Rattle.metroid_format.proofs.mend.Owed.{mends_empty, mends_long, part_size, mends_changed}
use Rattle.metroid_format.proofs.mend.mend.Goals as goal
use Rattle.metroid_format.proofs.mend.mend.Goals.{then-size-eq0-via-then-size-eq0, then-size-eq0-via-else-size-eq0+then-size-gt-DATA_LIMIT}

pub returns-then-size-eq0 : goal.returns-then-size-eq0
returns-then-size-eq0 c = elim c.then-size-eq0.branch [ then-size-eq0-via-then-size-eq0 w ↦ search mends_empty depth 10 | then-size-eq0-via-else-size-eq0+then-size-gt-DATA_LIMIT w ↦ search mends_long depth 10 ]

pub change-requires : goal.change-requires
change-requires c = (search rules, search part_size depth 10)

pub returns : goal.returns
returns c = search mends_changed depth 12
