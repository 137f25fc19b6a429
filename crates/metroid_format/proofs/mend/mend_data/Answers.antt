use Rattle.metroid_format.proofs.mend.Laws.{midway_past, midway_end, midway_closed}
use Rattle.metroid_format.proofs.mend.mend_data.Goals as goal

pub returns-in_default : goal.returns-in_default
returns-in_default c = let (e, z) = c.in_default.ensures in search midway_end depth 10

pub returns-then-bytes-next : goal.returns-then-bytes-next
returns-then-bytes-next c = let p = c.in-Some.ensures in search midway_closed depth 10

pub returns : goal.returns
returns c = search midway_past depth 10
