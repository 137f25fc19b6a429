use native.Mathlib.Omega.{arith}
use borrow.Author.Rules.{rules}
use Rattle.metroid_format.proofs.mend.Laws.{listing_more, listing_all}
use Rattle.metroid_format.proofs.mend.list_changes.Goals as goal

pub list_change-n-requires : goal.list_change-n-requires
list_change-n-requires c = (search rules, omega (arith, c.requires.0))

pub loop-i-preserved : goal.loop-i-preserved
loop-i-preserved c = search listing_more depth 14

pub returns : goal.returns
returns c = search listing_all depth 10
