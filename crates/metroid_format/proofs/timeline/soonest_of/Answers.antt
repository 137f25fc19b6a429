use mathlib.Core.Path.{refl}
use borrow.Author.Rules.{rules}
use Rattle.engine_base.proofs.Picks.{answers}
use Rattle.metroid_format.proofs.timeline.FirstStop.{look_on, looked}
use Rattle.metroid_format.proofs.timeline.soonest_of.Goals as goal

pub loop-i-init : goal.loop-i-init
loop-i-init c = record { four = search rules; same = refl }

pub loop-i-preserved : goal.loop-i-preserved
loop-i-preserved c = search look_on depth 8

pub returns : goal.returns
returns c = answers _ _ _ (looked _ _ _ _ _ c.loop-i.invariant c.loop-i-test.false)
