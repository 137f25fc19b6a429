use mathlib.Core.Path.{◌∙◌}
use Rattle.cuecheck.proofs.verdict_of.Goals as goal

pub returns : goal.returns
returns c = c.check.ensures.answer.same ∙ rw c.published_places.ensures
