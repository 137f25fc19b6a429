use mir.Syntax.{w16}
use mir.ValLaws.{to_z-of_z}
use Rattle.mother_format.specs.Transpose.{is_odd}
use Rattle.mother_format.proofs.transpose.is_odd.Goals as goal

pub returns : goal.returns
unfolding is_odd
returns c = rw (c.unsigned_abs.ensures.value, to_z-of_z w16 c.amount.result (record { sfits = c.amount.type_inv }), c.amount.ensures)
