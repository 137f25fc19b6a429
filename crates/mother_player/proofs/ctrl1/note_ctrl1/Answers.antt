use mathlib.Core.Path.{◌∙◌}
use Rattle.mother_player.proofs.ctrl1.Envelope.{no_envelope, outside, along_envelope}
use Rattle.mother_player.proofs.ctrl1.note_ctrl1.Goals as goal

pub returns-then-number-eq0 : goal.returns-then-number-eq0
returns-then-number-eq0 c = no_envelope _ _ _ _ c.low-number.ensures c.if-number-eq0.true _ c.default_ctrl1.ensures

pub returns-then-not-fits : goal.returns-then-not-fits
returns-then-not-fits c = outside _ _ _ _ c.low-number.ensures c.if-number-eq0.false _ (c.from-address.ensures ∙ c.address_of.ensures) _ c.fits.ensures c.if-not-fits.true _ c.default_ctrl1-then-not-fits.ensures

pub returns : goal.returns
returns c = along_envelope _ _ _ _ c.low-number.ensures c.if-number-eq0.false _ (c.from-address.ensures ∙ c.address_of.ensures) _ c.fits.ensures c.if-not-fits.false _ c.offset_of-at.ensures _ c.index_of-index.ensures _ c.ctrl1_at.ensures
