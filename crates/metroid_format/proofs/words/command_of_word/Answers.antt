use mathlib.Core.Path.{◌∙◌}
use native.Mathlib.Omega.{arith}
use Rattle.metroid_format.proofs.words.Laws.{le_bytes, word_given, word_other}
use Rattle.metroid_format.proofs.words.command_of_word.Goals as goal

pub returns-in-Ok : goal.returns-in-Ok
returns-in-Ok c =
    word_given _ _ _ (c.to_le_bytes-bytes.ensures ∙ le_bytes _ (omega arith)) _ c.command_at.ensures.same
    _ _ c.in-Ok.is _ c.part.ensures _ c.word.ensures c.if-word.true

pub returns-in_default : goal.returns-in_default
returns-in_default c =
    word_other _ _ _ (c.to_le_bytes-bytes.ensures ∙ le_bytes _ (omega arith)) _ c.command_at.ensures.same
    _ _ c.in-Ok.is _ c.part.ensures _ c.word.ensures c.if-word.false
