use Rattle.mother_format.proofs.channel.Sizes.{next_fits, offset_fits}
use Rattle.mother_format.proofs.channel.played_rule.Goals as goal

pub overflow_cast-next : goal.overflow_cast-next
overflow_cast-next c = next_fits _ _ _ _ c.requires.1 _ _ c.requires.0 _ c.from.ensures c.command_by.ensures _ _ c.in-Ok.is

pub overflow_cast-offset : goal.overflow_cast-offset
overflow_cast-offset c = offset_fits _ _ _ _ c.requires.1 _ _ c.requires.0 _ c.from.ensures c.command_by.ensures _ _ c.in-Err-command_by.is
