use Rattle.mother_player.proofs.reading.Laws.{row_within}
use Rattle.mother_player.proofs.reading.list_step.Goals as goal

pub enter-requires : goal.enter-requires
enter-requires c =
    let b = c.in-Ok-Block in
    row_within _ _ _ _ _ c.entry_at-entry.ensures.same _ b.is _ _ (rw b.is at b.field-0-is)
