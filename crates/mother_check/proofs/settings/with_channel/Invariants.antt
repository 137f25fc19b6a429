use Rattle.mother_check.specs.Walk.{most_words}
use Rattle.mother_check.specs.Extremes.{with_channel}
use Rattle.mother_check.proofs.settings.Laws.{Walking}
use Rattle.mother_check.proofs.settings.with_channel.Given as goal

abbrev pub invariant-loop : goal.invariant-loop
invariant-loop l = Walking l.banks.bank8.now l.banks.banka.now l.table l.voice.kind most_words (with_channel l.banks.bank8.now l.banks.banka.now l.table l.voice.kind l.voice.list l.initial.e) l.e l.spot l.marks l.counter
