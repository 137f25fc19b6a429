use Rattle.mother_check.proofs.settings.Laws.{Visiting}
use Rattle.mother_check.proofs.settings.extremes_of.Given as goal

abbrev pub invariant-loop-voice : goal.invariant-loop-voice
invariant-loop-voice l = Visiting l.banks.bank8.now l.banks.banka.now l.places.note_lengths l.initial.e l.voice-items l.e l.voice-index
