-- The verdict, of an opened track and of one that does not open.
use Prim.Native.Nat.{ℕ}
use mathlib.Core.List.{List}
use mathlib.Core.Path.{◌≡◌}
use Rattle.std.specs.Prelude.{Ok, Err}
use Rattle.engine_base.specs.declared.refusal.Refusal.{Refusal}
use Rattle.metroid_format.specs.Header.{open_track}
use Rattle.metroid_format.specs.Timeline.{soonest_of}
use Rattle.metroid_format.specs.declared.bank.Places.{Places}
use Rattle.metroid_format.specs.declared.header.Track.{Track}
use Rattle.metroid_check.specs.Verdict.{verdict_by, verdict_of}
use Rattle.metroid_check.specs.declared.verdict.Verdict.{Verdict}

module _ (bank : List ℕ) (places : Places) (track : ℕ) where
  pub opened_verdict : {opened : Track} → open_track bank places track ≡ Ok opened →
      verdict_by (soonest_of bank opened) ≡ verdict_of bank places track
  unfolding verdict_of
  opened_verdict e = rw e

  pub unopened_verdict : {refusal : Refusal} → open_track bank places track ≡ Err refusal →
      Verdict.Refused refusal ≡ verdict_of bank places track
  unfolding verdict_of
  unopened_verdict e = rw e
