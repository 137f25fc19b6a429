-- Document 02, No. 3: the check.
use Rattle.std.specs.Prelude.{ℕ, List, [], ◌∷◌, Option, Some, None, Result, Ok, Err}
use Rattle.engine_base.specs.Refusal.{number_of}
use Rattle.engine_base.specs.Told.{Told}
use Rattle.engine_base.specs.declared.refusal.Refusal.{Refusal}
use Rattle.mother_format.specs.Header.{open_track}
use Rattle.mother_format.specs.declared.bank.Places.{Places}
use Rattle.mother_format.specs.declared.header.Track.{Track}
use Rattle.mother_check.specs.Faults.{track_faults, first_of}
use Rattle.mother_check.specs.declared.faults.Fault.{Fault}
use Rattle.mother_check.specs.declared.verdict.Verdict.{Verdict}

abbrev pub verdict_by : Option Fault → Verdict
verdict_by None = Verdict.Pass
verdict_by (Some f) = Verdict.Fault f

-- 1 to 9 and the header's 19 come first
abbrev pub verdict_on : List ℕ → List ℕ → Places → Result Track Refusal → Verdict
verdict_on bank8 banka places (Ok track) = verdict_by (first_of (track_faults bank8 banka places track))
verdict_on bank8 banka places (Err refusal) = Verdict.Refused refusal

unfoldable pub verdict_of : List ℕ → List ℕ → Places → ℕ → Verdict
verdict_of bank8 banka places track = verdict_on bank8 banka places (open_track bank8 banka places track)

-- 0; the number; or the number, the channel, the offset, the place and the address
abbrev pub told_verdict : Verdict → Told
told_verdict Verdict.Pass = record { number = 0; values = [] }
told_verdict (Verdict.Refused refusal) = record { number = number_of refusal; values = [] }
told_verdict (Verdict.Fault f) = record { number = number_of f.refusal; values = f.channel ∷ f.at ∷ f.place ∷ f.address ∷ [] }
