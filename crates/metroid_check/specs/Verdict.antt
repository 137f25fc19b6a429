-- The check: the first stop of a track, told.
use Rattle.std.specs.Prelude.{ℕ, ◌+◌, ◌<◌, ◌≤◌, min, Option, Some, None, Result, Ok, Err, List, [], ◌∷◌, ◌≡◌}
use Rattle.engine_base.specs.Address.{bank_end}
use Rattle.engine_base.specs.Told.{Told}
use Rattle.engine_base.specs.Refusal.{number_of, Unopened, FaultAt}
use Rattle.engine_base.specs.declared.refusal.Refusal.{Refusal}
use Rattle.engine_base.specs.declared.refusal.Refusal.TheVariants.{NoChannel, PastData}
use Rattle.metroid_format.specs.Command.{data_limit}
use Rattle.metroid_format.specs.Header.{open_track}
use Rattle.metroid_format.specs.Timeline.{soonest_of}
use Rattle.metroid_format.specs.declared.bank.Places.{Places}
use Rattle.metroid_format.specs.Timeline.{Finish}
use Rattle.metroid_format.specs.declared.timeline.Soonest.{Soonest}
use Rattle.metroid_format.specs.declared.header.Track.{Track}
use Rattle.metroid_check.specs.declared.verdict.Verdict.{Verdict}

-- an end passes; some channel of an opened track is used
abbrev pub verdict_stop : ℕ → ℕ → Finish → Verdict
verdict_stop frame channel (Ok passed) = Verdict.Pass frame channel
verdict_stop frame channel (Err (refusal, at, address)) = Verdict.Fault refusal channel at frame address

abbrev pub verdict_by : Option Soonest → Verdict
verdict_by None = Verdict.Refused NoChannel
verdict_by (Some stop) = verdict_stop stop.frame stop.channel stop.finish

abbrev pub verdict_opened : List ℕ → Result Track Refusal → Verdict
verdict_opened bank (Ok track) = verdict_by (soonest_of bank track)
verdict_opened bank (Err refusal) = Verdict.Refused refusal

-- 1 to 9 come first
unfoldable pub verdict_of : List ℕ → Places → ℕ → Verdict
verdict_of bank places track = verdict_opened bank (open_track bank places track)

-- 0, the frame and the channel; or the number, and for 10 to 15 the channel, the offset, the frame and the address
abbrev pub told_verdict : Verdict → Told
told_verdict (Verdict.Pass frame channel) = record { number = 0; values = frame ∷ channel ∷ [] }
told_verdict (Verdict.Refused refusal) = record { number = number_of refusal; values = [] }
told_verdict (Verdict.Fault refusal channel at frame address) = record { number = number_of refusal; values = channel ∷ at ∷ frame ∷ address ∷ [] }

-- Below: only private contracts and laws use these.

-- a refusal is one of 1 to 15; a verdict's place is one of four channels, an offset in its data or at its end, and the address that is
-- the channel's start address plus the offset, at most $c000; for 15 the smaller of start + 256 and $c000 (proofs/verdict/Place.antt)
abbrev pub VerdictWithin : (ℕ → ℕ) → Verdict → Type 0
VerdictWithin start (Verdict.Pass frame channel) = channel < 4
VerdictWithin start (Verdict.Refused refusal) = Unopened refusal
VerdictWithin start (Verdict.Fault refusal channel at frame address) =
    (channel < 4)
    × FaultAt (start channel) data_limit refusal at address
    × (address ≤ bank_end)
    × (refusal ≡ PastData → address ≡ min (start channel + data_limit) bank_end)
