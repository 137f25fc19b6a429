-- Document 01, 'The run of demand 3'.
use Rattle.std.specs.Prelude.{ℕ, zero, suc, ◌+◌, Option, Some, None, List, [], ◌∷◌, eqb}
use Rattle.engine_base.specs.Pick.{pick}
use Rattle.metroid_format.specs.declared.bank.Places.{Places}
use Rattle.engine_base.specs.Channels.{AtMost}
use Rattle.metroid_player.specs.Frame.{start_of, frame_of}
use Rattle.metroid_player.specs.declared.record.Player.{Player}
use Rattle.engine_base.specs.declared.answer.Answer.{Answer}
use Rattle.engine_base.specs.declared.refusal.Refusal.{Refusal as Reason}
use Rattle.metroid_player.specs.declared.frame.Framed.{Framed}
use Rattle.metroid_player.specs.declared.frame.Started.{Started}

-- one start and then a list of frame calls
pub record Run : Type 0 where
  pub started : Started
  pub frames : List Framed

abbrev pub then_frames : (Player → List Framed) → Framed → List Framed
then_frames rest f = f ∷ rest f.player

-- each later frame is given what the one before returned, whatever that answered
unfoldable pub frames_from : (Player → Framed) → ℕ → Player → List Framed
frames_from frame zero player = []
frames_from frame (suc n) player = then_frames (frames_from frame n) (frame player)

-- n frames; the first is given the record that start returned, refused or not
unfoldable pub run_of : List ℕ → Places → ℕ → ℕ → Run
run_of bank places track n = record {
  started = start_of bank places track;
  frames = frames_from (frame_of bank places track) n (start_of bank places track).player;
}

-- what a run shows, or nothing yet
pub data Shown (A : Type 0) : Type 0 where
  nothing : Shown A
  shown : A → Shown A

pub record End : Type 0 where
  pub frame : ℕ
  pub channel : ℕ

-- what is refused; where a frame is refused that frame, and for 10 to 15 the channel, the offset and, last, the address
pub data Refusal : Type 0 where
  of_start : Reason → Refusal
  of_frame : Reason → ℕ → Refusal
  of_data : Reason → ℕ → ℕ → ℕ → ℕ → Refusal

abbrev pub last_from : ℕ → ℕ → List ℕ → ℕ
last_from i found [] = found
last_from i found (n ∷ ns) = last_from (i + 1) (pick (eqb n 0) found i) ns

-- the last in order with a count above 0
abbrev pub last_counted : List ℕ → ℕ
last_counted counts = last_from 0 0 counts

abbrev pub end_by : ℕ → List ℕ → Shown End → Answer → Shown End
end_by k counts later Answer.Events = later
end_by k counts later Answer.End = shown (record { frame = k; channel = last_counted counts })
end_by k counts later Answer.Stopped = later
end_by k counts later (Answer.Refused refusal) = later
end_by k counts later (Answer.Fault refusal channel at address) = later

-- the first frame that answers End, numbered from k; its channel is the last in order with a count above 0 in that answer
unfoldable pub end_from : ℕ → List Framed → Shown End
end_from k [] = nothing
end_from k (f ∷ fs) = end_by k f.counts (end_from (k + 1) fs) f.answer

abbrev pub refusal_by : ℕ → Shown Refusal → Answer → Shown Refusal
refusal_by k later Answer.Events = later
refusal_by k later Answer.End = later
refusal_by k later Answer.Stopped = later
refusal_by k later (Answer.Refused reason) = shown (of_frame reason k)
refusal_by k later (Answer.Fault reason channel at address) = shown (of_data reason channel at k address)

-- that of the lowest-numbered refused frame
unfoldable pub refusal_from : ℕ → List Framed → Shown Refusal
refusal_from k [] = nothing
refusal_from k (f ∷ fs) = refusal_by k (refusal_from (k + 1) fs) f.answer

-- frames are numbered from 0 by their place in the list
abbrev pub first_end : Run → Shown End
first_end run = end_from 0 run.frames

abbrev pub refusal_start : Option Reason → Shown Refusal → Shown Refusal
refusal_start None later = later
refusal_start (Some reason) later = shown (of_start reason)

-- start's, else a frame's
abbrev pub first_refusal : Run → Shown Refusal
first_refusal run = refusal_start run.started.refusal (refusal_from 0 run.frames)

-- every channel of every frame reads at most so many commands
abbrev pub ReadAtMost : ℕ → List Framed → Type 0
ReadAtMost most [] = Unit {0}
ReadAtMost most (f ∷ fs) = AtMost most f.counts × ReadAtMost most fs
