-- Document 02, No. 3: demand 3 one way. What the check passes is never refused, however many frames are asked for.
use Rattle.std.specs.Prelude.{ℕ, zero, suc, List, [], ◌∷◌, ◌≡◌, None}
use Rattle.engine_base.specs.Told.{Answers}
use Rattle.engine_base.specs.declared.answer.Answer.{Answer}
use Rattle.mother_format.specs.declared.bank.Places.{Places}
use Rattle.mother_player.specs.Frame.{start_of, frame_of}
use Rattle.mother_player.specs.declared.record.Player.{Player}
use Rattle.mother_player.specs.declared.frame.Framed.{Framed}
use Rattle.mother_player.specs.declared.frame.Started.{Started}
use Rattle.mother_check.specs.Verdict.{verdict_of, told_verdict}
use Rattle.mother_check.specs.declared.verdict.Verdict.{Verdict}

-- one start and then a list of frame calls
pub record Run : Type 0 where
  pub started : Started
  pub frames : List Framed

abbrev pub then_frames : (Player → List Framed) → Framed → List Framed
then_frames rest f = f ∷ rest f.player

-- each later frame is given what the one before returned, whatever that answered
unfoldable pub frames_from : (Player → Framed) → ℕ → Player → List Framed
frames_from frame zero player = []
frames_from frame (suc n) player = then_frames (frames_from frame n) (frame player)

-- n frames; the first is given the record that start returned, refused or not
unfoldable pub run_of : List ℕ → List ℕ → Places → ℕ → ℕ → Run
run_of bank8 banka places track n = record {
  started = start_of bank8 banka places track;
  frames = frames_from (frame_of bank8 banka places track) n (start_of bank8 banka places track).player;
}

abbrev pub Accepted : Answer → Type 0
Accepted Answer.Events = Unit {0}
Accepted Answer.End = Unit {0}
Accepted Answer.Stopped = Unit {0}
Accepted (Answer.Refused refusal) = ⊥
Accepted (Answer.Fault refusal i at address) = ⊥

abbrev pub AllAccepted : List Framed → Type 0
AllAccepted [] = Unit {0}
AllAccepted (f ∷ fs) = Accepted f.answer × AllAccepted fs

-- neither start nor a frame is refused
pub record NeverRefused (run : Run) : Type 0 where
  pub start : run.started.refusal ≡ None
  pub frames : AllAccepted run.frames

-- what the check owes: the verdict of the definition, and what a pass says of a run of any length
pub record Judged (bank8 banka : List ℕ) (places : Places) (track : ℕ) (verdict : Verdict) : Type 0 where
  pub answer : Answers told_verdict verdict (verdict_of bank8 banka places track)
  pub runs : verdict ≡ Verdict.Pass → (n : ℕ) → NeverRefused (run_of bank8 banka places track n)
