-- Document 02, No. 2: the frames left that a run shows, one claim over the whole run.
use Rattle.std.specs.Prelude.{ℕ, ◌+◌, ◌-◌, ◌%◌, ◌≤◌, Bool, true, false, List, [], ◌∷◌, ◌≡◌}
use Rattle.engine_base.specs.Answer.{answer_number}
use Rattle.engine_base.specs.Pick.{pick}
use Rattle.engine_base.specs.Refusal.{number_of}
use Rattle.engine_base.specs.declared.refusal.Refusal.TheVariants.{InvalidRecord}
use Rattle.engine_base.specs.declared.answer.Answer.{Answer}
use Rattle.metroid_format.specs.Header.{open_track}
use Rattle.metroid_format.specs.declared.bank.Places.{Places}
use Rattle.metroid_player.specs.Record.{most_frames}
use Rattle.metroid_player.specs.Frame.{restarts}
use Rattle.metroid_player.specs.declared.record.Player.{Player}
use Rattle.metroid_player.specs.declared.frame.Framed.{Framed}
use Rattle.metroid_check.specs.Run.{run_of}
use Rattle.metroid_check.specs.declared.verdict.Verdict.{Verdict}

-- what frame j of a run shows: of a pass, with restart or without; after a refused start; and up to a fault and from then on
abbrev pub left_foreseen : Bool → Verdict → ℕ → ℕ
left_foreseen restart (Verdict.Pass frame channel) j = pick restart (frame - j % (frame + 1)) (frame - j)
left_foreseen restart (Verdict.Refused refusal) j = 0
left_foreseen restart (Verdict.Fault refusal channel at frame address) j = frame - j

-- 0 is shown exactly by a frame without events
abbrev pub ZeroWithoutEvents : Framed → Type 0
ZeroWithoutEvents f =
    (f.frames_left ≡ 0 → f.answer ≡ Answer.Events → ⊥) × ((f.answer ≡ Answer.Events → ⊥) → f.frames_left ≡ 0)

-- 0 is shown exactly with the answer End
abbrev pub ZeroAtEnd : Framed → Type 0
ZeroAtEnd f = (f.frames_left ≡ 0 → f.answer ≡ Answer.End) × (f.answer ≡ Answer.End → f.frames_left ≡ 0)

-- in a track that passes: with restart in every frame, without up to the first end
abbrev pub ZeroForeseen : Bool → Verdict → ℕ → Framed → Type 0
ZeroForeseen true (Verdict.Pass frame channel) j f = ZeroAtEnd f
ZeroForeseen false (Verdict.Pass frame channel) j f = j ≤ frame → ZeroAtEnd f
ZeroForeseen restart (Verdict.Refused refusal) j f = Unit {0}
ZeroForeseen restart (Verdict.Fault refusal channel at frame address) j f = Unit {0}

-- both numbers of a record
abbrev pub NumbersWithin : Player → Type 0
NumbersWithin player = (player.frames_left ≤ most_frames) × (player.pass_length ≤ most_frames)

-- frame j of a run; none is refused under 16
pub record CountsDown (restart : Bool) (verdict : Verdict) (j : ℕ) (f : Framed) : Type 0 where
  pub shown : f.frames_left ≡ left_foreseen restart verdict j
  pub silent : ZeroWithoutEvents f
  pub zero : ZeroForeseen restart verdict j f
  pub numbers : NumbersWithin f.player
  pub fits : answer_number f.answer ≡ number_of InvalidRecord → ⊥

-- each frame of a list, numbered from k
abbrev pub EachFrom : (ℕ → Framed → Type 0) → ℕ → List Framed → Type 0
EachFrom P k [] = Unit {0}
EachFrom P k (f ∷ fs) = P k f × EachFrom P (k + 1) fs

-- start and n frames
pub record Countdown (bank : List ℕ) (places : Places) (track n : ℕ) (verdict : Verdict) : Type 0 where
  pub started : NumbersWithin (run_of bank places track n).started.player
  pub frames :
      EachFrom (CountsDown (restarts (open_track bank places track)) verdict) 0 (run_of bank places track n).frames
