-- Demand 3, one claim over the whole run.
use Rattle.std.specs.Prelude.{ℕ, List, ◌≡◌, ltb}
use Rattle.engine_base.specs.Pick.{pick}
use Rattle.engine_base.specs.Told.{Answers}
use Rattle.metroid_format.specs.declared.bank.Places.{Places}
use Rattle.metroid_player.specs.Counts.{most_commands}
use Rattle.metroid_check.specs.Run.{
  Shown,
  nothing,
  shown,
  End,
  Refusal,
  of_start,
  of_data,
  run_of,
  first_end,
  first_refusal,
  ReadAtMost,
}
use Rattle.metroid_check.specs.Countdown.{Countdown}
use Rattle.metroid_check.specs.Verdict.{verdict_of, told_verdict}
use Rattle.metroid_check.specs.declared.verdict.Verdict.{Verdict}

-- in a list of n frames, where these reach the frame
abbrev pub if_reached : {A : Type 0} → ℕ → ℕ → A → Shown A
if_reached n frame x = pick (ltb frame n) (shown x) nothing

-- the end that a verdict names
abbrev pub end_foreseen : ℕ → Verdict → Shown End
end_foreseen n (Verdict.Pass frame channel) = if_reached n frame (record { frame = frame; channel = channel })
end_foreseen n (Verdict.Refused reason) = nothing
end_foreseen n (Verdict.Fault reason channel at frame address) = nothing

-- the refusal that a verdict names; start's is shown by a list of any length
abbrev pub refusal_foreseen : ℕ → Verdict → Shown Refusal
refusal_foreseen n (Verdict.Pass frame channel) = nothing
refusal_foreseen n (Verdict.Refused reason) = shown (of_start reason)
refusal_foreseen n (Verdict.Fault reason channel at frame address) = if_reached n frame (of_data reason channel at frame address)

-- a run of n frames shows what the verdict foresees, and no channel reads more than 32,896 commands in a frame
pub record Demand3 (bank : List ℕ) (places : Places) (track n : ℕ) (verdict : Verdict) : Type 0 where
  pub end : first_end (run_of bank places track n) ≡ end_foreseen n verdict
  pub refusal : first_refusal (run_of bank places track n) ≡ refusal_foreseen n verdict
  pub commands : ReadAtMost most_commands (run_of bank places track n).frames

-- what the check owes: the verdict of the definition, and what it says of a run of any length, of its frames left too
pub record Foreseen (bank : List ℕ) (places : Places) (track : ℕ) (verdict : Verdict) : Type 0 where
  pub answer : Answers told_verdict verdict (verdict_of bank places track)
  pub runs : (n : ℕ) → Demand3 bank places track n verdict
  pub countdown : (n : ℕ) → Countdown bank places track n verdict
