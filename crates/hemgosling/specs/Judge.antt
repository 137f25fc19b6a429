-- What the check owes a host.
use Rattle.std.specs.Prelude.{ℕ, List}
use Rattle.metroid_format.specs.declared.bank.Places.{Places}
use Rattle.metroid_check.specs.Verdict.{verdict_of, told_verdict}
use Rattle.metroid_check.specs.Demand3.{Demand3}
use Rattle.metroid_check.specs.Countdown.{Countdown}
use Rattle.hemgosling.specs.Tell.{Tells}

-- the verdict told, and what it says of a run of any length, of its frames left too
pub record Judges (bank : List ℕ) (places : Places) (track : ℕ) (before : List ℕ) (number : ℕ) (after : List ℕ) : Type 0 where
  pub told : Tells (told_verdict (verdict_of bank places track)) before number after
  pub runs : (n : ℕ) → Demand3 bank places track n (verdict_of bank places track)
  pub countdown : (n : ℕ) → Countdown bank places track n (verdict_of bank places track)
