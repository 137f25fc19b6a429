-- What the later engine's check owes a host.
use Rattle.std.specs.Prelude.{ℕ, List, ◌≡◌}
use Rattle.mother_format.specs.declared.bank.Places.{Places}
use Rattle.mother_check.specs.Verdict.{verdict_of, told_verdict}
use Rattle.mother_check.specs.Run.{run_of, NeverRefused}
use Rattle.hemgosling.specs.Tell.{Tells}

-- the verdict told, and what its 0 says of a run of any length
pub record MotherJudges (bank8 banka : List ℕ) (places : Places) (track : ℕ) (before : List ℕ) (number : ℕ) (after : List ℕ) : Type 0 where
  pub told : Tells (told_verdict (verdict_of bank8 banka places track)) before number after
  pub runs : number ≡ 0 → (n : ℕ) → NeverRefused (run_of bank8 banka places track n)
