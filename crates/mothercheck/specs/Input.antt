-- Two banks, one after the other.
use Rattle.std.specs.Prelude.{ℕ, List, take, drop}
use Rattle.mother_format.specs.Bank.{bank_size, published}
use Rattle.mother_format.specs.declared.bank.Tracks.{Tracks}
use Rattle.mother_check.specs.Verdict.{verdict_of}
use Rattle.mother_check.specs.declared.verdict.Verdict.{Verdict}

-- of a track, with the published places; the second bank is all that follows the first, so that another length is refused
abbrev pub input_verdict : List ℕ → Tracks → ℕ → Verdict
input_verdict input tracks track = verdict_of (take bank_size input) (drop bank_size input) (published tracks) track
