-- What start and frame owe a host that lends its one record.
use Rattle.std.specs.Prelude.{ℕ, List, ◌≡◌}
use Rattle.metroid_format.specs.declared.bank.Places.{Places}
use Rattle.metroid_player.specs.Frame.{start_of, frame_of, told_started, told_framed}
use Rattle.metroid_player.specs.declared.record.Player.{Player}
use Rattle.metroid_check.specs.Countdown.{Countdown}
use Rattle.metroid_check.specs.Verdict.{verdict_of}
use Rattle.hemgosling.specs.Tell.{Tells}

-- its number, the record, and the frames left that a run from it shows, of any length
pub record Starts (bank : List ℕ) (places : Places) (track number : ℕ) (after : Player) : Type 0 where
  pub says : number ≡ (told_started (start_of bank places track)).number
  pub fresh : after ≡ (start_of bank places track).player
  pub countdown : (n : ℕ) → Countdown bank places track n (verdict_of bank places track)

-- its answer told, and the record stepped where it sits
pub record Steps (bank : List ℕ) (places : Places) (track : ℕ) (player : Player) (buffer : List ℕ) (number : ℕ) (player' : Player) (buffer' : List ℕ) : Type 0 where
  pub told : Tells (told_framed (frame_of bank places track player)) buffer number buffer'
  pub stepped : player' ≡ (frame_of bank places track player).player
