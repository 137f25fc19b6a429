-- What start and frame of the later engine owe a host that lends its one record.
use Rattle.std.specs.Prelude.{ℕ, List, ◌≡◌}
use Rattle.mother_format.specs.declared.bank.Places.{Places}
use Rattle.mother_player.specs.Frame.{start_of, frame_of, told_started, told_framed}
use Rattle.mother_player.specs.declared.record.Player.{Player}
use Rattle.hemgosling.specs.Tell.{Tells}

-- its number, and the record
pub record MotherStarts (bank8 banka : List ℕ) (places : Places) (track number : ℕ) (after : Player) : Type 0 where
  pub says : number ≡ (told_started (start_of bank8 banka places track)).number
  pub fresh : after ≡ (start_of bank8 banka places track).player

-- its answer told, and the record stepped where it sits
pub record MotherSteps (bank8 banka : List ℕ) (places : Places) (track : ℕ) (player : Player) (buffer : List ℕ) (number : ℕ) (player' : Player) (buffer' : List ℕ) : Type 0 where
  pub told : Tells (told_framed (frame_of bank8 banka places track player)) buffer number buffer'
  pub stepped : player' ≡ (frame_of bank8 banka places track player).player
