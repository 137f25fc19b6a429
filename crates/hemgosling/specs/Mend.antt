-- What mending owes a host.
use Rattle.std.specs.Prelude.{ℕ, List, ◌≡◌, length}
use Rattle.metroid_format.specs.Command.{data_limit}
use Rattle.metroid_format.specs.Mend.{mending, told_mending, data_left, list_left, changes_of, Saves}
use Rattle.metroid_format.specs.declared.command.Kind.{Kind}
use Rattle.hemgosling.specs.Tell.{Tells}

-- the answer told, the data, the list, and what is so of them
pub record MendsInto (kind : Kind) (bytes list before : List ℕ) (number : ℕ) (bytes' list' after : List ℕ) : Type 0 where
  pub told : Tells (told_mending (mending data_limit kind bytes (length list))) before number after
  pub mends : bytes' ≡ data_left data_limit kind bytes (length list)
  pub lists : list' ≡ list_left data_limit kind bytes list
  pub saves : number ≡ 0 → Saves kind bytes bytes' (changes_of kind bytes)
