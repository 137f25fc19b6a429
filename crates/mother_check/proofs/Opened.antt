-- A track that opens is that of its header, and nothing before it is refused.
use Prim.Native.Nat.{ℕ}
use mathlib.Core.List.{List}
use mathlib.Core.Path.{◌≡◌, refl}
use Rattle.std.specs.Prelude.{Result, Ok, Err}
use Rattle.engine_base.specs.Address.{offset_of}
use Rattle.engine_base.specs.declared.refusal.Refusal.{Refusal}
use Rattle.engine_base.proofs.Picks.{refused_given}
use Rattle.mother_format.specs.Bank.{banks}
use Rattle.mother_format.specs.Header.{header_address, and_then, number_of, track_of, open_track}
use Rattle.mother_format.specs.declared.bank.Places.{Places}
use Rattle.mother_format.specs.declared.header.Track.{Track}

pub then_given : {A : Type 0} {given : A} (x : Result (Unit {0}) Refusal) (rest : Result A Refusal) → and_then x rest ≡ Ok given → rest ≡ Ok given
then_given (Ok passed) rest e = e
then_given (Err refusal) rest e = absurd (refused_given refusal _ e)

module _ (bank8 banka : List ℕ) (places : Places) (number : ℕ) (track : Track) where
  abbrev found : Track
  found = track_of (banks bank8 banka) (offset_of (header_address (banks bank8 banka) places number))

  pub opened_is : open_track bank8 banka places number ≡ Ok track → (number_of bank8 banka places number ≡ Ok tt) × (found ≡ track)
  unfolding open_track
  opened_is = by (number_of bank8 banka places number) refl
    where
      by : (x : Result (Unit {0}) Refusal) → number_of bank8 banka places number ≡ x → and_then x (Ok found) ≡ Ok track →
          (number_of bank8 banka places number ≡ Ok tt) × (found ≡ track)
      by (Ok passed) q e = (q, let same : found ≡ track = cc in same)
      by (Err refusal) q e = absurd (refused_given refusal track e)
