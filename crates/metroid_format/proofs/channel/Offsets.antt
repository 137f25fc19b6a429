-- A cursor within the limit stays there, and so does the offset that a refusal names; its address is the start address plus the offset.
use Prim.Native.Nat.{ℕ, zero, suc, ◌+◌, ◌≤◌}
use mathlib.Core.List.{List}
use mathlib.Core.Path.{◌≡◌, refl}
use native.Mathlib.Omega.{arith}
use lib.ListN.{length, length-take}
use Rattle.engine_base.specs.Refusal.{FaultAt}
use Rattle.metroid_format.specs.Command.{data_limit}
use Rattle.metroid_format.specs.Channel.{Source, channel_source, step_of, read_by, read_from, read_until, fuel_of}
use Rattle.metroid_format.proofs.command.Laws.{fault_further}
use Rattle.metroid_format.proofs.channel.Stepped.{Stepped, begins, goes_on, goes_back, notes, ends, refuses, stepped}
use Rattle.metroid_format.specs.declared.header.Voice.{Voice}
use Rattle.metroid_format.specs.declared.header.Track.{Track}
use Rattle.metroid_format.specs.declared.channel.Cursor.{Cursor}
use Rattle.metroid_format.specs.declared.channel.Step.{Step}
use Rattle.metroid_format.specs.declared.channel.Stop.{Stop}
use Rattle.metroid_format.specs.declared.channel.Until.{Until}

-- a channel's data in a bank
pub source_within : (bank : List ℕ) (track : Track) (voice : Voice) → length (channel_source bank track voice).bytes ≤ data_limit
source_within bank track voice = rw length-take (omega arith)

pub record Within (limit : ℕ) (cursor : Cursor) : Type 0 where
  pub next : cursor.next ≤ limit
  pub start : cursor.loop_start ≤ limit

abbrev pub StepWithin : ℕ → ℕ → Step → Type 0
StepWithin start limit (Step.Again cursor) = Within limit cursor
StepWithin start limit (Step.Note b cursor) = Within limit cursor
StepWithin start limit Step.End = Unit {0}
StepWithin start limit (Step.Refused refusal at address) = FaultAt start limit refusal at address

abbrev pub StopWithin : ℕ → ℕ → Stop → Type 0
StopWithin start limit (Stop.Note b) = Unit {0}
StopWithin start limit Stop.End = Unit {0}
StopWithin start limit (Stop.Refused refusal at address) = FaultAt start limit refusal at address

-- where reading stops, and the cursor that it gives
pub record UntilWithin (start limit : ℕ) (until : Until) : Type 0 where
  pub stop : StopWithin start limit until.stop
  pub cursor : Within limit until.cursor

module _ (source : Source) (limit : ℕ) (fits : length source.bytes ≤ limit) where
  by_step : {cursor : Cursor} {step : Step} → Stepped source cursor step → Within limit cursor → StepWithin source.start limit step
  by_step (begins counter h e m) p = record { next = omega arith; start = omega arith }
  by_step (goes_on h e z) p = record { next = omega arith; start = p.start }
  by_step (goes_back h e m) p = record { next = p.start; start = p.start }
  by_step (notes b after frames h w l n) p = record { next = omega arith; start = p.start }
  by_step (ends h) p = tt
  by_step (refuses refusal at h w) p = (fault_further _ _ _ _ (omega (arith, p.next)) h, refl)

  pub step_within : {cursor : Cursor} {step : Step} → step_of source cursor ≡ step → Within limit cursor → StepWithin source.start limit step
  step_within {cursor} e p = by_step (rw e at (stepped source cursor)) p

  read_within : (fuel : ℕ) (cursor : Cursor) (count : ℕ) → Within limit cursor → UntilWithin source.start limit (read_from source fuel cursor count)
  unfolding read_from
  read_within zero cursor count p = record { stop = ((omega arith, omega arith, p.next), refl); cursor = p }
  read_within (suc fuel) cursor count p = from (read_within fuel) (step_of source cursor) refl
    where
      from : ((d : Cursor) (n : ℕ) → Within limit d → UntilWithin source.start limit (read_from source fuel d n)) →
          (step : Step) → step_of source cursor ≡ step → UntilWithin source.start limit (read_by (read_from source fuel) cursor count step)
      from further (Step.Again d) e = further d (count + 1) (step_within e p)
      from further (Step.Note b d) e = record { stop = tt; cursor = step_within e p }
      from further Step.End e = record { stop = tt; cursor = p }
      from further (Step.Refused refusal at address) e = record { stop = step_within e p; cursor = p }

  -- reading from a record that passes 16
  pub until_within : (cursor : Cursor) → Within limit cursor → UntilWithin source.start limit (read_until limit source cursor)
  unfolding read_until
  until_within cursor p = read_within (fuel_of limit) cursor 0 p
