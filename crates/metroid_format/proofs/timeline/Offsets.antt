-- A channel that starts within the limit stays there: the offset that its refusal names, and the address there.
use Prim.Native.Nat.{ℕ, ◌≤◌}
use native.Mathlib.Omega.{arith}
use lib.ListN.{length}
use Rattle.std.specs.Prelude.{Ok, Err}
use Rattle.engine_base.specs.Refusal.{FaultAt}
use Rattle.engine_base.specs.declared.refusal.Refusal.{Refusal}
use Rattle.metroid_format.specs.Channel.{Source, fresh_cursor}
use Rattle.metroid_format.specs.Timeline.{Walk, Finish}
use Rattle.metroid_format.proofs.command.Laws.{Wants}
use Rattle.metroid_format.proofs.channel.Offsets.{Within, step_within}
use Rattle.metroid_format.proofs.channel.Stepped.{Stepped, refuses, stepped}
use Rattle.metroid_format.specs.declared.channel.Step.{Step}
use Rattle.metroid_format.specs.declared.channel.Cursor.{Cursor}

abbrev pub FinishWithin : ℕ → ℕ → Finish → Type 0
FinishWithin start limit (Ok passed) = Unit {0}
FinishWithin start limit (Err (refusal, at, address)) = FaultAt start limit refusal at address

module _ (source : Source) (limit : ℕ) (fits : length source.bytes ≤ limit) where
  walk_within : {cursor : Cursor} {frames : ℕ} {finish : Finish} → Walk source cursor frames finish → Within limit cursor → FinishWithin source.start limit finish
  walk_within (Walk.again e w) p = walk_within w (step_within source limit fits e p)
  walk_within (Walk.note e w) p = walk_within w (step_within source limit fits e p)
  walk_within (Walk.ended e) p = tt
  walk_within (Walk.refused e) p = step_within source limit fits e p

  -- a channel from its start
  pub track_within : {frames : ℕ} {finish : Finish} → Walk source fresh_cursor frames finish → FinishWithin source.start limit finish
  track_within w = walk_within w (record { next = omega arith; start = omega arith })

-- 15 wants a byte behind the data
module _ {source : Source} where
  step_wants : {cursor : Cursor} {refusal : Refusal} {at address : ℕ} → Stepped source cursor (Step.Refused refusal at address) → Wants source.bytes refusal at
  step_wants (refuses refusal at h w) = w

  pub walk_wants : {cursor : Cursor} {frames : ℕ} {refusal : Refusal} {at address : ℕ} → Walk source cursor frames (Err (refusal, at, address)) →
      Wants source.bytes refusal at
  walk_wants (Walk.again e w) = walk_wants w
  walk_wants (Walk.note e w) = walk_wants w
  walk_wants (Walk.refused {cursor} e) = step_wants (rw e at (stepped source cursor))
