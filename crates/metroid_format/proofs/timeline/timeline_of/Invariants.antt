use Prim.Native.Nat.{◌+◌, ◌-◌}
use mathlib.Core.Path.{◌≡◌}
use lib.ListN.{length}
use Rattle.engine_base.specs.Address.{address_of}
use Rattle.metroid_format.specs.Channel.{source_of}
use Rattle.metroid_format.specs.Timeline.{pass_from, timeline_of}
use Rattle.metroid_format.proofs.timeline.PassBound.{Bounded}
use Rattle.metroid_format.proofs.timeline.timeline_of.Given as goal

abbrev pub invariant-loop : goal.invariant-loop
invariant-loop l =
    Bounded (source_of l.source.kind l.source.bytes.now l.source.lengths.now l.source.window (address_of l.source.base)) l.pass ×
    (pass_from (source_of l.source.kind l.source.bytes.now l.source.lengths.now l.source.window (address_of l.source.base)) (length l.source.bytes.now + 1 - l.counter) l.pass ≡ timeline_of (source_of l.source.kind l.source.bytes.now l.source.lengths.now l.source.window (address_of l.source.base)))
