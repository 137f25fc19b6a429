-- Bounds of the pass: with bytes for lengths its sums stay within 65,280 frames a byte.
use Prim.Native.Nat.{ℕ, zero, suc, ◌+◌, ◌*◌, ◌≤◌, ◌<◌}
use mathlib.Core.Bool.{Bool, true, false}
use native.Mathlib.Nat.{mul-le-mul_left, mul-add}
use native.Mathlib.Omega.{arith}
use lib.Dec.{eqb}
use lib.ListN.{length, get_or}
use Rattle.std.specs.Prelude.{Ok, Err}
use Rattle.engine_base.specs.Bytes.{AllBytes}
use Rattle.metroid_format.specs.Channel.{Source, played_at}
use Rattle.metroid_format.specs.Timeline.{frames_a_byte, after_lone, passed_by, passed_of, pass_by, pass_from, fresh_pass, timeline_of, Passed}
use Rattle.metroid_format.proofs.channel.Stepped.{Plays, plays}
use Rattle.metroid_format.specs.declared.channel.Played.{Played}
use Rattle.metroid_format.specs.declared.timeline.Timeline.{Timeline}
use Rattle.metroid_format.specs.declared.timeline.Pass.{Pass}

-- the frames of the loop's later plays count as passed from the first play on
pub record Bounded (source : Source) (pass : Pass) : Type 0 where
  pub within : pass.next ≤ length source.bytes
  pub length_byte : pass.length.count ≤ 255
  pub counter_byte : pass.counter ≤ 255
  pub lead_bound : pass.lead ≤ pass.next
  pub rest_bound : pass.rest ≤ 255 * pass.next
  pub frames_bound : pass.frames + pass.counter * (255 * pass.lead + pass.rest) ≤ frames_a_byte * pass.next

abbrev pub BoundedBy : Source → Passed → Type 0
BoundedBy source (Ok after) = Bounded source after
BoundedBy source (Err finish) = Unit {0}

-- the length that a command leaves is a byte
abbrev pub ByteLength : Passed → Type 0
ByteLength (Ok after) = after.length.count ≤ 255
ByteLength (Err finish) = Unit {0}

module _ (source : Source) (pass : Pass) (b : Bounded source pass) where
  -- one more note in the body is at most 255 frames in each later play
  more : (body : ℕ) → body ≤ 255 * pass.lead + pass.rest + 255 →
      pass.counter * body ≤ pass.counter * (255 * pass.lead + pass.rest) + 255 * 255
  more body m =
      omega
      (arith, mul-le-mul_left pass.counter m, mul-add pass.counter (255 * pass.lead + pass.rest) 255, b.counter_byte)

  later : pass.counter * (pass.lead * pass.length.count + pass.rest) ≤ pass.counter * (255 * pass.lead + pass.rest)
  later = mul-le-mul_left pass.counter (omega (arith, mul-le-mul_left pass.lead b.length_byte))

  lone : (t : Bool) → pass.next < length source.bytes →
      Bounded source
      (after_lone t pass (pass.next + 1))
  lone true h =
      omega (arith, more (255 * (pass.lead + 1) + pass.rest) (omega arith))
  lone false h =
      omega (arith, more (255 * pass.lead + (pass.rest + pass.length.count)) (omega arith))

  bounded_by : (p : Played) → Plays source pass.next pass.length p → ByteLength (passed_by pass p) → BoundedBy source (passed_by pass p)
  bounded_by _ (Plays.end h) byte = tt
  bounded_by _ (Plays.end_loop h f) byte =
      omega (arith, later)
  bounded_by _ (Plays.begin_loop counter h f m) byte =
      omega arith
  bounded_by _ (Plays.long note entry h l n) byte =
      omega (arith, more (255 * pass.lead + (pass.rest + get_or source.lengths entry 0)) (omega arith))
  bounded_by _ (Plays.lone note h l n) byte = lone (eqb pass.rest 0) h
  bounded_by _ (Plays.refused refusal place h w) byte = tt

  pub bounded : ByteLength (passed_of source pass) → BoundedBy source (passed_of source pass)
  unfolding passed_of
  bounded = bounded_by (played_at source pass.next pass.length) (plays source pass.next pass.length)

  -- with bytes in the table
  module _ (table : AllBytes source.lengths) where
    byte_by : (p : Played) → Plays source pass.next pass.length p → ByteLength (passed_by pass p)
    byte_by _ (Plays.end h) = tt
    byte_by _ (Plays.end_loop h f) = b.length_byte
    byte_by _ (Plays.begin_loop counter h f m) = b.length_byte
    byte_by _ (Plays.long note entry h l n) = table entry
    byte_by _ (Plays.lone note h l n) = kept (eqb pass.rest 0)
      where
        kept : (t : Bool) → (after_lone t pass (pass.next + 1)).length.count ≤ 255
        kept true = b.length_byte
        kept false = b.length_byte
    byte_by _ (Plays.refused refusal place h w) = tt

    byte_length : ByteLength (passed_of source pass)
    unfolding passed_of
    byte_length = byte_by (played_at source pass.next pass.length) (plays source pass.next pass.length)

module _ (source : Source) (table : AllBytes source.lengths) where
  by_bounded : (on : Pass → Timeline) → ((after : Pass) → Bounded source after → (on after).frames ≤ frames_a_byte * length source.bytes) →
      (pass : Pass) → Bounded source pass → (p : Passed) → BoundedBy source p → (pass_by on pass p).frames ≤ frames_a_byte * length source.bytes
  by_bounded on later pass b (Ok after) a = later after a
  by_bounded on later pass b (Err finish) a = omega (arith, b.frames_bound, b.within)

  from_bounded : (fuel : ℕ) (pass : Pass) → Bounded source pass → (pass_from source fuel pass).frames ≤ frames_a_byte * length source.bytes
  unfolding pass_from
  from_bounded zero pass b = omega (arith, b.frames_bound, b.within)
  from_bounded (suc fuel) pass b =
      by_bounded (pass_from source fuel) (from_bounded fuel) pass b (passed_of source pass) (bounded source pass b (byte_length source pass b table))

  pub timeline_bounded : (timeline_of source).frames ≤ frames_a_byte * length source.bytes
  unfolding timeline_of
  timeline_bounded = from_bounded (length source.bytes + 1) fresh_pass (omega arith)
