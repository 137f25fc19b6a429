-- A channel by itself, from its start to its own end or first fault; and the least stop of the used channels.
use Rattle.std.specs.Prelude.{ℕ, zero, suc, ◌+◌, ◌*◌, ◌≤◌, Bool, List, [], ◌∷◌, ◌≡◌, Option, None, Some, Result, Ok, Err, leb, eqb, length}
use Rattle.engine_base.specs.Pick.{pick}
use Rattle.engine_base.specs.Told.{Told, Answers}
use Rattle.engine_base.specs.Refusal.{number_of}
use Rattle.engine_base.specs.declared.refusal.Refusal.{Refusal}
use Rattle.engine_base.specs.declared.refusal.Refusal.TheVariants.{NoChannel, PastData}
use Rattle.metroid_format.specs.Command.{data_limit}
use Rattle.metroid_format.specs.Channel.{Source, address_at, channel_source, fresh_cursor, played_at, step_of}
use Rattle.metroid_format.specs.declared.header.Voice.{Voice}
use Rattle.metroid_format.specs.declared.header.Track.{Track}
use Rattle.metroid_format.specs.declared.channel.Cursor.{Cursor}
use Rattle.metroid_format.specs.declared.channel.Played.{Played}
use Rattle.metroid_format.specs.declared.channel.Step.{Step}
use Rattle.metroid_format.specs.declared.timeline.Timeline.{Timeline}
use Rattle.metroid_format.specs.declared.timeline.Pass.{Pass}
use Rattle.metroid_format.specs.declared.timeline.Soonest.{Soonest}

-- the channel's own end, or the refusal with the offset of the byte and its address
abbrev pub Finish : Type 0
Finish = Result (Unit {0}) (Refusal × ℕ × ℕ)

-- what a command makes of a pass: it goes on, or has come to a stop
abbrev pub Passed : Type 0
Passed = Result Pass Finish

-- 255 frames in the first play of a loop, and in each of 255 later ones
abbrev pub frames_a_byte : ℕ
frames_a_byte = 255 * 256

-- what a timeline means: command by command from a cursor, through every play of a loop, so many frames to the finish
pub data Walk (source : Source) : Cursor → ℕ → Finish → Type 0 where
  again : {cursor after : Cursor} {frames : ℕ} {finish : Finish} → step_of source cursor ≡ Step.Again after →
      Walk source after frames finish → Walk source cursor frames finish
  note : {cursor after : Cursor} {b frames : ℕ} {finish : Finish} → step_of source cursor ≡ Step.Note b after →
      Walk source after frames finish → Walk source cursor (after.length.count + frames) finish
  ended : {cursor : Cursor} → step_of source cursor ≡ Step.End → Walk source cursor 0 (Ok tt)
  refused : {cursor : Cursor} {refusal : Refusal} {at address : ℕ} → step_of source cursor ≡ Step.Refused refusal at address →
      Walk source cursor 0 (Err (refusal, at, address))

-- a lone note of a body, before its first BL or after
abbrev pub after_lone : Bool → Pass → ℕ → Pass
after_lone before pass next =
    pick before
    (record {
      next = next;
      length = pass.length;
      counter = pass.counter;
      lead = pass.lead + 1;
      rest = pass.rest;
      frames = pass.frames + pass.length.count;
    })
    (record {
      next = next;
      length = pass.length;
      counter = pass.counter;
      lead = pass.lead;
      rest = pass.rest + pass.length.count;
      frames = pass.frames + pass.length.count;
    })

-- what runs: one pass over the bytes, with the body of the last begun loop so far as the notes before its first BL (`lead`) and
-- the frames of its other notes (`rest`, 0 before a BL). A later play of it takes lead x length + rest frames.
abbrev pub passed_by : Pass → Played → Passed
passed_by pass Played.End = Err (Ok tt)
passed_by pass (Played.EndLoop next) =
    Ok
    (record {
      next = next;
      length = pass.length;
      counter = 0;
      lead = pass.lead;
      rest = pass.rest;
      frames = pass.frames + pass.counter * (pass.lead * pass.length.count + pass.rest);
    })
passed_by pass (Played.BeginLoop counter next) =
    Ok (record { next = next; length = pass.length; counter = counter; lead = 0; rest = 0; frames = pass.frames })
passed_by pass (Played.Length b length next) =
    Ok
    (record {
      next = next;
      length = length;
      counter = pass.counter;
      lead = pass.lead;
      rest = pass.rest + length.count;
      frames = pass.frames + length.count;
    })
passed_by pass (Played.Note b next) = Ok (after_lone (eqb pass.rest 0) pass next)
passed_by pass (Played.Refused refusal at address) = Err (Err (refusal, at, address))

unfoldable pub passed_of : Source → Pass → Passed
passed_of source pass = passed_by pass (played_at source pass.next pass.length)

abbrev pub pass_by : (Pass → Timeline) → Pass → Passed → Timeline
pass_by on pass (Ok after) = on after
pass_by on pass (Err finish) = record { frames = pass.frames; finish = finish }

-- every command passes a byte, so that the fuel is never used up (proofs/timeline/Walked.antt)
unfoldable pub pass_from : Source → ℕ → Pass → Timeline
pass_from source zero pass =
    record { frames = pass.frames; finish = Err (PastData, pass.next, address_at source.start pass.next) }
pass_from source (suc fuel) pass = pass_by (pass_from source fuel) pass (passed_of source pass)

abbrev pub fresh_pass : Pass
fresh_pass = record { next = 0; length = record { count = 0 }; counter = 0; lead = 0; rest = 0; frames = 0 }

unfoldable pub timeline_of : Source → Timeline
timeline_of source = pass_from source (length source.bytes + 1) fresh_pass

abbrev pub told_finish : Finish → Told
told_finish (Ok passed) = record { number = 0; values = [] }
told_finish (Err (refusal, at, address)) = record { number = number_of refusal; values = at ∷ address ∷ [] }

abbrev pub told_timeline : Timeline → Told
told_timeline timeline = record { number = (told_finish timeline.finish).number; values = timeline.frames ∷ (told_finish timeline.finish).values }

-- the answer is the pass's, is what the walk from the start comes to, and has at most 65,280 frames a byte
pub record Timed (source : Source) (timeline : Timeline) : Type 0 where
  pub answer : Answers told_timeline timeline (timeline_of source)
  pub walk : Walk source fresh_cursor timeline.frames timeline.finish
  pub bound : timeline.frames ≤ frames_a_byte * length source.bytes

-- the i-th channel by itself
abbrev pub stop_of : List ℕ → Track → ℕ → Option Voice → Option Soonest
stop_of bank track i None = None
stop_of bank track i (Some voice) =
    Some
    (record {
      frame = (timeline_of (channel_source bank track voice)).frames;
      channel = i;
      finish = (timeline_of (channel_source bank track voice)).finish;
    })

-- in one frame the channel that goes first stops it
abbrev pub sooner : Option Soonest → Option Soonest → Option Soonest
sooner None other = other
sooner (Some first) None = Some first
sooner (Some first) (Some other) = pick (leb first.frame other.frame) (Some first) (Some other)

unfoldable pub soonest_from : List ℕ → Track → ℕ → List (Option Voice) → Option Soonest
soonest_from bank track i [] = None
soonest_from bank track i (v ∷ vs) = sooner (stop_of bank track i v) (soonest_from bank track (i + 1) vs)

-- the first stop of a track, by frame and then by channel
abbrev pub soonest_of : List ℕ → Track → Option Soonest
soonest_of bank track = soonest_from bank track 0 track.voices

-- the channel, then its timeline; some channel of an opened track is used
abbrev pub told_soonest : Option Soonest → Told
told_soonest None = record { number = number_of NoChannel; values = [] }
told_soonest (Some stop) = record {
  number = (told_finish stop.finish).number;
  values = stop.channel ∷ stop.frame ∷ (told_finish stop.finish).values;
}

-- Below: only private contracts and laws use these.

-- what keeps the sums of a pass over at most the limit's bytes small
pub record Small (pass : Pass) : Type 0 where
  pub lead : pass.lead ≤ data_limit
  pub rest : pass.rest ≤ 255 * data_limit
  pub frames : pass.frames ≤ frames_a_byte * data_limit
