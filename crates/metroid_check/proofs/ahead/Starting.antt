-- The start of a run: what is ahead of each used channel is its timeline, and some channel is used.
use Prim.Native.Nat.{ℕ, ◌≤◌}
use mathlib.Core.List.{List, [], ◌∷◌, map}
use mathlib.Core.Path.{◌≡◌, refl, sym, subst}
use native.Mathlib.Nat.{zero-add}
use native.Mathlib.Omega.{arith}
use lib.ListN.{length, replicate}
use Rattle.std.specs.Prelude.{Option, Some, None, Ok, Err}
use Rattle.engine_base.specs.declared.refusal.Refusal.{Refusal}
use Rattle.metroid_format.specs.Timeline.{timeline_of}
use Rattle.metroid_format.specs.Header.{open_track}
use Rattle.metroid_format.specs.Channel.{channel_source}
use Rattle.metroid_format.proofs.header.Opening.{SomeUsed, opens}
use Rattle.metroid_format.proofs.timeline.Walked.{timeline_walk}
use Rattle.metroid_format.specs.declared.bank.Places.{Places}
use Rattle.metroid_format.specs.declared.header.Voice.{Voice}
use Rattle.metroid_format.specs.declared.header.Track.{Track}
use Rattle.metroid_format.specs.Timeline.{Finish}
use Rattle.metroid_player.specs.Record.{fresh_channel, fresh_player, stopped_player, most_frames}
use Rattle.metroid_player.specs.Frame.{unplayed, frame_of_track, frame_of}
use Rattle.metroid_player.specs.declared.record.Player.{Player}
use Rattle.engine_base.specs.declared.answer.Answer.{Answer}
use Rattle.metroid_check.proofs.ahead.Running.{Running}
use Rattle.metroid_check.proofs.ahead.Settling.{Ahead, nothing, stop, AllRunning, all_fit}
use Rattle.metroid_check.proofs.ahead.Framing.{InRun, record_fits_lem}

-- some channel has a stop ahead
pub data SomeStop : List Ahead → Type 0 where
  here : {n : ℕ} {finish : Finish} {rest : List Ahead} → SomeStop (stop n finish ∷ rest)
  later : {first : Ahead} {rest : List Ahead} → SomeStop rest → SomeStop (first ∷ rest)

module _ (bank : List ℕ) (track : Track) where
  -- what is ahead of a channel from its start
  abbrev pub ahead_of : Option Voice → Ahead
  ahead_of None = nothing
  ahead_of (Some voice) =
      stop (timeline_of (channel_source bank track voice)).frames (timeline_of (channel_source bank track voice)).finish

  fresh_running : (voice : Voice) →
      Running bank track voice fresh_channel
      (timeline_of (channel_source bank track voice)).frames
      (timeline_of (channel_source bank track voice)).finish
  fresh_running voice = record {
    walking = (timeline_of (channel_source bank track voice)).frames;
    frames = sym (zero-add _);
    walk = timeline_walk (channel_source bank track voice);
    within = record { next = omega arith; start = omega arith };
    looped = record { byte = omega arith; after_begin = λ h. absurd (omega arith) };
    sounds = λ h. absurd (omega arith);
  }

  all_fresh : (voices : List (Option Voice)) → AllRunning bank track voices (replicate (length voices) fresh_channel) (map ahead_of voices)
  all_fresh [] = AllRunning.none
  all_fresh (None ∷ vs) = AllRunning.unused (all_fresh vs)
  all_fresh (Some v ∷ vs) = AllRunning.used (fresh_running v) (all_fresh vs)

  some_stop : {voices : List (Option Voice)} → SomeUsed voices → SomeStop (map ahead_of voices)
  some_stop SomeUsed.here = SomeStop.here
  some_stop (SomeUsed.later s) = SomeStop.later (some_stop s)

  fresh_run : length track.voices ≡ 4 → (n : ℕ) → n ≤ most_frames → InRun bank track (fresh_player n) (map ahead_of track.voices)
  fresh_run whole n h = record {
    going = refl;
    numbers = (h, h);
    channels = subst (λ n. AllRunning bank track track.voices (replicate n fresh_channel) (map ahead_of track.voices)) whole (all_fresh track.voices);
  }

-- a track that opens: four channels, some of them used, and each used one has its timeline ahead
pub record Starts (bank : List ℕ) (track : Track) : Type 0 where
  pub whole : length track.voices ≡ 4
  pub run : (n : ℕ) → n ≤ most_frames → InRun bank track (fresh_player n) (map (ahead_of bank track) track.voices)
  pub some : SomeStop (map (ahead_of bank track) track.voices)

pub starts : (bank : List ℕ) (places : Places) (track : ℕ) {opened : Track} → open_track bank places track ≡ Ok opened →
    Starts bank opened
starts bank places track {opened} e =
    let o = opens bank places track e in
    record { whole = o.four; run = fresh_run bank opened o.four; some = some_stop bank opened o.some }

-- without restart the record after the end answers Stopped, and stays
pub stays_stopped : {bank : List ℕ} {track : Track} → Starts bank track →
    frame_of_track bank track stopped_player ≡ unplayed Answer.Stopped stopped_player
unfolding frame_of_track
stays_stopped {bank} {track} s =
    rw (record_fits_lem track.voices stopped_player (omega arith, omega arith) (all_fit bank track (s.run 0 (omega arith)).channels))

module _ (bank : List ℕ) (places : Places) (track : ℕ) (player : Player) where
  pub opened_frame : {opened : Track} → open_track bank places track ≡ Ok opened →
      frame_of bank places track player ≡ frame_of_track bank opened player
  unfolding frame_of
  opened_frame e = rw e

  pub unopened_frame : {refusal : Refusal} → open_track bank places track ≡ Err refusal →
      frame_of bank places track player ≡ unplayed (Answer.Refused refusal) player
  unfolding frame_of
  unopened_frame e = rw e
