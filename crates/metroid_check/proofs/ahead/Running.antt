-- A used channel on its way to its own end or fault, and what its turn in a frame does.
use Prim.Native.Nat.{ℕ, suc, ◌+◌, ◌-◌, ◌/◌, ◌≤◌, ◌<◌}
use mathlib.Core.Bool.{Bool, true, false}
use mathlib.Core.List.{List}
use mathlib.Core.Path.{◌≡◌, refl}
use native.Mathlib.Omega.{arith}
use borrow.Author.Tests.{eqb-true, eqb-false, le-leb}
use lib.Dec.{eqb}
use Rattle.std.specs.Prelude.{Some, Ok, Err}
use Rattle.engine_base.specs.declared.refusal.Refusal.{Refusal}
use Rattle.metroid_format.specs.Command.{data_limit, is_note}
use Rattle.metroid_format.specs.Channel.{Source, channel_source, read_until}
use Rattle.metroid_format.specs.Timeline.{Walk}
use Rattle.engine_base.proofs.Picks.{by-test}
use Rattle.metroid_format.proofs.channel.ReadBound.{Looped, StopHolds, reads, stop_holds, reads_looped}
use Rattle.metroid_format.proofs.channel.Offsets.{source_within, Within, until_within}
use Rattle.metroid_format.proofs.timeline.Walked.{WalkAfter, read_walk}
use Rattle.metroid_format.specs.declared.header.Voice.{Voice}
use Rattle.metroid_format.specs.declared.header.Track.{Track}
use Rattle.metroid_format.specs.Timeline.{Finish}
use Rattle.metroid_format.specs.declared.channel.Cursor.{Cursor}
use Rattle.metroid_format.specs.declared.channel.Stop.{Stop}
use Rattle.metroid_player.specs.Record.{cursor_of, sound_fits, channel_fits}
use Rattle.metroid_player.specs.Frame.{begun, one_off, turn_by, turn_of}
use Rattle.metroid_player.specs.declared.record.Channel.{Channel}
use Rattle.engine_base.specs.declared.answer.Turned.{Turned}
use Rattle.metroid_player.specs.declared.frame.Turn.{Turn}

module _ (bank : List ℕ) (track : Track) where
  -- left to itself the channel stops in n frames: those left of its note, then those of its walk
  pub record Running (voice : Voice) (channel : Channel) (n : ℕ) (finish : Finish) : Type 0 where
    pub walking : ℕ
    pub frames : n ≡ channel.left.count + walking
    pub walk : Walk (channel_source bank track voice) (cursor_of channel) walking finish
    pub within : Within data_limit (cursor_of channel)
    pub looped : Looped 0 (cursor_of channel)
    pub sounds : 0 < channel.left.count →
        (channel.left.count ≤ channel.length.count) × (is_note voice.kind channel.sounding ≡ true)

  -- the record passes 16
  pub running_fits : {voice : Voice} {channel : Channel} {n : ℕ} {finish : Finish} → Running voice channel n finish →
      channel_fits (Some voice) channel ≡ true
  unfolding channel_fits sound_fits
  running_fits {voice} {channel} r =
      rw (le-leb _ _ r.within.next, le-leb _ _ r.within.start)
      (by-test (λ b. b ≡ true) (eqb channel.left.count 0) (λ _. refl) λ z.
      let some : channel.left.count ≡ 0 → ⊥ = eqb-false _ _ z in
      let (l, n) = r.sounds (omega arith) in
      rw (le-leb _ _ l) n)

  -- what the turn of a used channel is, n frames before its stop
  pub data Turns (voice : Voice) : ℕ → Finish → Turn → Type 0 where
    plays : {began : Bool} {channel : Channel} {count n : ℕ} {finish : Finish} → Running voice (one_off channel) n finish →
        Turns voice (suc n) finish (record { turned = Turned.Plays; began = began; channel = channel; count = count })
    ends : {channel : Channel} {count : ℕ} → 0 < count →
        Turns voice 0 (Ok tt) (record { turned = Turned.End; began = false; channel = channel; count = count })
    faults : {channel : Channel} {refusal : Refusal} {at address count : ℕ} →
        Turns voice 0 (Err (refusal, at, address))
        (record { turned = Turned.Refused refusal at address; began = false; channel = channel; count = count })

  module _ (voice : Voice) where
    abbrev source : Source
    source = channel_source bank track voice

    -- a note that sounds, with a frame taken off
    plays_on : (began : Bool) (count : ℕ) (channel : Channel) {n : ℕ} {finish : Finish} → 0 < channel.left.count → Running voice channel n finish →
        Turns voice n finish (record { turned = Turned.Plays; began = began; channel = channel; count = count })
    plays_on began count channel {n} h r =
        let one : n ≡ suc (channel.left.count - 1 + r.walking) = omega (arith, r.frames) in
        let (l, s) = r.sounds h in
        rw one
        (plays {channel = channel}
        (record {
          walking = r.walking;
          frames = refl;
          walk = r.walk;
          within = r.within;
          looped = r.looped;
          sounds = λ _. (omega arith, s);
        }))

    turn_by_lem : (channel : Channel) (cursor : Cursor) (count : ℕ) (stop : Stop) {n : ℕ} {finish : Finish} →
        StopHolds source cursor count stop → Within data_limit cursor → Looped 0 cursor →
        WalkAfter source cursor stop n finish →
        Turns voice n finish (turn_by channel cursor count stop)
    turn_by_lem channel cursor count (Stop.Note b) (l, s) p q (walking, e, w) =
        plays_on true count (begun cursor b) l
        (record { walking = walking; frames = e; walk = w; within = p; looped = q; sounds = λ _. (omega arith, s) })
    turn_by_lem channel cursor count Stop.End h p q (e, f) = rw (e, f) (ends h)
    turn_by_lem channel cursor count (Stop.Refused refusal at address) h p q (e, f) = rw (e, f) faults

    pub turns : {channel : Channel} {n : ℕ} {finish : Finish} → Running voice channel n finish →
        Turns voice n finish (turn_of bank track voice channel)
    unfolding turn_of
    turns {channel} {n} {finish} r =
        by-test (Turns voice n finish) (eqb channel.left.count 0)
        (λ z.
        let none : channel.left.count ≡ 0 = eqb-true _ _ z in
        let all : n ≡ r.walking = omega (arith, r.frames) in
        let until = read_until data_limit source (cursor_of channel) in
        let read = reads source (data_limit / 2) 0 (source_within bank track voice) (cursor_of channel) (omega arith) r.looped in
        rw all
        (turn_by_lem channel until.cursor until.count until.stop (stop_holds source data_limit (cursor_of channel))
        (until_within source data_limit (source_within bank track voice) (cursor_of channel) r.within).cursor
        (reads_looped source 0 read r.looped)
        (read_walk read r.walk))) λ z.
        let some : channel.left.count ≡ 0 → ⊥ = eqb-false _ _ z in
        plays_on false 0 channel (omega arith) r
