-- The steps of the frame rule, as the code takes them.
use Prim.Native.Nat.{ℕ, zero, suc, ◌+◌, ◌-◌, ◌≤◌, ◌<◌}
use mathlib.Core.List.{List, []}
use mathlib.Core.Path.{◌≡◌, refl, ap, ◌∙◌}
use native.Mathlib.Omega.{arith}
use native.Mathlib.Numerals.{add-one}
use lib.ListN.{length, get_or, set, take, drop, drop_of_length-le, length-set}
use lib.Seq.{sets}
use Rattle.metroid_format.specs.Command.{data_limit}
use Rattle.metroid_format.specs.Channel.{Source, source_of, channel_source, read_until, told_until}
use Rattle.engine_base.specs.Told.{Answers}
use Rattle.engine_base.specs.declared.refusal.Refusal.{Refusal}
use Rattle.std.specs.Prelude.{Option, Some, None}
use Rattle.metroid_format.specs.declared.header.Voice.{Voice}
use Rattle.metroid_format.specs.declared.header.Track.{Track}
use Rattle.metroid_format.specs.declared.channel.Cursor.{Cursor}
use Rattle.metroid_format.specs.declared.channel.Until.{Until}
use Rattle.metroid_format.proofs.channel.Sourced.{source_cut}
use Rattle.engine_base.proofs.Channels.{drop_next, given_next, rest_set}
use Rattle.std.proofs.Common.{◌≢◌}
use Rattle.std.proofs.lemmas.List.{set-get_or, get_or-set_other}
use Rattle.engine_base.specs.Channels.{four}
use Rattle.metroid_player.specs.Record.{ended_player, cursor_of}
use Rattle.metroid_player.specs.Event.{off_event, event_of}
use Rattle.metroid_player.specs.Frame.{one_off, turn_of, Settled, settled, settle_on, settle_by, settle_voice, settle_from, eventless, framed}
use Rattle.metroid_player.specs.declared.record.Channel.{Channel}
use Rattle.metroid_player.specs.declared.event.Event.{Event}
use Rattle.engine_base.specs.declared.answer.Turned.{Turned}
use Rattle.metroid_player.specs.declared.frame.Turn.{Turn}
use Rattle.engine_base.specs.declared.answer.Answer.{Answer}
use Rattle.metroid_player.specs.declared.frame.Framed.{Framed}
use Rattle.metroid_player.specs.declared.record.Player.{Player}

-- what `read_until` answers of a channel's part of the bank
pub reading_is : (bank : List ℕ) (track : Track) (v : Voice) (c : Channel)
    (source : Source) → source ≡ channel_source bank track v
    → (cursor : Cursor) → cursor ≡ cursor_of c
    → (r : Until) → Answers told_until r (read_until data_limit (source_of source.kind (take data_limit source.bytes) source.lengths source.window source.start) cursor)
    → r ≡ read_until data_limit (channel_source bank track v) (cursor_of c)
reading_is bank track v c source s cursor k r a =
    a.same ∙ rw (k, source_cut bank track v source s)

none_of : (voice : Option Voice) → ((v : Voice) → voice ≡ Some v → ⊥) → voice ≡ None
none_of None n = refl
none_of (Some v) n = absurd (n v refl)

-- the channels from the i-th on, with what the ones before have left in the three arrays
module _ (bank : List ℕ) (track : Track) (player : Player) where
  abbrev settled_from : ℕ → Settled
  settled_from i = settle_from bank track i (drop i track.voices) (drop i player.channels)

  abbrev whole : Settled
  whole = settle_from bank track 0 track.voices player.channels

  pub record Settling (events : List Event) (counts : List ℕ) (channels : List Channel) (i : ℕ) : Type 0 where
    pub within : i ≤ 4
    pub voices_four : length track.voices ≡ 4
    pub events_four : length events ≡ 4
    pub counts_four : length counts ≡ 4
    pub channels_four : length channels ≡ 4
    pub rest_given : drop i channels ≡ drop i player.channels
    pub rest_off : (k : ℕ) → i ≤ k → get_or events k off_event ≡ off_event
    pub rest_uncounted : (k : ℕ) → i ≤ k → get_or {A = ℕ} counts k 0 ≡ 0
    pub same_answer : whole.answer ≡ (settled_from i).answer
    pub same_events : sets (four off_event) 0 whole.events ≡ sets events i (settled_from i).events
    pub same_counts : sets (four 0) 0 whole.counts ≡ sets counts i (settled_from i).counts
    pub same_channels : sets player.channels 0 whole.channels ≡ sets channels i (settled_from i).channels

  all_off : (k : ℕ) → get_or (four off_event) k off_event ≡ off_event
  all_off zero = refl
  all_off (suc zero) = refl
  all_off (suc (suc zero)) = refl
  all_off (suc (suc (suc zero))) = refl
  all_off (suc (suc (suc (suc k)))) = refl

  none_counted : (k : ℕ) → get_or {A = ℕ} (four 0) k 0 ≡ 0
  none_counted zero = refl
  none_counted (suc zero) = refl
  none_counted (suc (suc zero)) = refl
  none_counted (suc (suc (suc zero))) = refl
  none_counted (suc (suc (suc (suc k)))) = refl

  pub settling_none : length track.voices ≡ 4 → length player.channels ≡ 4
      → (events : List Event) → events ≡ four off_event → Settling events (four 0) player.channels 0
  settling_none v c events e = record {
    within = omega arith;
    voices_four = v;
    events_four = rw e;
    counts_four = refl;
    channels_four = c;
    rest_given = refl;
    rest_off = λ k _. rw e (all_off k);
    rest_uncounted = λ k _. none_counted k;
    same_answer = refl;
    same_events = rw e;
    same_counts = refl;
    same_channels = refl;
  }

  module _ (events : List Event) (counts : List ℕ) (channels : List Channel) (i : ℕ) (m : Settling events counts channels i) where
    settled_all : 4 ≤ i → settled_from i ≡ settled Answer.Events []
    unfolding settle_from
    settled_all h =
        let v : length track.voices ≤ i = omega (arith, m.voices_four) in
        rw (drop_of_length-le track.voices v)

    pub settles_events : 4 ≤ i → (less : ℕ) → less ≡ player.frames_left - 1 → record {
      answer = Answer.Events;
      events = events;
      counts = counts;
      frames_left = player.frames_left;
      player = record { stopped = player.stopped; channels = channels; frames_left = less; pass_length = player.pass_length };
    } ≡ framed track player whole
    settles_events h less l =
        let e = settled_all h in
        let a : whole.answer ≡ Answer.Events = m.same_answer ∙ rw e in
        let s : sets (four off_event) 0 whole.events ≡ events = m.same_events ∙ rw e in
        let n : sets (four 0) 0 whole.counts ≡ counts = m.same_counts ∙ rw e in
        let c : sets player.channels 0 whole.channels ≡ channels = m.same_channels ∙ rw e in
        rw (a, s, n, c, l)

    module _ (h : i < 4) (dv : Option Voice) (dc : Channel) where
      abbrev voice : Option Voice
      voice = get_or track.voices i dv

      abbrev channel : Channel
      channel = get_or channels i dc

      settled_next : settled_from i ≡ settle_voice bank track i voice channel (settled_from (i + 1))
      unfolding settle_from
      settled_next =
          rw (drop_next track.voices i dv m.voices_four h, given_next player.channels channels i m.rest_given dc m.channels_four h)

      settling_on : (event : Event) (count : ℕ) (next : Channel) → settled_from i ≡ settle_on event next count (settled_from (i + 1))
          → Settling (set events i event) (set counts i count) (set channels i next) (i + 1)
      settling_on event count next s = record {
        within = omega arith;
        voices_four = m.voices_four;
        events_four = length-set events i event ∙ m.events_four;
        counts_four = length-set counts i count ∙ m.counts_four;
        channels_four = length-set channels i next ∙ m.channels_four;
        rest_given = rest_set player.channels channels i m.rest_given next;
        rest_off = λ k j.
            let ne : k ≢ i = omega arith in
            get_or-set_other events i k event off_event ne ∙ m.rest_off k (omega arith);
        rest_uncounted = λ k j.
            let ne : k ≢ i = omega arith in
            get_or-set_other counts i k count 0 ne ∙ m.rest_uncounted k (omega arith);
        same_answer = m.same_answer ∙ rw s;
        same_events = m.same_events ∙ rw (s, add-one i);
        same_counts = m.same_counts ∙ rw (s, add-one i);
        same_channels = m.same_channels ∙ rw (s, add-one i);
      }

      -- an unused channel's event, count and record stay
      pub settling_off : ((v : Voice) → voice ≡ Some v → ⊥) → Settling events counts channels (i + 1)
      settling_off n =
          let e : voice ≡ None = none_of voice n in
          let event : set events i off_event ≡ events = rw (← m.rest_off i (omega arith)) (set-get_or events i off_event) in
          let count : set counts i 0 ≡ counts = rw (← m.rest_uncounted i (omega arith)) (set-get_or counts i 0) in
          let next : set channels i channel ≡ channels = set-get_or channels i dc in
          rw (← event, ← count, ← next) (settling_on off_event 0 channel (settled_next ∙ rw e))

      -- t is what `take_turn` answers of a used channel
      module _ (v : Voice) (u : voice ≡ Some v) (t : Turn) (q : t ≡ turn_of bank track v channel) where
        settled_by : (x : Turned) → t.turned ≡ x → settled_from i ≡ settle_by bank track i v t x (settled_from (i + 1))
        settled_by x e =
            settled_next ∙ rw (u, ← q) (ap (λ (y : Turned). settle_by bank track i v t y (settled_from (i + 1))) e)

        pub settling_plays : t.turned ≡ Turned.Plays → (event : Event) → event ≡ event_of bank track i v t.channel t.began
            → (next : Channel) → next ≡ one_off t.channel
            → Settling (set events i event) (set counts i t.count) (set channels i next) (i + 1)
        settling_plays e event f next g = settling_on event t.count next (settled_by _ e ∙ rw (f, g))

        pub settles_end : t.turned ≡ Turned.End → (ended : Player) → ended ≡ ended_player track.restart player.pass_length
            → (f : Framed) → f ≡ eventless Answer.End (set counts i t.count) player.frames_left ended → f ≡ framed track player whole
        settles_end e ended d f g =
            let s = settled_by _ e in
            let a : whole.answer ≡ Answer.End = m.same_answer ∙ rw s in
            let n : sets (four 0) 0 whole.counts ≡ set counts i t.count = m.same_counts ∙ rw s in
            g ∙ rw (a, n, d)

        pub settles_fault : (refusal : Refusal) (at address : ℕ) → t.turned ≡ Turned.Refused refusal at address
            → (f : Framed) → f ≡ eventless (Answer.Fault refusal i at address) (set counts i t.count) player.frames_left player → f ≡ framed track player whole
        settles_fault refusal at address e f g =
            let s = settled_by _ e in
            let a : whole.answer ≡ Answer.Fault refusal i at address = m.same_answer ∙ rw s in
            let n : sets (four 0) 0 whole.counts ≡ set counts i t.count = m.same_counts ∙ rw s in
            g ∙ rw (a, n)
