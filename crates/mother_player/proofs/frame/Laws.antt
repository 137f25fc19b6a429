-- The steps of the frame rule, as the code takes them.
use Prim.Native.Nat.{ℕ, zero, suc, ◌+◌, ◌≤◌, ◌<◌}
use mathlib.Core.List.{List, []}
use mathlib.Core.Path.{◌≡◌, refl, ap, ◌∙◌}
use native.Mathlib.Omega.{arith}
use native.Mathlib.Numerals.{add-one}
use lib.ListN.{length, get_or, set, drop, drop_of_length-le, length-set}
use lib.Seq.{sets}
use Rattle.std.specs.Prelude.{Option, Some, None, ◌≢◌}
use Rattle.std.proofs.lemmas.List.{set-get_or, get_or-set_other}
use Rattle.engine_base.specs.Channels.{four}
use Rattle.engine_base.specs.declared.refusal.Refusal.{Refusal}
use Rattle.engine_base.specs.declared.answer.Answer.{Answer}
use Rattle.engine_base.proofs.Channels.{drop_next, given_next, rest_set}
use Rattle.mother_format.specs.Bank.{banks}
use Rattle.mother_format.specs.declared.bank.Places.{Places}
use Rattle.mother_format.specs.declared.channel.Setting.{Setting}
use Rattle.mother_format.specs.declared.header.Voice.{Voice}
use Rattle.mother_player.specs.Record.{stopped_player}
use Rattle.mother_player.specs.Event.{off_event, event_of}
use Rattle.mother_player.specs.Frame.{one_off, turn_of, Settled, settled, settle_on, settle_by, settle_voice, settle_from, eventless, framed, setting_of}
use Rattle.mother_player.specs.declared.record.Channel.{Channel}
use Rattle.mother_player.specs.declared.record.Player.{Player}
use Rattle.mother_player.specs.declared.event.Event.{Event}
use Rattle.engine_base.specs.declared.answer.Turned.{Turned}
use Rattle.mother_player.specs.declared.reading.Turn.{Turn}
use Rattle.mother_player.specs.declared.frame.Framed.{Framed}

-- the channels from the i-th on, with what the ones before have left in the three arrays and of the setting
module _ (bank8 banka : List ℕ) (places : Places) (voices : List (Option Voice)) (player : Player) where
  abbrev settled_from : Setting → ℕ → Settled
  settled_from s i = settle_from bank8 banka places s i (drop i voices) (drop i player.channels)

  abbrev whole : Settled
  whole = settle_from bank8 banka places (setting_of player) 0 voices player.channels

  pub record Settling (events : List Event) (counts : List ℕ) (channels : List Channel) (s : Setting) (i : ℕ) : Type 0 where
    pub within : i ≤ 4
    pub voices_four : length voices ≡ 4
    pub events_four : length events ≡ 4
    pub counts_four : length counts ≡ 4
    pub channels_four : length channels ≡ 4
    pub rest_given : drop i channels ≡ drop i player.channels
    pub rest_off : (k : ℕ) → i ≤ k → get_or events k off_event ≡ off_event
    pub rest_unread : (k : ℕ) → i ≤ k → get_or counts k 0 ≡ 0
    pub same_answer : whole.answer ≡ (settled_from s i).answer
    pub same_setting : whole.setting ≡ (settled_from s i).setting
    pub same_events : sets (four off_event) 0 whole.events ≡ sets events i (settled_from s i).events
    pub same_counts : sets (four 0) 0 whole.counts ≡ sets counts i (settled_from s i).counts
    pub same_channels : sets player.channels 0 whole.channels ≡ sets channels i (settled_from s i).channels

  all_same : {A : Type 0} (x : A) (k : ℕ) → get_or (four x) k x ≡ x
  all_same x zero = refl
  all_same x (suc zero) = refl
  all_same x (suc (suc zero)) = refl
  all_same x (suc (suc (suc zero))) = refl
  all_same x (suc (suc (suc (suc k)))) = refl

  pub settling_none : length voices ≡ 4 → length player.channels ≡ 4 → (s : Setting) → s ≡ setting_of player
      → (events : List Event) → events ≡ four off_event → Settling events (four 0) player.channels s 0
  settling_none v c s q events e = record {
    within = omega arith;
    voices_four = v;
    events_four = rw e;
    counts_four = refl;
    channels_four = c;
    rest_given = refl;
    rest_off = λ k _. rw e (all_same off_event k);
    rest_unread = λ k _. all_same 0 k;
    same_answer = rw q;
    same_setting = rw q;
    same_events = rw (e, q);
    same_counts = rw q;
    same_channels = rw q;
  }

  module _ (events : List Event) (counts : List ℕ) (channels : List Channel) (s : Setting) (i : ℕ) (m : Settling events counts channels s i) where
    settled_all : 4 ≤ i → settled_from s i ≡ settled Answer.Events [] s
    unfolding settle_from
    settled_all h =
        let v : length voices ≤ i = omega (arith, m.voices_four) in
        rw (drop_of_length-le voices v)

    pub settles_events : 4 ≤ i → record {
      answer = Answer.Events;
      events = events;
      counts = counts;
      player = record { stopped = player.stopped; transpose = s.transpose; window = s.window; channels = channels };
    } ≡ framed player whole
    settles_events h =
        let e = settled_all h in
        let a : whole.answer ≡ Answer.Events = m.same_answer ∙ rw e in
        let t : whole.setting ≡ s = m.same_setting ∙ rw e in
        let ev : sets (four off_event) 0 whole.events ≡ events = m.same_events ∙ rw e in
        let n : sets (four 0) 0 whole.counts ≡ counts = m.same_counts ∙ rw e in
        let c : sets player.channels 0 whole.channels ≡ channels = m.same_channels ∙ rw e in
        rw (a, t, ev, n, c)

    module _ (h : i < 4) (dv : Option Voice) (dc : Channel) where
      abbrev voice_at : Option Voice
      voice_at = get_or voices i dv

      abbrev channel : Channel
      channel = get_or channels i dc

      settled_next : settled_from s i ≡ settle_voice bank8 banka places s i channel (λ after. settled_from after (i + 1)) voice_at
      unfolding settle_from
      settled_next =
          rw (drop_next voices i dv m.voices_four h, given_next player.channels channels i m.rest_given dc m.channels_four h)

      settling_on : (t : Setting) (event : Event) (next : Channel) (count : ℕ) → settled_from s i ≡ settle_on event next count (settled_from t (i + 1))
          → Settling (set events i event) (set counts i count) (set channels i next) t (i + 1)
      settling_on t event next count e = record {
        within = omega arith;
        voices_four = m.voices_four;
        events_four = length-set events i event ∙ m.events_four;
        counts_four = length-set counts i count ∙ m.counts_four;
        channels_four = length-set channels i next ∙ m.channels_four;
        rest_given = rest_set player.channels channels i m.rest_given next;
        rest_off = λ k j.
            let ne : k ≢ i = omega arith in
            get_or-set_other events i k event off_event ne ∙ m.rest_off k (omega arith);
        rest_unread = λ k j.
            let ne : k ≢ i = omega arith in
            get_or-set_other counts i k count 0 ne ∙ m.rest_unread k (omega arith);
        same_answer = m.same_answer ∙ rw e;
        same_setting = m.same_setting ∙ rw e;
        same_events = m.same_events ∙ rw (e, add-one i);
        same_counts = m.same_counts ∙ rw (e, add-one i);
        same_channels = m.same_channels ∙ rw (e, add-one i);
      }

      -- an unused channel's event, count and record stay
      pub settling_off : voice_at ≡ None → Settling events counts channels s (i + 1)
      settling_off u =
          let event : set events i off_event ≡ events = rw (← m.rest_off i (omega arith)) (set-get_or events i off_event) in
          let count : set counts i 0 ≡ counts = rw (← m.rest_unread i (omega arith)) (set-get_or counts i 0) in
          rw (← event, ← count, ← set-get_or channels i dc) (settling_on s off_event channel 0 (settled_next ∙ rw u))

      -- t is what `take_turn` answers
      module _ (voice : Voice) (u : voice_at ≡ Some voice) (t : Turn) (q : t ≡ turn_of bank8 banka places s voice channel) where
        abbrev rest : Settled
        rest = settled_from t.setting (i + 1)

        settled_by : (x : Turned) → t.turned ≡ x → settled_from s i ≡ settle_by (banks bank8 banka) places i voice t x rest
        settled_by x e = settled_next ∙ rw (u, ← q) (ap (λ (y : Turned). settle_by (banks bank8 banka) places i voice t y rest) e)

        pub settling_plays : t.turned ≡ Turned.Plays → (event : Event) → event ≡ event_of (banks bank8 banka) places voice.kind t.channel t.began
            → (next : Channel) → next ≡ one_off t.channel
            → Settling (set events i event) (set counts i t.count) (set channels i next) t.setting (i + 1)
        settling_plays e event f next g = settling_on t.setting event next t.count (settled_by _ e ∙ rw (f, g))

        pub settles_end : t.turned ≡ Turned.End → (ended : Player) → ended ≡ stopped_player
            → (f : Framed) → f ≡ eventless Answer.End (set counts i t.count) ended → f ≡ framed player whole
        settles_end e ended d f g =
            let e' = settled_by _ e in
            let a : whole.answer ≡ Answer.End = m.same_answer ∙ rw e' in
            let n : sets (four 0) 0 whole.counts ≡ set counts i t.count = m.same_counts ∙ rw e' in
            g ∙ rw (a, n, d)

        pub settles_fault : (refusal : Refusal) (at address : ℕ) → t.turned ≡ Turned.Refused refusal at address
            → (f : Framed) → f ≡ eventless (Answer.Fault refusal i at address) (set counts i t.count) player → f ≡ framed player whole
        settles_fault refusal at address e f g =
            let e' = settled_by _ e in
            let a : whole.answer ≡ Answer.Fault refusal i at address = m.same_answer ∙ rw e' in
            let n : sets (four 0) 0 whole.counts ≡ set counts i t.count = m.same_counts ∙ rw e' in
            g ∙ rw (a, n)
