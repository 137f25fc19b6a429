-- Document 02, No. 4: timing, counts and records don't read the period table. Two banks that are alike to a track, whatever stands in
-- their period tables, start it alike, and their frames differ in what the melodic channels sound and in nothing else.
use Prim.Native.Nat.{ℕ, zero, suc, ◌+◌, ◌/◌}
use mathlib.Core.Bool.{Bool, true, false}
use mathlib.Core.List.{List, [], ◌∷◌, map}
use mathlib.Core.Path.{◌≡◌, refl, sym, ap, ap₂, ◌∙◌}
use lib.Dec.{eqb}
use lib.ListN.{set, take, drop}
use lib.Seq.{sets}
use Rattle.std.specs.Prelude.{Option, Some, None, Result, Ok, Err}
use Rattle.engine_base.specs.declared.refusal.Refusal.{Refusal}
use Rattle.engine_base.specs.Bytes.{period_at}
use Rattle.engine_base.specs.Channels.{four}
use Rattle.engine_base.specs.Pick.{pick}
use Rattle.engine_base.proofs.Picks.{by-test}
use Rattle.metroid_format.specs.Bank.{periods_size, presets_size}
use Rattle.metroid_format.specs.Channel.{channel_source, Source, read_until}
use Rattle.metroid_format.specs.Command.{data_limit}
use Rattle.metroid_format.specs.Header.{open_track}
use Rattle.metroid_format.specs.Timeline.{stop_of, sooner, soonest_from, soonest_of}
use Rattle.metroid_format.specs.declared.bank.Places.{Places}
use Rattle.metroid_format.specs.declared.command.Kind.{Kind}
use Rattle.metroid_format.specs.declared.command.Kind.TheVariants.{Melodic, Noise as NoiseKind}
use Rattle.metroid_format.specs.declared.header.Track.{Track}
use Rattle.metroid_format.specs.declared.header.Voice.{Voice}
use Rattle.metroid_player.specs.Record.{cursor_of, record_fits}
use Rattle.metroid_player.specs.Event.{off_event, is_rest, triangle_channel, melodic_rest, melodic_sound, noise_sound, by_kind, sound_of}
use Rattle.metroid_player.specs.Frame.{one_off, turn_of_until, turn_of, Settled, settle_by, settle_voice, settle_from, framed_by, frame_of_track, frame_opened, frame_of, started_opened, start_of}
use Rattle.metroid_player.specs.declared.record.Channel.{Channel}
use Rattle.metroid_player.specs.declared.record.Player.{Player}
use Rattle.metroid_player.specs.declared.event.Event.{Event}
use Rattle.metroid_player.specs.declared.event.Sound.{Sound}
use Rattle.metroid_player.specs.declared.event.Sound.TheVariants.{Off, SquareRest, TriangleRest, NoiseRest, Square, Triangle, Noise}
use Rattle.engine_base.specs.declared.answer.Turned.{Turned}
use Rattle.metroid_player.specs.declared.frame.Turn.{Turn}
use Rattle.metroid_player.specs.declared.frame.Framed.{Framed}
use Rattle.engine_base.specs.declared.answer.Answer.{Answer}

-- a note of a melodic channel made its rest
abbrev pub rest_for : Sound → Sound
rest_for Off = Off
rest_for (SquareRest ctrl1) = SquareRest ctrl1
rest_for (TriangleRest release) = TriangleRest release
rest_for NoiseRest = NoiseRest
rest_for (Square key period ctrl1) = melodic_rest 0
rest_for (Triangle key period release) = melodic_rest triangle_channel
rest_for (Noise first second third) = Noise first second third

abbrev pub rested_event : Event → Event
rested_event e = record { began = e.began; sound = rest_for e.sound }

-- a frame without its melodic notes, and all else of it as it is
abbrev pub rested : Framed → Framed
rested f = record {
  answer = f.answer;
  events = map rested_event f.events;
  counts = f.counts;
  frames_left = f.frames_left;
  player = f.player;
}

-- a channel's data and the note lengths
abbrev pub SameSource : List ℕ → List ℕ → Track → Option Voice → Type 0
SameSource bank bank' track None = Unit {0}
SameSource bank bank' track (Some v) = channel_source bank track v ≡ channel_source bank' track v

abbrev pub SameSources : List ℕ → List ℕ → Track → List (Option Voice) → Type 0
SameSources bank bank' track [] = Unit {0}
SameSources bank bank' track (v ∷ vs) = SameSource bank bank' track v × SameSources bank bank' track vs

abbrev pub SamePresets : List ℕ → List ℕ → Track → Type 0
SamePresets bank bank' track = take presets_size (drop track.presets bank) ≡ take presets_size (drop track.presets bank')

-- alike to a track: the same data of its used channels, note lengths and presets
pub record Alike (bank bank' : List ℕ) (track : Track) : Type 0 where
  pub sources : SameSources bank bank' track track.voices
  pub presets : SamePresets bank bank' track

-- what is made of the events one by one
map_set : {A B : Type 0} (f : A → B) (l : List A) (i : ℕ) (a : A) → map f (set l i a) ≡ set (map f l) i (f a)
map_set f [] i a = refl
map_set f (x ∷ l) zero a = refl
map_set {B = B} f (x ∷ l) (suc i) a = ap (λ (t : List B). f x ∷ t) (map_set f l i a)

map_sets : {A B : Type 0} (f : A → B) (l : List A) (i : ℕ) (vs : List A) → map f (sets l i vs) ≡ sets (map f l) i (map f vs)
map_sets f l i [] = refl
map_sets {B = B} f l i (a ∷ vs) =
    map_sets f (set l i a) (suc i) vs ∙ ap (λ (t : List B). sets t (suc i) (map f vs)) (map_set f l i a)

-- picks that f can tell apart by their first side at most
pick_same : {A B : Type 0} (f : A → B) (b : Bool) (x x' y : A) → (b ≡ true → f x ≡ f x') → f (pick b x y) ≡ f (pick b x' y)
pick_same f true x x' y e = e refl
pick_same f false x x' y e = refl

-- a melodic sound made a rest says nothing of the bank
record Rests (i : ℕ) (sound : Sound) : Type 0 where
  same : rest_for sound ≡ melodic_rest i

melodic_rests : (bank : List ℕ) (track : Track) (i : ℕ) (v : Voice) (c : Channel) → Rests i (melodic_sound bank track i v c)
unfolding melodic_sound melodic_rest
melodic_rests bank track i v c =
    by-test (Rests i) (is_rest (period_at (take periods_size (drop track.periods bank)) (c.sounding / 2)))
    (λ _. by-test (Rests i) (eqb i triangle_channel) (λ t. record { same = rw t }) λ t. record { same = rw t }) λ _.
    by-test (Rests i) (eqb i triangle_channel) (λ t. record { same = rw t }) λ t. record { same = rw t }

module _ (bank bank' : List ℕ) (track : Track) where
  by_kind_lem : (kind : Kind) (melodic melodic' noise noise' : Sound) → rest_for melodic ≡ rest_for melodic' → noise ≡ noise' →
      rest_for (by_kind kind melodic noise) ≡ rest_for (by_kind kind melodic' noise')
  by_kind_lem Melodic melodic melodic' noise noise' m n = m
  by_kind_lem NoiseKind melodic melodic' noise noise' m n = ap rest_for n

  same_sound : SamePresets bank bank' track → (i : ℕ) (v : Voice) (c : Channel) →
      rest_for (sound_of bank track i v c) ≡ rest_for (sound_of bank' track i v c)
  unfolding sound_of
  same_sound p i v c =
      by_kind_lem v.kind _ _ _ _ ((melodic_rests bank track i v c).same ∙ sym (melodic_rests bank' track i v c).same)
      (ap (λ (presets : List ℕ). noise_sound presets c.sounding) p)

  same_turn : (v : Voice) (c : Channel) → SameSource bank bank' track (Some v) →
      turn_of bank track v c ≡ turn_of bank' track v c
  unfolding turn_of
  same_turn v c e =
      pick_same (λ (t : Turn). t) (eqb c.left.count 0) _ _ _ λ _.
      ap (λ (source : Source). turn_of_until c (read_until data_limit source (cursor_of c))) e

  -- the channels gone through, with melodic notes made rests
  record SameSettled (s s' : Settled) : Type 0 where
    answers : s.answer ≡ s'.answer
    events : map rested_event s.events ≡ map rested_event s'.events
    counts : s.counts ≡ s'.counts
    channels : s.channels ≡ s'.channels

  module _ (p : SamePresets bank bank' track) where
    settle_turned : (i : ℕ) (v : Voice) (t : Turn) (turned : Turned) {rest rest' : Settled} → SameSettled rest rest' →
        SameSettled (settle_by bank track i v t turned rest) (settle_by bank' track i v t turned rest')
    settle_turned i v t Turned.Plays r = record {
      answers = r.answers;
      events =
          ap₂ (λ (sound : Sound) (es : List Event). record { began = t.began; sound = sound } ∷ es)
          (same_sound p i v t.channel) r.events;
      counts = ap (λ (ns : List ℕ). t.count ∷ ns) r.counts;
      channels = ap (λ (cs : List Channel). one_off t.channel ∷ cs) r.channels;
    }
    settle_turned i v t Turned.End r = record { answers = refl; events = refl; counts = refl; channels = refl }
    settle_turned i v t (Turned.Refused refusal at address) r =
        record { answers = refl; events = refl; counts = refl; channels = refl }

    same_voice : (i : ℕ) (v : Option Voice) (c : Channel) {rest rest' : Settled} → SameSource bank bank' track v →
        SameSettled rest rest' → SameSettled (settle_voice bank track i v c rest) (settle_voice bank' track i v c rest')
    same_voice i None c e r = record {
      answers = r.answers;
      events = ap (λ (es : List Event). off_event ∷ es) r.events;
      counts = ap (λ (ns : List ℕ). 0 ∷ ns) r.counts;
      channels = ap (λ (cs : List Channel). c ∷ cs) r.channels;
    }
    same_voice i (Some v) c e r =
        rw (← same_turn v c e) (settle_turned i v (turn_of bank track v c) (turn_of bank track v c).turned r)

    same_settled : (i : ℕ) (vs : List (Option Voice)) (cs : List Channel) → SameSources bank bank' track vs →
        SameSettled (settle_from bank track i vs cs) (settle_from bank' track i vs cs)
    unfolding settle_from
    same_settled i [] cs d = record { answers = refl; events = refl; counts = refl; channels = refl }
    same_settled i (v ∷ vs) [] d = record { answers = refl; events = refl; counts = refl; channels = refl }
    same_settled i (v ∷ vs) (c ∷ cs) (e, d) = same_voice i v c e (same_settled (i + 1) vs cs d)

  framed_same : (player : Player) (s s' : Settled) → SameSettled s s' → (answer : Answer) →
      rested (framed_by track player s answer) ≡ rested (framed_by track player s' answer)
  framed_same player s s' r Answer.Events =
      rw (
        map_sets rested_event (four off_event) 0 s.events,
        map_sets rested_event (four off_event) 0 s'.events,
        r.events,
        r.counts,
        r.channels,
      )
  framed_same player s s' r Answer.End = rw r.counts
  framed_same player s s' r Answer.Stopped = refl
  framed_same player s s' r (Answer.Refused refusal) = refl
  framed_same player s s' r (Answer.Fault refusal i at address) = rw r.counts

  -- from any record
  pub track_alike : Alike bank bank' track → (player : Player) →
      rested (frame_of_track bank track player) ≡ rested (frame_of_track bank' track player)
  unfolding frame_of_track
  track_alike same player =
      pick_same rested (record_fits track.voices player) _ _ _ λ _.
      pick_same rested (eqb player.stopped 0) _ _ _ λ _.
      let s = settle_from bank track 0 track.voices player.channels in
      let s' = settle_from bank' track 0 track.voices player.channels in
      let r = same_settled same.presets 0 track.voices player.channels same.sources in
      framed_same player s s' r s.answer ∙ ap (λ (answer : Answer). rested (framed_by track player s' answer)) r.answers

  same_stop : (i : ℕ) (v : Option Voice) → SameSource bank bank' track v →
      stop_of bank track i v ≡ stop_of bank' track i v
  same_stop i None e = refl
  same_stop i (Some v) e = rw e

  same_soonest : (i : ℕ) (vs : List (Option Voice)) → SameSources bank bank' track vs →
      soonest_from bank track i vs ≡ soonest_from bank' track i vs
  unfolding soonest_from
  same_soonest i [] d = refl
  same_soonest i (v ∷ vs) (e, d) = ap₂ sooner (same_stop i v e) (same_soonest (i + 1) vs d)

  -- the first stop of the track
  pub stop_alike : Alike bank bank' track → soonest_of bank track ≡ soonest_of bank' track
  stop_alike same = same_soonest 0 track.voices same.sources

-- alike to a track that opens; of one that does not nothing is asked
abbrev pub AlikeOpened : List ℕ → List ℕ → Result Track Refusal → Type 0
AlikeOpened bank bank' (Ok track) = Alike bank bank' track
AlikeOpened bank bank' (Err refusal) = Unit {0}

module _ (bank bank' : List ℕ) where
  opened_frame_alike : (opened : Result Track Refusal) → AlikeOpened bank bank' opened → (player : Player) →
      rested (frame_opened bank player opened) ≡ rested (frame_opened bank' player opened)
  opened_frame_alike (Ok track) same player = track_alike bank bank' track same player
  opened_frame_alike (Err refusal) same player = refl

  opened_start_alike : (opened : Result Track Refusal) → AlikeOpened bank bank' opened →
      started_opened bank opened ≡ started_opened bank' opened
  opened_start_alike (Ok track) same = rw (stop_alike bank bank' track same)
  opened_start_alike (Err refusal) same = refl

-- two banks in which the track opens alike
module _ (bank bank' : List ℕ) (places : Places) (track : ℕ) (o : open_track bank places track ≡ open_track bank' places track)
    (same : AlikeOpened bank bank' (open_track bank places track)) where
  pub frame_alike : (player : Player) → rested (frame_of bank places track player) ≡ rested (frame_of bank' places track player)
  unfolding frame_of
  frame_alike player = rw (← o) (opened_frame_alike bank bank' (open_track bank places track) same player)

  pub start_alike : start_of bank places track ≡ start_of bank' places track
  unfolding start_of
  start_alike = rw (← o) (opened_start_alike bank bank' (open_track bank places track) same)
