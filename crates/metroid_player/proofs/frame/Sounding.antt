-- Document 01, 'A frame': a note of length n sounds in exactly n frames, and so does a rest.
use Prim.Native.Nat.{ℕ, zero, suc, ◌+◌, ◌-◌, ◌≤◌, ◌<◌}
use mathlib.Core.Bool.{true, false}
use mathlib.Core.List.{List, [], ◌∷◌}
use mathlib.Core.Path.{◌≡◌, refl, ap, subst, ◌∙◌}
use native.Mathlib.Omega.{arith}
use borrow.Author.Tests.{eqb-true, eqb-false, ne_eqb}
use lib.Dec.{eqb}
use lib.ListN.{length, get_or, set}
use lib.Seq.{sets, length-sets}
use Rattle.std.specs.Prelude.{Option, Some, None}
use Rattle.metroid_format.specs.Command.{data_limit}
use Rattle.metroid_format.specs.Channel.{channel_source, read_until}
use Rattle.engine_base.proofs.Picks.{by-test, false_true}
use Rattle.metroid_format.proofs.channel.ReadBound.{StopHolds, stop_holds}
use Rattle.metroid_format.specs.declared.header.Voice.{Voice}
use Rattle.metroid_format.specs.declared.header.Track.{Track}
use Rattle.metroid_format.specs.declared.channel.Cursor.{Cursor}
use Rattle.metroid_format.specs.declared.channel.Stop.{Stop}
use Rattle.engine_base.specs.Channels.{four}
use Rattle.metroid_player.specs.Record.{fresh_channel, cursor_of, record_fits}
use Rattle.metroid_player.specs.Event.{off_event, event_of}
use Rattle.metroid_player.specs.Frame.{one_off, turn_by, turn_of, Settled, settle_by, settle_turn, settle_voice, settle_from, framed_by, frame_of_track}
use Rattle.engine_base.specs.Answer.{answer_kind}
use Rattle.metroid_player.specs.declared.record.Channel.{Channel}
use Rattle.metroid_player.specs.declared.record.Player.{Player}
use Rattle.metroid_player.specs.declared.event.Event.{Event}
use Rattle.engine_base.specs.declared.answer.Turned.{Turned}
use Rattle.metroid_player.specs.declared.frame.Turn.{Turn}
use Rattle.engine_base.specs.declared.answer.Answer.{Answer}
use Rattle.metroid_player.specs.declared.frame.Framed.{Framed}

-- the k-th channel: as opened, its record, and its part of a frame's answer
abbrev pub voice_at : ℕ → List (Option Voice) → Option Voice
voice_at k vs = get_or vs k None

abbrev pub channel_at : ℕ → Player → Channel
channel_at k player = get_or player.channels k fresh_channel

abbrev pub event_at : ℕ → Framed → Event
event_at k f = get_or f.events k off_event

abbrev pub count_at : ℕ → Framed → ℕ
count_at k f = get_or f.counts k 0

-- with so many frames left
abbrev pub with_left : ℕ → Channel → Channel
with_left m c = record {
  next = c.next;
  loop_start = c.loop_start;
  counter = c.counter;
  length = c.length;
  left = record { count = m };
  sounding = c.sounding;
}

-- the k-th of a list written over from its first on
sets_cons : {A : Type 0} (x : A) (l : List A) (i : ℕ) (vs : List A) → sets (x ∷ l) (suc i) vs ≡ x ∷ sets l i vs
sets_cons x l i [] = refl
sets_cons x l i (a ∷ vs) = sets_cons x (set l i a) (suc i) vs

sets_at : {A : Type 0} (l vs : List A) (k : ℕ) (d : A) → k < length l → get_or (sets l 0 vs) k d ≡ get_or vs k (get_or l k d)
sets_at [] vs k d h = absurd (omega arith)
sets_at (x ∷ l) [] k d h = refl
sets_at (x ∷ l) (a ∷ vs) zero d h = rw (sets_cons a l 0 vs)
sets_at (x ∷ l) (a ∷ vs) (suc k) d h = rw (sets_cons a l 0 vs) (sets_at l vs k d (omega arith))

not_events : (answer : Answer) → 0 < answer_kind answer → answer ≡ Answer.Events → ⊥
not_events answer h e = let same : answer_kind answer ≡ 0 = ap answer_kind e in omega arith

none_some : (v : Voice) → None ≡ Some v → ⊥
none_some v e = let z : ◌≡◌ {A = ℕ} 0 1 = cc in omega arith

module _ (bank : List ℕ) (track : Track) where
  -- what a frame of events does in the i-th channel, a used one: the record before it, the event, the commands read, the record after it
  pub record Sounded (i : ℕ) (voice : Voice) (before : Channel) (event : Event) (count : ℕ) (after : Channel) : Type 0 where
    -- no frames left: a note begins, all of its length is left, which is above 0, and one frame is taken off
    pub begins : before.left.count ≡ 0 →
        (event ≡ event_of bank track i voice (with_left after.length.count after) true)
        × (0 < after.length.count)
        × (after ≡ with_left (after.length.count - 1) after)
    -- frames left: nothing begins, no command is read, and one frame is taken off
    pub goes_on : 0 < before.left.count → (event ≡ event_of bank track i voice before false) × (count ≡ 0) × (after ≡ one_off before)
    -- nothing else begins
    pub begun_then : event.began ≡ true → before.left.count ≡ 0

  -- the k-th of the channels gone through, with what stands there before
  module _ (event : Event) (count : ℕ) (channel : Channel) where
    abbrev PlaysAt : ℕ → ℕ → Voice → Channel → Settled → Type 0
    PlaysAt i k v c s = Sounded i v c (get_or s.events k event) (get_or s.counts k count) (get_or s.channels k channel)

    abbrev FirstPlays : ℕ → Voice → Channel → Settled → Turn → Type 0
    FirstPlays i v c rest t =
        (settle_turn bank track i v t rest).answer ≡ Answer.Events → PlaysAt i 0 v c (settle_turn bank track i v t rest)

    by_stop : (i : ℕ) (v : Voice) (c : Channel) (rest : Settled) (cursor : Cursor) (n : ℕ) (stop : Stop) → c.left.count ≡ 0 →
        StopHolds (channel_source bank track v) cursor n stop → FirstPlays i v c rest (turn_by c cursor n stop)
    by_stop i v c rest cursor n (Stop.Note b) z (l, _) e =
        record { begins = λ _. (refl, l, refl); goes_on = λ s. absurd (omega arith); begun_then = λ _. z }
    by_stop i v c rest cursor n Stop.End z h e = absurd (not_events _ (omega arith) e)
    by_stop i v c rest cursor n (Stop.Refused refusal at address) z h e = absurd (not_events _ (omega arith) e)

    first_plays : (i : ℕ) (v : Voice) (c : Channel) (rest : Settled) → FirstPlays i v c rest (turn_of bank track v c)
    unfolding turn_of
    first_plays i v c rest =
        by-test (FirstPlays i v c rest) (eqb c.left.count 0)
        (λ z.
        let source = channel_source bank track v in
        by_stop i v c rest _ _ (read_until data_limit source (cursor_of c)).stop (eqb-true _ _ z)
        (stop_holds source data_limit (cursor_of c))) λ z _.
        let some : c.left.count ≡ 0 → ⊥ = eqb-false _ _ z in
        record { begins = λ e. absurd (some e); goes_on = λ _. (refl, refl, refl); begun_then = λ t. absurd (false_true t) }

    later_plays : (i j k : ℕ) (u v : Voice) (c : Channel) (t : Turn) (turned : Turned) (rest : Settled) →
        (rest.answer ≡ Answer.Events → PlaysAt j k v c rest) →
        (settle_by bank track i u t turned rest).answer ≡ Answer.Events → PlaysAt j (suc k) v c (settle_by bank track i u t turned rest)
    later_plays i j k u v c t Turned.Plays rest p e = p e
    later_plays i j k u v c t Turned.End rest p e = absurd (not_events _ (omega arith) e)
    later_plays i j k u v c t (Turned.Refused refusal at address) rest p e = absurd (not_events _ (omega arith) e)

    later_voice : (i j k : ℕ) (u : Option Voice) (before : Channel) (v : Voice) (c : Channel) (rest : Settled) →
        (rest.answer ≡ Answer.Events → PlaysAt j k v c rest) →
        (settle_voice bank track i u before rest).answer ≡ Answer.Events → PlaysAt j (suc k) v c (settle_voice bank track i u before rest)
    later_voice i j k None before v c rest p = p
    later_voice i j k (Some u) before v c rest p =
        later_plays i j k u v c (turn_of bank track u before) (turn_of bank track u before).turned rest p

    settled_plays : (i j : ℕ) (vs : List (Option Voice)) (cs : List Channel) (k : ℕ) (v : Voice) → j ≡ i + k → k < length cs → voice_at k vs ≡ Some v →
        (settle_from bank track i vs cs).answer ≡ Answer.Events → PlaysAt j k v (get_or cs k fresh_channel) (settle_from bank track i vs cs)
    unfolding settle_from
    settled_plays i j [] cs k v e h u = absurd (none_some v u)
    settled_plays i j (u ∷ vs) [] k v e h q = absurd (omega arith)
    settled_plays i j (u ∷ vs) (c ∷ cs) zero v e h q =
        let same : j ≡ i = omega arith in
        rw (same, q) (first_plays i v c (settle_from bank track (i + 1) vs cs))
    settled_plays i j (u ∷ vs) (c ∷ cs) (suc k) v e h q =
        later_voice i j k u c v _ (settle_from bank track (i + 1) vs cs) (settled_plays (i + 1) j vs cs k v (omega arith) (omega arith) q)

  -- a frame from any record of four channels
  module _ (k : ℕ) (voice : Voice) (player : Player) (h : k < 4) (u : voice_at k track.voices ≡ Some voice) (l : length player.channels ≡ 4) where
    abbrev Plays : Framed → Type 0
    Plays f =
        f.answer ≡ Answer.Events →
        Sounded k voice (channel_at k player) (event_at k f) (count_at k f) (channel_at k f.player) × (length f.player.channels ≡ 4)

    framed_plays : (s : Settled) (answer : Answer) →
        (answer ≡ Answer.Events →
        PlaysAt (get_or (four off_event) k off_event) (get_or (four 0) k 0) (channel_at k player) k k voice (channel_at k player) s) →
        Plays (framed_by track player s answer)
    framed_plays s Answer.Events p e =
        let h' : k < length player.channels = omega arith in (
          rw (
            sets_at (four off_event) s.events k off_event h,
            sets_at (four 0) s.counts k 0 h,
            sets_at player.channels s.channels k fresh_channel h',
          ) (p e),
          length-sets player.channels 0 s.channels ∙ l,
        )
    framed_plays s Answer.End p e = absurd (not_events _ (omega arith) e)
    framed_plays s Answer.Stopped p e = absurd (not_events _ (omega arith) e)
    framed_plays s (Answer.Refused refusal) p e = absurd (not_events _ (omega arith) e)
    framed_plays s (Answer.Fault refusal i at address) p e = absurd (not_events _ (omega arith) e)

    pub frame_plays : Plays (frame_of_track bank track player)
    unfolding frame_of_track
    frame_plays =
        by-test Plays (record_fits track.voices player)
        (λ _.
        by-test Plays (eqb player.stopped 0)
        (λ _.
        let s = settle_from bank track 0 track.voices player.channels in
        framed_plays s s.answer (settled_plays _ _ _ 0 k track.voices player.channels k voice (omega arith) (omega arith) u)) λ _ e.
        absurd (not_events _ (omega arith) e)) λ _ e.
        absurd (not_events _ (omega arith) e)

module _ (bank : List ℕ) (track : Track) (player : Player) where
  -- the record after j frames, each given what the one before returned
  abbrev pub after : ℕ → Player
  after zero = player
  after (suc j) = (frame_of_track bank track (after j)).player

  abbrev pub frame : ℕ → Framed
  frame j = frame_of_track bank track (after j)

  -- in frame 0 a note of length n begins in the k-th channel, a used one of that voice, and frames 0 to n - 1 give events
  pub record Begins (voice : Voice) (k n : ℕ) : Type 0 where
    pub one_of_four : k < 4
    pub channels_four : length player.channels ≡ 4
    pub used : voice_at k track.voices ≡ Some voice
    pub began : (event_at k (frame 0)).began ≡ true
    pub long : (channel_at k (after 1)).length.count ≡ n
    pub events : (j : ℕ) → j ≤ n - 1 → (frame j).answer ≡ Answer.Events

  pub record SoundsExactly (voice : Voice) (k n : ℕ) : Type 0 where
    pub some : 0 < n
    -- the note sounds in frames 0 to n - 1, and begins in the first of them alone
    pub sounds : (j : ℕ) → j < n →
        event_at k (frame j) ≡ event_of bank track k voice (with_left (n - j) (channel_at k (after 1))) (eqb j 0)
    -- then no frames of it are left, and frame n, if it gives events, begins the next
    pub over : (channel_at k (after n)).left.count ≡ 0
    pub next : (frame n).answer ≡ Answer.Events → (event_at k (frame n)).began ≡ true

  module _ (voice : Voice) (k n : ℕ) (b : Begins voice k n) where
    abbrev note : Channel
    note = channel_at k (after 1)

    four_after : (j : ℕ) → j ≤ n → length (after j).channels ≡ 4
    four_after zero m = b.channels_four
    four_after (suc j) m =
        (frame_plays bank track k voice (after j) b.one_of_four b.used (four_after j (omega arith)) (b.events j (omega arith))).1

    played : (j : ℕ) → j ≤ n → (frame j).answer ≡ Answer.Events →
        Sounded bank track k voice (channel_at k (after j)) (event_at k (frame j)) (count_at k (frame j)) (channel_at k (after (suc j)))
    played j m e = (frame_plays bank track k voice (after j) b.one_of_four b.used (four_after j m) e).0

    first : (event_at k (frame 0) ≡ event_of bank track k voice (with_left (n - 0) note) true) × (0 < n) × (note ≡ with_left (n - 1) note)
    first =
        let p = played 0 (omega arith) (b.events 0 (omega arith)) in
        let all : n - 0 ≡ note.length.count = omega (arith, b.long) in
        rw (all, ← b.long) (p.begins (p.begun_then b.began))

    frame_by_frame : (j : ℕ) → j < n →
        (event_at k (frame j) ≡ event_of bank track k voice (with_left (n - j) note) (eqb j 0))
        × (channel_at k (after (suc j)) ≡ with_left (n - suc j) note)
    frame_by_frame zero m = (first.0, first.2)
    frame_by_frame (suc j) m =
        let e = (frame_by_frame j (omega arith)).1 in
        let (event, _, off) = (played (suc j) (omega arith) (b.events (suc j) (omega arith))).goes_on (rw e (omega arith)) in
        let less : n - suc j - 1 ≡ n - suc (suc j) = omega arith in (
          rw (ne_eqb (suc j) 0 (λ e. omega arith)) (event ∙ ap (λ (c : Channel). event_of bank track k voice c false) e),
          off ∙ ap one_off e ∙ ap (λ (m : ℕ). with_left m note) less,
        )

    none_left : (channel_at k (after n)).left.count ≡ 0
    none_left =
        let last : suc (n - 1) ≡ n = omega (arith, first.1) in
        subst (λ (m : ℕ). (channel_at k (after m)).left.count ≡ 0) last (rw (frame_by_frame (n - 1) (omega (arith, first.1))).1 (omega arith))

  -- so a note of length n sounds in exactly n frames
  pub exactly : (voice : Voice) (k n : ℕ) → Begins voice k n → SoundsExactly voice k n
  exactly voice k n b = record {
    some = (first voice k n b).1;
    sounds = λ j m. (frame_by_frame voice k n b j m).0;
    over = none_left voice k n b;
    next = λ e. ap (λ (event : Event). event.began) ((played voice k n b n (omega arith) e).begins (none_left voice k n b)).0;
  }
