-- A refused frame has a number of the papers' tables; a refusal while reading names one of the four channels, an offset within a
-- block's limit and, of 10 to 15, an address: the offset plus a number below $c000, at most $c0ff.
use Prim.Native.Nat.{ℕ, zero, suc, ◌+◌, ◌/◌, ◌≤◌, ◌<◌}
use mathlib.Core.Bool.{Bool, true, false}
use mathlib.Core.List.{List, [], ◌∷◌}
use mathlib.Core.Path.{◌≡◌, refl}
use native.Mathlib.Omega.{arith}
use borrow.Author.Tests.{le-leb, lt-leb, leb-true, eqb-true}
use lib.Dec.{eqb, ltb}
use lib.ListN.{length}
use Rattle.std.specs.Prelude.{Option, Some, None, Result, Ok, Err}
use Rattle.engine_base.specs.Address.{bank_end, offset_of, within}
use Rattle.engine_base.specs.Bytes.{word_at}
use Rattle.engine_base.specs.Pick.{pick}
use Rattle.engine_base.specs.declared.time.Frames.{Frames}
use Rattle.engine_base.specs.Refusal.{number_of}
use Rattle.engine_base.specs.declared.refusal.Refusal.{Refusal}
use Rattle.engine_base.specs.declared.refusal.Refusal.TheVariants.{EnvelopeTooHigh, NoEnvelopeEnd, InvalidCommand, PastData, InvalidRecord, OddTranspose, BadPlaylist, TooManyCommands}
use Rattle.engine_base.specs.declared.answer.Answer.{Answer}
use Rattle.engine_base.proofs.Picks.{by-test, both, false_true}
use Rattle.engine_base.proofs.address.Inside.{inside}
use Rattle.mother_format.specs.Bank.{banks, block_of, block_limit}
use Rattle.mother_format.specs.Header.{open_track}
use Rattle.mother_format.specs.Playlist.{row_limit, goto_at, entry_at}
use Rattle.mother_format.specs.Command.{command_at}
use Rattle.mother_format.specs.Transpose.{is_odd}
use Rattle.mother_format.specs.Channel.{block_source, refused_at, played_at}
use Rattle.mother_format.proofs.bank.Joined.{block_within}
use Rattle.mother_format.proofs.command.Laws.{stands}
use Rattle.mother_format.proofs.channel.Plays.{Refusing, Plays, plays}
use Rattle.mother_format.proofs.header.Opening.{Unopened, unopened, four_voices}
use Rattle.mother_format.proofs.playlist.Next.{EntryWithin, entry_within}
use Rattle.mother_format.specs.declared.bank.Places.{Places}
use Rattle.mother_format.specs.declared.command.Kind.{Kind}
use Rattle.mother_format.specs.declared.command.Command.{Command}
use Rattle.mother_format.specs.declared.channel.Cursor.{Cursor}
use Rattle.mother_format.specs.declared.channel.Setting.{Setting}
use Rattle.mother_format.specs.declared.channel.Played.{Played}
use Rattle.mother_format.specs.declared.playlist.Entry.{Entry}
use Rattle.mother_format.specs.declared.header.Voice.{Voice}
use Rattle.mother_format.specs.declared.header.Track.{Track}
use Rattle.mother_player.specs.Record.{sound_fits, block_fits, channel_fits, channels_fit, record_fits}
use Rattle.mother_player.specs.Reading.{at_cursor, behind, step_of, entry_step, step_at, step_from, offset_in, read_by, read_from, read_until, most_commands, first_reader}
use Rattle.mother_player.specs.Frame.{turn_of, Settled, settle_by, settle_from, framed_by, setting_of, frame_of_track, frame_by, frame_of}
use Rattle.mother_player.specs.declared.record.Channel.{Channel}
use Rattle.mother_player.specs.declared.record.Player.{Player}
use Rattle.mother_player.specs.declared.reading.Place.{Place}
use Rattle.mother_player.specs.declared.reading.Reader.{Reader}
use Rattle.mother_player.specs.declared.reading.Stepped.{Stepped}
use Rattle.engine_base.specs.declared.answer.Turned.{Turned}
use Rattle.mother_player.specs.declared.reading.Turn.{Turn}
use Rattle.mother_player.specs.declared.frame.Framed.{Framed}

-- a refusal that names no place: 1 to 4, 8, 9 and 19 of the track, and 16
pub data Unplaced : Refusal → Type 0 where
  of_track : {refusal : Refusal} → Unopened refusal → Unplaced refusal
  of_record : Unplaced InvalidRecord

-- offset and address of a refusal while reading
pub data RefusedAt : Refusal → ℕ → ℕ → Type 0 where
  of_data : {refusal : Refusal} {at start : ℕ} → number_of InvalidCommand ≤ number_of refusal → number_of refusal ≤ number_of PastData → at ≤ block_limit → start < bank_end → RefusedAt refusal at (start + at)
  of_envelope : {refusal : Refusal} {at : ℕ} → number_of EnvelopeTooHigh ≤ number_of refusal → number_of refusal ≤ number_of NoEnvelopeEnd → at ≤ block_limit → RefusedAt refusal at 0
  of_transpose : {at : ℕ} → at ≤ block_limit → RefusedAt OddTranspose at 0
  of_playlist : RefusedAt BadPlaylist 0 0
  of_count : {at : ℕ} → at ≤ block_limit → RefusedAt TooManyCommands at 0

-- of a channel that reads: its offsets, and its block's address
pub record Inside (c : Channel) : Type 0 where
  pub next_fits : c.next ≤ block_limit
  pub start_fits : c.loop_start ≤ block_limit
  pub block_fits_lem : c.block < bank_end

abbrev PlayedWithin : Played → Type 0
PlayedWithin Played.End = Unit {0}
PlayedWithin (Played.Transpose m next) = next ≤ block_limit
PlayedWithin (Played.Window t next) = next ≤ block_limit
PlayedWithin (Played.EndLoop next) = next ≤ block_limit
PlayedWithin (Played.BeginLoop counter next) = next ≤ block_limit
PlayedWithin (Played.Length b long next) = next ≤ block_limit
PlayedWithin (Played.Timbre x base next) = next ≤ block_limit
PlayedWithin (Played.Note b next) = next ≤ block_limit
PlayedWithin (Played.Refused refusal at address) = RefusedAt refusal at address

refused_at_lem : (start : ℕ) (refusal : Refusal) (at : ℕ) → Refusing refusal → start < bank_end → at ≤ block_limit → PlayedWithin (refused_at start refusal at)
refused_at_lem start refusal at (Refusing.of_envelope low high) b h =
    rw (lt-leb (number_of InvalidCommand) (number_of refusal) (omega arith)) (of_envelope low high h)
refused_at_lem start refusal at (Refusing.of_data low high) b h =
    rw (le-leb (number_of InvalidCommand) (number_of refusal) low, le-leb (number_of refusal) (number_of PastData) high) (of_data low high h b)
refused_at_lem start refusal at Refusing.of_transpose b h = of_transpose h

-- a playlist's word is refused under 20 alone
abbrev BadPlaylistOnly : Result Entry Refusal → Type 0
BadPlaylistOnly (Ok entry) = Unit {0}
BadPlaylistOnly (Err refusal) = refusal ≡ BadPlaylist

entry_refused : (bank : List ℕ) (list row : ℕ) (by-goto : Bool) → BadPlaylistOnly (entry_at bank list row by-goto)
unfolding entry_at goto_at
entry_refused bank list row by-goto =
    by-test BadPlaylistOnly (within list 2)
    (λ _. by-test BadPlaylistOnly (eqb (word / 256) 0x00) (λ _. tt) λ _.
    by-test BadPlaylistOnly (eqb (word / 256) 0xff)
    (λ _. by-test BadPlaylistOnly by-goto (λ _. refl) λ _.
    by-test BadPlaylistOnly (within (list + 2) 2)
    (λ _. by-test BadPlaylistOnly (within (word_at bank (offset_of (list + 2))) 1) (λ _. tt) λ _. refl) λ _. refl) λ _.
    by-test BadPlaylistOnly (within word 1) (λ _. by-test BadPlaylistOnly (ltb row row_limit) (λ _. tt) λ _. refl) λ _. refl) λ _. refl
  where
    word : ℕ
    word = word_at bank (offset_of list)

abbrev StepWithin : Reader → Stepped → Type 0
StepWithin r Stepped.Again = Inside r.channel
StepWithin r Stepped.Note = Unit {0}
StepWithin r Stepped.End = Unit {0}
StepWithin r (Stepped.Refused refusal at address) = RefusedAt refusal at address

moved_inside : (c : Channel) → Inside c → (next : ℕ) → next ≤ block_limit → (cursor : Cursor) →
    cursor.next ≡ next → cursor.loop_start ≤ block_limit → Inside (at_cursor c cursor)
moved_inside c m next h cursor e l = record { next_fits = rw e h; start_fits = l; block_fits_lem = m.block_fits_lem }

abbrev TurnWithin : Turned → Type 0
TurnWithin Turned.Plays = Unit {0}
TurnWithin Turned.End = Unit {0}
TurnWithin (Turned.Refused refusal at address) = RefusedAt refusal at address

read_by_lem : (count : ℕ) (on : Reader → Turn) → ((r : Reader) → Inside r.channel → TurnWithin (on r).turned) →
    (r : Reader) (x : Stepped) → StepWithin r x → TurnWithin (read_by count on r x).turned
read_by_lem count on more r Stepped.Again h = more r h
read_by_lem count on more r Stepped.Note h = tt
read_by_lem count on more r Stepped.End h = tt
read_by_lem count on more r (Stepped.Refused refusal at address) h = h

offset_within : (next : ℕ) → next ≤ block_limit → (x : Place) → offset_in next x ≤ block_limit
offset_within next h Place.Block = h
offset_within next h Place.List = omega arith
offset_within next h Place.Target = omega arith

module _ (bank8 banka : List ℕ) (places : Places) (kind : Kind) where
  played_within : (start at : ℕ) (s : Setting) (f : Frames) → start < bank_end → at ≤ block_limit → (p : Played) →
      Plays (block_source bank8 banka places kind start) s f at p → PlayedWithin p
  played_within start at s f b h p x = from p x
    where
      size : length (block_of bank8 banka start) ≤ block_limit
      size = block_within bank8 banka start

      fits : {c : Command} {next : ℕ} → command_at kind (block_of bank8 banka start) at ≡ Ok (c, next) → next ≤ block_limit
      fits e = let (after, near, small) = stands kind (block_of bank8 banka start) at e in omega (arith, size)

      from : (p : Played) → Plays (block_source bank8 banka places kind start) s f at p → PlayedWithin p
      from _ (Plays.ends_block next e) = tt
      from _ (Plays.transposes m next e t) = fits e
      from _ (Plays.windows t next e) = fits e
      from _ (Plays.ends_loop next e) = fits e
      from _ (Plays.begins_loop n counter next e t) = fits e
      from _ (Plays.sets_length l b sound next long e t u) = fits e
      from _ (Plays.sets_timbre x c next e) = fits e
      from _ (Plays.notes b sound next e t u) = fits e
      from _ (Plays.refuses refusal offset r near) = refused_at_lem start refusal offset r b (omega (arith, size))

  block_steps : (r : Reader) → Inside r.channel → (p : Played) → PlayedWithin p → StepWithin (step_of kind (behind r p) p).reader (step_of kind (behind r p) p).stepped
  block_steps r m Played.End h = record { next_fits = m.next_fits; start_fits = m.start_fits; block_fits_lem = m.block_fits_lem }
  block_steps r m (Played.Transpose t next) h = moved_inside r.channel m next h _ refl m.start_fits
  block_steps r m (Played.Window t next) h = moved_inside r.channel m next h _ refl m.start_fits
  block_steps r m (Played.EndLoop next) h =
      by-test (λ (cursor : Cursor). Inside (at_cursor r.channel cursor)) (eqb r.channel.counter 0)
      (λ _. moved_inside r.channel m next h _ refl m.start_fits) λ _.
      moved_inside r.channel m r.channel.loop_start m.start_fits _ refl m.start_fits
  block_steps r m (Played.BeginLoop counter next) h = moved_inside r.channel m next h _ refl h
  block_steps r m (Played.Length b long next) h = tt
  block_steps r m (Played.Timbre x base next) h = record { next_fits = h; start_fits = m.start_fits; block_fits_lem = m.block_fits_lem }
  block_steps r m (Played.Note b next) h = tt
  block_steps r m (Played.Refused refusal at address) h = h

  list_steps : (r : Reader) → Inside r.channel → (e : Result Entry Refusal) → EntryWithin r.channel.row e → BadPlaylistOnly e → StepWithin (entry_step r e).reader (entry_step r e).stepped
  list_steps r m (Ok Entry.End) h b = tt
  list_steps r m (Ok (Entry.Goto target)) h b = record { next_fits = m.next_fits; start_fits = m.start_fits; block_fits_lem = m.block_fits_lem }
  list_steps r m (Ok (Entry.Block at word)) (row, w) b =
      let (low, high) = inside at 1 w in
      record { next_fits = omega arith; start_fits = omega arith; block_fits_lem = omega arith }
  list_steps r m (Err refusal) h b = rw b of_playlist

  steps_at : (r : Reader) → Inside r.channel → (x : Place) →
      StepWithin (step_at bank8 banka places kind r x).reader (step_at bank8 banka places kind r x).stepped
  steps_at r m Place.Block =
      let c = r.channel in
      let source = block_source bank8 banka places kind c.block in
      block_steps r m (played_at source r.setting c.length c.next)
      (played_within c.block c.next r.setting c.length m.block_fits_lem m.next_fits _ (plays source r.setting c.length c.next))
  steps_at r m Place.List =
      list_steps r m _ (entry_within (banks bank8 banka) r.channel.list r.channel.row false) (entry_refused (banks bank8 banka) r.channel.list r.channel.row false)
  steps_at r m Place.Target =
      list_steps r m _ (entry_within (banks bank8 banka) r.channel.list r.channel.row true) (entry_refused (banks bank8 banka) r.channel.list r.channel.row true)

  read_within : (fuel : ℕ) (r : Reader) (count : ℕ) → Inside r.channel → TurnWithin (read_from bank8 banka places kind fuel r count).turned
  unfolding read_from step_from
  read_within zero r count m = of_count (offset_within r.channel.next m.next_fits r.place)
  read_within (suc fuel) r count m =
      let step = step_at bank8 banka places kind r r.place in
      read_by_lem count (λ next. read_from bank8 banka places kind fuel next (count + 1)) (λ next h. read_within fuel next (count + 1) h)
      step.reader step.stepped (steps_at r m r.place)

  first_within : (header : ℕ) (c : Channel) (s : Setting) → Inside c → Inside (first_reader header c s).channel
  unfolding first_reader
  first_within header c s m =
      by-test (λ (r : Reader). Inside r.channel) (eqb c.block 0)
      (λ _. record { next_fits = m.next_fits; start_fits = m.start_fits; block_fits_lem = m.block_fits_lem }) λ _. m

-- what 16 leaves of a used channel
fits_inside : (v : Voice) (c : Channel) → channel_fits (Some v) c ≡ true → Inside c
unfolding channel_fits block_fits
fits_inside v c e =
    let (n, e1) = both _ _ e in
    let (l, e2) = both _ _ e1 in
    let (_, e3) = both (sound_fits v.kind c) _ e2 in
    record { next_fits = leb-true _ _ n; start_fits = leb-true _ _ l; block_fits_lem = block c.block (both (block_fits c.block) _ e3).0 }
  where
    block : (b : ℕ) → pick (eqb b 0) true (within b 1) ≡ true → b < bank_end
    block b =
        by-test (λ x. x ≡ true → b < bank_end) (eqb b 0) (λ z _. let e : b ≡ 0 = eqb-true _ _ z in omega arith) λ _ w.
        let (low, high) = inside b 1 w in omega arith

-- one of the first n channels
abbrev pub AnswerWithin : ℕ → Answer → Type 0
AnswerWithin n Answer.Events = Unit {0}
AnswerWithin n Answer.End = Unit {0}
AnswerWithin n Answer.Stopped = Unit {0}
AnswerWithin n (Answer.Refused refusal) = Unplaced refusal
AnswerWithin n (Answer.Fault refusal i at address) = (i < n) × RefusedAt refusal at address

module _ (bank8 banka : List ℕ) (places : Places) where
  turn_within : (s : Setting) (v : Voice) (c : Channel) → channel_fits (Some v) c ≡ true → TurnWithin (turn_of bank8 banka places s v c).turned
  unfolding turn_of read_until
  turn_within s v c f =
      by-test Within (eqb c.left.count 0)
      (λ _.
      read_within bank8 banka places v.kind most_commands (first_reader v.list c s) 0
      (first_within bank8 banka places v.kind v.list c s (fits_inside v c f))) λ _. tt
    where
      Within : Turn → Type 0
      Within t = TurnWithin t.turned

  settle_by_lem : (i n : ℕ) (v : Voice) (t : Turn) (turned : Turned) (rest : Settled) → i < n → TurnWithin turned → AnswerWithin n rest.answer →
      AnswerWithin n (settle_by (banks bank8 banka) places i v t turned rest).answer
  settle_by_lem i n v t Turned.Plays rest h w r = r
  settle_by_lem i n v t Turned.End rest h w r = tt
  settle_by_lem i n v t (Turned.Refused refusal at address) rest h w r = (h, w)

  settled_within : (s : Setting) (i n : ℕ) (vs : List (Option Voice)) (cs : List Channel) → i + length vs ≤ n → channels_fit vs cs ≡ true →
      AnswerWithin n (settle_from bank8 banka places s i vs cs).answer
  unfolding settle_from channel_fits
  settled_within s i n [] cs h f = tt
  settled_within s i n (v ∷ vs) [] h f = tt
  settled_within s i n (None ∷ vs) (c ∷ cs) h f = settled_within s (i + 1) n vs cs (omega arith) f
  settled_within s i n (Some v ∷ vs) (c ∷ cs) h f =
      let (one, more) = both _ _ f in
      let t = turn_of bank8 banka places s v c in
      settle_by_lem i n v t t.turned (settle_from bank8 banka places t.setting (i + 1) vs cs) (omega arith) (turn_within s v c one)
      (settled_within t.setting (i + 1) n vs cs (omega arith) more)

  framed_within : (n : ℕ) (player : Player) (s : Settled) (answer : Answer) → AnswerWithin n answer → AnswerWithin n (framed_by player s answer).answer
  framed_within n player s Answer.Events h = tt
  framed_within n player s Answer.End h = tt
  framed_within n player s Answer.Stopped h = tt
  framed_within n player s (Answer.Refused refusal) h = h
  framed_within n player s (Answer.Fault refusal i at address) h = h

  fits_channels : (vs : List (Option Voice)) (player : Player) → record_fits vs player ≡ true → channels_fit vs player.channels ≡ true
  unfolding record_fits
  fits_channels vs player = by-test (λ b. b ≡ true → channels_fit vs player.channels ≡ true) (is_odd player.transpose) (λ _ z. absurd (false_true z)) λ _ f. f

  track_within : (track : Track) (player : Player) → length track.voices ≤ 4 → AnswerWithin 4 (frame_of_track bank8 banka places track player).answer
  unfolding frame_of_track
  track_within track player h =
      by-test Within (record_fits track.voices player)
      (λ f.
      by-test Within (eqb player.stopped 0)
      (λ _.
      let s = settle_from bank8 banka places (setting_of player) 0 track.voices player.channels in
      framed_within 4 player s s.answer (settled_within (setting_of player) 0 4 track.voices player.channels (omega arith) (fits_channels track.voices player f))) λ _. tt) λ _. of_record
    where
      Within : Framed → Type 0
      Within f = AnswerWithin 4 f.answer

  pub frame_within : (track : ℕ) (player : Player) → AnswerWithin 4 (frame_of bank8 banka places track player).answer
  unfolding frame_of
  frame_within track player = by (open_track bank8 banka places track) refl
    where
      by : (opened : Result Track Refusal) → open_track bank8 banka places track ≡ opened →
          AnswerWithin 4 (frame_by bank8 banka places player opened).answer
      by (Ok opened) e = track_within opened player (four_voices bank8 banka places track opened e)
      by (Err refusal) e = of_track (unopened bank8 banka places track refusal e)
