-- A refused frame has a number of document 01's table; 10 to 15 name one of the four channels, an offset within the limit, and the
-- address there: the channel's start address plus the offset, at most $c0ff.
use Prim.Native.Nat.{ℕ, ◌+◌, ◌<◌}
use mathlib.Core.Bool.{true}
use mathlib.Core.List.{List, [], ◌∷◌}
use mathlib.Core.Path.{◌≡◌, refl, subst}
use native.Mathlib.Omega.{arith}
use lib.Dec.{eqb}
use lib.ListN.{length}
use Rattle.engine_base.specs.Address.{bank_end}
use Rattle.std.specs.Prelude.{Option, Some, None, Result, Ok, Err}
use Rattle.engine_base.specs.declared.refusal.Refusal.{Refusal}
use Rattle.engine_base.specs.Refusal.{FaultAt}
use Rattle.metroid_format.specs.Command.{data_limit}
use Rattle.metroid_format.specs.Channel.{channel_source, read_until}
use Rattle.metroid_format.specs.Header.{open_track, header_of, channel_start}
use Rattle.engine_base.proofs.Picks.{by-test, false_true}
use Rattle.metroid_format.proofs.header.Opening.{StartsAt, MayStart, AllStart, Opens, opens, unopened}
use Rattle.metroid_format.proofs.channel.Offsets.{source_within, Within, StopWithin, until_within}
use Rattle.metroid_format.specs.declared.bank.Places.{Places}
use Rattle.metroid_format.specs.declared.header.Voice.{Voice}
use Rattle.metroid_format.specs.declared.header.Track.{Track}
use Rattle.metroid_format.specs.declared.channel.Cursor.{Cursor}
use Rattle.metroid_format.specs.declared.channel.Stop.{Stop}
use Rattle.metroid_player.specs.Record.{cursor_of, channel_fits, channels_fit, record_fits}
use Rattle.metroid_player.specs.Frame.{turn_by, turn_of, Settled, settle_by, settle_voice, settle_from, framed_by, frame_of_track, frame_opened, frame_of, of_track, of_record, AnswerWithin}
use Rattle.metroid_player.specs.declared.record.Channel.{Channel}
use Rattle.metroid_player.specs.declared.record.Player.{Player}
use Rattle.engine_base.specs.declared.answer.Turned.{Turned}
use Rattle.metroid_player.specs.declared.frame.Turn.{Turn}
use Rattle.engine_base.specs.declared.answer.Answer.{Answer}
use Rattle.metroid_player.specs.declared.frame.Framed.{Framed}
use Rattle.metroid_player.proofs.record.Laws.{next_fits, start_fits, fits_channels}

abbrev TurnWithin : ℕ → Turned → Type 0
TurnWithin start Turned.Plays = Unit {0}
TurnWithin start Turned.End = Unit {0}
TurnWithin start (Turned.Refused refusal at address) = FaultAt start data_limit refusal at address × (address < bank_end + data_limit)

module _ (bank : List ℕ) (track : Track) (start : ℕ → ℕ) where
  by_stop : (first : ℕ) (c : Channel) (cursor : Cursor) (count : ℕ) (stop : Stop) → first < bank_end → StopWithin first data_limit stop →
      TurnWithin first (turn_by c cursor count stop).turned
  by_stop first c cursor count (Stop.Note b) l h = tt
  by_stop first c cursor count Stop.End l h = tt
  by_stop first c cursor count (Stop.Refused refusal at address) l ((low, high, within), a) = (((low, high, within), a), omega arith)

  turn_within : (first : ℕ) (v : Voice) (c : Channel) → StartsAt first v → channel_fits (Some v) c ≡ true →
      TurnWithin first (turn_of bank track v c).turned
  unfolding turn_of
  turn_within first v c s f =
      by-test (λ (t : Turn). TurnWithin first t.turned) (eqb c.left.count 0)
      (λ _.
      let until = read_until data_limit (channel_source bank track v) (cursor_of c) in
      let placed : Within data_limit (cursor_of c) = record { next = next_fits v c f; start = start_fits v c f } in
      by_stop first c _ _ until.stop (omega (arith, s.inside, s.address))
      (subst (λ a. StopWithin a data_limit until.stop) (s.address)
      (until_within (channel_source bank track v) data_limit (source_within bank track v) (cursor_of c) placed).stop)) λ _.
      tt

  by_turned : (n i : ℕ) (v : Voice) (t : Turn) (turned : Turned) (rest : Settled) → i < n → TurnWithin (start i) turned →
      AnswerWithin start n rest.answer → AnswerWithin start n (settle_by bank track i v t turned rest).answer
  by_turned n i v t Turned.Plays rest h w b = b
  by_turned n i v t Turned.End rest h w b = tt
  by_turned n i v t (Turned.Refused refusal at address) rest h (placed, below) b = (h, placed, below)

  voice_within : (n i : ℕ) (v : Option Voice) (c : Channel) (rest : Settled) → i < n → MayStart (start i) v → channel_fits v c ≡ true →
      AnswerWithin start n rest.answer → AnswerWithin start n (settle_voice bank track i v c rest).answer
  voice_within n i None c rest h s f b = b
  voice_within n i (Some v) c rest h s f b =
      by_turned n i v (turn_of bank track v c) (turn_of bank track v c).turned rest h (turn_within (start i) v c s f) b

  settle_within : (n i : ℕ) (vs : List (Option Voice)) (cs : List Channel) → n ≡ i + length vs → AllStart start i vs → channels_fit vs cs ≡ true →
      AnswerWithin start n (settle_from bank track i vs cs).answer
  unfolding settle_from
  settle_within n i [] cs e s f = tt
  settle_within n i (v ∷ vs) [] e s f = tt
  settle_within n i (v ∷ vs) (c ∷ cs) e (s, ss) f =
      by-test (λ b. b ≡ true → AnswerWithin start n (settle_from bank track i (v ∷ vs) (c ∷ cs)).answer) (channel_fits v c)
      (λ h rest.
      voice_within n i v c _ (omega arith) s h (settle_within n (i + 1) vs cs (omega arith) ss rest))
      (λ _ z. absurd (false_true z)) f

  framed_within : (player : Player) (s : Settled) (answer : Answer) → AnswerWithin start 4 answer →
      AnswerWithin start 4 (framed_by track player s answer).answer
  framed_within player s Answer.Events b = tt
  framed_within player s Answer.End b = tt
  framed_within player s Answer.Stopped b = tt
  framed_within player s (Answer.Refused refusal) b = b
  framed_within player s (Answer.Fault refusal i at address) b = b

  track_within : (player : Player) → Opens bank start track → AnswerWithin start 4 (frame_of_track bank track player).answer
  unfolding frame_of_track
  track_within player o =
      by-test (λ (f : Framed). AnswerWithin start 4 f.answer) (record_fits track.voices player)
      (λ f.
      by-test (λ (f : Framed). AnswerWithin start 4 f.answer) (eqb player.stopped 0)
      (λ _.
      let s = settle_from bank track 0 track.voices player.channels in
      framed_within player s s.answer
      (settle_within 4 0 track.voices player.channels (omega (arith, o.four)) o.starts (fits_channels track.voices player f))) λ _.
      tt) λ _.
      of_record

module _ (bank : List ℕ) (places : Places) (track : ℕ) (player : Player) where
  abbrev start : ℕ → ℕ
  start = channel_start (header_of bank places track)

  opened_within : (opened : Result Track Refusal) → open_track bank places track ≡ opened →
      AnswerWithin start 4 (frame_opened bank player opened).answer
  opened_within (Ok opened) e = track_within bank opened start player (opens bank places track e)
  opened_within (Err refusal) e = of_track (unopened bank places track e)

  pub frame_within : AnswerWithin (channel_start (header_of bank places track)) 4 (frame_of bank places track player).answer
  unfolding frame_of
  frame_within = opened_within (open_track bank places track) refl

  -- from any record the address is the channel's start address plus the offset, and at most $c0ff
  pub frame_address : {refusal : Refusal} {i at address : ℕ} → (frame_of bank places track player).answer ≡ Answer.Fault refusal i at address →
      (address ≡ channel_start (header_of bank places track) i + at) × (address < bank_end + data_limit)
  frame_address e =
      let (_, placed, below) = subst (AnswerWithin (channel_start (header_of bank places track)) 4) e frame_within in
      (placed.1, below)
