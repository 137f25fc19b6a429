-- How many commands a channel can read in a frame.
use Prim.Native.Nat.{ℕ, ◌+◌, ◌/◌, ◌≤◌}
use mathlib.Core.List.{List, [], ◌∷◌}
use mathlib.Core.Path.{◌≡◌, refl}
use native.Mathlib.Omega.{arith}
use lib.Dec.{eqb}
use Rattle.metroid_format.specs.Command.{data_limit}
use Rattle.metroid_format.specs.Channel.{channel_source, read_until}
use Rattle.std.specs.Prelude.{Option, Some, None, Result, Ok, Err}
use Rattle.engine_base.specs.declared.refusal.Refusal.{Refusal}
use Rattle.metroid_format.specs.Header.{open_track}
use Rattle.engine_base.proofs.Picks.{by-test}
use Rattle.metroid_format.proofs.channel.ReadBound.{Looped, any_looped, count_bound}
use Rattle.metroid_format.proofs.channel.Offsets.{source_within}
use Rattle.metroid_format.specs.declared.bank.Places.{Places}
use Rattle.metroid_format.specs.declared.header.Voice.{Voice}
use Rattle.metroid_format.specs.declared.header.Track.{Track}
use Rattle.metroid_format.specs.declared.channel.Cursor.{Cursor}
use Rattle.metroid_format.specs.declared.channel.Stop.{Stop}
use Rattle.engine_base.specs.Channels.{four, AtMost}
use Rattle.engine_base.proofs.Channels.{sets_most, none_most}
use Rattle.metroid_player.specs.Record.{cursor_of, record_fits}
use Rattle.metroid_player.specs.Counts.{most_commands}
use Rattle.metroid_player.specs.Frame.{
  turn_by,
  turn_of,
  Settled,
  settle_by,
  settle_voice,
  settle_from,
  framed_by,
  frame_of_track,
  frame_opened,
  frame_of,
}
use Rattle.metroid_player.specs.declared.record.Channel.{Channel}
use Rattle.metroid_player.specs.declared.record.Player.{Player}
use Rattle.engine_base.specs.declared.answer.Turned.{Turned}
use Rattle.metroid_player.specs.declared.frame.Turn.{Turn}
use Rattle.engine_base.specs.declared.answer.Answer.{Answer}
use Rattle.metroid_player.specs.declared.frame.Framed.{Framed}

-- in each used channel a counter above 0 goes back to a byte after a begin, unless there is an extra command
abbrev pub LoopedIf : ℕ → Option Voice → Channel → Type 0
LoopedIf extra None c = Unit {0}
LoopedIf extra (Some v) c = Looped extra (cursor_of c)

abbrev pub AllLooped : ℕ → List (Option Voice) → List Channel → Type 0
AllLooped extra [] cs = Unit {0}
AllLooped extra (v ∷ vs) [] = Unit {0}
AllLooped extra (v ∷ vs) (c ∷ cs) = LoopedIf extra v c × AllLooped extra vs cs

module _ (most : ℕ) where
  settle_by_most : (bank : List ℕ) (track : Track) (i : ℕ) (v : Voice) (t : Turn) (turned : Turned) (rest : Settled) →
      t.count ≤ most → AtMost most rest.counts → AtMost most (settle_by bank track i v t turned rest).counts
  settle_by_most bank track i v t Turned.Plays rest h a = (h, a)
  settle_by_most bank track i v t Turned.End rest h a = (h, tt)
  settle_by_most bank track i v t (Turned.Refused refusal at address) rest h a = (h, tt)

  framed_most : (track : Track) (player : Player) (s : Settled) (answer : Answer) → AtMost most s.counts →
      AtMost most (framed_by track player s answer).counts
  framed_most track player s Answer.Events a = sets_most most (four 0) 0 s.counts a (none_most most)
  framed_most track player s Answer.End a = sets_most most (four 0) 0 s.counts a (none_most most)
  framed_most track player s Answer.Stopped a = none_most most
  framed_most track player s (Answer.Refused refusal) a = none_most most
  framed_most track player s (Answer.Fault refusal i at address) a = sets_most most (four 0) 0 s.counts a (none_most most)

module _ (bank : List ℕ) (track : Track) (extra : ℕ) (one : extra ≤ 1) where
  turn_by_count : (channel : Channel) (cursor : Cursor) (count : ℕ) (stop : Stop) → (turn_by channel cursor count stop).count ≡ count
  turn_by_count channel cursor count (Stop.Note b) = refl
  turn_by_count channel cursor count Stop.End = refl
  turn_by_count channel cursor count (Stop.Refused refusal at address) = refl

  turn_count : (voice : Voice) (channel : Channel) → Looped extra (cursor_of channel) →
      (turn_of bank track voice channel).count ≤ most_commands + extra
  unfolding turn_of
  turn_count voice channel p =
      by-test Small (eqb channel.left.count 0)
      (λ _.
      let until = read_until data_limit (channel_source bank track voice) (cursor_of channel) in
      rw (turn_by_count channel until.cursor until.count until.stop)
      (count_bound (channel_source bank track voice) (data_limit / 2) extra (source_within bank track voice)
      (cursor_of channel) one p)) λ _.
      omega arith
    where
      Small : Turn → Type 0
      Small t = t.count ≤ most_commands + extra

  voice_counts : (i : ℕ) (v : Option Voice) (c : Channel) (rest : Settled) → LoopedIf extra v c →
      AtMost (most_commands + extra) rest.counts → AtMost (most_commands + extra) (settle_voice bank track i v c rest).counts
  voice_counts i None c rest p a = (omega arith, a)
  voice_counts i (Some v) c rest p a =
      settle_by_most (most_commands + extra) bank track i v (turn_of bank track v c) (turn_of bank track v c).turned rest (turn_count v c p) a

  settle_counts : (i : ℕ) (voices : List (Option Voice)) (channels : List Channel) → AllLooped extra voices channels →
      AtMost (most_commands + extra) (settle_from bank track i voices channels).counts
  unfolding settle_from
  settle_counts i [] cs p = tt
  settle_counts i (v ∷ vs) [] p = tt
  settle_counts i (v ∷ vs) (c ∷ cs) (p, ps) =
      voice_counts i v c _ p (settle_counts (i + 1) vs cs ps)

  -- every count of a frame
  pub frame_counts : (player : Player) → AllLooped extra track.voices player.channels →
      AtMost (most_commands + extra) (frame_of_track bank track player).counts
  unfolding frame_of_track
  frame_counts player p =
      by-test Small (record_fits track.voices player)
      (λ _.
      by-test Small (eqb player.stopped 0)
      (λ _.
      let s = settle_from bank track 0 track.voices player.channels in
      framed_most (most_commands + extra) track player s s.answer
      (settle_counts 0 track.voices player.channels p)) λ _.
      none_most (most_commands + extra)) λ _.
      none_most (most_commands + extra)
    where
      Small : Framed → Type 0
      Small f = AtMost (most_commands + extra) f.counts

-- a counter is one byte
abbrev pub ByteCounters : List Channel → Type 0
ByteCounters [] = Unit {0}
ByteCounters (c ∷ cs) = (c.counter ≤ 255) × ByteCounters cs

byte_looped : (voices : List (Option Voice)) (channels : List Channel) → ByteCounters channels → AllLooped 1 voices channels
byte_looped [] cs b = tt
byte_looped (v ∷ vs) [] b = tt
byte_looped (None ∷ vs) (c ∷ cs) (b, bs) = (tt, byte_looped vs cs bs)
byte_looped (Some v ∷ vs) (c ∷ cs) (b, bs) = (any_looped (cursor_of c) b, byte_looped vs cs bs)

opened_counts : (bank : List ℕ) (player : Player) → ByteCounters player.channels → (opened : Result Track Refusal) →
    AtMost (most_commands + 1) (frame_opened bank player opened).counts
opened_counts bank player b (Ok track) =
    frame_counts bank track 1 (omega arith) player (byte_looped track.voices player.channels b)
opened_counts bank player b (Err refusal) = none_most (most_commands + 1)

-- of any record whatever: one command more, where a counter above 0 goes back before the first begin
pub any_counts : (bank : List ℕ) (places : Places) (track : ℕ) (player : Player) → ByteCounters player.channels →
    AtMost (most_commands + 1) (frame_of bank places track player).counts
unfolding frame_of
any_counts bank places track player b = opened_counts bank player b (open_track bank places track)
