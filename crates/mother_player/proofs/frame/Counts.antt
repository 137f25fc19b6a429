-- No channel reads more than 100,000 commands in a frame, from any record whatever.
use Prim.Native.Nat.{ℕ, zero, suc, ◌+◌, ◌≤◌}
use mathlib.Core.List.{List, [], ◌∷◌}
use native.Mathlib.Omega.{arith}
use lib.Dec.{eqb}
use Rattle.std.specs.Prelude.{Option, Some, None, Result, Ok, Err}
use Rattle.engine_base.specs.Channels.{four, AtMost}
use Rattle.engine_base.specs.declared.answer.Answer.{Answer}
use Rattle.engine_base.specs.declared.refusal.Refusal.{Refusal}
use Rattle.engine_base.proofs.Picks.{by-test}
use Rattle.engine_base.proofs.Channels.{sets_most, none_most}
use Rattle.mother_format.specs.Bank.{banks}
use Rattle.mother_format.specs.Header.{open_track}
use Rattle.mother_format.specs.declared.bank.Places.{Places}
use Rattle.mother_format.specs.declared.command.Kind.{Kind}
use Rattle.mother_format.specs.declared.channel.Setting.{Setting}
use Rattle.mother_format.specs.declared.header.Voice.{Voice}
use Rattle.mother_format.specs.declared.header.Track.{Track}
use Rattle.mother_player.specs.Record.{record_fits}
use Rattle.mother_player.specs.Reading.{step_from, read_by, read_from, read_until, most_commands, first_reader}
use Rattle.mother_player.specs.Frame.{turn_of, Settled, settle_by, settle_from, framed_by, setting_of, frame_of_track, frame_by, frame_of}
use Rattle.mother_player.specs.declared.record.Channel.{Channel}
use Rattle.mother_player.specs.declared.record.Player.{Player}
use Rattle.mother_player.specs.declared.reading.Reader.{Reader}
use Rattle.mother_player.specs.declared.reading.Stepped.{Stepped}
use Rattle.engine_base.specs.declared.answer.Turned.{Turned}
use Rattle.mother_player.specs.declared.reading.Turn.{Turn}
use Rattle.mother_player.specs.declared.frame.Framed.{Framed}

read_by_lem : (count most : ℕ) (on : Reader → Turn) → ((r : Reader) → (on r).count ≤ most) → count + 1 ≤ most →
    (r : Reader) (x : Stepped) → (read_by count on r x).count ≤ most
read_by_lem count most on more h r Stepped.Again = more r
read_by_lem count most on more h r Stepped.Note = h
read_by_lem count most on more h r Stepped.End = h
read_by_lem count most on more h r (Stepped.Refused refusal at address) = omega arith

module _ (bank8 banka : List ℕ) (places : Places) where
  read_most : (kind : Kind) (fuel count most : ℕ) (r : Reader) → fuel + count ≤ most → (read_from bank8 banka places kind fuel r count).count ≤ most
  unfolding read_from
  read_most kind zero count most r h = omega arith
  read_most kind (suc fuel) count most r h =
      let step = step_from bank8 banka places kind r in
      read_by_lem count most (λ next. read_from bank8 banka places kind fuel next (count + 1))
      (λ next. read_most kind fuel (count + 1) most next (omega arith)) (omega arith) step.reader step.stepped

  turn_most : (s : Setting) (v : Voice) (c : Channel) → (turn_of bank8 banka places s v c).count ≤ most_commands
  unfolding turn_of read_until
  turn_most s v c =
      by-test Within (eqb c.left.count 0)
      (λ _. read_most v.kind most_commands 0 most_commands (first_reader v.list c s) (omega arith)) λ _.
      omega arith
    where
      Within : Turn → Type 0
      Within t = t.count ≤ most_commands

  settle_by_lem : (i : ℕ) (v : Voice) (t : Turn) (turned : Turned) (rest : Settled) → t.count ≤ most_commands → AtMost most_commands rest.counts →
      AtMost most_commands (settle_by (banks bank8 banka) places i v t turned rest).counts
  settle_by_lem i v t Turned.Plays rest h a = (h, a)
  settle_by_lem i v t Turned.End rest h a = (h, tt)
  settle_by_lem i v t (Turned.Refused refusal at address) rest h a = (h, tt)

  settled_most : (s : Setting) (i : ℕ) (vs : List (Option Voice)) (cs : List Channel) → AtMost most_commands (settle_from bank8 banka places s i vs cs).counts
  unfolding settle_from
  settled_most s i [] cs = tt
  settled_most s i (v ∷ vs) [] = tt
  settled_most s i (None ∷ vs) (c ∷ cs) = (omega arith, settled_most s (i + 1) vs cs)
  settled_most s i (Some v ∷ vs) (c ∷ cs) =
      let t = turn_of bank8 banka places s v c in
      settle_by_lem i v t t.turned (settle_from bank8 banka places t.setting (i + 1) vs cs) (turn_most s v c) (settled_most t.setting (i + 1) vs cs)

  framed_most : (player : Player) (s : Settled) (answer : Answer) → AtMost most_commands s.counts → AtMost most_commands (framed_by player s answer).counts
  framed_most player s Answer.Events a = sets_most most_commands (four 0) 0 s.counts a (none_most most_commands)
  framed_most player s Answer.End a = sets_most most_commands (four 0) 0 s.counts a (none_most most_commands)
  framed_most player s Answer.Stopped a = none_most most_commands
  framed_most player s (Answer.Refused refusal) a = none_most most_commands
  framed_most player s (Answer.Fault refusal i at address) a = sets_most most_commands (four 0) 0 s.counts a (none_most most_commands)

  abbrev Counted : Framed → Type 0
  Counted f = AtMost most_commands f.counts

  track_most : (track : Track) (player : Player) → Counted (frame_of_track bank8 banka places track player)
  unfolding frame_of_track
  track_most track player =
      by-test Counted (record_fits track.voices player)
      (λ _.
      by-test Counted (eqb player.stopped 0)
      (λ _.
      let s = settle_from bank8 banka places (setting_of player) 0 track.voices player.channels in
      framed_most player s s.answer (settled_most (setting_of player) 0 track.voices player.channels)) λ _.
      none_most most_commands) λ _.
      none_most most_commands

  pub frame_counts : (track : ℕ) (player : Player) → Counted (frame_of bank8 banka places track player)
  unfolding frame_of
  frame_counts track player = by (open_track bank8 banka places track)
    where
      by : (opened : Result Track Refusal) → Counted (frame_by bank8 banka places player opened)
      by (Ok opened) = track_most opened player
      by (Err refusal) = none_most most_commands
