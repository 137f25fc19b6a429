-- A frame of a run.
use Prim.Native.Nat.{ℕ, zero, suc, ◌+◌, ◌-◌, ◌<◌}
use mathlib.Core.Bool.{true}
use mathlib.Core.List.{List, [], ◌∷◌, ◌++◌, append-nil}
use mathlib.Core.Path.{◌≡◌, refl, sym, ap, ◌∙◌}
use native.Mathlib.Nat.{add-zero, zero-add}
use native.Mathlib.Omega.{arith}
use borrow.Author.Tests.{eq-eqb, ne_eqb, le-leb}
use lib.Dec.{eqb}
use lib.ListN.{length, drop, drop_of_length-le}
use lib.Seq.{sets, sets-eq}
use Rattle.std.specs.Prelude.{Option, Ok, Err}
use Rattle.engine_base.specs.declared.refusal.Refusal.{Refusal}
use Rattle.engine_base.specs.Pick.{pick}
use Rattle.metroid_format.specs.declared.header.Voice.{Voice}
use Rattle.metroid_format.specs.declared.header.Track.{Track}
use Rattle.metroid_format.specs.Timeline.{Finish}
use Rattle.engine_base.specs.Channels.{four, AtMost}
use Rattle.engine_base.proofs.Channels.{none_most}
use Rattle.metroid_player.specs.Record.{ended_player, channels_fit, record_fits}
use Rattle.metroid_player.specs.Counts.{most_commands}
use Rattle.metroid_check.specs.Run.{last_from, last_counted}
use Rattle.metroid_player.specs.Frame.{Settled, eventless, framed, frame_of_track}
use Rattle.metroid_player.specs.declared.record.Player.{Player}
use Rattle.metroid_player.specs.declared.event.Event.{Event}
use Rattle.engine_base.specs.declared.answer.Answer.{Answer}
use Rattle.metroid_player.specs.declared.frame.Framed.{Framed}
use Rattle.metroid_player.proofs.frame.Counts.{frame_counts}
use Rattle.metroid_check.specs.Countdown.{NumbersWithin}
use Rattle.metroid_check.proofs.ahead.Settling.{
  Ahead,
  Nearer,
  Due,
  CountedTo,
  last,
  more,
  AllRunning,
  all_looped,
  all_fit,
  running_length,
  ahead_length,
  Settles,
  settles,
}

drop_most : (most k : ℕ) (ns : List ℕ) → AtMost most ns → AtMost most (drop k ns)
drop_most most zero ns a = a
drop_most most (suc k) [] a = tt
drop_most most (suc k) (n ∷ ns) (h, a) = drop_most most k ns a

last_none : (i found : ℕ) (ns : List ℕ) → AtMost 0 ns → last_from i found ns ≡ found
last_none i found [] a = refl
last_none i found (n ∷ ns) (h, a) = rw (eq-eqb n 0 (omega arith)) (last_none (i + 1) found ns a)

last_found : {ns : List ℕ} {k : ℕ} (i found : ℕ) (rest : List ℕ) → CountedTo ns k → AtMost 0 rest →
    last_from i found (ns ++ rest) ≡ i + k
last_found i found rest (last {n} h) a =
    let some : n ≡ 0 → ⊥ = omega arith in
    ap (λ none. last_from (i + 1) (pick none found i) rest) (ne_eqb n 0 some) ∙ last_none (i + 1) i rest a ∙ sym (add-zero i)
last_found i found rest (more {n} c) a = omega (arith, last_found (i + 1) (pick (eqb n 0) found i) rest c a)

counted_length : {ns : List ℕ} {k : ℕ} → CountedTo ns k → length ns ≡ suc k
counted_length (last h) = refl
counted_length (more c) = ap suc (counted_length c)

due_within : {now : List Ahead} {k : ℕ} {finish : Finish} → Due now k finish → k < length now
due_within Due.here = omega arith
due_within (Due.unused d) = omega (arith, due_within d)
due_within (Due.used d) = omega (arith, due_within d)

counted_last : {ns : List ℕ} {k : ℕ} → CountedTo ns k → k < 4 → last_counted (sets (four 0) 0 ns) ≡ k
counted_last {ns} {k} c h =
    rw (sets-eq ns (four 0) 0 (omega (arith, counted_length c)))
    (last_found 0 0 _ c (drop_most 0 (0 + length ns) (four 0) (none_most 0)) ∙ zero-add k)

sets_all : {A : Type 0} (vs l : List A) → length vs ≡ length l → sets l 0 vs ≡ vs
sets_all vs l e =
    rw (sets-eq vs l 0 (omega arith), drop_of_length-le l {i = 0 + length vs} (omega arith)) (append-nil vs)

-- the record passes 16
pub record_fits_lem : (voices : List (Option Voice)) (player : Player) → NumbersWithin player → channels_fit voices player.channels ≡ true →
    record_fits voices player ≡ true
unfolding record_fits
record_fits_lem voices player (l, m) f = rw (le-leb _ _ l, le-leb _ _ m, f)

module _ (bank : List ℕ) (track : Track) where
  -- a record that a frame of the run is given
  pub record InRun (player : Player) (now : List Ahead) : Type 0 where
    pub going : player.stopped ≡ 0
    pub numbers : NumbersWithin player
    pub channels : AllRunning bank track track.voices player.channels now

  pub data FrameOfRun (player : Player) (now : List Ahead) : Framed → Type 0 where
    events : {es : List Event} {counts : List ℕ} {next : Player} {then : List Ahead} → Nearer now then → InRun next then →
        FrameOfRun player now (record { answer = Answer.Events; events = es; counts = counts; frames_left = player.frames_left; player = next })
    ends : {counts : List ℕ} {i : ℕ} → Due now i (Ok tt) → last_counted counts ≡ i →
        FrameOfRun player now (eventless Answer.End counts player.frames_left (ended_player track.restart player.pass_length))
    faults : {counts : List ℕ} {i : ℕ} {refusal : Refusal} {at address : ℕ} → Due now i (Err (refusal, at, address)) →
        FrameOfRun player now (eventless (Answer.Fault refusal i at address) counts player.frames_left player)

  framed_run : {player : Player} {now : List Ahead} (s : Settled) → length track.voices ≡ 4 → InRun player now → Settles bank track 0 track.voices now s →
      FrameOfRun player now (framed track player s)
  framed_run {player} _ whole p (Settles.events {channels} d r) =
      events
      {next =
      record {
        stopped = player.stopped;
        channels = sets player.channels 0 channels;
        frames_left = player.frames_left - 1;
        pass_length = player.pass_length;
      }}
      d
      (record {
        going = p.going;
        numbers = (omega (arith, p.numbers.0), p.numbers.1);
        channels = rw (sets_all channels player.channels (running_length bank track r ∙ sym (running_length bank track p.channels))) r;
      })
  framed_run _ whole p (Settles.ends d c) =
      ends d (counted_last c (omega (arith, due_within d, ahead_length bank track p.channels)))
  framed_run _ whole p (Settles.faults {k} d e) = rw (e ∙ zero-add k) (faults d)

  pub frame_of_run : {player : Player} {now : List Ahead} → length track.voices ≡ 4 → InRun player now → FrameOfRun player now (frame_of_track bank track player)
  unfolding frame_of_track
  frame_of_run {player} whole p =
      rw (record_fits_lem track.voices player p.numbers (all_fit bank track p.channels), eq-eqb _ _ p.going)
      (framed_run _ whole p (settles bank track 0 p.channels))

  -- 32,896
  pub run_counts : {player : Player} {now : List Ahead} → InRun player now → AtMost most_commands (frame_of_track bank track player).counts
  run_counts {player} p = frame_counts bank track 0 (omega arith) player (all_looped bank track p.channels)
