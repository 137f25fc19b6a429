-- The frames of an opened track, one after the other: what they show of its stop, before it, at it and after it.
use Prim.Native.Nat.{ℕ, zero, suc, ◌+◌, ◌≤◌}
use mathlib.Core.Bool.{Bool, true, false}
use mathlib.Core.List.{List, [], ◌∷◌, map}
use mathlib.Core.Path.{◌≡◌, refl, ap, subst, ◌∙◌}
use native.Mathlib.Omega.{arith}
use native.Mathlib.Nat.{add-zero}
use Rattle.std.specs.Prelude.{Ok, Err}
use Rattle.engine_base.specs.declared.refusal.Refusal.{Refusal as Reason}
use lib.Dec.{leb-zero, leb-suc-zero, leb-suc-suc}
use Rattle.metroid_format.specs.declared.header.Track.{Track}
use Rattle.metroid_format.specs.Timeline.{Finish}
use Rattle.metroid_player.specs.Record.{ended_player, stopped_player, most_frames}
use Rattle.engine_base.specs.Channels.{AtMost}
use Rattle.metroid_player.specs.Counts.{most_commands}
use Rattle.metroid_player.specs.Frame.{frame_of_track}
use Rattle.metroid_player.specs.declared.record.Player.{Player}
use Rattle.engine_base.specs.declared.answer.Answer.{Answer}
use Rattle.metroid_player.specs.declared.frame.Framed.{Framed}
use Rattle.engine_base.proofs.Channels.{none_most}
use Rattle.metroid_player.proofs.frame.Left.{LeftBy, track_left}
use Rattle.metroid_check.proofs.ahead.Settling.{Ahead}
use Rattle.metroid_check.proofs.ahead.Framing.{InRun, run_counts}
use Rattle.metroid_check.proofs.ahead.Starting.{ahead_of, Starts, stays_stopped}
use Rattle.metroid_check.proofs.ahead.Foreseen.{Least, plays_before, stops_at}
use Rattle.metroid_check.specs.Run.{Shown, nothing, shown, End, Refusal, of_data, last_counted, frames_from, end_from, refusal_from, ReadAtMost}
use Rattle.metroid_check.specs.Demand3.{if_reached}

-- what is ahead of a run: its stop after so many frames, or, once it has stopped, nothing
pub data Outlook : Type 0 where
  stopping : ℕ → Outlook
  stopped : Outlook

abbrev pub end_ahead : ℕ → ℕ → ℕ → Finish → Outlook → Shown End
end_ahead k n i (Ok passed) (stopping m) = if_reached n m (record { frame = k + m; channel = i })
end_ahead k n i (Ok passed) stopped = nothing
end_ahead k n i (Err (refusal, at, address)) o = nothing

abbrev pub refusal_ahead : ℕ → ℕ → ℕ → Finish → Outlook → Shown Refusal
refusal_ahead k n i (Ok passed) o = nothing
refusal_ahead k n i (Err (refusal, at, address)) (stopping m) = if_reached n m (of_data refusal i at (k + m) address)
refusal_ahead k n i (Err (refusal, at, address)) stopped = nothing

module _ (bank : List ℕ) (track : Track) where
  -- where a run stands that stops in the i-th channel, and whose passes have that length
  pub data Stands (i length : ℕ) : Player → Finish → Outlook → Type 0 where
    going : {player : Player} {now : List Ahead} {n : ℕ} {finish : Finish} → InRun bank track player now → Least now n i finish →
        player.frames_left ≡ n → player.pass_length ≡ length → Stands i length player finish (stopping n)
    over : track.restart ≡ false → Stands i length stopped_player (Ok tt) stopped

  -- a frame, and where the run stands after it
  pub data Steps (i length : ℕ) (f : Framed) : Finish → Outlook → Type 0 where
    plays : {n : ℕ} {finish : Finish} → f.answer ≡ Answer.Events → Stands i length f.player finish (stopping n) →
        Steps i length f finish (stopping (suc n))
    restarts : track.restart ≡ true → f.answer ≡ Answer.End → last_counted f.counts ≡ i →
        Stands i length f.player (Ok tt) (stopping length) → Steps i length f (Ok tt) (stopping 0)
    ends : track.restart ≡ false → f.answer ≡ Answer.End → last_counted f.counts ≡ i →
        Stands i length f.player (Ok tt) stopped → Steps i length f (Ok tt) (stopping 0)
    faults : {refusal : Reason} {at address : ℕ} → f.answer ≡ Answer.Fault refusal i at address →
        Stands i length f.player (Err (refusal, at, address)) (stopping 0) →
        Steps i length f (Err (refusal, at, address)) (stopping 0)
    stays : f.answer ≡ Answer.Stopped → Stands i length f.player (Ok tt) stopped → Steps i length f (Ok tt) stopped

  step_counts : Starts bank track → {i length : ℕ} {player : Player} {finish : Finish} {o : Outlook} → Stands i length player finish o →
      AtMost most_commands (frame_of_track bank track player).counts
  step_counts s (going r l left length) = run_counts bank track r
  step_counts s (over e) = rw (stays_stopped s) (none_most most_commands)

  module _ (s : Starts bank track) {n₀ i : ℕ} (small : n₀ ≤ most_frames) where
    -- a restart begins anew, so that the same end is ahead
    step_end : (f : Framed) (restart : Bool) → track.restart ≡ restart → Least (map (ahead_of bank track) track.voices) n₀ i (Ok tt) →
        f.answer ≡ Answer.End → last_counted f.counts ≡ i → f.player ≡ ended_player restart n₀ →
        Steps i n₀ f (Ok tt) (stopping 0)
    step_end f true e l a c p = restarts e a c (rw p (going (s.run n₀ small) l refl refl))
    step_end f false e l a c p = ends e a c (rw p (over e))

    step_going : (player : Player) {now : List Ahead} (n : ℕ) (finish : Finish) →
        Least (map (ahead_of bank track) track.voices) n₀ i finish → InRun bank track player now → Least now n i finish →
        player.frames_left ≡ n → player.pass_length ≡ n₀ → Steps i n₀ (frame_of_track bank track player) finish (stopping n)
    step_going player (suc n) finish l₀ r l left length =
        let (a, then, r', l') = plays_before bank track s.whole r l in
        let (less, same) = subst (LeftBy track.restart player (frame_of_track bank track player).player) a (track_left bank track player).1 in
        plays a (going r' l' (omega (arith, less, left)) (same ∙ length))
    step_going player zero (Ok passed) l₀ r l left length =
        let (a, c, p) = stops_at bank track s.whole r l in
        step_end _ track.restart refl l₀ a c (p ∙ ap (ended_player track.restart) length)
    step_going player zero (Err (refusal, at, address)) l₀ r l left length =
        let (a, p) = stops_at bank track s.whole r l in
        faults a (rw p (going r l left length))

    pub step : {player : Player} {finish : Finish} {o : Outlook} → Least (map (ahead_of bank track) track.voices) n₀ i finish →
        Stands i n₀ player finish o → Steps i n₀ (frame_of_track bank track player) finish o
    step l₀ (going {player} {n} {finish} r l left length) = step_going player n finish l₀ r l left length
    step l₀ (over e) = rw (stays_stopped s) (stays refl (over e))

module _ {A : Type 0} (n m : ℕ) where
  none_reached : (x : A) → nothing ≡ if_reached 0 m x
  none_reached x = rw (leb-suc-zero m)

  first_reached : (x y : A) → x ≡ y → shown x ≡ if_reached (suc n) 0 y
  first_reached x y e = rw (leb-suc-suc 0 n, leb-zero n, e)

  later_reached : (x y : A) → x ≡ y → if_reached n m x ≡ if_reached (suc n) (suc m) y
  later_reached x y e = rw (leb-suc-suc (suc m) n, e)

-- n frames, of which the first is the k-th, show the stop that is ahead
pub record Shows (k n i : ℕ) (finish : Finish) (o : Outlook) (fs : List Framed) : Type 0 where
  pub end : end_from k fs ≡ end_ahead k n i finish o
  pub refusal : refusal_from k fs ≡ refusal_ahead k n i finish o
  pub commands : ReadAtMost most_commands fs

module _ (k i : ℕ) where
  shows_none : (finish : Finish) (o : Outlook) → Shows k 0 i finish o []
  unfolding end_from refusal_from
  shows_none (Ok passed) (stopping m) = record { end = none_reached 0 m _; refusal = refl; commands = tt }
  shows_none (Ok passed) stopped = record { end = refl; refusal = refl; commands = tt }
  shows_none (Err (refusal, at, address)) (stopping m) = record { end = refl; refusal = none_reached 0 m _; commands = tt }
  shows_none (Err (refusal, at, address)) stopped = record { end = refl; refusal = refl; commands = tt }

  module _ (n : ℕ) (f : Framed) (fs : List Framed) (counts : AtMost most_commands f.counts) where
    shows_plays : (m : ℕ) (finish : Finish) → f.answer ≡ Answer.Events → Shows (k + 1) n i finish (stopping m) fs →
        Shows k (suc n) i finish (stopping (suc m)) (f ∷ fs)
    unfolding end_from refusal_from
    shows_plays m (Ok passed) a later =
        let same : k + 1 + m ≡ k + suc m = omega arith in
        record {
          end = rw a (later.end ∙ later_reached n m _ _ (rw same));
          refusal = rw a later.refusal;
          commands = (counts, later.commands);
        }
    shows_plays m (Err (refusal, at, address)) a later =
        let same : k + 1 + m ≡ k + suc m = omega arith in
        record {
          end = rw a later.end;
          refusal = rw a (later.refusal ∙ later_reached n m _ _ (rw same));
          commands = (counts, later.commands);
        }

    shows_ends : {o : Outlook} → f.answer ≡ Answer.End → last_counted f.counts ≡ i → Shows (k + 1) n i (Ok tt) o fs →
        Shows k (suc n) i (Ok tt) (stopping 0) (f ∷ fs)
    unfolding end_from refusal_from
    shows_ends a c later = record {
      end = rw a (first_reached n 0 _ _ (rw (c, add-zero)));
      refusal = rw a later.refusal;
      commands = (counts, later.commands);
    }

    shows_faults : {refusal : Reason} {at address : ℕ} {o : Outlook} → f.answer ≡ Answer.Fault refusal i at address →
        Shows (k + 1) n i (Err (refusal, at, address)) o fs → Shows k (suc n) i (Err (refusal, at, address)) (stopping 0) (f ∷ fs)
    unfolding end_from refusal_from
    shows_faults a later = record {
      end = rw a later.end;
      refusal = rw a (first_reached n 0 _ _ (rw add-zero));
      commands = (counts, later.commands);
    }

    shows_stays : f.answer ≡ Answer.Stopped → Shows (k + 1) n i (Ok tt) stopped fs → Shows k (suc n) i (Ok tt) stopped (f ∷ fs)
    unfolding end_from refusal_from
    shows_stays a later = record { end = rw a later.end; refusal = rw a later.refusal; commands = (counts, later.commands) }

module _ (bank : List ℕ) (track : Track) (s : Starts bank track) (i n₀ : ℕ) (small : n₀ ≤ most_frames) where
  abbrev ShowsOn : ℕ → ℕ → Finish → Type 0
  ShowsOn n k finish = (player : Player) (o : Outlook) → Stands bank track i n₀ player finish o →
      Shows k n i finish o (frames_from (frame_of_track bank track) n player)

  shows_step : (n k : ℕ) {finish : Finish} {o : Outlook} (f : Framed) → ShowsOn n (k + 1) finish → AtMost most_commands f.counts →
      Steps bank track i n₀ f finish o → Shows k (suc n) i finish o (f ∷ frames_from (frame_of_track bank track) n f.player)
  shows_step n k f later h (plays {n = m} {finish} a after) = shows_plays k i n f _ h m finish a (later _ _ after)
  shows_step n k f later h (restarts e a c after) = shows_ends k i n f _ h a c (later _ _ after)
  shows_step n k f later h (ends e a c after) = shows_ends k i n f _ h a c (later _ _ after)
  shows_step n k f later h (faults a after) = shows_faults k i n f _ h a (later _ _ after)
  shows_step n k f later h (stays a after) = shows_stays k i n f _ h a (later _ _ after)

  pub shows : {finish : Finish} → Least (map (ahead_of bank track) track.voices) n₀ i finish → (n k : ℕ) → ShowsOn n k finish
  unfolding frames_from
  shows {finish} l₀ zero k player o st = shows_none k i finish o
  shows l₀ (suc n) k player o st = shows_step n k _ (shows l₀ n (k + 1)) (step_counts bank track s st) (step bank track s small l₀ st)
