-- Demand 3 holds of the definition's verdict.
use Prim.Native.Nat.{ℕ, zero, suc, ◌+◌, ◌*◌, ◌≤◌}
use mathlib.Core.List.{List, ◌∷◌, map}
use mathlib.Core.Path.{◌≡◌, refl, ap, ◌∙◌}
use native.Mathlib.Nat.{zero-add}
use native.Mathlib.Omega.{arith}
use Rattle.std.specs.Prelude.{Option, Some, None, Result, Ok, Err}
use Rattle.engine_base.specs.declared.refusal.Refusal.{Refusal}
use Rattle.engine_base.specs.Bytes.{AllBytes}
use Rattle.metroid_format.specs.Command.{data_limit}
use Rattle.metroid_format.specs.Header.{open_track}
use Rattle.metroid_format.specs.Timeline.{frames_a_byte, soonest_of}
use Rattle.metroid_format.proofs.timeline.FirstStop.{StopWithin, soonest_within}
use Rattle.metroid_format.specs.declared.bank.Places.{Places}
use Rattle.metroid_format.specs.declared.header.Track.{Track}
use Rattle.metroid_format.specs.Timeline.{Finish}
use Rattle.metroid_player.specs.Record.{fresh_player, most_frames}
use Rattle.metroid_player.specs.Counts.{most_commands}
use Rattle.metroid_player.specs.Frame.{start_of, frame_of, frame_of_track}
use Rattle.metroid_player.specs.declared.record.Player.{Player}
use Rattle.metroid_player.specs.declared.frame.Framed.{Framed}
use Rattle.engine_base.proofs.Channels.{none_most}
use Rattle.metroid_check.proofs.ahead.Foreseen.{Least}
use Rattle.metroid_check.proofs.ahead.Starting.{ahead_of, starts, opened_frame, unopened_frame}
use Rattle.metroid_check.specs.Run.{
  nothing,
  Run,
  frames_from,
  run_of,
  end_from,
  ReadAtMost,
}
use Rattle.metroid_check.specs.Verdict.{verdict_stop, verdict_by, verdict_of}
use Rattle.metroid_check.specs.Demand3.{end_foreseen, refusal_foreseen, Demand3}
use Rattle.metroid_format.specs.declared.timeline.Soonest.{Soonest}
use Rattle.metroid_check.specs.declared.verdict.Verdict.{Verdict}
use Rattle.metroid_check.proofs.verdict.Laws.{opened_verdict, unopened_verdict}
use Rattle.metroid_check.proofs.Found.{first_stop, found, FoundSome, least, found_some}
use Rattle.metroid_check.proofs.Run.{stopping, end_ahead, refusal_ahead, going, shows}

from_start : (n m i : ℕ) (finish : Finish) →
    (end_ahead 0 n i finish (stopping m) ≡ end_foreseen n (verdict_stop m i finish)) ×
    (refusal_ahead 0 n i finish (stopping m) ≡ refusal_foreseen n (verdict_stop m i finish))
from_start n m i (Ok passed) = (rw zero-add, refl)
from_start n m i (Err (refusal, at, address)) = (refl, rw zero-add)

module _ (bank : List ℕ) (places : Places) (track : ℕ) where
  opened_frames : {track' : Track} → open_track bank places track ≡ Ok track' → (n : ℕ) (player : Player) →
      frames_from (frame_of bank places track) n player ≡ frames_from (frame_of_track bank track') n player
  unfolding frames_from
  opened_frames e zero player = refl
  opened_frames {track'} e (suc n) player =
      rw (opened_frame bank places track player e) (ap (λ fs. frame_of_track bank track' player ∷ fs) (opened_frames e n _))

  -- n frames from a fresh record
  abbrev run_from : Option Refusal → (Player → Framed) → ℕ → ℕ → Run
  run_from refusal frame length n = record {
    started = record { refusal = refusal; player = fresh_player length };
    frames = frames_from frame n (fresh_player length);
  }

  -- start gives the length of a pass, and every frame opens the same track
  pub opened_run : {track' : Track} {m i : ℕ} {finish : Finish} → open_track bank places track ≡ Ok track' →
      soonest_of bank track' ≡ first_stop m i finish → (n : ℕ) →
      run_of bank places track n ≡ run_from None (frame_of_track bank track') m n
  unfolding run_of start_of
  opened_run {m} e q n = rw (e, q, opened_frames e n (fresh_player m))

  pub shut_run : {refusal : Refusal} → open_track bank places track ≡ Err refusal → (n : ℕ) →
      run_of bank places track n ≡ run_from (Some refusal) (frame_of bank places track) 0 n
  unfolding run_of start_of
  shut_run e n = rw e

  -- every frame is refused, so that none ends
  shut_end : {refusal : Refusal} → open_track bank places track ≡ Err refusal → (n k : ℕ) (player : Player) →
      end_from k (frames_from (frame_of bank places track) n player) ≡ nothing
  unfolding frames_from end_from
  shut_end e zero k player = refl
  shut_end e (suc n) k player = rw (unopened_frame bank places track player e) (shut_end e n (k + 1) player)

  shut_commands : {refusal : Refusal} → open_track bank places track ≡ Err refusal → (n : ℕ) (player : Player) →
      ReadAtMost most_commands (frames_from (frame_of bank places track) n player)
  unfolding frames_from
  shut_commands e zero player = tt
  shut_commands e (suc n) player =
      rw (unopened_frame bank places track player e) (none_most most_commands, shut_commands e n player)

  -- what a verdict comes from: of an opened track the least of the stops ahead, told, of another start's refusal
  pub data Comes : Verdict → Type 0 where
    opened : {track' : Track} {n i : ℕ} {finish : Finish} → open_track bank places track ≡ Ok track' →
        soonest_of bank track' ≡ first_stop n i finish → n ≤ most_frames →
        Least (map (ahead_of bank track') track'.voices) n i finish → Comes (verdict_stop n i finish)
    shut : {refusal : Refusal} → open_track bank places track ≡ Err refusal → Comes (Verdict.Refused refusal)

  comes_opened : {track' : Track} → open_track bank places track ≡ Ok track' → {soonest : Option Soonest} →
      soonest_of bank track' ≡ soonest → StopWithin (frames_a_byte * data_limit) soonest →
      FoundSome (map (ahead_of bank track') track'.voices) soonest →
      Comes (verdict_by soonest)
  comes_opened e q within (least l) = opened e q (omega arith) l

  -- in a bank of bytes
  pub comes : AllBytes bank → Comes (verdict_of bank places track)
  comes bytes = one (open_track bank places track) refl
    where
      one : (opens : Result Track Refusal) → open_track bank places track ≡ opens → Comes (verdict_of bank places track)
      one (Ok track') e =
          rw (← (opened_verdict bank places track e))
          (comes_opened e {soonest = soonest_of bank track'} refl (soonest_within bank track' bytes)
          (found_some (starts bank places track e).some (found bank track' 0 track'.voices)))
      one (Err refusal) e = rw (← (unopened_verdict bank places track e)) (shut e)

  by_verdict : {verdict : Verdict} → Comes verdict → (n : ℕ) → Demand3 bank places track n verdict
  by_verdict (opened {n = m} {i} {finish} e q small l) n =
      let s = starts bank places track e in
      let all = shows bank _ s i m small l n 0 (fresh_player m) (stopping m) (going (s.run m small) l refl refl) in
      let (end, refusal) = from_start n m i finish in
      record {
        end = rw (opened_run e q n) (all.end ∙ end);
        refusal = rw (opened_run e q n) (all.refusal ∙ refusal);
        commands = rw (opened_run e q n) all.commands;
      }
  by_verdict (shut e) n = record {
    end = rw (shut_run e n) (shut_end e n 0 _);
    refusal = rw (shut_run e n);
    commands = rw (shut_run e n) (shut_commands e n _);
  }

  pub demand3 : AllBytes bank → (n : ℕ) → Demand3 bank places track n (verdict_of bank places track)
  demand3 bytes n = by_verdict (comes bytes) n
