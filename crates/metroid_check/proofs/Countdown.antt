-- The frames left that a run shows: with a restart the clock begins again after each end, else it stands at 0 from the stop on.
use Prim.Native.Nat.{ℕ, zero, suc, ◌+◌, ◌-◌, ◌%◌, ◌≤◌, ◌<◌}
use mathlib.Core.Bool.{Bool, true, false}
use mathlib.Core.List.{List, ◌∷◌, map}
use mathlib.Core.Path.{◌≡◌, refl, sym, ap, ◌∙◌}
use native.Mathlib.Nat.{suc-mod, mod-eq_of_lt, mod_self, zero-mod}
use native.Mathlib.Numerals.{add-one}
use native.Mathlib.Omega.{arith}
use Rattle.engine_base.specs.Answer.{answer_number, answer_kind}
use Rattle.engine_base.specs.Bytes.{AllBytes}
use Rattle.std.specs.Prelude.{Ok, Err}
use Rattle.engine_base.specs.Refusal.{number_of}
use Rattle.engine_base.specs.declared.refusal.Refusal.{Refusal}
use Rattle.engine_base.specs.declared.refusal.Refusal.TheVariants.{PastData, InvalidRecord}
use Rattle.engine_base.specs.declared.answer.Answer.{Answer}
use Rattle.engine_base.proofs.Picks.{answers, false_true}
use Rattle.metroid_format.specs.Header.{open_track, header_of, channel_start}
use Rattle.metroid_format.proofs.header.Opening.{unopened}
use Rattle.metroid_format.specs.declared.bank.Places.{Places}
use Rattle.metroid_format.specs.declared.header.Track.{Track}
use Rattle.metroid_format.specs.Timeline.{Finish}
use Rattle.metroid_player.specs.Record.{fresh_player, most_frames}
use Rattle.metroid_player.specs.Frame.{unplayed, frame_of, frame_of_track}
use Rattle.metroid_player.specs.declared.record.Player.{Player}
use Rattle.metroid_player.specs.declared.frame.Framed.{Framed}
use Rattle.metroid_player.proofs.frame.Left.{track_left}
use Rattle.metroid_check.specs.Run.{frames_from}
use Rattle.metroid_check.specs.Countdown.{
  left_foreseen,
  ZeroWithoutEvents,
  ZeroAtEnd,
  ZeroForeseen,
  NumbersWithin,
  CountsDown,
  EachFrom,
  Countdown,
}
use Rattle.metroid_check.specs.Demand3.{Foreseen}
use Rattle.metroid_check.specs.Verdict.{verdict_stop, verdict_of, VerdictWithin}
use Rattle.metroid_check.specs.declared.verdict.Verdict.{Verdict}
use Rattle.metroid_check.proofs.verdict.Place.{verdict_within}
use Rattle.metroid_check.proofs.ahead.Starting.{ahead_of, Starts, starts, unopened_frame}
use Rattle.metroid_check.proofs.ahead.Foreseen.{Least}
use Rattle.metroid_check.proofs.Run.{Outlook, stopping, stopped, Stands, going, over, Steps, plays, restarts, ends, faults, stays, step}
use Rattle.metroid_check.proofs.Demand3.{opened_run, shut_run, Comes, opened, shut, comes, demand3}

-- the next frame of a pass, and the first one of the next
module _ (k length : ℕ) where
  next_mod : (n : ℕ) → k % (length + 1) + suc n ≡ length → (k + 1) % (length + 1) + n ≡ length
  next_mod n h =
      let within : suc (k % (length + 1)) < length + 1 = omega arith in
      rw (add-one k, suc-mod k (length + 1), mod-eq_of_lt within) (omega arith)

  round_mod : k % (length + 1) + 0 ≡ length → (k + 1) % (length + 1) + length ≡ length
  round_mod h =
      let last : suc (k % (length + 1)) ≡ length + 1 = omega arith in
      rw (add-one k, suc-mod k (length + 1), last, mod_self (length + 1)) (omega arith)

-- before frame k of a run whose passes have that length
data Clock (restart : Bool) (length k : ℕ) : Finish → Outlook → Type 0 where
  round : {m : ℕ} → restart ≡ true → k % (length + 1) + m ≡ length → Clock restart length k (Ok tt) (stopping m)
  once : {m : ℕ} → restart ≡ false → k + m ≡ length → Clock restart length k (Ok tt) (stopping m)
  past : restart ≡ false → length < k → Clock restart length k (Ok tt) stopped
  until : {m : ℕ} {refusal : Refusal} {at address : ℕ} → m ≡ length - k → Clock restart length k (Err (refusal, at, address)) (stopping m)

abbrev left_of : Outlook → ℕ
left_of (stopping n) = n
left_of stopped = 0

module _ (restart : Bool) (length i : ℕ) where
  abbrev verdict : Finish → Verdict
  verdict finish = verdict_stop length i finish

  clock_left : {k : ℕ} {finish : Finish} {o : Outlook} → Clock restart length k finish o → left_of o ≡ left_foreseen restart (verdict finish) k
  clock_left (round e h) = rw e (omega arith)
  clock_left (once e h) = rw e (omega arith)
  clock_left (past e h) = rw e (omega arith)
  clock_left (until h) = h

  exactly : (finish : Finish) (j : ℕ) (f : Framed) → ZeroAtEnd f → ZeroForeseen restart (verdict finish) j f
  exactly (Err (refusal, at, address)) j f z = tt
  exactly (Ok passed) j f z = by restart
    where
      by : (restart : Bool) → ZeroForeseen restart (Verdict.Pass length i) j f
      by true = z
      by false = λ _. z

no_events : (f : Framed) → 0 < answer_kind f.answer → f.frames_left ≡ 0 → ZeroWithoutEvents f
no_events f h left = ((λ z e. let events : answer_kind f.answer ≡ 0 = ap answer_kind e in omega arith), (λ _. left))

-- a fault's number is below 16
abbrev FaultNumber : Finish → Type 0
FaultNumber (Ok passed) = Unit {0}
FaultNumber (Err (refusal, at, address)) = number_of refusal ≤ number_of PastData

stands_left : {bank : List ℕ} {track : Track} {i length : ℕ} {player : Player} {finish : Finish} {o : Outlook} →
    Stands bank track i length player finish o → player.frames_left ≡ left_of o
stands_left (going r l left length) = left
stands_left (over e) = refl

stands_numbers : {bank : List ℕ} {track : Track} {i length : ℕ} {player : Player} {finish : Finish} {o : Outlook} →
    Stands bank track i length player finish o → NumbersWithin player
stands_numbers (going r l left length) = r.numbers
stands_numbers (over e) = (omega arith, omega arith)

module _ (bank : List ℕ) (track : Track) (s : Starts bank track) (i length : ℕ) (small : length ≤ most_frames) where
  abbrev Counts : Finish → ℕ → Framed → Type 0
  Counts finish = CountsDown track.restart (verdict track.restart length i finish)

  abbrev CountsOn : ℕ → ℕ → Finish → Type 0
  CountsOn n k finish = (player : Player) (o : Outlook) → Stands bank track i length player finish o → Clock track.restart length k finish o →
      EachFrom (Counts finish) k (frames_from (frame_of_track bank track) n player)

  module _ (n k : ℕ) (f : Framed) where
    abbrev Counted : Finish → Type 0
    Counted finish = EachFrom (Counts finish) k (f ∷ frames_from (frame_of_track bank track) n f.player)

    -- the clock after a frame
    count_on : {finish : Finish} {o after : Outlook} → CountsOn n (k + 1) finish → f.frames_left ≡ left_of o →
        Clock track.restart length k finish o → ZeroWithoutEvents f →
        ZeroForeseen track.restart (verdict track.restart length i finish) k f →
        (answer_number f.answer ≡ number_of InvalidRecord → ⊥) → Stands bank track i length f.player finish after →
        Clock track.restart length (k + 1) finish after → Counted finish
    count_on later left c silent z fits after c' = (
      record {
        shown = left ∙ clock_left track.restart length i c;
        silent = silent;
        zero = z;
        numbers = stands_numbers after;
        fits = fits;
      },
      later _ _ after c',
    )

    count_plays : {finish : Finish} {m : ℕ} → CountsOn n (k + 1) finish → f.frames_left ≡ suc m →
        Clock track.restart length k finish (stopping (suc m)) → f.answer ≡ Answer.Events →
        Stands bank track i length f.player finish (stopping m) → Clock track.restart length (k + 1) finish (stopping m) → Counted finish
    count_plays {finish} later left c a after c' =
        let events : answer_kind f.answer ≡ 0 = ap answer_kind a in
        let none : answer_number f.answer ≡ 0 = ap answer_number a in
        count_on later left c ((λ z _. omega arith), (λ n. absurd (n a)))
        (exactly track.restart length i finish k f
        ((λ z. absurd (omega arith)), (λ e. let end : answer_kind f.answer ≡ 1 = ap answer_kind e in absurd (omega arith))))
        (λ z. omega arith) after c'

    count_ends : {after : Outlook} → CountsOn n (k + 1) (Ok tt) → f.frames_left ≡ 0 →
        Clock track.restart length k (Ok tt) (stopping 0) → f.answer ≡ Answer.End →
        Stands bank track i length f.player (Ok tt) after → Clock track.restart length (k + 1) (Ok tt) after → Counted (Ok tt)
    count_ends later left c a after c' =
        let none : answer_number f.answer ≡ 0 = ap answer_number a in
        count_on later left c (no_events f (rw a (omega arith)) left)
        (exactly track.restart length i (Ok tt) k f ((λ _. a), (λ _. left))) (λ z. omega arith) after c'

    count_step : {finish : Finish} {o : Outlook} → CountsOn n (k + 1) finish → FaultNumber finish → f.frames_left ≡ left_of o →
        Steps bank track i length f finish o → Clock track.restart length k finish o → Counted finish
    count_step later b left (plays {n = m} a after) (round e h) =
        count_plays later left (round e h) a after (round e (next_mod k length m h))
    count_step later b left (plays a after) (once e h) = count_plays later left (once e h) a after (once e (omega arith))
    count_step later b left (plays a after) (until h) = count_plays later left (until h) a after (until (omega arith))
    count_step later b left (restarts r a c after) (round e h) =
        count_ends later left (round e h) a after (round e (round_mod k length h))
    count_step later b left (restarts r a c after) (once e h) = absurd (false_true (sym e ∙ r))
    count_step later b left (ends r a c after) (round e h) = absurd (false_true (sym r ∙ e))
    count_step later b left (ends r a c after) (once e h) = count_ends later left (once e h) a after (past e (omega arith))
    count_step later b left (faults a after) (until h) =
        let number : answer_number f.answer ≡ _ = ap answer_number a in
        count_on later left (until h) (no_events f (rw a (omega arith)) left) tt (λ z. omega arith) after (until (omega arith))
    count_step later b left (stays a after) (past e h) =
        let none : answer_number f.answer ≡ 0 = ap answer_number a in
        count_on later left (past e h) (no_events f (rw a (omega arith)) left) (rw e (λ g. absurd (omega arith))) (λ z. omega arith) after
        (past e (omega arith))

  counts : {finish : Finish} → FaultNumber finish → Least (map (ahead_of bank track) track.voices) length i finish → (n k : ℕ) → CountsOn n k finish
  unfolding frames_from
  counts b l zero k player o st c = tt
  counts b l (suc n) k player o st c =
      count_step n k _ (counts b l n (k + 1)) b ((track_left bank track player).0 ∙ stands_left st) (step bank track s small l st) c

  -- before the first frame
  first_clock : (restart : Bool) → track.restart ≡ restart → (finish : Finish) → Clock track.restart length 0 finish (stopping length)
  first_clock true e (Ok passed) = round {m = length} e (rw (zero-mod (length + 1)) (omega arith))
  first_clock false e (Ok passed) = once {m = length} e (omega arith)
  first_clock restart e (Err (refusal, at, address)) = until {m = length} (omega arith)

module _ (bank : List ℕ) (places : Places) (track : ℕ) where
  -- after a refused start every frame is refused for the same and shows 0
  shut_counts : {refusal : Refusal} → open_track bank places track ≡ Err refusal → (restart : Bool) (n k : ℕ) →
      EachFrom (CountsDown restart (Verdict.Refused refusal)) k
      (frames_from (frame_of bank places track) n (fresh_player 0))
  unfolding frames_from
  shut_counts e restart zero k = tt
  shut_counts {refusal} e restart (suc n) k =
      let below = unopened bank places track e in
      rw (unopened_frame bank places track (fresh_player 0) e) (
        record {
          shown = refl;
          silent = no_events (unplayed (Answer.Refused refusal) (fresh_player 0)) (omega arith) refl;
          zero = tt;
          numbers = (omega arith, omega arith);
          fits = λ z. omega (arith, below.1);
        },
        shut_counts e restart n (k + 1),
      )

  by_verdict : {verdict : Verdict} → Comes bank places track verdict → VerdictWithin (channel_start (header_of bank places track)) verdict →
      (n : ℕ) → Countdown bank places track n verdict
  by_verdict (opened {track'} {n = m} {i} {finish} e q small l) w n =
      let s = starts bank places track e in
      record {
        started = rw (opened_run bank places track e q n) (small, small);
        frames =
            rw (opened_run bank places track e q n, e)
            (counts bank track' s i m small (fault_number finish w) l n 0 (fresh_player m) (stopping m) (going (s.run m small) l refl refl)
            (first_clock bank track' s i m small track'.restart refl finish));
      }
    where
      fault_number : (finish : Finish) → VerdictWithin (channel_start (header_of bank places track)) (verdict_stop m i finish) → FaultNumber finish
      fault_number (Ok passed) w = tt
      fault_number (Err (refusal, at, address)) (_, placed, _, _) = placed.0.1
  by_verdict (shut e) w n = record {
    started = rw (shut_run bank places track e n) (omega arith, omega arith);
    frames = rw (shut_run bank places track e n) (shut_counts e _ n 0);
  }

  -- in a bank of bytes
  pub countdown : AllBytes bank → (n : ℕ) → Countdown bank places track n (verdict_of bank places track)
  countdown bytes n = by_verdict (comes bank places track bytes) (verdict_within bank places track) n

  pub foreseen : AllBytes bank → (verdict : Verdict) → verdict ≡ verdict_of bank places track → Foreseen bank places track verdict
  foreseen bytes verdict e = record {
    answer = answers _ _ _ e;
    runs = λ n. rw e (demand3 bank places track bytes n);
    countdown = λ n. rw e (countdown bytes n);
  }
