-- What the check passes is never refused.
use Prim.Native.Nat.{ℕ, zero, suc}
use mathlib.Core.Bool.{false}
use mathlib.Core.List.{List, [], ◌∷◌}
use mathlib.Core.Path.{◌≡◌, refl, subst}
use lib.ListN.{get_or}
use Rattle.std.specs.Prelude.{Option, Some, None, Result, Ok, Err}
use Rattle.engine_base.specs.Address.{offset_of}
use Rattle.engine_base.specs.declared.refusal.Refusal.{Refusal}
use Rattle.engine_base.specs.declared.refusal.Refusal.TheVariants.{ChannelOutside, OddTranspose}
use Rattle.engine_base.proofs.Picks.{by-test, refused_given, passed, unpassed}
use Rattle.mother_format.specs.Bank.{banks}
use Rattle.mother_format.specs.Header.{header_address, places_number, addresses_fit, all_unused, header_number, number_of, track_of, open_track}
use Rattle.mother_format.specs.Transpose.{is_odd}
use Rattle.mother_format.specs.declared.bank.Places.{Places}
use Rattle.mother_format.specs.declared.header.Track.{Track}
use Rattle.mother_player.specs.Frame.{start_of, frame_of}
use Rattle.mother_player.specs.declared.record.Player.{Player}
use Rattle.mother_check.specs.Faults.{track_faults, first_of, sooner}
use Rattle.mother_check.specs.Verdict.{verdict_by, verdict_on, verdict_of}
use Rattle.mother_check.proofs.Opened.{then_given, opened_is}
use Rattle.mother_check.specs.Run.{AllAccepted, frames_from, run_of, NeverRefused}
use Rattle.mother_check.specs.declared.faults.Fault.{Fault}
use Rattle.mother_check.specs.declared.verdict.Verdict.{Verdict}
use Rattle.mother_check.proofs.run.Frames.{PlayerHolds, FrameHolds, start_holds, frame_holds}

-- of a header that opens
module _ (bank8 banka : List ℕ) (places : Places) (number : ℕ) where
  abbrev header : ℕ
  header = offset_of (header_address (banks bank8 banka) places number)

  number_even : number_of bank8 banka places number ≡ Ok tt → is_odd (get_or (banks bank8 banka) header 0) ≡ false
  unfolding number_of header_number
  number_even e =
      let (fit, rest) = passed (addresses_fit (banks bank8 banka) header) ChannelOutside _ (then_given (places_number bank8 banka places number) _ e) in
      by-test (λ x. x ≡ Ok tt → is_odd (get_or (banks bank8 banka) header 0) ≡ false) (all_unused (banks bank8 banka) header)
      (λ _ n. absurd (refused_given _ _ n)) (λ _. unpassed (is_odd (get_or (banks bank8 banka) header 0)) OddTranspose (Ok tt)) rest

  open_even : (track : Track) → open_track bank8 banka places number ≡ Ok track → is_odd track.transpose ≡ false
  unfolding track_of
  open_even track e =
      let (fine, same) = opened_is bank8 banka places number track e in
      subst (λ (t : Track). is_odd t.transpose ≡ false) same (number_even fine)

abbrev Passing : Verdict → Type 0
Passing Verdict.Pass = Unit {0}
Passing (Verdict.Refused refusal) = ⊥
Passing (Verdict.Fault f) = ⊥

none_first : (fs : List Fault) → Passing (verdict_by (first_of fs)) → fs ≡ []
unfolding first_of
none_first [] h = refl
none_first (f ∷ fs) h = absurd (from (first_of fs) h)
  where
    from : (rest : Option Fault) → Passing (verdict_by (sooner f rest)) → ⊥
    from None h = h
    from (Some g) h = h

module _ (bank8 banka : List ℕ) (places : Places) (number : ℕ) where
  record Opens : Type 0 where
    track : Track
    opened : open_track bank8 banka places number ≡ Ok track
    none : track_faults bank8 banka places track ≡ []

  opens : Passing (verdict_of bank8 banka places number) → Opens
  unfolding verdict_of
  opens = by (open_track bank8 banka places number) refl
    where
      by : (x : Result Track Refusal) → open_track bank8 banka places number ≡ x → Passing (verdict_on bank8 banka places x) → Opens
      by (Ok track) e h = record { track = track; opened = e; none = none_first (track_faults bank8 banka places track) h }
      by (Err refusal) e h = absurd h

  module _ (track : Track) (opened : open_track bank8 banka places number ≡ Ok track) (none : track_faults bank8 banka places track ≡ []) where
    one_holds : (player : Player) → PlayerHolds bank8 banka places track player →
        FrameHolds bank8 banka places track (frame_of bank8 banka places number player)
    unfolding frame_of
    one_holds player h = rw opened (frame_holds bank8 banka places track (open_even bank8 banka places number track opened) none player h)

    frames_accepted : (n : ℕ) (player : Player) → PlayerHolds bank8 banka places track player →
        AllAccepted (frames_from (frame_of bank8 banka places number) n player)
    unfolding frames_from
    frames_accepted zero player h = tt
    frames_accepted (suc n) player h =
        let (fine, next) = one_holds player h in
        (fine, frames_accepted n (frame_of bank8 banka places number player).player next)

    runs : (n : ℕ) → NeverRefused (run_of bank8 banka places number n)
    unfolding run_of start_of
    runs n = record {
      start = rw opened;
      frames = frames_accepted n _ (rw opened (start_holds bank8 banka places track (open_even bank8 banka places number track opened)));
    }

pub never_refused : (bank8 banka : List ℕ) (places : Places) (track : ℕ) → verdict_of bank8 banka places track ≡ Verdict.Pass → (n : ℕ) →
    NeverRefused (run_of bank8 banka places track n)
never_refused bank8 banka places track e n =
    let o = opens bank8 banka places track (rw e tt) in
    runs bank8 banka places track o.track o.opened o.none n
