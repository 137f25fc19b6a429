-- Document 02, No. 4: timing and verdicts don't read the period table. Two banks that are alike to a track, whatever stands in their
-- period tables, have one verdict, and runs of any length that differ in what the melodic channels sound and in nothing else.
use Prim.Native.Nat.{ℕ, zero, suc}
use mathlib.Core.List.{List, ◌∷◌, map}
use mathlib.Core.Path.{◌≡◌, refl, ap, ap₂, ◌∙◌}
use Rattle.std.specs.Prelude.{Result, Ok, Err}
use Rattle.engine_base.specs.declared.refusal.Refusal.{Refusal}
use Rattle.metroid_format.specs.Header.{open_track}
use Rattle.metroid_format.specs.declared.bank.Places.{Places}
use Rattle.metroid_format.specs.declared.header.Track.{Track}
use Rattle.metroid_player.specs.Frame.{start_of, frame_of}
use Rattle.metroid_player.specs.declared.record.Player.{Player}
use Rattle.metroid_player.specs.declared.frame.Framed.{Framed}
use Rattle.metroid_player.specs.declared.frame.Started.{Started}
use Rattle.metroid_player.proofs.frame.Alike.{rested, AlikeOpened, stop_alike, start_alike, frame_alike}
use Rattle.metroid_check.specs.Run.{frames_from, run_of}
use Rattle.metroid_check.specs.Verdict.{verdict_opened, verdict_of}

opened_verdict_alike : (bank bank' : List ℕ) (opened : Result Track Refusal) → AlikeOpened bank bank' opened →
    verdict_opened bank opened ≡ verdict_opened bank' opened
opened_verdict_alike bank bank' (Ok track) same = rw (stop_alike bank bank' track same)
opened_verdict_alike bank bank' (Err refusal) same = refl

module _ (bank bank' : List ℕ) (places : Places) (track : ℕ) (o : open_track bank places track ≡ open_track bank' places track)
    (same : AlikeOpened bank bank' (open_track bank places track)) where
  pub verdict_alike : verdict_of bank places track ≡ verdict_of bank' places track
  unfolding verdict_of
  verdict_alike = rw (← o) (opened_verdict_alike bank bank' (open_track bank places track) same)

  frames_alike : (n : ℕ) (player : Player) →
      map rested (frames_from (frame_of bank places track) n player) ≡ map rested (frames_from (frame_of bank' places track) n player)
  unfolding frames_from
  frames_alike zero player = refl
  frames_alike (suc n) player =
      let e = frame_alike bank bank' places track o same player in
      ap₂ (λ (f : Framed) (fs : List Framed). f ∷ fs) e
      (frames_alike n (frame_of bank places track player).player
      ∙ ap (λ (f : Framed). map rested (frames_from (frame_of bank' places track) n f.player)) e)

  pub run_alike : (n : ℕ) →
      ((run_of bank places track n).started ≡ (run_of bank' places track n).started)
      × (map rested (run_of bank places track n).frames ≡ map rested (run_of bank' places track n).frames)
  unfolding run_of
  run_alike n =
      let e = start_alike bank bank' places track o same in (
        e,
        frames_alike n (start_of bank places track).player
            ∙ ap (λ (s : Started). map rested (frames_from (frame_of bank' places track) n s.player)) e,
      )
