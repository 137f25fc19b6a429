-- What a frame that gives no events hands back, of any record.
use Prim.Native.Nat.{ℕ}
use mathlib.Core.List.{List}
use mathlib.Core.Path.{◌≡◌, refl}
use lib.Dec.{eqb}
use Rattle.std.specs.Prelude.{Result, Ok, Err}
use Rattle.engine_base.specs.Channels.{four}
use Rattle.engine_base.specs.declared.answer.Answer.{Answer}
use Rattle.engine_base.specs.declared.refusal.Refusal.{Refusal}
use Rattle.engine_base.proofs.Picks.{by-test}
use Rattle.mother_format.specs.Header.{open_track}
use Rattle.mother_format.specs.declared.bank.Places.{Places}
use Rattle.mother_format.specs.declared.header.Track.{Track}
use Rattle.mother_player.specs.Record.{stopped_player, record_fits}
use Rattle.mother_player.specs.Event.{off_event}
use Rattle.mother_player.specs.Frame.{Settled, settle_from, framed_by, setting_of, frame_of_track, frame_by, frame_of}
use Rattle.mother_player.specs.declared.record.Player.{Player}
use Rattle.mother_player.specs.declared.frame.Framed.{Framed}

-- no events and this record
abbrev Hands : Player → Framed → Type 0
Hands player f = (f.player ≡ player) × (f.events ≡ four off_event)

-- the end hands back nothing but the mark, Stopped and a refusal the record that was given; without a place nothing was read
abbrev KeptBy : Player → Framed → Answer → Type 0
KeptBy player f Answer.Events = Unit {0}
KeptBy player f Answer.End = Hands stopped_player f
KeptBy player f Answer.Stopped = Hands player f × (f.counts ≡ four 0)
KeptBy player f (Answer.Refused refusal) = Hands player f × (f.counts ≡ four 0)
KeptBy player f (Answer.Fault refusal i at address) = Hands player f

abbrev pub Kept : Player → Framed → Type 0
Kept player f = KeptBy player f f.answer

framed_kept : (player : Player) (s : Settled) (answer : Answer) → Kept player (framed_by player s answer)
framed_kept player s Answer.Events = tt
framed_kept player s Answer.End = (refl, refl)
framed_kept player s Answer.Stopped = ((refl, refl), refl)
framed_kept player s (Answer.Refused refusal) = ((refl, refl), refl)
framed_kept player s (Answer.Fault refusal i at address) = (refl, refl)

module _ (bank8 banka : List ℕ) (places : Places) where
  track_kept : (track : Track) (player : Player) → Kept player (frame_of_track bank8 banka places track player)
  unfolding frame_of_track
  track_kept track player =
      by-test (Kept player) (record_fits track.voices player)
      (λ _.
      by-test (Kept player) (eqb player.stopped 0)
      (λ _.
      let s = settle_from bank8 banka places (setting_of player) 0 track.voices player.channels in
      framed_kept player s s.answer) λ _. ((refl, refl), refl)) λ _.
      ((refl, refl), refl)

  pub kept : (track : ℕ) (player : Player) → Kept player (frame_of bank8 banka places track player)
  unfolding frame_of
  kept track player = by (open_track bank8 banka places track)
    where
      by : (opened : Result Track Refusal) → Kept player (frame_by bank8 banka places player opened)
      by (Ok opened) = track_kept opened player
      by (Err refusal) = ((refl, refl), refl)
