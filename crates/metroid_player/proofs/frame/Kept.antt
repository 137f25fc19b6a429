-- Of any record: what a frame that answers neither events nor End gives back.
use Prim.Native.Nat.{ℕ}
use mathlib.Core.List.{List}
use mathlib.Core.Path.{◌≡◌, refl}
use lib.Dec.{eqb}
use Rattle.std.specs.Prelude.{Result, Ok, Err}
use Rattle.engine_base.specs.declared.refusal.Refusal.{Refusal}
use Rattle.metroid_format.specs.Header.{open_track}
use Rattle.engine_base.proofs.Picks.{by-test}
use Rattle.metroid_format.specs.declared.bank.Places.{Places}
use Rattle.metroid_format.specs.declared.header.Track.{Track}
use Rattle.engine_base.specs.Channels.{four}
use Rattle.metroid_player.specs.Record.{record_fits}
use Rattle.metroid_player.specs.Frame.{Settled, settle_from, framed_by, frame_of_track, frame_opened, frame_of}
use Rattle.metroid_player.specs.declared.record.Player.{Player}
use Rattle.engine_base.specs.declared.answer.Answer.{Answer}
use Rattle.metroid_player.specs.declared.frame.Framed.{Framed}

-- a refused frame and a stopped one give the record back; 1 to 9, 16 and Stopped read nothing
abbrev pub KeptBy : Player → Framed → Answer → Type 0
KeptBy player f Answer.Events = Unit {0}
KeptBy player f Answer.End = Unit {0}
KeptBy player f Answer.Stopped = (f.player ≡ player) × (f.counts ≡ four 0)
KeptBy player f (Answer.Refused refusal) = (f.player ≡ player) × (f.counts ≡ four 0)
KeptBy player f (Answer.Fault refusal i at address) = f.player ≡ player

abbrev pub Kept : Player → Framed → Type 0
Kept player f = KeptBy player f f.answer

framed_kept : (track : Track) (player : Player) (s : Settled) (answer : Answer) → Kept player (framed_by track player s answer)
framed_kept track player s Answer.Events = tt
framed_kept track player s Answer.End = tt
framed_kept track player s Answer.Stopped = (refl, refl)
framed_kept track player s (Answer.Refused refusal) = (refl, refl)
framed_kept track player s (Answer.Fault refusal i at address) = refl

track_kept : (bank : List ℕ) (track : Track) (player : Player) → Kept player (frame_of_track bank track player)
unfolding frame_of_track
track_kept bank track player =
    by-test (Kept player) (record_fits track.voices player)
    (λ _.
    by-test (Kept player) (eqb player.stopped 0)
    (λ _.
    let s = settle_from bank track 0 track.voices player.channels in
    framed_kept track player s s.answer) λ _.
    (refl, refl)) λ _.
    (refl, refl)

opened_kept : (bank : List ℕ) (player : Player) (opened : Result Track Refusal) → Kept player (frame_opened bank player opened)
opened_kept bank player (Ok track) = track_kept bank track player
opened_kept bank player (Err refusal) = (refl, refl)

pub kept : (bank : List ℕ) (places : Places) (track : ℕ) (player : Player) → Kept player (frame_of bank places track player)
unfolding frame_of
kept bank places track player = opened_kept bank player (open_track bank places track)
