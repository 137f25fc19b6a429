-- Of any record: a frame shows the frames left of the record that it was given, and what it hands back of the two numbers.
use Prim.Native.Nat.{ℕ, ◌-◌}
use mathlib.Core.List.{List}
use mathlib.Core.Path.{◌≡◌, refl}
use lib.Dec.{eqb}
use Rattle.std.specs.Prelude.{Bool, Result, Ok, Err}
use Rattle.engine_base.specs.declared.refusal.Refusal.{Refusal}
use Rattle.metroid_format.specs.Header.{open_track}
use Rattle.engine_base.proofs.Picks.{by-test}
use Rattle.metroid_format.specs.declared.bank.Places.{Places}
use Rattle.metroid_format.specs.declared.header.Track.{Track}
use Rattle.metroid_player.specs.Record.{ended_player, record_fits}
use Rattle.metroid_player.specs.Frame.{Settled, settle_from, framed_by, frame_of_track, frame_opened, frame_of, restarts}
use Rattle.metroid_player.specs.declared.record.Player.{Player}
use Rattle.engine_base.specs.declared.answer.Answer.{Answer}
use Rattle.metroid_player.specs.declared.frame.Framed.{Framed}

-- events take one off, never below 0; a restart begins with the full length anew, an end that stops with 0; all else keeps the record
abbrev pub LeftBy : Bool → Player → Player → Answer → Type 0
LeftBy restart player next Answer.Events =
    (next.frames_left ≡ player.frames_left - 1) × (next.pass_length ≡ player.pass_length)
LeftBy restart player next Answer.End = next ≡ ended_player restart player.pass_length
LeftBy restart player next Answer.Stopped = next ≡ player
LeftBy restart player next (Answer.Refused refusal) = next ≡ player
LeftBy restart player next (Answer.Fault refusal i at address) = next ≡ player

abbrev pub Left : Bool → Player → Framed → Type 0
Left restart player f = (f.frames_left ≡ player.frames_left) × LeftBy restart player f.player f.answer

framed_left : (track : Track) (player : Player) (s : Settled) (answer : Answer) → Left track.restart player (framed_by track player s answer)
framed_left track player s Answer.Events = (refl, (refl, refl))
framed_left track player s Answer.End = (refl, refl)
framed_left track player s Answer.Stopped = (refl, refl)
framed_left track player s (Answer.Refused refusal) = (refl, refl)
framed_left track player s (Answer.Fault refusal i at address) = (refl, refl)

pub track_left : (bank : List ℕ) (track : Track) (player : Player) → Left track.restart player (frame_of_track bank track player)
unfolding frame_of_track
track_left bank track player =
    by-test (Left track.restart player) (record_fits track.voices player)
    (λ _.
    by-test (Left track.restart player) (eqb player.stopped 0)
    (λ _.
    let s = settle_from bank track 0 track.voices player.channels in
    framed_left track player s s.answer) λ _.
    (refl, refl)) λ _.
    (refl, refl)

opened_left : (bank : List ℕ) (player : Player) (opened : Result Track Refusal) →
    Left (restarts opened) player (frame_opened bank player opened)
opened_left bank player (Ok track) = track_left bank track player
opened_left bank player (Err refusal) = (refl, refl)

pub left : (bank : List ℕ) (places : Places) (track : ℕ) (player : Player) →
    Left (restarts (open_track bank places track)) player (frame_of bank places track player)
unfolding frame_of
left bank places track player = opened_left bank player (open_track bank places track)
