-- Document 01, 'A frame': the frame rule, and start.
use Rattle.std.specs.Prelude.{ℕ, ◌+◌, ◌-◌, ◌<◌, Bool, true, false, Option, Some, None, Result, Ok, Err, List, [], ◌∷◌, ◌++◌, eqb}
use Rattle.std.proofs.lemmas.List.Edits.{sets}
use Rattle.engine_base.specs.Address.{bank_end}
use Rattle.engine_base.specs.Pick.{pick}
use Rattle.engine_base.specs.Told.{Told}
use Rattle.engine_base.specs.Answer.{answer_number, answer_kind, answer_place}
use Rattle.engine_base.specs.Refusal.{number_of, Unopened, FaultAt}
use Rattle.engine_base.specs.declared.refusal.Refusal.{Refusal}
use Rattle.engine_base.specs.declared.refusal.Refusal.TheVariants.{InvalidRecord}
use Rattle.metroid_format.specs.Command.{data_limit}
use Rattle.metroid_format.specs.Header.{open_track}
use Rattle.metroid_format.specs.Channel.{channel_source, read_until}
use Rattle.metroid_format.specs.Timeline.{soonest_of}
use Rattle.metroid_format.specs.declared.bank.Places.{Places}
use Rattle.metroid_format.specs.declared.header.Voice.{Voice}
use Rattle.metroid_format.specs.declared.header.Track.{Track}
use Rattle.metroid_format.specs.declared.channel.Cursor.{Cursor}
use Rattle.metroid_format.specs.declared.channel.Stop.{Stop}
use Rattle.metroid_format.specs.declared.channel.Until.{Until}
use Rattle.metroid_format.specs.declared.timeline.Soonest.{Soonest}
use Rattle.engine_base.specs.Channels.{four}
use Rattle.metroid_player.specs.Record.{fresh_player, ended_player, cursor_of, record_fits}
use Rattle.metroid_player.specs.Event.{off_event, event_of, told_event}
use Rattle.metroid_player.specs.declared.record.Channel.{Channel}
use Rattle.metroid_player.specs.declared.record.Player.{Player}
use Rattle.metroid_player.specs.declared.event.Event.{Event}
use Rattle.engine_base.specs.declared.answer.Turned.{Turned}
use Rattle.metroid_player.specs.declared.frame.Turn.{Turn}
use Rattle.engine_base.specs.declared.answer.Answer.{Answer}
use Rattle.metroid_player.specs.declared.frame.Framed.{Framed}
use Rattle.metroid_player.specs.declared.frame.Started.{Started}

-- a note sets frames left to the current length
abbrev pub begun : Cursor → ℕ → Channel
begun cursor b = record {
  next = cursor.next;
  loop_start = cursor.loop_start;
  counter = cursor.counter;
  length = cursor.length;
  left = cursor.length;
  sounding = b;
}

-- then one frame is taken off
abbrev pub one_off : Channel → Channel
one_off c = record {
  next = c.next;
  loop_start = c.loop_start;
  counter = c.counter;
  length = c.length;
  left = record { count = c.left.count - 1 };
  sounding = c.sounding;
}

abbrev pub turn_by : Channel → Cursor → ℕ → Stop → Turn
turn_by c cursor count (Stop.Note b) = record { turned = Turned.Plays; began = true; channel = begun cursor b; count = count }
turn_by c cursor count Stop.End = record { turned = Turned.End; began = false; channel = c; count = count }
turn_by c cursor count (Stop.Refused refusal at address) =
    record { turned = Turned.Refused refusal at address; began = false; channel = c; count = count }

abbrev pub turn_of_until : Channel → Until → Turn
turn_of_until c r = turn_by c r.cursor r.count r.stop

-- what a used channel does: one with no frames left reads commands until a key, rest, preset, end or fault
unfoldable pub turn_of : List ℕ → Track → Voice → Channel → Turn
turn_of bank track voice c =
    pick (eqb c.left.count 0)
    (turn_of_until c (read_until data_limit (channel_source bank track voice) (cursor_of c)))
    (record { turned = Turned.Plays; began = false; channel = c; count = 0 })

-- the channels gone through in order: those reached, and the answer
pub record Settled : Type 0 where
  pub answer : Answer
  pub events : List Event
  pub counts : List ℕ
  pub channels : List Channel

-- the last channel reached, or none
abbrev pub settled : Answer → List ℕ → Settled
settled answer counts = record { answer = answer; events = []; counts = counts; channels = [] }

-- a channel that goes on, with those after it
abbrev pub settle_on : Event → Channel → ℕ → Settled → Settled
settle_on event c count rest = record {
  answer = rest.answer;
  events = event ∷ rest.events;
  counts = count ∷ rest.counts;
  channels = c ∷ rest.channels;
}

-- an end met by any channel ends the frame at once, and so does a fault: later channels are not read
abbrev pub settle_by : List ℕ → Track → ℕ → Voice → Turn → Turned → Settled → Settled
settle_by bank track i voice t Turned.Plays rest =
    settle_on (event_of bank track i voice t.channel t.began) (one_off t.channel) t.count rest
settle_by bank track i voice t Turned.End rest = settled Answer.End (t.count ∷ [])
settle_by bank track i voice t (Turned.Refused refusal at address) rest = settled (Answer.Fault refusal i at address) (t.count ∷ [])

abbrev pub settle_turn : List ℕ → Track → ℕ → Voice → Turn → Settled → Settled
settle_turn bank track i voice t rest = settle_by bank track i voice t t.turned rest

-- an unused channel is off, reads nothing and keeps its record
abbrev pub settle_voice : List ℕ → Track → ℕ → Option Voice → Channel → Settled → Settled
settle_voice bank track i None c rest = settle_on off_event c 0 rest
settle_voice bank track i (Some v) c rest = settle_turn bank track i v (turn_of bank track v c) rest

unfoldable pub settle_from : List ℕ → Track → ℕ → List (Option Voice) → List Channel → Settled
settle_from bank track i [] cs = settled Answer.Events []
settle_from bank track i (v ∷ vs) [] = settled Answer.Events []
settle_from bank track i (v ∷ vs) (c ∷ cs) = settle_voice bank track i v c (settle_from bank track (i + 1) vs cs)

-- no events; the frames left are those of the record given, and the next record comes last
abbrev pub eventless : Answer → List ℕ → ℕ → Player → Framed
eventless answer counts left player =
    record { answer = answer; events = four off_event; counts = counts; frames_left = left; player = player }

-- no commands read, and the record as it was given
abbrev pub unplayed : Answer → Player → Framed
unplayed answer player = eventless answer (four 0) player.frames_left player

-- a frame broken off counts what the channels reached have read
abbrev pub broken_off : Answer → List ℕ → ℕ → Player → Framed
broken_off answer reached left player = eventless answer (sets (four 0) 0 reached) left player

abbrev pub framed_by : Track → Player → Settled → Answer → Framed
framed_by track player s Answer.Events = record {
  answer = Answer.Events;
  events = sets (four off_event) 0 s.events;
  counts = sets (four 0) 0 s.counts;
  frames_left = player.frames_left;
  player = record {
    stopped = player.stopped;
    channels = sets player.channels 0 s.channels;
    frames_left = player.frames_left - 1;
    pass_length = player.pass_length;
  };
}
framed_by track player s Answer.End =
    broken_off Answer.End s.counts player.frames_left (ended_player track.restart player.pass_length)
framed_by track player s Answer.Stopped = unplayed Answer.Stopped player
framed_by track player s (Answer.Refused refusal) = unplayed (Answer.Refused refusal) player
framed_by track player s (Answer.Fault refusal i at address) =
    broken_off (Answer.Fault refusal i at address) s.counts player.frames_left player

abbrev pub framed : Track → Player → Settled → Framed
framed track player s = framed_by track player s s.answer

-- a frame tests 16, then Stopped, then reads
unfoldable pub frame_of_track : List ℕ → Track → Player → Framed
frame_of_track bank track player =
    pick (record_fits track.voices player)
    (pick (eqb player.stopped 0)
    (framed track player (settle_from bank track 0 track.voices player.channels))
    (unplayed Answer.Stopped player))
    (unplayed (Answer.Refused InvalidRecord) player)

abbrev pub frame_opened : List ℕ → Player → Result Track Refusal → Framed
frame_opened bank player (Ok track) = frame_of_track bank track player
frame_opened bank player (Err refusal) = unplayed (Answer.Refused refusal) player

-- after 1 to 9
unfoldable pub frame_of : List ℕ → Places → ℕ → Player → Framed
frame_of bank places track player = frame_opened bank player (open_track bank places track)

-- whether a track begins again at its end; one that does not open has none
abbrev pub restarts : Result Track Refusal → Bool
restarts (Ok track) = track.restart
restarts (Err refusal) = false

-- an opened track has a first stop
abbrev pub stop_frame : Option Soonest → ℕ
stop_frame None = 0
stop_frame (Some stop) = stop.frame

-- the pass's full length is the frame of the track's first stop; refused, the record is all 0
abbrev pub started_opened : List ℕ → Result Track Refusal → Started
started_opened bank (Ok track) = record { refusal = None; player = fresh_player (stop_frame (soonest_of bank track)) }
started_opened bank (Err refusal) = record { refusal = Some refusal; player = fresh_player 0 }

unfoldable pub start_of : List ℕ → Places → ℕ → Started
start_of bank places track = started_opened bank (open_track bank places track)

abbrev pub told_events : List Event → List ℕ
told_events [] = []
told_events (e ∷ es) = told_event e ++ told_events es

-- the kind of answer, the commands read by channel, the place, the frames left, then five values a channel
abbrev pub told_framed : Framed → Told
told_framed f = record {
  number = answer_number f.answer;
  values = answer_kind f.answer ∷ f.counts ++ (answer_place f.answer ++ (f.frames_left ∷ told_events f.events));
}

-- 0, or that of the refusal
abbrev pub refusal_number : Option Refusal → ℕ
refusal_number None = 0
refusal_number (Some refusal) = number_of refusal

abbrev pub told_started : Started → Told
told_started s = record { number = refusal_number s.refusal; values = [] }

-- Below: only private contracts and laws use these.

-- a refusal that names no place: 1 to 9, and 16
pub data Unplaced : Refusal → Type 0 where
  of_track : {refusal : Refusal} → Unopened refusal → Unplaced refusal
  of_record : Unplaced InvalidRecord

-- a refusal is one of document 01's table; the place of 10 to 15 is one of the first n channels, an offset within the limit, and the
-- address that is the channel's start address plus the offset, at most $c0ff (proofs/frame/Place.antt: n is 4)
abbrev pub AnswerWithin : (ℕ → ℕ) → ℕ → Answer → Type 0
AnswerWithin start n Answer.Events = Unit {0}
AnswerWithin start n Answer.End = Unit {0}
AnswerWithin start n Answer.Stopped = Unit {0}
AnswerWithin start n (Answer.Refused refusal) = Unplaced refusal
AnswerWithin start n (Answer.Fault refusal i at address) =
    (i < n) × FaultAt (start i) data_limit refusal at address × (address < bank_end + data_limit)
