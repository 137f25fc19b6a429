-- Document 01, 'A frame', and document 02, No. 3: the frame rule of the later engine, and start.
use Rattle.std.specs.Prelude.{ℕ, ◌+◌, ◌-◌, false, List, [], ◌∷◌, ◌++◌, eqb, Option, Some, None, Result, Ok, Err}
use Rattle.std.proofs.lemmas.List.Edits.{sets}
use Rattle.engine_base.specs.Pick.{pick}
use Rattle.engine_base.specs.Told.{Told}
use Rattle.engine_base.specs.Answer.{answer_number, answer_kind, answer_place}
use Rattle.engine_base.specs.Channels.{four}
use Rattle.engine_base.specs.Refusal.{number_of}
use Rattle.engine_base.specs.declared.answer.Answer.{Answer}
use Rattle.engine_base.specs.declared.refusal.Refusal.{Refusal}
use Rattle.engine_base.specs.declared.refusal.Refusal.TheVariants.{InvalidRecord}
use Rattle.mother_format.specs.Bank.{banks}
use Rattle.mother_format.specs.Header.{open_track}
use Rattle.mother_format.specs.declared.bank.Places.{Places}
use Rattle.mother_format.specs.declared.channel.Setting.{Setting}
use Rattle.mother_format.specs.declared.header.Voice.{Voice}
use Rattle.mother_format.specs.declared.header.Track.{Track}
use Rattle.mother_player.specs.Record.{fresh_player, stopped_player, record_fits}
use Rattle.mother_player.specs.Reading.{noted, read_until, first_reader}
use Rattle.mother_player.specs.Event.{off_event, event_of, told_event}
use Rattle.mother_player.specs.declared.record.Channel.{Channel}
use Rattle.mother_player.specs.declared.record.Player.{Player}
use Rattle.mother_player.specs.declared.event.Event.{Event}
use Rattle.engine_base.specs.declared.answer.Turned.{Turned}
use Rattle.mother_player.specs.declared.reading.Turn.{Turn}
use Rattle.mother_player.specs.declared.frame.Framed.{Framed}
use Rattle.mother_player.specs.declared.frame.Started.{Started}

-- one frame is taken off
abbrev pub one_off : Channel → Channel
one_off c = noted c c.length (record { count = c.left.count - 1 }) c.sounding c.timbre c.ctrl

-- what a used channel does under a setting: one with no frames left reads
unfoldable pub turn_of : List ℕ → List ℕ → Places → Setting → Voice → Channel → Turn
turn_of bank8 banka places s voice c =
    pick (eqb c.left.count 0)
    (read_until bank8 banka places voice.kind (first_reader voice.list c s))
    (record { turned = Turned.Plays; began = false; channel = c; setting = s; count = 0 })

-- the channels gone through in order: those reached, the answer, and the transpose and window that hold at last
pub record Settled : Type 0 where
  pub answer : Answer
  pub events : List Event
  pub counts : List ℕ
  pub channels : List Channel
  pub setting : Setting

-- the last channel reached, or none
abbrev pub settled : Answer → List ℕ → Setting → Settled
settled answer counts s = record { answer = answer; events = []; counts = counts; channels = []; setting = s }

-- a channel that goes on, with those after it
abbrev pub settle_on : Event → Channel → ℕ → Settled → Settled
settle_on event c count rest = record {
  answer = rest.answer;
  events = event ∷ rest.events;
  counts = count ∷ rest.counts;
  channels = c ∷ rest.channels;
  setting = rest.setting;
}

-- an end met by any channel ends the frame at once, and so does a refusal: later channels are not read
abbrev pub settle_by : List ℕ → Places → ℕ → Voice → Turn → Turned → Settled → Settled
settle_by bank places i voice t Turned.Plays rest =
    settle_on (event_of bank places voice.kind t.channel t.began) (one_off t.channel) t.count rest
settle_by bank places i voice t Turned.End rest = settled Answer.End (t.count ∷ []) t.setting
settle_by bank places i voice t (Turned.Refused refusal at address) rest =
    settled (Answer.Fault refusal i at address) (t.count ∷ []) t.setting

abbrev pub settle_turn : List ℕ → Places → ℕ → Voice → Turn → (Setting → Settled) → Settled
settle_turn bank places i voice t rest = settle_by bank places i voice t t.turned (rest t.setting)

-- an unused channel is off and stays as it is
abbrev pub settle_voice : List ℕ → List ℕ → Places → Setting → ℕ → Channel → (Setting → Settled) → Option Voice → Settled
settle_voice bank8 banka places s i c rest None = settle_on off_event c 0 (rest s)
settle_voice bank8 banka places s i c rest (Some voice) =
    settle_turn (banks bank8 banka) places i voice (turn_of bank8 banka places s voice c) rest

-- what a channel sets holds for those after it
unfoldable pub settle_from : List ℕ → List ℕ → Places → Setting → ℕ → List (Option Voice) → List Channel → Settled
settle_from bank8 banka places s i [] cs = settled Answer.Events [] s
settle_from bank8 banka places s i (v ∷ vs) [] = settled Answer.Events [] s
settle_from bank8 banka places s i (v ∷ vs) (c ∷ cs) =
    settle_voice bank8 banka places s i c (λ after. settle_from bank8 banka places after (i + 1) vs cs) v

-- no events; the next record comes last
abbrev pub eventless : Answer → List ℕ → Player → Framed
eventless answer counts player = record { answer = answer; events = four off_event; counts = counts; player = player }

-- no commands read, and the record as it was given
abbrev pub unplayed : Answer → Player → Framed
unplayed answer player = eventless answer (four 0) player

-- a frame broken off counts what the channels reached have read
abbrev pub broken_off : Answer → List ℕ → Player → Framed
broken_off answer reached player = eventless answer (sets (four 0) 0 reached) player

-- the end leaves nothing but the mark; a refused frame gives back the record that it was given, transpose and window too
abbrev pub framed_by : Player → Settled → Answer → Framed
framed_by player s Answer.Events = record {
  answer = Answer.Events;
  events = sets (four off_event) 0 s.events;
  counts = sets (four 0) 0 s.counts;
  player = record {
    stopped = player.stopped;
    transpose = s.setting.transpose;
    window = s.setting.window;
    channels = sets player.channels 0 s.channels;
  };
}
framed_by player s Answer.End = broken_off Answer.End s.counts stopped_player
framed_by player s Answer.Stopped = unplayed Answer.Stopped player
framed_by player s (Answer.Refused refusal) = unplayed (Answer.Refused refusal) player
framed_by player s (Answer.Fault refusal i at address) = broken_off (Answer.Fault refusal i at address) s.counts player

abbrev pub framed : Player → Settled → Framed
framed player s = framed_by player s s.answer

abbrev pub setting_of : Player → Setting
setting_of player = record { transpose = player.transpose; window = player.window }

-- a frame tests 16, then Stopped, then reads
unfoldable pub frame_of_track : List ℕ → List ℕ → Places → Track → Player → Framed
frame_of_track bank8 banka places track player =
    pick (record_fits track.voices player)
    (pick (eqb player.stopped 0)
    (framed player (settle_from bank8 banka places (setting_of player) 0 track.voices player.channels))
    (unplayed Answer.Stopped player))
    (unplayed (Answer.Refused InvalidRecord) player)

-- a track that does not open is refused under its number
abbrev pub frame_by : List ℕ → List ℕ → Places → Player → Result Track Refusal → Framed
frame_by bank8 banka places player (Ok track) = frame_of_track bank8 banka places track player
frame_by bank8 banka places player (Err refusal) = unplayed (Answer.Refused refusal) player

-- after 1 to 9 and 19
unfoldable pub frame_of : List ℕ → List ℕ → Places → ℕ → Player → Framed
frame_of bank8 banka places track player = frame_by bank8 banka places player (open_track bank8 banka places track)

-- the header's transpose and window, all else 0; refused, those are 0 too
abbrev pub started_by : Result Track Refusal → Started
started_by (Ok track) = record { refusal = None; player = fresh_player track.transpose track.window }
started_by (Err refusal) = record { refusal = Some refusal; player = fresh_player 0 0 }

unfoldable pub start_of : List ℕ → List ℕ → Places → ℕ → Started
start_of bank8 banka places track = started_by (open_track bank8 banka places track)

abbrev pub told_events : List Event → List ℕ
told_events [] = []
told_events (e ∷ es) = told_event e ++ told_events es

-- the kind of answer, the commands read by channel, the place, then six values a channel
abbrev pub told_framed : Framed → Told
told_framed f = record {
  number = answer_number f.answer;
  values = answer_kind f.answer ∷ f.counts ++ (answer_place f.answer ++ told_events f.events);
}

-- of the refusal, or 0
abbrev pub started_number : Option Refusal → ℕ
started_number None = 0
started_number (Some refusal) = number_of refusal

abbrev pub told_started : Started → Told
told_started s = record { number = started_number s.refusal; values = [] }
