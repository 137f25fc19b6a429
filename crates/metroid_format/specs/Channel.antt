-- Document 01, 'Bytes of a channel' and the reading of 'A frame': one channel, command by command.
use Rattle.std.specs.Prelude.{ℕ, zero, suc, ◌+◌, ◌-◌, ◌*◌, ◌/◌, ◌%◌, ◌≤◌, List, [], ◌∷◌, Result, Ok, Err, leb, eqb, length, get_or, take, drop}
use Rattle.engine_base.specs.Pick.{pick}
use Rattle.engine_base.specs.Told.{Told}
use Rattle.engine_base.specs.Address.{address_of}
use Rattle.engine_base.specs.Loops.{counter_of}
use Rattle.engine_base.specs.Refusal.{number_of}
use Rattle.engine_base.specs.declared.refusal.Refusal.{Refusal}
use Rattle.engine_base.specs.declared.refusal.Refusal.TheVariants.{PastLengths, ZeroLength, NoLength, PastData}
use Rattle.metroid_format.specs.Bank.{lengths_size}
use Rattle.metroid_format.specs.Command.{data_limit, Decoded, command_at}
use Rattle.metroid_format.specs.declared.command.Kind.{Kind}
use Rattle.metroid_format.specs.declared.command.Command.{Command}
use Rattle.engine_base.specs.declared.time.Frames.{Frames}
use Rattle.metroid_format.specs.declared.header.Voice.{Voice}
use Rattle.metroid_format.specs.declared.header.Track.{Track}
use Rattle.metroid_format.specs.declared.channel.Cursor.{Cursor}
use Rattle.metroid_format.specs.declared.channel.Played.{Played}
use Rattle.metroid_format.specs.declared.channel.Step.{Step}
use Rattle.metroid_format.specs.declared.channel.Stop.{Stop}
use Rattle.metroid_format.specs.declared.channel.Until.{Until}

-- what stays the same while a channel is read: its data and their start address, the length table and the window t
pub record Source : Type 0 where
  pub kind : Kind
  pub bytes : List ℕ
  pub lengths : List ℕ
  pub window : ℕ
  pub start : ℕ

abbrev pub source_of : Kind → List ℕ → List ℕ → ℕ → ℕ → Source
source_of kind bytes lengths window start =
    record { kind = kind; bytes = bytes; lengths = lengths; window = window; start = start }

-- a channel's data runs from its address for 256 bytes or to $bfff, whichever is sooner
abbrev pub channel_source : List ℕ → Track → Voice → Source
channel_source bank track voice =
    source_of voice.kind (take data_limit (drop voice.«data» bank)) (take lengths_size (drop track.lengths bank)) track.window
    (address_of voice.«data»)

-- the address of the byte at an offset: the start address plus the offset, whether or not a byte stands there
abbrev pub address_at : ℕ → ℕ → ℕ
address_at start at = start + at

-- entry t + L
abbrev pub length_at : List ℕ → ℕ → ℕ → ℕ
length_at lengths window l = get_or lengths (window + l) 0

-- BL tests 12, 13; any other byte passes
unfoldable pub length_fault : List ℕ → ℕ → ℕ → Result (Unit {0}) Refusal
length_fault lengths window b =
    pick (eqb (b / 16) 0x0b)
    (pick (leb lengths_size (window + b % 16)) (Err PastLengths)
    (pick (eqb (length_at lengths window (b % 16)) 0) (Err ZeroLength) (Ok tt)))
    (Ok tt)

-- what a command at an offset does, given the current length (0: none yet) and the offset after it; a lone note tests 14
abbrev pub played_of : List ℕ → ℕ → ℕ → ℕ → Frames → Command → ℕ → Played
played_of lengths window start at length Command.End next = Played.End
played_of lengths window start at length Command.EndLoop next = Played.EndLoop next
played_of lengths window start at length (Command.BeginLoop n) next = Played.BeginLoop (counter_of n) next
played_of lengths window start at length (Command.Length l note) next =
    Played.Length note (record { count = length_at lengths window l }) next
played_of lengths window start at length (Command.Note b) next =
    pick (eqb length.count 0) (Played.Refused NoLength at (address_at start at)) (Played.Note b next)

abbrev pub played_by : ℕ → (Command → ℕ → Played) → Decoded → Played
played_by start play (Ok (command, next)) = play command next
played_by start play (Err (refusal, place)) = Played.Refused refusal place (address_at start place)

-- what is played, if a test at an offset passes
abbrev pub played_unless : ℕ → ℕ → Result (Unit {0}) Refusal → Played → Played
played_unless start at (Ok passed) played = played
played_unless start at (Err refusal) played = Played.Refused refusal at (address_at start at)

-- BL tests 12, 13, then its next byte 15, 11; a lone note tests 11, then 14
unfoldable pub played_at : Source → ℕ → Frames → Played
played_at source at length =
    played_unless source.start at (length_fault source.lengths source.window (get_or source.bytes at 0))
    (played_by source.start (played_of source.lengths source.window source.start at length) (command_at source.kind source.bytes at))

-- the cursor of a channel's start: all 0
abbrev pub fresh_cursor : Cursor
fresh_cursor = record { next = 0; loop_start = 0; counter = 0; length = record { count = 0 } }

-- end of loop with a counter above 0: take one off and go to the byte after the last begin; else go on
abbrev pub loop_end : Cursor → ℕ → Cursor
loop_end cursor next =
    pick (eqb cursor.counter 0)
    (record { next = next; loop_start = cursor.loop_start; counter = cursor.counter; length = cursor.length })
    (record { next = cursor.loop_start; loop_start = cursor.loop_start; counter = cursor.counter - 1; length = cursor.length })

abbrev pub after_note : Cursor → Frames → ℕ → Cursor
after_note cursor length next = record { next = next; loop_start = cursor.loop_start; counter = cursor.counter; length = length }

abbrev pub step_by : Cursor → Played → Step
step_by cursor Played.End = Step.End
step_by cursor (Played.EndLoop next) = Step.Again (loop_end cursor next)
step_by cursor (Played.BeginLoop counter next) =
    Step.Again (record { next = next; loop_start = next; counter = counter; length = cursor.length })
step_by cursor (Played.Length b length next) = Step.Note b (after_note cursor length next)
step_by cursor (Played.Note b next) = Step.Note b (after_note cursor cursor.length next)
step_by cursor (Played.Refused refusal at address) = Step.Refused refusal at address

-- one command from a cursor
unfoldable pub step_of : Source → Cursor → Step
step_of source cursor = step_by cursor (played_at source cursor.next cursor.length)

-- a note counts and gives the cursor after it; the end counts, the refused command doesn't, and both leave the cursor at them
abbrev pub read_by : (Cursor → ℕ → Until) → Cursor → ℕ → Step → Until
read_by on cursor count (Step.Again next) = on next (count + 1)
read_by on cursor count (Step.Note b next) = record { stop = Stop.Note b; count = count + 1; cursor = next }
read_by on cursor count Step.End = record { stop = Stop.End; count = count + 1; cursor = cursor }
read_by on cursor count (Step.Refused refusal at address) =
    record { stop = Stop.Refused refusal at address; count = count; cursor = cursor }

-- commands until a note, end or fault, with those read before; never more of them than the fuel (proofs/channel/ReadBound.antt)
unfoldable pub read_from : Source → ℕ → Cursor → ℕ → Until
read_from source zero cursor count =
    record { stop = Stop.Refused PastData cursor.next (address_at source.start cursor.next); count = count; cursor = cursor }
read_from source (suc fuel) cursor count = read_by (read_from source fuel) cursor count (step_of source cursor)

-- two bytes make at most 257 commands, one may go back before the first begin, and one may be refused
abbrev pub fuel_of : ℕ → ℕ
fuel_of limit = limit / 2 * 257 + 2

unfoldable pub read_until : ℕ → Source → Cursor → Until
read_until limit source cursor = read_from source (fuel_of limit) cursor 0

abbrev pub told_stop : Stop → Told
told_stop (Stop.Note b) = record { number = 0; values = b ∷ [] }
told_stop Stop.End = record { number = 0; values = [] }
told_stop (Stop.Refused refusal at address) = record { number = number_of refusal; values = at ∷ address ∷ [] }

abbrev pub told_until : Until → Told
told_until until = record { number = (told_stop until.stop).number; values = until.count ∷ (told_stop until.stop).values }

-- Below: only private contracts and laws use these.

-- data cut at the limit
abbrev pub Limited : List ℕ → Type 0
Limited bytes = length bytes ≤ data_limit
