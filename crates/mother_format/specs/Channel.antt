-- Document 003, 'Channel Data Format', and document 02, No. 3: what a command of a block does, and where it leads.
use Rattle.std.specs.Prelude.{ℕ, ◌+◌, ◌-◌, ◌%◌, ◌≤◌, ◌<◌, List, [], ◌∷◌, ◌≡◌, leb, eqb, length, get_or, Option, Some, None, Result, Ok, Err}
use Rattle.engine_base.specs.Pick.{pick, all}
use Rattle.engine_base.specs.Told.{Told}
use Rattle.engine_base.specs.Address.{offset_of}
use Rattle.engine_base.specs.Loops.{counter_of}
use Rattle.engine_base.specs.Refusal.{number_of}
use Rattle.engine_base.specs.declared.refusal.Refusal.{Refusal}
use Rattle.engine_base.specs.declared.refusal.Refusal.TheVariants.{InvalidCommand, InvalidNote, PastLengths, ZeroLength, NoLength, PastData, OddTranspose}
use Rattle.engine_base.specs.declared.time.Frames.{Frames}
use Rattle.mother_format.specs.Bank.{banks, block_of, block_limit, lengths_size}
use Rattle.mother_format.specs.Transpose.{is_odd, transposed_of}
use Rattle.mother_format.specs.Envelope.{envelope_fault}
use Rattle.mother_format.specs.Command.{Decoded, rule_of, command_by}
use Rattle.mother_format.specs.declared.bank.Places.{Places}
use Rattle.mother_format.specs.declared.command.Kind.{Kind}
use Rattle.mother_format.specs.declared.command.Kind.TheVariants.{Square, Triangle, Noise}
use Rattle.mother_format.specs.declared.command.Rule.{Rule}
use Rattle.mother_format.specs.declared.command.Command.{Command}
use Rattle.mother_format.specs.declared.channel.Setting.{Setting}
use Rattle.mother_format.specs.declared.channel.Source.{Source as Lent}
use Rattle.mother_format.specs.declared.channel.Cursor.{Cursor}
use Rattle.mother_format.specs.declared.channel.Played.{Played}

-- what stays the same while a block is read: both banks, the places of their tables, the channel's kind, the block and its address
pub record Source : Type 0 where
  pub bank : List ℕ
  pub places : Places
  pub kind : Kind
  pub bytes : List ℕ
  pub start : ℕ

abbrev pub source_of : List ℕ → List ℕ → Places → Kind → List ℕ → ℕ → Source
source_of bank8 banka places kind bytes start =
    record { bank = banks bank8 banka; places = places; kind = kind; bytes = bytes; start = start }

abbrev pub block_source : List ℕ → List ℕ → Places → Kind → ℕ → Source
block_source bank8 banka places kind start = source_of bank8 banka places kind (block_of bank8 banka start) start

-- of a block as it is lent
abbrev pub of_block : Lent → Source
of_block s = block_source s.banks.bank8.now s.banks.banka.now s.places s.kind s.start

-- the address that a refusal names: 10 to 15 name the block's plus the offset
abbrev pub address_of : Refusal → ℕ → ℕ → ℕ
address_of refusal start at =
    pick (all (leb (number_of InvalidCommand) (number_of refusal) ∷ leb (number_of refusal) (number_of PastData) ∷ [])) (start + at) 0

-- a refusal at an offset
abbrev pub refused_at : ℕ → Refusal → ℕ → Played
refused_at start refusal at = Played.Refused refusal at (address_of refusal start at)

-- entry window + L
unfoldable pub length_at : List ℕ → ℕ → ℕ → ℕ → ℕ
length_at bank table window l = get_or bank (offset_of (table + (window + l))) 0

-- 12 or 13 of BL
unfoldable pub length_fault : List ℕ → ℕ → ℕ → ℕ → Result (Unit {0}) Refusal
length_fault bank table window l =
    pick (leb lengths_size (window + l)) (Err PastLengths)
    (pick (eqb (length_at bank table window l) 0) (Err ZeroLength) (Ok tt))

-- 6 or 7 of 9f: on a square x of pppx xxxx is an envelope
abbrev pub timbre_fault : List ℕ → ℕ → Kind → ℕ → Result (Unit {0}) Refusal
timbre_fault bank table Square x = envelope_fault bank table (x % 32)
timbre_fault bank table Triangle x = Ok tt
timbre_fault bank table Noise x = Ok tt

-- what is refused under a command's own offset before its last byte is looked at: BL tests 12, 13, and 9f 6, 7, if its second byte is there
abbrev pub early_fault : List ℕ → Places → Kind → List ℕ → ℕ → ℕ → Result Rule Refusal → Result (Unit {0}) Refusal
early_fault bank places kind bytes window at (Ok Rule.End) = Ok tt
early_fault bank places kind bytes window at (Ok Rule.Transpose) = Ok tt
early_fault bank places kind bytes window at (Ok Rule.Window) = Ok tt
early_fault bank places kind bytes window at (Ok Rule.EndLoop) = Ok tt
early_fault bank places kind bytes window at (Ok (Rule.Length l)) = length_fault bank places.note_lengths window l
early_fault bank places kind bytes window at (Ok (Rule.BeginLoop n)) = Ok tt
early_fault bank places kind bytes window at (Ok Rule.Timbre) =
    pick (leb (length bytes) (at + 1)) (Ok tt) (timbre_fault bank places.envelope_addresses kind (get_or bytes (at + 1) 0))
early_fault bank places kind bytes window at (Ok Rule.Note) = Ok tt
early_fault bank places kind bytes window at (Err refusal) = Ok tt

-- a key byte sounds transposed, a preset as it is
abbrev pub sounding_of : Kind → ℕ → ℕ → Option ℕ
sounding_of Square b transpose = transposed_of b transpose
sounding_of Triangle b transpose = transposed_of b transpose
sounding_of Noise b transpose = Some b

-- the note of BL, whose byte stands at an offset, tests 11
abbrev pub length_played : ℕ → ℕ → Frames → ℕ → Option ℕ → Played
length_played start at frames next (Some b) = Played.Length b frames next
length_played start at frames next None = refused_at start InvalidNote at

-- a lone note tests 11, then 14 (length 0: none yet)
abbrev pub note_played : ℕ → ℕ → Frames → ℕ → Option ℕ → Played
note_played start at frames next (Some b) =
    pick (eqb frames.count 0) (refused_at start NoLength at) (Played.Note b next)
note_played start at frames next None = refused_at start InvalidNote at

-- what a command at an offset does, given the offset after it; 9c tests 19
abbrev pub played_of : List ℕ → Places → Kind → ℕ → Setting → Frames → ℕ → Command → ℕ → Played
played_of bank places kind start setting frames at Command.End next = Played.End
played_of bank places kind start setting frames at (Command.Transpose m) next =
    pick (is_odd m) (refused_at start OddTranspose at) (Played.Transpose m next)
played_of bank places kind start setting frames at (Command.Window t) next = Played.Window t next
played_of bank places kind start setting frames at Command.EndLoop next = Played.EndLoop next
played_of bank places kind start setting frames at (Command.Length l b) next =
    length_played start (at + 1)
    (record { count = length_at bank places.note_lengths setting.window l }) next
    (sounding_of kind b setting.transpose)
played_of bank places kind start setting frames at (Command.BeginLoop n) next = Played.BeginLoop (counter_of n) next
played_of bank places kind start setting frames at (Command.Timbre x c) next = Played.Timbre x c next
played_of bank places kind start setting frames at (Command.Note b) next =
    note_played start at frames next (sounding_of kind b setting.transpose)

abbrev pub played_by : ℕ → (Command → ℕ → Played) → Decoded → Played
played_by start play (Ok (command, next)) = play command next
played_by start play (Err (refusal, offset)) = refused_at start refusal offset

-- what is played where nothing is refused before
abbrev pub unless_refused : ℕ → ℕ → Result (Unit {0}) Refusal → Played → Played
unless_refused start at (Ok passed) played = played
unless_refused start at (Err refusal) played = refused_at start refusal at

-- a command tests in this order: 12, 13 or 6, 7; then 10, 11, 15 of its bytes; then 19, 11 of a key out of range, 14
unfoldable pub played_rule : Source → Setting → Frames → ℕ → Result Rule Refusal → Played
played_rule source setting frames at rule =
    unless_refused source.start at (early_fault source.bank source.places source.kind source.bytes setting.window at rule)
    (played_by source.start
    (played_of source.bank source.places source.kind source.start setting frames at)
    (command_by source.kind source.bytes at rule))

-- what the command at an offset does, under the transpose and window in force and the channel's current length
unfoldable pub played_at : Source → Setting → Frames → ℕ → Played
played_at source setting frames at =
    pick (leb (length source.bytes) at) (refused_at source.start PastData at)
    (played_rule source setting frames at (rule_of source.kind (get_or source.bytes at 0)))

abbrev pub told_played : Played → Told
told_played Played.End = record { number = 0; values = [] }
told_played (Played.Transpose m next) = record { number = 0; values = m ∷ next ∷ [] }
told_played (Played.Window t next) = record { number = 0; values = t ∷ next ∷ [] }
told_played (Played.EndLoop next) = record { number = 0; values = next ∷ [] }
told_played (Played.BeginLoop counter next) = record { number = 0; values = counter ∷ next ∷ [] }
told_played (Played.Length b frames next) = record { number = 0; values = b ∷ frames.count ∷ next ∷ [] }
told_played (Played.Timbre x c next) = record { number = 0; values = x ∷ c ∷ next ∷ [] }
told_played (Played.Note b next) = record { number = 0; values = b ∷ next ∷ [] }
told_played (Played.Refused refusal at address) = record { number = number_of refusal; values = at ∷ address ∷ [] }

abbrev pub go_to : Cursor → ℕ → Cursor
go_to cursor next = record { next = next; loop_start = cursor.loop_start; counter = cursor.counter }

-- end of loop with a counter above 0: take one off and go to the byte after the last begin; else go on
abbrev pub loop_end : Cursor → ℕ → Cursor
loop_end cursor next =
    pick (eqb cursor.counter 0) (go_to cursor next)
    (record { next = cursor.loop_start; loop_start = cursor.loop_start; counter = cursor.counter - 1 })

-- the place in a block after a command; the end and a refusal leave it at them
abbrev pub moved_by : Cursor → Played → Cursor
moved_by cursor Played.End = cursor
moved_by cursor (Played.Transpose m next) = go_to cursor next
moved_by cursor (Played.Window t next) = go_to cursor next
moved_by cursor (Played.EndLoop next) = loop_end cursor next
moved_by cursor (Played.BeginLoop counter next) = record { next = next; loop_start = next; counter = counter }
moved_by cursor (Played.Length b frames next) = go_to cursor next
moved_by cursor (Played.Timbre x c next) = go_to cursor next
moved_by cursor (Played.Note b next) = go_to cursor next
moved_by cursor (Played.Refused refusal at address) = cursor

-- Below: only private contracts and laws use these.

-- an offset in a block, and the rule of the byte there
abbrev pub Sorts : Kind → List ℕ → ℕ → Result Rule Refusal → Type 0
Sorts kind bytes at rule = (at < length bytes) × (length bytes ≤ block_limit) × (rule ≡ rule_of kind (get_or bytes at 0))
