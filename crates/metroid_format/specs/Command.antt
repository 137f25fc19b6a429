-- Document 01, 'Bytes of a channel'.
use Rattle.std.specs.Prelude.{ℕ, Result, Ok, Err, ◌+◌, ◌*◌, ◌/◌, ◌%◌, Bool, true, false, List, [], ◌∷◌, leb, eqb, length, get_or}
use Rattle.engine_base.specs.Pick.{pick}
use Rattle.engine_base.specs.Told.{Told}
use Rattle.engine_base.specs.Refusal.{number_of}
use Rattle.engine_base.specs.declared.refusal.Refusal.{Refusal}
use Rattle.engine_base.specs.declared.refusal.Refusal.TheVariants.{InvalidCommand, InvalidNote, PastData}
use Rattle.metroid_format.specs.declared.command.Kind.{Kind}
use Rattle.metroid_format.specs.declared.command.Kind.TheVariants.{Melodic, Noise}
use Rattle.metroid_format.specs.declared.command.Command.{Command}
use Rattle.metroid_format.specs.declared.command.Command.TheVariants.{End, EndLoop, BeginLoop, Length, Note}

-- data runs for so many bytes at most
abbrev pub data_limit : ℕ
data_limit = 256

-- the command and the offset after it, or the refusal and the offset of the byte
abbrev pub Decoded : Type 0
Decoded = Result (Command × ℕ) (Refusal × ℕ)

-- the end of straight reading, or the refusal and the offset of the byte
abbrev pub Finish : Type 0
Finish = Result (Unit {0}) (Refusal × ℕ)

-- an even byte to $7E is key byte/2
unfoldable pub is_key : ℕ → Bool
is_key b = pick (eqb (b % 2) 0) (leb b 0x7e) false

-- 01 is the rest; 04, 07, 0A are presets
unfoldable pub is_preset : ℕ → Bool
is_preset b = pick (eqb b 0x01) true (pick (eqb b 0x04) true (pick (eqb b 0x07) true (eqb b 0x0a)))

abbrev pub is_note : Kind → ℕ → Bool
is_note Melodic b = is_key b
is_note Noise b = is_preset b

-- what stands directly after BL is a key or preset whatever it is
unfoldable pub note_after : Kind → List ℕ → ℕ → ℕ → Decoded
note_after kind bytes at length-index =
    pick (leb (length bytes) at) (Err (PastData, at))
    (pick (is_note kind (get_or bytes at 0)) (Ok (Length length-index (get_or bytes at 0), at + 1)) (Err (InvalidNote, at)))

-- the rule for a byte b at an offset, given what follows a BL there: the first that fits decides
unfoldable pub command_of : Kind → ℕ → ℕ → Decoded → Decoded
command_of kind at b after =
    pick (eqb b 0x00) (Ok (End, at + 1))
    (pick (eqb b 0xff) (Ok (EndLoop, at + 1))
    (pick (eqb (b / 64) 3) (Ok (BeginLoop (b % 64), at + 1))
    (pick (eqb (b / 16) 0x0b) after
    (pick (leb 0x80 b) (Err (InvalidCommand, at))
    (pick (is_note kind b) (Ok (Note b, at + 1)) (Err (InvalidNote, at)))))))

-- the command at an offset with the offset after it, or the refusal with the offset of the byte
unfoldable pub command_at : Kind → List ℕ → ℕ → Decoded
command_at kind bytes at =
    pick (leb (length bytes) at) (Err (PastData, at))
    (command_of kind at (get_or bytes at 0) (note_after kind bytes (at + 1) (get_or bytes at 0 % 16)))

-- a command's word: first byte low, second byte of BL high
abbrev pub word_of : Command → ℕ
word_of End = 0x00
word_of EndLoop = 0xff
word_of (BeginLoop n) = 0xc0 + n
word_of (Length l note) = 0xb0 + l + 256 * note
word_of (Note b) = b

abbrev pub is_end : Command → Bool
is_end End = true
is_end EndLoop = false
is_end (BeginLoop n) = false
is_end (Length l note) = false
is_end (Note b) = false

-- Below: only private contracts and laws use these.

abbrev pub told : Decoded → Told
told (Ok (c, next)) = record { number = 0; values = word_of c ∷ next ∷ [] }
told (Err (refusal, at)) = record { number = number_of refusal; values = at ∷ [] }
