-- Document 003, 'Channel Data Format': its list, the first rule that fits.
use Rattle.std.specs.Prelude.{ℕ, ◌+◌, ◌/◌, ◌%◌, Bool, true, false, List, [], ◌∷◌, leb, ltb, eqb, length, get_or, Result, Ok, Err}
use Rattle.engine_base.specs.Pick.{pick}
use Rattle.engine_base.specs.Told.{Told}
use Rattle.engine_base.specs.Refusal.{number_of}
use Rattle.engine_base.specs.declared.refusal.Refusal.{Refusal}
use Rattle.engine_base.specs.declared.refusal.Refusal.TheVariants.{InvalidCommand, InvalidNote, PastData}
use Rattle.mother_format.specs.declared.command.Kind.{Kind}
use Rattle.mother_format.specs.declared.command.Kind.TheVariants.{Square, Triangle, Noise}
use Rattle.mother_format.specs.declared.command.Rule.{Rule}
use Rattle.mother_format.specs.declared.command.Command.{Command}

-- the command and the offset after it, or the refusal and the offset of the byte
abbrev pub Decoded : Type 0
Decoded = Result (Command × ℕ) (Refusal × ℕ)

-- kkkk kkk0
unfoldable pub is_key : ℕ → Bool
is_key b = eqb (b % 2) 0

abbrev pub one_of : ℕ → List ℕ → Bool
one_of n [] = false
one_of n (m ∷ ms) = pick (eqb n m) true (one_of n ms)

-- of DDpp pppp, p is the rest 1 or a preset
unfoldable pub is_preset : ℕ → Bool
is_preset b =
    one_of (b % 64)
    (0x01 ∷ 0x02 ∷ 0x04 ∷ 0x07 ∷ 0x0a ∷ 0x0d ∷ 0x10 ∷ 0x13 ∷ 0x16 ∷ 0x19 ∷ 0x1c ∷ [])

-- a byte that names a note or rest of the channel, under some transpose
abbrev pub is_note : Kind → ℕ → Bool
is_note Square b = is_key b
is_note Triangle b = is_key b
is_note Noise b = is_preset b

-- squares and triangle: 9f, then keys
unfoldable pub melodic_rule : ℕ → Result Rule Refusal
melodic_rule b =
    pick (eqb b 0x9f) (Ok Rule.Timbre)
    (pick (is_key b) (Ok Rule.Note)
    (pick (ltb b 0x80) (Err InvalidNote) (Err InvalidCommand)))

-- noise: presets, and no 9f
unfoldable pub noise_rule : ℕ → Result Rule Refusal
noise_rule b =
    pick (eqb b 0x9f) (Err InvalidCommand)
    (pick (is_preset b) (Ok Rule.Note) (Err InvalidNote))

abbrev pub own_rule : Kind → ℕ → Result Rule Refusal
own_rule Square b = melodic_rule b
own_rule Triangle b = melodic_rule b
own_rule Noise b = noise_rule b

-- the rule for a byte where a command stands, or 10 or 11
unfoldable pub rule_of : Kind → ℕ → Result Rule Refusal
rule_of kind b =
    pick (eqb b 0x00) (Ok Rule.End)
    (pick (eqb b 0x9c) (Ok Rule.Transpose)
    (pick (eqb b 0x9e) (Ok Rule.Window)
    (pick (eqb b 0xff) (Ok Rule.EndLoop)
    (pick (eqb (b / 16) 0x0b) (Ok (Rule.Length (b % 16)))
    (pick (eqb (b / 64) 3) (Ok (Rule.BeginLoop (b % 64)))
    (own_rule kind b))))))

-- a byte that a command needs, or 15
abbrev pub needed : {A : Type 0} → List ℕ → ℕ → (ℕ → Result A (Refusal × ℕ)) → Result A (Refusal × ℕ)
needed bytes at go = pick (leb (length bytes) at) (Err (PastData, at)) (go (get_or bytes at 0))

-- what stands directly after BL is a key byte or preset whatever it is
unfoldable pub note_after : Kind → List ℕ → ℕ → ℕ → Decoded
note_after kind bytes at l =
    needed bytes at (λ b. pick (is_note kind b) (Ok (Command.Length l b, at + 1)) (Err (InvalidNote, at)))

unfoldable pub timbre_after : List ℕ → ℕ → Decoded
timbre_after bytes at = needed bytes at (λ x. needed bytes (at + 1) (λ c. Ok (Command.Timbre x c, at + 1 + 1)))

-- the command whose first byte stands at an offset and has a rule, or is refused
abbrev pub command_by : Kind → List ℕ → ℕ → Result Rule Refusal → Decoded
command_by kind bytes at (Ok Rule.End) = Ok (Command.End, at + 1)
command_by kind bytes at (Ok Rule.Transpose) = needed bytes (at + 1) (λ m. Ok (Command.Transpose m, at + 1 + 1))
command_by kind bytes at (Ok Rule.Window) = needed bytes (at + 1) (λ t. Ok (Command.Window t, at + 1 + 1))
command_by kind bytes at (Ok Rule.EndLoop) = Ok (Command.EndLoop, at + 1)
command_by kind bytes at (Ok (Rule.Length l)) = note_after kind bytes (at + 1) l
command_by kind bytes at (Ok (Rule.BeginLoop n)) = Ok (Command.BeginLoop n, at + 1)
command_by kind bytes at (Ok Rule.Timbre) = timbre_after bytes (at + 1)
command_by kind bytes at (Ok Rule.Note) = Ok (Command.Note (get_or bytes at 0), at + 1)
command_by kind bytes at (Err refusal) = Err (refusal, at)

-- the command at an offset with the offset after it, or the refusal with the offset of the byte
unfoldable pub command_at : Kind → List ℕ → ℕ → Decoded
command_at kind bytes at = needed bytes at (λ b. command_by kind bytes at (rule_of kind b))

-- a command's bytes
abbrev pub bytes_of : Command → List ℕ
bytes_of Command.End = 0x00 ∷ []
bytes_of (Command.Transpose m) = 0x9c ∷ m ∷ []
bytes_of (Command.Window t) = 0x9e ∷ t ∷ []
bytes_of Command.EndLoop = 0xff ∷ []
bytes_of (Command.Length l b) = (0xb0 + l) ∷ b ∷ []
bytes_of (Command.BeginLoop n) = (0xc0 + n) ∷ []
bytes_of (Command.Timbre x c) = 0x9f ∷ x ∷ c ∷ []
bytes_of (Command.Note b) = b ∷ []

abbrev pub told : Decoded → Told
told (Ok (c, next)) = record { number = 0; values = next ∷ bytes_of c }
told (Err (refusal, at)) = record { number = number_of refusal; values = at ∷ [] }
