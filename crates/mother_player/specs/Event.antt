-- Document 02, No. 3, and document 003, 'Notes and Rests': what the answer holds for each channel.
use Rattle.std.specs.Prelude.{ℕ, ◌+◌, ◌/◌, ◌%◌, Bool, false, List, [], ◌∷◌, eqb, get_or, drop}
use Rattle.engine_base.specs.Pick.{pick}
use Rattle.engine_base.specs.Address.{offset_of}
use Rattle.engine_base.specs.Bytes.{period_at}
use Rattle.engine_base.specs.Ctrl1.{silent}
use Rattle.engine_base.specs.Release.{told_release}
use Rattle.engine_base.specs.declared.release.Release.TheVariants.{After}
use Rattle.mother_format.specs.Transpose.{rest_key}
use Rattle.mother_format.specs.declared.bank.Places.{Places}
use Rattle.mother_format.specs.declared.command.Kind.{Kind}
use Rattle.mother_player.specs.Ctrl1.{note_ctrl1}
use Rattle.mother_player.specs.Release.{release_of}
use Rattle.mother_player.specs.declared.record.Channel.{Channel}
use Rattle.mother_player.specs.declared.event.Sound.{Sound}
use Rattle.mother_player.specs.declared.event.Sound.TheVariants.{Off, SquareRest, TriangleRest, NoiseRest, Square, Triangle, Noise}
use Rattle.mother_player.specs.declared.event.Event.{Event}

abbrev pub off_event : Event
off_event = record { began = false; sound = Off }

-- the table at an address, and what stands behind it
abbrev pub table_at : List ℕ → ℕ → List ℕ
table_at bank address = drop (offset_of address) bank

-- p of pppx xxxx names the pitch envelope
abbrev pub pitch_of : Channel → ℕ
pitch_of c = c.timbre / 32

-- the key is half of the sounding byte
abbrev pub key_of : Channel → ℕ
key_of c = c.sounding / 2

-- key, period, ctrl 1 and pitch envelope; a rest has ctrl 1 $10
unfoldable pub square_sound : List ℕ → Places → Channel → Sound
square_sound bank places c =
    pick (eqb c.sounding rest_key)
    (SquareRest silent (pitch_of c))
    (Square (key_of c) (period_at (table_at bank places.key_periods) (key_of c)) (note_ctrl1 bank places.envelope_addresses c) (pitch_of c))

-- key, period, release and pitch envelope; a rest has release 0
unfoldable pub triangle_sound : List ℕ → Places → Channel → Sound
triangle_sound bank places c =
    pick (eqb c.sounding rest_key)
    (TriangleRest (After (record { count = 0 })) (pitch_of c))
    (Triangle (key_of c) (period_at (table_at bank places.key_periods) (key_of c)) (release_of c.ctrl) (pitch_of c))

-- D of DDpp pppp: 1, 2, else 0
unfoldable pub dmc_of : ℕ → ℕ
dmc_of b = pick (eqb (b / 64) 1) 1 (pick (eqb (b / 64) 2) 2 0)

-- p of DDpp pppp is the rest, or an offset in the preset table, where three bytes stand
abbrev pub noise_rest : ℕ
noise_rest = 0x01

unfoldable pub noise_sound : List ℕ → ℕ → Sound
noise_sound presets b =
    pick (eqb (b % 64) noise_rest)
    (NoiseRest (dmc_of b))
    (Noise (get_or presets (b % 64) 0) (get_or presets (b % 64 + 1) 0) (get_or presets (b % 64 + 2) 0) (dmc_of b))

-- the sound of a channel whose record has the frame not yet taken off
abbrev pub sound_of : List ℕ → Places → Channel → Kind → Sound
sound_of bank places c Kind.Square = square_sound bank places c
sound_of bank places c Kind.Triangle = triangle_sound bank places c
sound_of bank places c Kind.Noise = noise_sound (table_at bank places.noise_presets) c.sounding

abbrev pub event_of : List ℕ → Places → Kind → Channel → Bool → Event
event_of bank places kind c began = record { began = began; sound = sound_of bank places c kind }

-- 0 off, 1 rest, 2 note; whether it began; then key, period, ctrl 1 or release and pitch envelope, or the preset's bytes and the DMC preset
abbrev pub told_event : Event → List ℕ
told_event e = told_sound (pick e.began 1 0) e.sound
  where
    told_sound : ℕ → Sound → List ℕ
    told_sound began Off = 0 ∷ 0 ∷ 0 ∷ 0 ∷ 0 ∷ 0 ∷ []
    told_sound began (SquareRest ctrl1 pitch) = 1 ∷ began ∷ 0 ∷ 0 ∷ ctrl1 ∷ pitch ∷ []
    told_sound began (TriangleRest release pitch) = 1 ∷ began ∷ 0 ∷ 0 ∷ told_release release ∷ pitch ∷ []
    told_sound began (NoiseRest dmc) = 1 ∷ began ∷ 0 ∷ 0 ∷ 0 ∷ dmc ∷ []
    told_sound began (Square key period ctrl1 pitch) = 2 ∷ began ∷ key ∷ period ∷ ctrl1 ∷ pitch ∷ []
    told_sound began (Triangle key period release pitch) = 2 ∷ began ∷ key ∷ period ∷ told_release release ∷ pitch ∷ []
    told_sound began (Noise first second third dmc) = 2 ∷ began ∷ first ∷ second ∷ third ∷ dmc ∷ []
