-- Document 01, 'A frame': what the answer holds for each channel.
use Rattle.std.specs.Prelude.{ℕ, ◌+◌, ◌-◌, ◌/◌, ◌%◌, Bool, false, Option, Some, None, List, [], ◌∷◌, eqb, get_or, take, drop}
use Rattle.engine_base.specs.Pick.{pick}
use Rattle.metroid_format.specs.Bank.{periods_size, presets_size}
use Rattle.engine_base.specs.Envelope.{envelope_reach}
use Rattle.metroid_format.specs.declared.command.Kind.{Kind}
use Rattle.metroid_format.specs.declared.command.Kind.TheVariants.{Melodic, Noise as NoiseKind}
use Rattle.metroid_format.specs.declared.header.Voice.{Voice}
use Rattle.metroid_format.specs.declared.header.Track.{Track}
use Rattle.engine_base.specs.Release.{told_release}
use Rattle.metroid_player.specs.Release.{release_of}
use Rattle.engine_base.specs.Bytes.{period_at}
use Rattle.engine_base.specs.Ctrl1.{silent}
use Rattle.metroid_player.specs.Ctrl1.{ctrl1_at}
use Rattle.metroid_player.specs.declared.record.Channel.{Channel}
use Rattle.engine_base.specs.declared.release.Release.TheVariants.{After}
use Rattle.metroid_player.specs.declared.event.Sound.{Sound}
use Rattle.metroid_player.specs.declared.event.Sound.TheVariants.{Off, SquareRest, TriangleRest, NoiseRest, Square, Triangle, Noise}
use Rattle.metroid_player.specs.declared.event.Event.{Event}

abbrev pub off_event : Event
off_event = record { began = false; sound = Off }

-- document 02, No. 4: a key whose period word has low byte 0 is a rest
abbrev pub is_rest : ℕ → Bool
is_rest period = eqb (period % 256) 0

-- 01 is the rest
abbrev pub noise_rest : ℕ
noise_rest = 0x01

abbrev pub envelope_at : List ℕ → Option ℕ → List ℕ
envelope_at bank None = []
envelope_at bank (Some at) = take envelope_reach (drop at bank)

-- the bytes of a square's envelope, none where it has none
unfoldable pub envelope_of : List ℕ → Voice → List ℕ
envelope_of bank voice = envelope_at bank voice.envelope

-- the channels are square 1, square 2, triangle, noise
abbrev pub triangle_channel : ℕ
triangle_channel = 2

-- ctrl 1 $10 of a square, release 0 of a triangle
unfoldable pub melodic_rest : ℕ → Sound
melodic_rest i = pick (eqb i triangle_channel) (TriangleRest (After (record { count = 0 }))) (SquareRest silent)

-- the envelope's index is the length less the frames left, before the frame is taken off
unfoldable pub note_ctrl1 : List ℕ → Voice → Channel → ℕ
note_ctrl1 bank voice c = ctrl1_at voice.default (envelope_of bank voice) (c.length.count - c.left.count)

-- a rest; else key and period, and ctrl 1 of a square, release of a triangle
unfoldable pub melodic_sound : List ℕ → Track → ℕ → Voice → Channel → Sound
melodic_sound bank track i voice c =
    pick (is_rest period) (melodic_rest i)
    (pick (eqb i triangle_channel)
    (Triangle key period (release_of track.release c.length))
    (Square key period (note_ctrl1 bank voice c)))
  where
    key : ℕ
    key = c.sounding / 2

    period : ℕ
    period = period_at (take periods_size (drop track.periods bank)) key

-- three bytes at that offset in the preset table
unfoldable pub noise_sound : List ℕ → ℕ → Sound
noise_sound presets b =
    pick (eqb b noise_rest) NoiseRest (Noise (get_or presets b 0) (get_or presets (b + 1) 0) (get_or presets (b + 2) 0))

abbrev pub by_kind : Kind → Sound → Sound → Sound
by_kind Melodic melodic noise = melodic
by_kind NoiseKind melodic noise = noise

-- the sound of the i-th channel, whose record has the frame not yet taken off
unfoldable pub sound_of : List ℕ → Track → ℕ → Voice → Channel → Sound
sound_of bank track i voice c =
    by_kind voice.kind
    (melodic_sound bank track i voice c)
    (noise_sound (take presets_size (drop track.presets bank)) c.sounding)

abbrev pub event_of : List ℕ → Track → ℕ → Voice → Channel → Bool → Event
event_of bank track i voice c began = record { began = began; sound = sound_of bank track i voice c }

-- 0 off, 1 rest, 2 note; whether it began; then key, period and ctrl 1 or release, or the preset's bytes
abbrev pub told_event : Event → List ℕ
told_event e = told_sound (pick e.began 1 0) e.sound
  where
    told_sound : ℕ → Sound → List ℕ
    told_sound began Off = 0 ∷ 0 ∷ 0 ∷ 0 ∷ 0 ∷ []
    told_sound began (SquareRest ctrl1) = 1 ∷ began ∷ 0 ∷ 0 ∷ ctrl1 ∷ []
    told_sound began (TriangleRest release) = 1 ∷ began ∷ 0 ∷ 0 ∷ told_release release ∷ []
    told_sound began NoiseRest = 1 ∷ began ∷ 0 ∷ 0 ∷ 0 ∷ []
    told_sound began (Square key period ctrl1) = 2 ∷ began ∷ key ∷ period ∷ ctrl1 ∷ []
    told_sound began (Triangle key period release) = 2 ∷ began ∷ key ∷ period ∷ told_release release ∷ []
    told_sound began (Noise first second third) = 2 ∷ began ∷ first ∷ second ∷ third ∷ []
