-- Document 02, No. 4, worked out by computation: the keys of a table with the words $0700, $01FB, $00FB and 0.
use Prim.Native.Nat.{ℕ}
use mathlib.Core.Bool.{false}
use mathlib.Core.List.{List, [], ◌∷◌, map}
use mathlib.Core.Path.{◌≡◌, refl}
use Rattle.std.specs.Prelude.{Some}
use Rattle.engine_base.specs.Bytes.{period_at}
use Rattle.engine_base.specs.Ctrl1.{combined}
use Rattle.metroid_format.specs.declared.command.Kind.TheVariants.{Melodic}
use Rattle.metroid_format.specs.declared.header.Track.{Track}
use Rattle.metroid_format.specs.declared.header.Voice.{Voice}
use Rattle.metroid_player.specs.Release.{release_of}
use Rattle.metroid_player.specs.Ctrl1.{ctrl1_at}
use Rattle.metroid_player.specs.Event.{envelope_of, melodic_rest, note_ctrl1, melodic_sound, sound_of}
use Rattle.metroid_player.specs.declared.record.Channel.{Channel}
use Rattle.metroid_player.specs.declared.event.Sound.{Sound}
use Rattle.metroid_player.specs.declared.event.Sound.TheVariants.{SquareRest, TriangleRest, Square, Triangle}
use Rattle.engine_base.specs.declared.release.Release.TheVariants.{After}

-- the table, then the envelope `04 02 FF`
abbrev bank : List ℕ
bank = 0x07 ∷ 0x00 ∷ 0x01 ∷ 0xfb ∷ 0x00 ∷ 0xfb ∷ 0x00 ∷ 0x00 ∷ 0x04 ∷ 0x02 ∷ 0xff ∷ []

-- a triangle is released after 5 quarter-frames
abbrev track : Track
track = record { window = 0; restart = false; release = 0x05; lengths = 0; periods = 0; presets = 0; voices = [] }

-- default ctrl 1 byte $B3
abbrev voice : Voice
voice = record { kind = Melodic; «data» = 0; envelope = Some 8; default = 0xb3 }

-- the first of six frames
abbrev sounding : ℕ → Channel
sounding b = record {
  next = 0;
  loop_start = 0;
  counter = 0;
  length = record { count = 6 };
  left = record { count = 6 };
  sounding = b;
}

-- keys 0 to 3 on the i-th channel
sounds : ℕ → List Sound
unfolding period_at combined release_of ctrl1_at envelope_of melodic_rest note_ctrl1 melodic_sound sound_of
sounds i = map (λ (b : ℕ). sound_of bank track i voice (sounding b)) (0x00 ∷ 0x02 ∷ 0x04 ∷ 0x06 ∷ [])

square : sounds 0 ≡ SquareRest 0x10 ∷ Square 1 0x01fb 0xb4 ∷ Square 2 0x00fb 0xb4 ∷ SquareRest 0x10 ∷ []
unfolding sounds
square = refl

triangle : sounds 2 ≡
    TriangleRest (After (record { count = 0 }))
    ∷ Triangle 1 0x01fb (After (record { count = 5 }))
    ∷ Triangle 2 0x00fb (After (record { count = 5 }))
    ∷ TriangleRest (After (record { count = 0 }))
    ∷ []
unfolding sounds
triangle = refl
