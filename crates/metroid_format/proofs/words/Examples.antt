-- Worked examples of straight reading and writing, by computation.
use Prim.Native.Nat.{ℕ}
use mathlib.Core.List.{List, [], ◌∷◌, map}
use mathlib.Core.Path.{◌≡◌, refl}
use Rattle.metroid_format.specs.Command.{is_key, is_preset, note_after, command_of, command_at, data_limit}
use Rattle.metroid_format.specs.Words.{straight_from, read_words, words_left, told_reading, command_of_word, encoded, write_words, bytes_left, told_writing, up_to_end}
use Rattle.metroid_format.specs.declared.command.Kind.{Kind}
use Rattle.metroid_format.specs.declared.command.Kind.TheVariants.{Melodic, Noise}
use lib.ListN.{length}

-- a call on a buffer, the number and values it answers, and the buffer afterwards
record Example : Type 0 where
  kind : Kind
  given : List ℕ
  buffer : List ℕ
  number : ℕ
  values : List ℕ
  after : List ℕ

abbrev example : Kind → List ℕ → List ℕ → ℕ → List ℕ → List ℕ → Example
example k g b n v a = record { kind = k; given = g; buffer = b; number = n; values = v; after = a }

abbrev told : Example → ℕ × List ℕ × List ℕ
told e = (e.number, e.values, e.after)

abbrev read : Example → ℕ × List ℕ × List ℕ
read e =
    let t = told_reading (read_words data_limit e.kind e.given (length e.buffer)) in
    (t.number, t.values, words_left data_limit e.kind e.given e.buffer)

abbrev written : Example → ℕ × List ℕ × List ℕ
written e =
    let t = told_writing (write_words data_limit e.kind e.given (length e.buffer)) in
    (t.number, t.values, bytes_left data_limit e.kind e.given e.buffer)

readings : List Example
readings =
    example Melodic (0xb0 ∷ 0x2a ∷ 0x00 ∷ []) (7 ∷ 7 ∷ 7 ∷ []) 0 (2 ∷ []) (0x2ab0 ∷ 0x0000 ∷ 7 ∷ [])
    ∷ example Melodic (0xc3 ∷ 0xb0 ∷ 0x2a ∷ 0x02 ∷ 0xff ∷ 0x00 ∷ []) (7 ∷ 7 ∷ 7 ∷ 7 ∷ 7 ∷ []) 0 (5 ∷ []) (0x00c3 ∷ 0x2ab0 ∷ 0x0002 ∷ 0x00ff ∷ 0x0000 ∷ [])
    -- directly after BL, 00 is key 0
    ∷ example Melodic (0xb0 ∷ 0x00 ∷ 0x00 ∷ 0x11 ∷ []) (7 ∷ 7 ∷ []) 0 (2 ∷ []) (0x00b0 ∷ 0x0000 ∷ [])
    ∷ example Noise (0xb1 ∷ 0x0a ∷ 0x07 ∷ 0x01 ∷ 0x00 ∷ []) (7 ∷ 7 ∷ 7 ∷ 7 ∷ []) 0 (4 ∷ []) (0x0ab1 ∷ 0x0007 ∷ 0x0001 ∷ 0x0000 ∷ [])
    ∷ example Noise (0xb0 ∷ 0x00 ∷ 0x00 ∷ []) (7 ∷ []) 11 (1 ∷ []) (7 ∷ [])
    ∷ example Melodic (0xb0 ∷ 0x81 ∷ []) (7 ∷ []) 11 (1 ∷ []) (7 ∷ [])
    ∷ example Melodic (0xb0 ∷ 0x2a ∷ 0xa0 ∷ []) (7 ∷ []) 10 (2 ∷ []) (7 ∷ [])
    ∷ example Melodic (0xb0 ∷ []) (7 ∷ []) 15 (1 ∷ []) (7 ∷ [])
    ∷ example Melodic [] (7 ∷ []) 15 (0 ∷ []) (7 ∷ [])
    -- the second word exceeds the room, but a refusal at the command itself comes first
    ∷ example Melodic (0xb0 ∷ 0x2a ∷ 0x02 ∷ 0xa0 ∷ []) (7 ∷ []) 18 [] (7 ∷ [])
    ∷ example Melodic (0x00 ∷ []) [] 18 [] []
    ∷ []

writings : List Example
writings =
    example Melodic (0x2ab0 ∷ 0x0002 ∷ 0x0000 ∷ []) (7 ∷ 7 ∷ 7 ∷ 7 ∷ 7 ∷ []) 0 (4 ∷ []) (0xb0 ∷ 0x2a ∷ 0x02 ∷ 0x00 ∷ 7 ∷ [])
    ∷ example Melodic (0x00b0 ∷ 0x0000 ∷ []) (7 ∷ 7 ∷ 7 ∷ []) 0 (3 ∷ []) (0xb0 ∷ 0x00 ∷ 0x00 ∷ [])
    ∷ example Melodic (0x2ab0 ∷ 0x0000 ∷ []) (7 ∷ 7 ∷ []) 18 [] (7 ∷ 7 ∷ [])
    ∷ example Melodic [] (7 ∷ []) 17 [] (7 ∷ [])
    ∷ example Melodic (0x0002 ∷ []) (7 ∷ []) 17 [] (7 ∷ [])
    ∷ example Melodic (0x0000 ∷ 0x0000 ∷ []) (7 ∷ 7 ∷ []) 17 [] (7 ∷ 7 ∷ [])
    ∷ example Melodic (0x0102 ∷ 0x0000 ∷ []) [] 17 [] []
    ∷ example Noise (0x00b0 ∷ 0x0000 ∷ []) (7 ∷ 7 ∷ 7 ∷ []) 17 [] (7 ∷ 7 ∷ 7 ∷ [])
    ∷ []

readings_right : map read readings ≡ map told readings
unfolding readings is_key is_preset note_after command_of command_at straight_from read_words words_left
readings_right = refl

writings_right : map written writings ≡ map told writings
unfolding writings is_key is_preset note_after command_of command_at command_of_word encoded write_words bytes_left
writings_right = refl

-- directly after BL, 00 is no end
up_to_end_lem : up_to_end Melodic (0xb0 ∷ 0x00 ∷ 0x2a ∷ 0x00 ∷ 0x11 ∷ []) ≡ 0xb0 ∷ 0x00 ∷ 0x2a ∷ 0x00 ∷ []
unfolding is_key is_preset note_after command_of command_at straight_from up_to_end
up_to_end_lem = refl
