-- Document 003's own examples, by computation: a header, playlists, blocks, lengths, and keys under a transpose.
use Prim.Native.Nat.{ℕ, zero, suc, ◌-◌}
use mathlib.Core.Bool.{true, false}
use mathlib.Core.List.{List, [], ◌∷◌, map}
use mathlib.Core.Path.{◌≡◌, refl}
use lib.IntN.{pos, negsuc}
use Rattle.engine_base.specs.Address.{bank_start, within}
use Rattle.engine_base.specs.Bytes.{word_at}
use Rattle.mother_format.specs.Bank.{published}
use Rattle.mother_format.specs.Transpose.{amount_of, is_odd, transposed_of}
use Rattle.mother_format.specs.Header.{is_unused, address_fits, addresses_fit, all_unused, header_number, voice_of, voices_of, track_of}
use Rattle.mother_format.specs.Playlist.{goto_at, entry_at}
use Rattle.mother_format.specs.Command.{is_key, is_preset, melodic_rule, noise_rule, rule_of, note_after, timbre_after, command_at, bytes_of}
use Rattle.mother_format.specs.Straight.{Finish, Placed, straight_from, straight}
use Rattle.mother_format.specs.Channel.{length_at, length_fault}
use Rattle.mother_format.specs.declared.bank.Tracks.TheVariants.{Low}
use Rattle.mother_format.specs.declared.command.Kind.{Kind}
use Rattle.mother_format.specs.declared.command.Kind.TheVariants.{Square, Triangle, Noise}
use Rattle.mother_format.specs.declared.header.Voice.{Voice}
use Rattle.mother_format.specs.declared.header.Track.{Track}
use Rattle.mother_format.specs.declared.playlist.Entry.{Entry}
use Rattle.mother_format.specs.declared.playlist.Entry.TheVariants.{End, Goto, Block}
use Rattle.std.specs.Prelude.{Option, Some, None, Result, Ok, Err}
use Rattle.engine_base.specs.declared.refusal.Refusal.{Refusal}
use Rattle.engine_base.specs.declared.refusal.Refusal.TheVariants.{InvalidCommand, InvalidNote, PastLengths, ZeroLength, PastData, BadPlaylist}

abbrev zeros : ℕ → List ℕ → List ℕ
zeros zero rest = rest
zeros (suc n) rest = 0 ∷ zeros n rest

-- banks with nothing but these bytes at an address
abbrev bank_with : ℕ → List ℕ → List ℕ
bank_with address bytes = zeros (address - bank_start) bytes

-- 'Track Header Format': 81 0C 8F 99 97 99 9F 99 A7 99
abbrev header : List ℕ
header = 0x81 ∷ 0x0c ∷ 0x8f ∷ 0x99 ∷ 0x97 ∷ 0x99 ∷ 0x9f ∷ 0x99 ∷ 0xa7 ∷ 0x99 ∷ []

abbrev playing : Kind → ℕ → Option Voice
playing kind list = Some (record { kind = kind; list = list })

abbrev track : Track
track = record {
  transpose = 0x81;
  window = 0x0c;
  voices = playing Square 0x998f ∷ playing Square 0x9997 ∷ playing Triangle 0x999f ∷ playing Noise 0x99a7 ∷ [];
}

header_right : (header_number header 0 ≡ Ok tt) × (track_of header 0 ≡ track)
unfolding within word_at amount_of is_odd is_unused address_fits addresses_fit all_unused header_number voice_of voices_of track_of
header_right = (refl, refl)

-- 81, 8D and 83 mean -2, -$e and -4 (`negsuc m` is -1 - m)
amounts_right : map amount_of (0x81 ∷ 0x8d ∷ 0x83 ∷ 0x24 ∷ []) ≡ negsuc 0x01 ∷ negsuc 0x0d ∷ negsuc 0x03 ∷ pos 0x24 ∷ []
unfolding amount_of
amounts_right = refl

odd_right : map is_odd (0x81 ∷ 0x8d ∷ 0x80 ∷ 0x01 ∷ []) ≡ false ∷ false ∷ true ∷ true ∷ []
unfolding amount_of is_odd
odd_right = refl

-- after 9C 83 a 06 resolves to a rest; a rest is not transposed; 00 and $86 fall out of the table
transposed_right : map (λ b. transposed_of b 0x83) (0x06 ∷ 0x02 ∷ 0x08 ∷ 0x00 ∷ 0x88 ∷ 0x8a ∷ []) ≡
    Some 0x02 ∷ Some 0x02 ∷ Some 0x04 ∷ None ∷ Some 0x84 ∷ None ∷ []
unfolding amount_of transposed_of
transposed_right = refl

-- 'Block Playlist Format': square 1 at $b0f8, square 2 at $b100, the triangle behind them
abbrev lists : List ℕ
lists =
    bank_with 0xb0f8
    (0x0c ∷ 0xb1 ∷ 0x15 ∷ 0xb1 ∷ 0xff ∷ 0xff ∷ 0x02 ∷ 0xb1
    ∷ 0x12 ∷ 0xb1 ∷ 0x1f ∷ 0xb1 ∷ 0xff ∷ 0xff ∷ 0x02 ∷ 0xb1
    ∷ 0x2f ∷ 0xb1 ∷ 0x00 ∷ 0x00 ∷ [])

lists_right : map (λ list. entry_at lists list 0 false) (0xb0f8 ∷ 0xb0fa ∷ 0xb0fc ∷ 0xb100 ∷ 0xb102 ∷ 0xb104 ∷ 0xb108 ∷ 0xb10a ∷ []) ≡
    map Ok
    (Block 0xb10c 0xb0fa ∷ Block 0xb115 0xb0fc ∷ Goto 0xb102
    ∷ Block 0xb112 0xb102 ∷ Block 0xb11f 0xb104 ∷ Goto 0xb102
    ∷ Block 0xb12f 0xb10a ∷ End ∷ [])
unfolding within word_at goto_at entry_at
lists_right = refl

abbrev refused : Result Entry Refusal
refused = Err BadPlaylist

-- a goto that a goto leads to, a 257th block word in a row, words outside the banks, and ends and gotos by their high byte alone
edges-right :
    (entry_at lists 0xb0fc 0 true ∷ entry_at lists 0xb0f8 255 true ∷ entry_at lists 0xb0f8 256 false ∷ entry_at lists 0xbfff 0 false
    ∷ entry_at (bank_with 0x9fff (0x34 ∷ 0x00 ∷ [])) 0x9fff 0 false ∷ entry_at (bank_with 0x9fff (0x34 ∷ 0xff ∷ 0xff ∷ 0xbf ∷ [])) 0x9fff 0 false
    ∷ entry_at (bank_with 0x8000 (0x00 ∷ 0xff ∷ 0x00 ∷ 0xc0 ∷ [])) 0x8000 0 false ∷ entry_at (bank_with 0x8000 (0xff ∷ 0x7f ∷ [])) 0x8000 0 false
    ∷ []) ≡
    refused ∷ Ok (Block 0xb10c 0xb0fa) ∷ refused ∷ refused ∷ Ok End ∷ Ok (Goto 0xbfff) ∷ refused ∷ refused ∷ []
unfolding within word_at goto_at entry_at
edges-right = refl

-- a block, the bytes of its commands with their offsets, and its finish
record Example : Type 0 where
  kind : Kind
  block : List ℕ
  commands : List (ℕ × List ℕ)
  finish : Finish

abbrev example : Kind → List ℕ → List (ℕ × List ℕ) → Finish → Example
example k b c f = record { kind = k; block = b; commands = c; finish = f }

abbrev expected : Example → List (ℕ × List ℕ) × Finish
expected e = (e.commands, e.finish)

abbrev found : Example → List (ℕ × List ℕ) × Finish
found e =
    let s = straight e.kind e.block in
    (map (λ (c : Placed). (c.at, bytes_of c.command)) s.commands, s.finish)

-- 'Channel Data', Examples, each with a 00 behind it; then what stops the reading
examples : List Example
examples =
    example Square (0x9f ∷ 0xb3 ∷ 0x31 ∷ 0xd2 ∷ 0xb2 ∷ 0x1a ∷ 0x1a ∷ 0x1a ∷ 0xb1 ∷ 0x1a ∷ 0x1c ∷ 0xff ∷ 0x00 ∷ [])
    ((0, 0x9f ∷ 0xb3 ∷ 0x31 ∷ []) ∷ (3, 0xd2 ∷ []) ∷ (4, 0xb2 ∷ 0x1a ∷ []) ∷ (6, 0x1a ∷ []) ∷ (7, 0x1a ∷ []) ∷ (8, 0xb1 ∷ 0x1a ∷ []) ∷ (10, 0x1c ∷ []) ∷ (11, 0xff ∷ []) ∷ [])
    (Ok 12)
    ∷ example Triangle (0x9f ∷ 0xa0 ∷ 0x00 ∷ 0xb7 ∷ 0x24 ∷ 0xb0 ∷ 0x02 ∷ 0x00 ∷ [])
    ((0, 0x9f ∷ 0xa0 ∷ 0x00 ∷ []) ∷ (3, 0xb7 ∷ 0x24 ∷ []) ∷ (5, 0xb0 ∷ 0x02 ∷ []) ∷ [])
    (Ok 7)
    ∷ example Noise (0xd4 ∷ 0xb2 ∷ 0x41 ∷ 0x44 ∷ 0x41 ∷ 0x07 ∷ 0xff ∷ 0x00 ∷ [])
    ((0, 0xd4 ∷ []) ∷ (1, 0xb2 ∷ 0x41 ∷ []) ∷ (3, 0x44 ∷ []) ∷ (4, 0x41 ∷ []) ∷ (5, 0x07 ∷ []) ∷ (6, 0xff ∷ []) ∷ [])
    (Ok 7)
    ∷ example Square (0x9c ∷ 0x8d ∷ 0x00 ∷ []) ((0, 0x9c ∷ 0x8d ∷ []) ∷ []) (Ok 2)
    -- directly after BL a 00 is a key, and an odd byte none; an odd transpose and a key out of range are read on
    ∷ example Square (0xb0 ∷ 0x00 ∷ 0x9c ∷ 0x80 ∷ 0xae ∷ 0xb0 ∷ 0x81 ∷ 0x00 ∷ [])
    ((0, 0xb0 ∷ 0x00 ∷ []) ∷ (2, 0x9c ∷ 0x80 ∷ []) ∷ (4, 0xae ∷ []) ∷ [])
    (Err (InvalidNote, 6))
    ∷ example Square (0x9e ∷ 0x18 ∷ 0xa1 ∷ []) ((0, 0x9e ∷ 0x18 ∷ []) ∷ []) (Err (InvalidCommand, 2))
    ∷ example Triangle (0x03 ∷ []) [] (Err (InvalidNote, 0))
    ∷ example Noise (0xb0 ∷ 0x9c ∷ 0x9f ∷ []) ((0, 0xb0 ∷ 0x9c ∷ []) ∷ []) (Err (InvalidCommand, 2))
    ∷ example Noise (0x03 ∷ []) [] (Err (InvalidNote, 0))
    ∷ example Triangle (0x9f ∷ 0x0a ∷ []) [] (Err (PastData, 2))
    ∷ []

examples_right : map found examples ≡ map expected examples
unfolding examples is_key is_preset melodic_rule noise_rule rule_of note_after timbre_after command_at straight_from
examples_right = refl

-- 'Time and Tempo': the master table
abbrev lengths : List ℕ
lengths =
    4 ∷ 8 ∷ 16 ∷ 32 ∷ 64 ∷ 24 ∷ 48 ∷ 12 ∷ 10 ∷ 5 ∷ 2 ∷ 1 ∷ 5 ∷ 10 ∷ 20 ∷ 40
    ∷ 80 ∷ 30 ∷ 60 ∷ 15 ∷ 12 ∷ 6 ∷ 3 ∷ 2 ∷ 6 ∷ 12 ∷ 24 ∷ 48 ∷ 96 ∷ 36 ∷ 72 ∷ 18
    ∷ 16 ∷ 8 ∷ 3 ∷ 1 ∷ 4 ∷ 2 ∷ 0 ∷ 144 ∷ 7 ∷ 14 ∷ 28 ∷ 56 ∷ 112 ∷ 42 ∷ 84 ∷ 21
    ∷ 18 ∷ 9 ∷ 3 ∷ 1 ∷ 2 ∷ 8 ∷ 16 ∷ 32 ∷ 64 ∷ 128 ∷ 48 ∷ 96 ∷ 24 ∷ 21 ∷ 10 ∷ 4
    ∷ 1 ∷ 2 ∷ 192 ∷ 9 ∷ 18 ∷ 36 ∷ 72 ∷ 144 ∷ 54 ∷ 108 ∷ 27 ∷ 24 ∷ 10 ∷ 20 ∷ 40 ∷ 80
    ∷ 160 ∷ 60 ∷ 120 ∷ 30 ∷ 26 ∷ 13 ∷ 5 ∷ 1 ∷ 2 ∷ 23 ∷ 11 ∷ 22 ∷ 44 ∷ 88 ∷ 176 ∷ 66
    ∷ 132 ∷ 33 ∷ 29 ∷ 14 ∷ 5 ∷ 1 ∷ 2 ∷ 23 ∷ []

abbrev table : ℕ
table = (published Low).note_lengths

abbrev timed : ℕ × ℕ → Result (Unit {0}) Refusal × ℕ
timed (window, l) = (length_fault (bank_with table lengths) table window l, length_at (bank_with table lengths) table window l)

-- of the blocks above at +4c, and at +28 and +18; then entry 103, the one behind it, and a length of 0
lengths_right : map timed ((0x4c, 2) ∷ (0x4c, 1) ∷ (0x4c, 7) ∷ (0x4c, 0) ∷ (0x28, 3) ∷ (0x18, 3) ∷ (0x18, 1) ∷ (0x5a, 13) ∷ (0x5a, 14) ∷ (0x18, 14) ∷ []) ≡
    (Ok tt, 40) ∷ (Ok tt, 20) ∷ (Ok tt, 30) ∷ (Ok tt, 10) ∷ (Ok tt, 56) ∷ (Ok tt, 48) ∷ (Ok tt, 12) ∷ (Ok tt, 23) ∷ (Err PastLengths, 0) ∷ (Err ZeroLength, 0) ∷ []
unfolding length_at length_fault
lengths_right = refl
