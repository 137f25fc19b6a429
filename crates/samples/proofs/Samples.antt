-- Document 01, 'Sample tracks': those marked (*), of the definitions, by computation.
use Prim.Native.Nat.{ℕ, zero, suc, ◌+◌, ◌-◌, ◌*◌, ◌/◌, ◌%◌}
use mathlib.Core.List.{List, [], ◌∷◌, ◌++◌, map, flat_map}
use mathlib.Core.Path.{◌≡◌, refl, ap₂}
use lib.ListN.{length, get_or, take, drop}
use Rattle.engine_base.specs.Told.{Told}
use Rattle.engine_base.specs.Refusal.{number_of as number}
use Rattle.engine_base.specs.declared.refusal.Refusal.{Refusal}
use Rattle.engine_base.specs.declared.refusal.Refusal.TheVariants.{InvalidCommand, InvalidNote, PastLengths, NoLength, PastData}
use Rattle.metroid_format.specs.Command.{is_key, is_preset, note_after, command_of, command_at}
use Rattle.engine_base.specs.Address.{bank_start, bank_end, within}
use Rattle.metroid_format.specs.Bank.{published}
use Rattle.engine_base.specs.Bytes.{word_at, period_at}
use Rattle.engine_base.specs.Envelope.{envelope_address, envelope_ends}
use Rattle.engine_base.specs.Loops.{counter_of}
use Rattle.metroid_format.specs.Header.{
  header_size,
  tables_fit,
  places_fit,
  header_address,
  header_of,
  window_fits,
  envelope_numbers_fit,
  square_ends,
  squares_end,
  address_fits,
  addresses_fit,
  all_unused,
  header_number,
  number_of,
  voice_of,
  voices_of,
  track_of,
  open_track,
}
use Rattle.metroid_format.specs.declared.bank.Places.{Places}
use Rattle.metroid_format.specs.Channel.{length_fault, played_at, step_of, read_from, read_until}
use Rattle.metroid_format.specs.Timeline.{passed_of, pass_from, timeline_of, soonest_from}
use Rattle.engine_base.specs.Release.{dynamic}
use Rattle.metroid_player.specs.Release.{release_of}
use Rattle.engine_base.specs.Ctrl1.{default_ctrl1, combined}
use Rattle.metroid_player.specs.Ctrl1.{ctrl1_at}
use Rattle.metroid_player.specs.Record.{sound_fits, channel_fits, record_fits}
use Rattle.metroid_player.specs.Event.{envelope_of, melodic_rest, note_ctrl1, melodic_sound, noise_sound, sound_of}
use Rattle.metroid_player.specs.Frame.{turn_of, settle_from, frame_of_track, frame_of, start_of, told_framed}
use Rattle.metroid_player.specs.declared.frame.Framed.{Framed}
use Rattle.metroid_check.specs.Run.{frames_from, run_of}
use Rattle.metroid_check.specs.Verdict.{verdict_of, told_verdict}

-- bytes at an address
record Piece : Type 0 where
  at : ℕ
  bytes : List ℕ

abbrev piece : ℕ → List ℕ → Piece
piece at bytes = record { at = at; bytes = bytes }

-- so many zeros, then the rest
abbrev zeros : ℕ → List ℕ → List ℕ
zeros zero rest = rest
zeros (suc n) rest = 0 ∷ zeros n rest

-- pieces in order of address from here on, zeros between them and after the last (where two overlap the bank comes out too long)
abbrev filled : ℕ → List Piece → List ℕ
filled here [] = zeros (bank_end - here) []
filled here (p ∷ ps) = zeros (p.at - here) (p.bytes ++ filled (p.at + length p.bytes) ps)

-- the published table of note lengths
abbrev lengths : List ℕ
lengths =
    4 ∷ 8 ∷ 16 ∷ 32 ∷ 64 ∷ 24 ∷ 48 ∷ 12 ∷ 11 ∷ 5 ∷ 2 ∷ 6 ∷ 12 ∷ 24 ∷ 48 ∷ 96
    ∷ 36 ∷ 72 ∷ 18 ∷ 16 ∷ 8 ∷ 3 ∷ 16 ∷ 7 ∷ 14 ∷ 28 ∷ 56 ∷ 112 ∷ 42 ∷ 84 ∷ 21 ∷ 18
    ∷ 2 ∷ 3 ∷ 32 ∷ 252 ∷ 179 ∷ 173 ∷ 77 ∷ 6 ∷ []

abbrev word : ℕ → List ℕ
word n = n % 256 ∷ n / 256 ∷ []

-- window, square 1's envelope number, and the addresses of square 1, triangle and noise; no restart, dynamic release
abbrev header : ℕ → ℕ → ℕ → ℕ → ℕ → List ℕ
header window envelope square1 triangle noise =
    window ∷ 0 ∷ 0 ∷ envelope ∷ 0 ∷ (word square1 ++ (word 0 ++ (word triangle ++ word noise)))

-- what a track puts into the bank: channel data, its header, and the byte at $bfff
record Contents : Type 0 where
  channels : List Piece
  head : List ℕ
  last : ℕ

abbrev contents : List Piece → List ℕ → ℕ → Contents
contents channels head last = record { channels = channels; head = head; last = last }

-- where a track has room for a channel's data, and for another's
abbrev room : ℕ → ℕ
room track = bank_start + 32 * track

abbrev room' : ℕ → ℕ
room' track = room track + 16

-- one channel
abbrev square : List ℕ → ℕ → Contents
square bytes track = contents (piece (room track) bytes ∷ []) (header 0x0b 1 (room track) 0 0) 0

abbrev triangle_in : ℕ → List ℕ → ℕ → Contents
triangle_in window bytes track = contents (piece (room track) bytes ∷ []) (header window 0 0 (room track) 0) 0

abbrev triangle : List ℕ → ℕ → Contents
triangle bytes track = triangle_in 0x0b bytes track

-- one byte of triangle data, at $bfff
abbrev last_byte : ℕ → ℕ → Contents
last_byte b track = contents [] (header 0x0b 0 0 0xbfff 0) b

-- square 1 and triangle, triangle and noise
abbrev with_square : List ℕ → List ℕ → ℕ → Contents
with_square square1 bytes track =
    contents (piece (room track) square1 ∷ piece (room' track) bytes ∷ []) (header 0x0b 0 (room track) (room' track) 0) 0

abbrev with_noise : List ℕ → List ℕ → ℕ → Contents
with_noise bytes noise track =
    contents (piece (room track) bytes ∷ piece (room' track) noise ∷ []) (header 0x0b 0 0 (room track) (room' track)) 0

-- what a frame's answer has at a place of the values that it is told by
record Seen : Type 0 where
  frame : ℕ
  place : ℕ
  value : ℕ

abbrev sees : ℕ → ℕ → ℕ → Seen
sees frame place value = record { frame = frame; place = place; value = value }

-- the triangle's commands, the frames left, what the triangle sounds, its key and release, and square 1's ctrl 1
abbrev commands : ℕ
commands = 1 + 2

abbrev left : ℕ
left = 8

-- where the channels' parts start
abbrev parts : ℕ
parts = 9

abbrev kind : ℕ
kind = parts + 5 * 2

abbrev note : ℕ
note = 2

abbrev key : ℕ
key = parts + 5 * 2 + 2

abbrev release : ℕ
release = parts + 5 * 2 + 4

abbrev ctrl1 : ℕ
ctrl1 = parts + 4

-- a track, with square 1's default ctrl 1 byte, how the verdict is told, and what so many frames show
record Sample : Type 0 where
  track : ℕ
  puts : Contents
  default : ℕ
  verdict : Told
  frames : ℕ
  seen : List Seen

abbrev showing : (ℕ → Contents) → ℕ → Told → ℕ → List Seen → ℕ → Sample
showing puts default verdict frames seen track =
    record { track = track; puts = puts track; default = default; verdict = verdict; frames = frames; seen = seen }

abbrev sample : (ℕ → Contents) → Told → ℕ → Sample
sample puts verdict track = showing puts 0 verdict 0 [] track

abbrev passes : ℕ → ℕ → Told
passes frame channel = record { number = 0; values = frame ∷ channel ∷ [] }

abbrev refused : Refusal → ℕ → ℕ → ℕ → ℕ → Told
refused refusal channel offset frame address =
    record { number = number refusal; values = channel ∷ offset ∷ frame ∷ address ∷ [] }

-- each as the track of its place in the list
abbrev numbered : ℕ → List (ℕ → Sample) → List Sample
numbered track [] = []
numbered track (s ∷ ss) = s track ∷ numbered (track + 1) ss

samples : List Sample
samples =
    numbered 0
    (showing (triangle (0xb0 ∷ 0x2a ∷ 0x00 ∷ [])) 0 (passes 6 2) 1 (sees 0 left 6 ∷ sees 0 key 0x15 ∷ sees 0 release 20 ∷ [])
    ∷ showing (triangle (0xc3 ∷ 0xb0 ∷ 0x2a ∷ 0x02 ∷ 0xff ∷ 0x00 ∷ [])) 0 (passes 36 2) 37
    (sees 0 commands 2 ∷ sees 12 commands 2 ∷ sees 24 commands 2 ∷ sees 36 commands 2
    ∷ sees 0 left 36 ∷ sees 12 left 24 ∷ sees 35 left 1 ∷ sees 36 left 0 ∷ [])
    ∷ sample (triangle (0xc0 ∷ 0xb0 ∷ 0x2a ∷ 0xff ∷ 0x00 ∷ [])) (passes 1536 2)
    ∷ sample (triangle (0xff ∷ 0x00 ∷ [])) (passes 0 2)
    ∷ showing (triangle (0xb0 ∷ 0x00 ∷ 0x00 ∷ [])) 0 (passes 6 2) 1 (sees 0 left 6 ∷ sees 0 kind note ∷ sees 0 key 0 ∷ [])
    ∷ sample (triangle (0x2a ∷ 0x00 ∷ [])) (refused NoLength 2 0 0 0x80a0)
    ∷ sample (triangle (0xb0 ∷ 0x81 ∷ [])) (refused InvalidNote 2 1 0 0x80c1)
    ∷ sample (triangle (0xb0 ∷ 0x2a ∷ 0xa0 ∷ [])) (refused InvalidCommand 2 2 6 0x80e2)
    ∷ sample (with_square (0xb0 ∷ 0x2a ∷ 0x00 ∷ []) (0xb0 ∷ 0x2a ∷ 0xa0 ∷ [])) (passes 6 0)
    ∷ sample (with_noise (0xb0 ∷ 0x2a ∷ 0xa0 ∷ []) (0xb0 ∷ 0x04 ∷ 0x00 ∷ [])) (refused InvalidCommand 2 2 6 0x8122)
    ∷ sample (triangle_in 0x1f (0xb8 ∷ 0x2a ∷ 0x00 ∷ [])) (passes 6 2)
    ∷ sample (triangle_in 0x1f (0xb9 ∷ 0x2a ∷ 0x00 ∷ [])) (refused PastLengths 2 0 0 0x8160)
    ∷ sample (last_byte 0x00) (passes 0 2)
    ∷ sample (last_byte 0xb0) (refused PastData 2 1 0 0xc000)
    ∷ showing (square (0xb0 ∷ 0x2a ∷ 0x00 ∷ [])) 0xb3 (passes 6 0) 6
    (sees 0 ctrl1 0xb4 ∷ sees 1 ctrl1 0xb2 ∷ sees 2 ctrl1 0xb3 ∷ sees 5 ctrl1 0xb3 ∷ sees 0 left 6 ∷ sees 5 left 1 ∷ [])
    ∷ showing (square (0xb0 ∷ 0x2a ∷ 0x00 ∷ [])) 0 (passes 6 0) 6
    (sees 0 ctrl1 0x04 ∷ sees 1 ctrl1 0x02 ∷ sees 2 ctrl1 0x10 ∷ sees 5 ctrl1 0x10 ∷ sees 0 left 6 ∷ sees 5 left 1 ∷ [])
    ∷ [])

-- the bank of all samples, by its last byte; envelope 1 is `04 02 FF`, and keys 0, 1 and $15 have words by document 001's formula:
-- $07F1, 0, $01FB
abbrev bank_with : ℕ → List ℕ
bank_with last =
    filled bank_start
    (flat_map (λ (s : Sample). s.puts.channels) samples
    ++ (piece 0x8400 (0x04 ∷ 0x02 ∷ 0xff ∷ [])
    ∷ piece 0xbbfa (map (λ (s : Sample). header_size * s.track) samples)
    ∷ piece 0xbcb0 (word 0x8400)
    ∷ piece 0xbd31 (flat_map (λ (s : Sample). s.puts.head) samples)
    ∷ piece 0xbe77 (0x07 ∷ 0xf1 ∷ 0 ∷ 0 ∷ [])
    ∷ piece 0xbea1 (0x01 ∷ 0xfb ∷ [])
    ∷ piece 0xbef7 lengths
    ∷ piece 0xbfff (last ∷ [])
    ∷ []))

-- places with so many tracks
abbrev counted : ℕ → Places → Places
counted n p = record {
  header_offsets = p.header_offsets;
  header_block = p.header_block;
  note_lengths = p.note_lengths;
  key_periods = p.key_periods;
  noise_presets = p.noise_presets;
  envelope_addresses = p.envelope_addresses;
  track_count = n;
  default1 = p.default1;
  default2 = p.default2;
}

abbrev look : List (List ℕ) → List Seen → List Seen
look answers [] = []
look answers (s ∷ ss) = sees s.frame s.place (get_or (get_or answers s.frame []) s.place 0) ∷ look answers ss

abbrev answers_of : List Framed → List (List ℕ)
answers_of frames = map (λ (f : Framed). (told_framed f).values) frames

abbrev found_in : List ℕ → Places → Sample → Told × List Seen
found_in bank places s = (
  told_verdict (verdict_of bank places s.track),
  look (answers_of (run_of bank places s.track s.frames).frames) s.seen,
)

found : Sample → Told × List Seen
unfolding flat_map samples is_key is_preset note_after command_of command_at within word_at tables_fit places_fit header_address header_of window_fits envelope_numbers_fit envelope_address envelope_ends square_ends squares_end address_fits addresses_fit all_unused header_number number_of voice_of voices_of track_of open_track length_fault counter_of played_at step_of read_from read_until passed_of pass_from timeline_of dynamic release_of default_ctrl1 combined ctrl1_at sound_fits channel_fits record_fits period_at envelope_of melodic_rest note_ctrl1 melodic_sound noise_sound sound_of turn_of settle_from frame_of_track frame_of start_of frames_from run_of soonest_from verdict_of
found s = found_in (bank_with s.puts.last) (counted (length samples) (published s.default 0)) s

abbrev expected : Sample → Told × List Seen
expected s = (s.verdict, s.seen)

-- n samples from the k-th on; in four steps, since a step's memory is given back after it
abbrev RightFrom : ℕ → ℕ → Type 0
RightFrom k n = map found (take n (drop k samples)) ≡ map expected (take n (drop k samples))

right_0 : RightFrom 0 3
unfolding found
right_0 = refl

right_3 : RightFrom 3 5
unfolding found
right_3 = refl

right_8 : RightFrom 8 5
unfolding found
right_8 = refl

right_13 : RightFrom 13 3
unfolding found
right_13 = refl

samples_right : map found samples ≡ map expected samples
unfolding samples
samples_right = ap₂ ◌++◌ right_0 (ap₂ ◌++◌ right_3 (ap₂ ◌++◌ right_8 right_13))
