-- Document 003's examples of what sounds, by computation, and a small track from its first frame on.
use Prim.Native.Nat.{ℕ, zero, suc}
use mathlib.Core.List.{List, [], ◌∷◌, map}
use mathlib.Core.Path.{◌≡◌, refl}
use lib.ListN.{get_or}
use Rattle.std.specs.Prelude.{Some, None}
use Rattle.engine_base.specs.Address.{within}
use Rattle.engine_base.specs.Answer.{answer_kind}
use Rattle.engine_base.specs.Bytes.{word_at}
use Rattle.engine_base.specs.Ctrl1.{default_ctrl1, combined}
use Rattle.engine_base.specs.Envelope.{envelope_address, envelope_ends}
use Rattle.engine_base.specs.Loops.{counter_of}
use Rattle.engine_base.specs.Release.{dynamic, told_release}
use Rattle.mother_format.specs.Bank.{block_of}
use Rattle.mother_format.specs.Transpose.{amount_of, is_odd, transposed_of}
use Rattle.mother_format.specs.Envelope.{envelope_fault}
use Rattle.mother_format.specs.Playlist.{goto_at, entry_at}
use Rattle.mother_format.specs.Command.{is_key, melodic_rule, rule_of, note_after, timbre_after, command_at}
use Rattle.mother_format.specs.Channel.{length_at, length_fault, played_rule, played_at}
use Rattle.mother_format.specs.declared.bank.Places.{Places}
use Rattle.mother_format.specs.declared.command.Kind.{Kind}
use Rattle.mother_format.specs.declared.header.Track.{Track}
use Rattle.mother_player.specs.Record.{fresh_player, sound_fits, block_fits, channel_fits, record_fits}
use Rattle.mother_player.specs.Release.{linear_of, release_of}
use Rattle.mother_player.specs.Ctrl1.{ctrl1_at, envelope_of, note_ctrl1}
use Rattle.mother_player.specs.Event.{off_event, square_sound, triangle_sound, told_event}
use Rattle.mother_player.specs.Reading.{step_from, read_from, read_until, first_reader}
use Rattle.mother_player.specs.Frame.{turn_of, settle_from, frame_of_track}
use Rattle.mother_player.specs.declared.record.Player.{Player}
use Rattle.mother_player.specs.declared.frame.Framed.{Framed}

-- 'Timbre and Envelopes': A8 76 FF gives $a, 8, 7, 6, then the base volume; here C is $b3
decay_right : map (ctrl1_at 0xb3 (0xa8 ∷ 0x76 ∷ 0xff ∷ [])) (0 ∷ 1 ∷ 2 ∷ 3 ∷ 4 ∷ 5 ∷ []) ≡ 0xba ∷ 0xb8 ∷ 0xb7 ∷ 0xb6 ∷ 0xb3 ∷ 0xb3 ∷ []
unfolding default_ctrl1 combined ctrl1_at
decay_right = refl

-- 91 .. F0 silences the channel after as many frames as it has halves
tremolo_right : map (ctrl1_at 0x31 (0x91 ∷ 0x91 ∷ 0xf0 ∷ [])) (0 ∷ 1 ∷ 2 ∷ 3 ∷ 4 ∷ []) ≡ 0x39 ∷ 0x31 ∷ 0x39 ∷ 0x31 ∷ 0x10 ∷ []
unfolding default_ctrl1 combined ctrl1_at
tremolo_right = refl

-- 9F 0A: after 10 quarter-frames. 9F 00: 48 frames are released after 15, 12 after 11. 9F A0 never.
abbrev released : ℕ → ℕ → ℕ
released timbre frames = told_release (release_of (linear_of timbre (record { count = frames })))

releases_right : released 0x0a 56 ∷ released 0x00 48 ∷ released 0x00 12 ∷ released 0xa0 30 ∷ [] ≡ 10 ∷ 60 ∷ 44 ∷ 255 ∷ []
unfolding dynamic linear_of release_of
releases_right = refl

-- lengths 6 and 1; the word of envelope 1; the envelope A8 76 FF; square 1's playlist, two blocks and the end; the triangle's, one block
-- over and over; the first block, 9F 01 B3 B0 2A 00; the second, C2 9C 81 B1 06 FF 00; the triangle's, B0 06 00
abbrev bank : List ℕ
bank =
    6 ∷ 1
    ∷ 0x04 ∷ 0x80 ∷ 0xa8 ∷ 0x76 ∷ 0xff
    ∷ 0x13 ∷ 0x80 ∷ 0x19 ∷ 0x80 ∷ 0x00 ∷ 0x00
    ∷ 0x20 ∷ 0x80 ∷ 0xff ∷ 0xff ∷ 0x0d ∷ 0x80
    ∷ 0x9f ∷ 0x01 ∷ 0xb3 ∷ 0xb0 ∷ 0x2a ∷ 0x00
    ∷ 0xc2 ∷ 0x9c ∷ 0x81 ∷ 0xb1 ∷ 0x06 ∷ 0xff ∷ 0x00
    ∷ 0xb0 ∷ 0x06 ∷ 0x00
    ∷ []

abbrev places : Places
places = record {
  header_offsets = 0x8000;
  header_block = 0x8000;
  note_lengths = 0x8000;
  key_periods = 0x8000;
  noise_presets = 0x8000;
  envelope_addresses = 0x8002;
  track_count = 1;
}

abbrev track : Track
track = record {
  transpose = 0;
  window = 0;
  voices =
      Some (record { kind = Kind.Square; list = 0x8007 })
      ∷ None
      ∷ Some (record { kind = Kind.Triangle; list = 0x800d })
      ∷ None
      ∷ [];
}

-- the kind of answer, square 1's and the triangle's commands, square 1's key and ctrl 1, the triangle's key and release, the transpose
abbrev shown : Framed → List ℕ
shown f =
    answer_kind f.answer
    ∷ get_or f.counts 0 0
    ∷ get_or f.counts 2 0
    ∷ get_or (told_event (get_or f.events 0 off_event)) 2 0
    ∷ get_or (told_event (get_or f.events 0 off_event)) 4 0
    ∷ get_or (told_event (get_or f.events 2 off_event)) 2 0
    ∷ get_or (told_event (get_or f.events 2 off_event)) 4 0
    ∷ f.player.transpose
    ∷ []

abbrev frames : ℕ → Player → List (List ℕ)
frames zero p = []
frames (suc n) p = shown (frame_of_track bank [] places track p) ∷ frames n (frame_of_track bank [] places track p).player

-- frame 6 enters the second block: its transpose, -2, holds for both channels from there on, and the triangle's second note is key 2;
-- frame 7 begins the second play; frame 8 ends the track
frames_right : frames 10 (fresh_player 0 0) ≡
    (0 ∷ 3 ∷ 2 ∷ 0x15 ∷ 0xba ∷ 3 ∷ 20 ∷ 0 ∷ [])
    ∷ (0 ∷ 0 ∷ 0 ∷ 0x15 ∷ 0xb8 ∷ 3 ∷ 20 ∷ 0 ∷ [])
    ∷ (0 ∷ 0 ∷ 0 ∷ 0x15 ∷ 0xb7 ∷ 3 ∷ 20 ∷ 0 ∷ [])
    ∷ (0 ∷ 0 ∷ 0 ∷ 0x15 ∷ 0xb6 ∷ 3 ∷ 20 ∷ 0 ∷ [])
    ∷ (0 ∷ 0 ∷ 0 ∷ 0x15 ∷ 0xb3 ∷ 3 ∷ 20 ∷ 0 ∷ [])
    ∷ (0 ∷ 0 ∷ 0 ∷ 0x15 ∷ 0xb3 ∷ 3 ∷ 20 ∷ 0 ∷ [])
    ∷ (0 ∷ 5 ∷ 4 ∷ 2 ∷ 0xba ∷ 2 ∷ 20 ∷ 0x81 ∷ [])
    ∷ (0 ∷ 3 ∷ 0 ∷ 2 ∷ 0xba ∷ 2 ∷ 20 ∷ 0x81 ∷ [])
    ∷ (1 ∷ 3 ∷ 0 ∷ 0 ∷ 0 ∷ 0 ∷ 0 ∷ 0 ∷ [])
    ∷ (2 ∷ 0 ∷ 0 ∷ 0 ∷ 0 ∷ 0 ∷ 0 ∷ 0 ∷ [])
    ∷ []
unfolding counter_of within word_at default_ctrl1 combined envelope_address envelope_ends dynamic block_of amount_of is_odd transposed_of envelope_fault goto_at entry_at is_key melodic_rule rule_of note_after timbre_after command_at length_at length_fault played_rule played_at sound_fits block_fits channel_fits record_fits linear_of release_of ctrl1_at envelope_of note_ctrl1 square_sound triangle_sound step_from read_from read_until first_reader turn_of settle_from frame_of_track
frames_right = refl
