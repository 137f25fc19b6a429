-- Document 01, 'The bank and its places', and numbers 1 to 9 of 'Numbers of refusal'.
use Rattle.std.specs.Prelude.{ℕ, ◌+◌, ◌/◌, Bool, true, not, List, [], ◌∷◌, Option, None, Some, Result, Ok, Err, map, leb, ltb, eqb, length, get_or, take, drop}
use Rattle.engine_base.specs.Pick.{pick, unless, all}
use Rattle.engine_base.specs.Told.{Told}
use Rattle.engine_base.specs.Refusal.{number_of as number}
use Rattle.engine_base.specs.declared.refusal.Refusal.{Refusal}
use Rattle.engine_base.specs.declared.refusal.Refusal.TheVariants.{WrongSize, TableOutside, NoTrack, HeaderOutside, WindowTooHigh, EnvelopeTooHigh, NoEnvelopeEnd, ChannelOutside, NoChannel}
use Rattle.engine_base.specs.Address.{offset_of, within}
use Rattle.metroid_format.specs.Bank.{bank_size, lengths_size, periods_size, presets_size, envelopes_size}
use Rattle.engine_base.specs.Bytes.{word_at}
use Rattle.engine_base.specs.Envelope.{envelope_address, envelope_ends}
use Rattle.metroid_format.specs.declared.command.Kind.{Kind}
use Rattle.metroid_format.specs.declared.command.Kind.TheVariants.{Melodic, Noise}
use Rattle.metroid_format.specs.declared.bank.Places.{Places}
use Rattle.metroid_format.specs.declared.header.Voice.{Voice}
use Rattle.metroid_format.specs.declared.header.Track.{Track}

-- the tables that all tracks share, each wholly within the bank
unfoldable pub tables_fit : Places → Bool
tables_fit p =
    all
    (within p.note_lengths lengths_size
    ∷ within p.key_periods periods_size
    ∷ within p.noise_presets presets_size
    ∷ within p.envelope_addresses envelopes_size
    ∷ [])

-- a track count from 1 to 255, and each table wholly within the bank (the block: its address)
unfoldable pub places_fit : Places → Bool
places_fit p =
    all
    (leb 1 p.track_count
    ∷ leb p.track_count 255
    ∷ within p.header_offsets p.track_count
    ∷ within p.header_block 1
    ∷ tables_fit p
    ∷ [])

-- a header stands at block + offset
unfoldable pub header_address : List ℕ → Places → ℕ → ℕ
header_address bank places track =
    places.header_block + get_or bank (offset_of (places.header_offsets + track)) 0

abbrev pub header_size : ℕ
header_size = 13

unfoldable pub header_of : List ℕ → Places → ℕ → List ℕ
header_of bank places track = take header_size (drop (offset_of (header_address bank places track)) bank)

-- +0 window t: top three bits 0
unfoldable pub window_fits : List ℕ → Bool
window_fits header = eqb (get_or header 0 0 / 32) 0

abbrev pub last_envelope : ℕ
last_envelope = 5

-- +3, +4 envelope numbers of squares 1 and 2
unfoldable pub envelope_numbers_fit : List ℕ → Bool
envelope_numbers_fit header = all (leb (get_or header 3 0) last_envelope ∷ leb (get_or header 4 0) last_envelope ∷ [])

-- only a square with a nonzero address is asked
unfoldable pub square_ends : List ℕ → ℕ → ℕ → ℕ → Bool
square_ends bank table number address = pick (eqb address 0) true (envelope_ends bank table number)

unfoldable pub squares_end : List ℕ → ℕ → List ℕ → Bool
squares_end bank table header =
    all
    (square_ends bank table (get_or header 3 0) (word_at header 5)
    ∷ square_ends bank table (get_or header 4 0) (word_at header 7)
    ∷ [])

-- +5 four channel addresses (square 1, square 2, triangle, noise), 0 for an unused one
abbrev pub addresses : List ℕ → List ℕ
addresses header = map (word_at header) (5 ∷ 7 ∷ 9 ∷ 11 ∷ [])

unfoldable pub address_fits : ℕ → Bool
address_fits address = pick (eqb address 0) true (within address 1)

unfoldable pub addresses_fit : List ℕ → Bool
addresses_fit header = all (map address_fits (addresses header))

unfoldable pub all_unused : List ℕ → Bool
all_unused header = all (map (λ a. eqb a 0) (addresses header))

-- the first refusal of 5 to 9 that a header shows
unfoldable pub header_number : List ℕ → ℕ → List ℕ → Result (Unit {0}) Refusal
header_number bank table header =
    unless (window_fits header) WindowTooHigh
    (unless (envelope_numbers_fit header) EnvelopeTooHigh
    (unless (squares_end bank table header) NoEnvelopeEnd
    (unless (addresses_fit header) ChannelOutside
    (pick (all_unused header) (Err NoChannel) (Ok tt)))))

-- the first refusal of 1 to 9
unfoldable pub number_of : List ℕ → Places → ℕ → Result (Unit {0}) Refusal
number_of bank places track =
    unless (eqb (length bank) bank_size) WrongSize
    (unless (places_fit places) TableOutside
    (unless (ltb track places.track_count) NoTrack
    (unless (within (header_address bank places track) header_size) HeaderOutside
    (header_number bank places.envelope_addresses (header_of bank places track)))))

-- a used channel: where it starts, and where its envelope starts if it has one
abbrev pub used_voice : Kind → ℕ → ℕ → Option ℕ → Voice
used_voice k address ctrl1 envelope =
    record { kind = k; «data» = offset_of address; envelope = envelope; default = ctrl1 }

-- a channel by its address, its envelope number and its default ctrl 1 byte
unfoldable pub voice_of : List ℕ → ℕ → Kind → ℕ → ℕ → ℕ → Option Voice
voice_of bank table k address number ctrl1 =
    pick (eqb address 0) None
    (Some
    (used_voice k address ctrl1
    (pick (eqb number 0) None (Some (offset_of (envelope_address bank table number))))))

-- square 1, square 2, triangle, noise
unfoldable pub voices_of : List ℕ → Places → List ℕ → List (Option Voice)
voices_of bank places header =
    voice_of bank places.envelope_addresses Melodic (word_at header 5) (get_or header 3 0) places.default1
    ∷ voice_of bank places.envelope_addresses Melodic (word_at header 7) (get_or header 4 0) places.default2
    ∷ voice_of bank places.envelope_addresses Melodic (word_at header 9) 0 0
    ∷ voice_of bank places.envelope_addresses Noise (word_at header 11) 0 0
    ∷ []

-- +0 window, +1 nonzero to restart at the end, +2 triangle release
unfoldable pub track_of : List ℕ → Places → List ℕ → Track
track_of bank places header = record {
  window = get_or header 0 0;
  restart = not (eqb (get_or header 1 0) 0);
  release = get_or header 2 0;
  lengths = offset_of places.note_lengths;
  periods = offset_of places.key_periods;
  presets = offset_of places.noise_presets;
  voices = voices_of bank places header;
}

-- the track, or the first refusal of 1 to 9
abbrev pub opened : Result (Unit {0}) Refusal → Track → Result Track Refusal
opened (Ok passed) t = Ok t
opened (Err refusal) t = Err refusal

unfoldable pub open_track : List ℕ → Places → ℕ → Result Track Refusal
open_track bank places track =
    opened (number_of bank places track) (track_of bank places (header_of bank places track))

abbrev pub told_opened : Result Track Refusal → Told
told_opened (Ok track) = record { number = 0; values = [] }
told_opened (Err refusal) = record { number = number refusal; values = [] }

-- Below: only private contracts and laws use these.

-- the start address of the i-th channel
abbrev pub channel_start : List ℕ → ℕ → ℕ
channel_start header i = get_or (addresses header) i 0
