-- Document 003, 'Track Header Format', and the numbers of document 01 that it has: 1, 2, 3, 4, 8, 9, and 19 of document 02, No. 3.
use Rattle.std.specs.Prelude.{ℕ, ◌+◌, ◌/◌, Bool, true, List, [], ◌∷◌, map, leb, ltb, eqb, length, get_or, Option, Some, None, Result, Ok, Err}
use Rattle.engine_base.specs.Pick.{pick, unless, all}
use Rattle.engine_base.specs.Told.{Told}
use Rattle.engine_base.specs.Refusal.{number_of as refusal_number}
use Rattle.engine_base.specs.declared.refusal.Refusal.{Refusal}
use Rattle.engine_base.specs.declared.refusal.Refusal.TheVariants.{WrongSize, TableOutside, NoTrack, HeaderOutside, ChannelOutside, NoChannel, OddTranspose}
use Rattle.engine_base.specs.Address.{offset_of, within, all_within}
use Rattle.engine_base.specs.Bytes.{word_at}
use Rattle.mother_format.specs.Bank.{bank_size, banks, lengths_size, periods_size, presets_size, envelopes_size}
use Rattle.mother_format.specs.Transpose.{is_odd}
use Rattle.mother_format.specs.declared.command.Kind.{Kind}
use Rattle.mother_format.specs.declared.command.Kind.TheVariants.{Square, Triangle, Noise}
use Rattle.mother_format.specs.declared.bank.Places.{Places}
use Rattle.mother_format.specs.declared.header.Voice.{Voice}
use Rattle.mother_format.specs.declared.header.Track.{Track}

-- the places and what stands at each: a byte a track, the block (its address), and the tables that all tracks share
abbrev pub addresses_of : Places → List ℕ
addresses_of p =
    p.header_offsets
    ∷ p.header_block
    ∷ p.note_lengths
    ∷ p.key_periods
    ∷ p.noise_presets
    ∷ p.envelope_addresses
    ∷ []

abbrev pub sizes_of : Places → List ℕ
sizes_of p = p.track_count ∷ 1 ∷ lengths_size ∷ periods_size ∷ presets_size ∷ envelopes_size ∷ []

-- a track count from 1 to 255, and each place wholly within the banks
unfoldable pub places_fit : Places → Bool
places_fit p =
    all
    (leb 1 p.track_count
    ∷ leb p.track_count 255
    ∷ all_within (addresses_of p) (sizes_of p)
    ∷ [])

-- a header stands at block + offset
unfoldable pub header_address : List ℕ → Places → ℕ → ℕ
header_address bank places track =
    places.header_block + get_or bank (offset_of (places.header_offsets + track)) 0

abbrev pub header_size : ℕ
header_size = 10

-- the first of 1 to 4
unfoldable pub places_number : List ℕ → List ℕ → Places → ℕ → Result (Unit {0}) Refusal
places_number bank8 banka places track =
    unless (eqb (length bank8) bank_size) WrongSize
    (unless (eqb (length banka) bank_size) WrongSize
    (unless (places_fit places) TableOutside
    (unless (ltb track places.track_count) NoTrack
    (unless (within (header_address (banks bank8 banka) places track) header_size) HeaderOutside (Ok tt)))))

-- of a header at an offset from $8000 on: +2 four playlist addresses (square 1, square 2, triangle, noise)
abbrev pub addresses_at : List ℕ → ℕ → List ℕ
addresses_at bank header = map (λ field. word_at bank (header + field)) (2 ∷ 4 ∷ 6 ∷ 8 ∷ [])

-- a high byte of $ff for an unused one
unfoldable pub is_unused : ℕ → Bool
is_unused address = eqb (address / 256) 0xff

unfoldable pub address_fits : ℕ → Bool
address_fits address = pick (is_unused address) true (within address 1)

unfoldable pub addresses_fit : List ℕ → ℕ → Bool
addresses_fit bank header = all (map address_fits (addresses_at bank header))

unfoldable pub all_unused : List ℕ → ℕ → Bool
all_unused bank header = all (map is_unused (addresses_at bank header))

-- the first of 8, 9 and 19 that a header shows; +0 transpose
unfoldable pub header_number : List ℕ → ℕ → Result (Unit {0}) Refusal
header_number bank header =
    unless (addresses_fit bank header) ChannelOutside
    (pick (all_unused bank header) (Err NoChannel)
    (pick (is_odd (get_or bank header 0)) (Err OddTranspose) (Ok tt)))

-- the rest, unless a test before it refuses
abbrev pub and_then : {A : Type 0} → Result (Unit {0}) Refusal → Result A Refusal → Result A Refusal
and_then (Ok passed) rest = rest
and_then (Err refusal) rest = Err refusal

-- the first of 1, 2, 3, 4, 8, 9 and 19
unfoldable pub number_of : List ℕ → List ℕ → Places → ℕ → Result (Unit {0}) Refusal
number_of bank8 banka places track =
    and_then (places_number bank8 banka places track)
    (header_number (banks bank8 banka) (offset_of (header_address (banks bank8 banka) places track)))

-- a channel by its playlist's address, or none if it is unused
unfoldable pub voice_of : Kind → ℕ → Option Voice
voice_of k address = pick (is_unused address) None (Some (record { kind = k; list = address }))

-- square 1, square 2, triangle, noise
unfoldable pub voices_of : List ℕ → ℕ → List (Option Voice)
voices_of bank header =
    voice_of Square (word_at bank (header + 2))
    ∷ voice_of Square (word_at bank (header + 4))
    ∷ voice_of Triangle (word_at bank (header + 6))
    ∷ voice_of Noise (word_at bank (header + 8))
    ∷ []

-- +0 transpose, +1 window
unfoldable pub track_of : List ℕ → ℕ → Track
track_of bank header = record {
  transpose = get_or bank header 0;
  window = get_or bank (header + 1) 0;
  voices = voices_of bank header;
}

unfoldable pub open_track : List ℕ → List ℕ → Places → ℕ → Result Track Refusal
open_track bank8 banka places track =
    and_then (number_of bank8 banka places track)
    (Ok (track_of (banks bank8 banka) (offset_of (header_address (banks bank8 banka) places track))))

-- 0 for a track, or the number of the refusal
abbrev pub told_opened : Result Track Refusal → Told
told_opened (Ok track) = record { number = 0; values = [] }
told_opened (Err refusal) = record { number = refusal_number refusal; values = [] }
