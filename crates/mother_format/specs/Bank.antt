-- Document 02, No. 3, and document 003, 'Track Structure': two banks, and the places that the caller names.
use Rattle.std.specs.Prelude.{ℕ, ◌-◌, ◌*◌, List, ◌++◌, ltb, length, take, drop}
use Rattle.engine_base.specs.Pick.{pick}
use Rattle.engine_base.specs.Address.{offset_of}
use Rattle.mother_format.specs.declared.bank.Banks.{Banks}
use Rattle.mother_format.specs.declared.bank.Places.{Places}
use Rattle.mother_format.specs.declared.bank.Tracks.{Tracks}
use Rattle.mother_format.specs.declared.bank.Tracks.TheVariants.{Low, High}

abbrev pub bank_size : ℕ
bank_size = 8192

-- $8000 to $9fff, then $a000 to $bfff: where bytes and words are found, address by address
abbrev pub banks : List ℕ → List ℕ → List ℕ
banks bank8 banka = bank8 ++ banka

-- of two banks as they are lent
abbrev pub bytes_of : Banks → List ℕ
bytes_of b = banks b.bank8.now b.banka.now

abbrev pub block_limit : ℕ
block_limit = 256

-- a block is a part of whichever bank holds its address, 256 bytes or to that bank's end, whichever is sooner
unfoldable pub block_of : List ℕ → List ℕ → ℕ → List ℕ
block_of bank8 banka address =
    pick (ltb (offset_of address) (length bank8))
    (take block_limit (drop (offset_of address) bank8))
    (take block_limit (drop (offset_of address - length bank8) banka))

-- the sizes of the tables that all tracks share: bytes, big-endian words, bytes, words
abbrev pub lengths_size : ℕ
lengths_size = 104

abbrev pub periods_size : ℕ
periods_size = 67 * 2

abbrev pub presets_size : ℕ
presets_size = 31

abbrev pub envelopes_size : ℕ
envelopes_size = 27 * 2

-- the published addresses: header offsets, header block and count of each set, and four tables for both
abbrev pub published_at : ℕ → ℕ → ℕ → Places
published_at offsets block count = record {
  header_offsets = offsets;
  header_block = block;
  note_lengths = 0x8fd6;
  key_periods = 0x8f4c;
  noise_presets = 0x8928;
  envelope_addresses = 0x8ded;
  track_count = count;
}

abbrev pub published : Tracks → Places
published Low = published_at 0x903e 0x906f 24
published High = published_at 0x9056 0x915f 25
