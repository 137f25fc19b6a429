-- Document 01, 'The bank and its places'.
use Rattle.std.specs.Prelude.{ℕ, ◌*◌}
use Rattle.metroid_format.specs.declared.bank.Places.{Places}

abbrev pub bank_size : ℕ
bank_size = 16384

-- the published addresses, of 12 tracks
abbrev pub published : ℕ → ℕ → Places
published default1 default2 = record {
  header_offsets = 0xbbfa;
  header_block = 0xbd31;
  note_lengths = 0xbef7;
  key_periods = 0xbe77;
  noise_presets = 0xb200;
  envelope_addresses = 0xbcb0;
  track_count = 12;
  default1 = default1;
  default2 = default2;
}

-- the sizes of the tables that all tracks share: bytes, big-endian words, bytes, words
abbrev pub lengths_size : ℕ
lengths_size = 40

abbrev pub periods_size : ℕ
periods_size = 64 * 2

abbrev pub presets_size : ℕ
presets_size = 13

abbrev pub envelopes_size : ℕ
envelopes_size = 5 * 2
