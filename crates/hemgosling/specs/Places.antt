-- The places of a bank, from plain numbers.
use Rattle.std.specs.Prelude.{ℕ}
use Rattle.metroid_format.specs.declared.bank.Places.{Places}

abbrev pub places_of : ℕ → ℕ → ℕ → ℕ → ℕ → ℕ → ℕ → ℕ → ℕ → Places
places_of offsets block lengths periods presets envelopes count default1 default2 = record {
  header_offsets = offsets;
  header_block = block;
  note_lengths = lengths;
  key_periods = periods;
  noise_presets = presets;
  envelope_addresses = envelopes;
  track_count = count;
  default1 = default1;
  default2 = default2;
}
