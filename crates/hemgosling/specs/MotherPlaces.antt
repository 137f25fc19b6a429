-- The places of the later engine's banks, from plain numbers.
use Rattle.std.specs.Prelude.{ℕ}
use Rattle.mother_format.specs.declared.bank.Places.{Places}

abbrev pub mother_places_of : ℕ → ℕ → ℕ → ℕ → ℕ → ℕ → ℕ → Places
mother_places_of offsets block lengths periods presets envelopes count = record {
  header_offsets = offsets;
  header_block = block;
  note_lengths = lengths;
  key_periods = periods;
  noise_presets = presets;
  envelope_addresses = envelopes;
  track_count = count;
}
