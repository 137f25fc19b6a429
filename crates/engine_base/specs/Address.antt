-- Addresses $8000 to $bfff.
use Rattle.std.specs.Prelude.{ℕ, ◌+◌, ◌-◌, Bool, true, false, List, [], ◌∷◌, leb}
use Rattle.engine_base.specs.Pick.{pick, all}

-- a bank stands for addresses $8000 to $bfff
abbrev pub bank_start : ℕ
bank_start = 0x8000

abbrev pub bank_end : ℕ
bank_end = 0xc000

-- the offset of an address in the bank
abbrev pub offset_of : ℕ → ℕ
offset_of address = address - bank_start

-- the address of an offset in the bank
abbrev pub address_of : ℕ → ℕ
address_of offset = bank_start + offset

-- n bytes from an address stand wholly within the bank
unfoldable pub within : ℕ → ℕ → Bool
within address n = all (leb bank_start address ∷ leb (address + n) bank_end ∷ [])

-- each of a row of places, with the size of each
abbrev pub all_within : List ℕ → List ℕ → Bool
all_within [] sizes = true
all_within (address ∷ addresses) [] = true
all_within (address ∷ addresses) (size ∷ sizes) = pick (within address size) (all_within addresses sizes) false
