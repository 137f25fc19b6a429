-- Document 01, 'A frame': ctrl 1 of a square, by a byte of its envelope.
use Rattle.std.specs.Prelude.{ℕ, eqb}
use Rattle.std.specs.Int.Bits.{bit_and, bit_or}
use Rattle.engine_base.specs.Pick.{pick}

abbrev pub silent : ℕ
silent = 0x10

-- the default, or $10 if the default is 0
unfoldable pub default_ctrl1 : ℕ → ℕ
default_ctrl1 default = pick (eqb default 0) silent default

unfoldable pub combined : ℕ → ℕ → ℕ
combined v default = bit_or v (bit_and default 0xf0)

-- F0 gives $10, FF the default, another byte what is handed over
abbrev pub by_byte : ℕ → ℕ → ℕ → ℕ
by_byte default v other = pick (eqb v 0xf0) silent (pick (eqb v 0xff) (default_ctrl1 default) other)
