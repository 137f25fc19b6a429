-- Addresses as text, in ASCII.
use Rattle.std.specs.Prelude.{ℕ, List}
use Rattle.io.specs.Digits.{last_digits}

-- so many hold every address up to $ffff
abbrev pub hex_digits : ℕ
hex_digits = 4

-- lower-case hex digits, the last ones
abbrev pub hex : ℕ → List ℕ
hex n = last_digits 16 hex_digits n
