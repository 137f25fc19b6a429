-- Document 003, 'Track Header Format' and 'Channel Data Format': the transpose byte, nmmm mmmm, and the keys under it.
use Rattle.std.specs.Prelude.{ℕ, ◌-◌, ◌%◌, Bool, leb, ltb, eqb, ℤ, pos, negsuc, nat_abs, ◌+ℤ◌, Option, Some, None}
use Rattle.engine_base.specs.Pick.{pick}

-- if n is clear the value is +m; if n is set it is -1 - m, and `negsuc m` is that
unfoldable pub amount_of : ℕ → ℤ
amount_of b = pick (ltb b 0x80) (pos b) (negsuc (b - 0x80))

unfoldable pub is_odd : ℕ → Bool
is_odd b = eqb (nat_abs (amount_of b) % 2) 1

-- the key byte that is a rest
abbrev pub rest_key : ℕ
rest_key = 0x02

abbrev pub last_key : ℕ
last_key = 0x84

-- a sum that is a key byte of the table, or none
abbrev pub in_table : ℤ → Option ℕ
in_table (pos sum) = pick (leb sum last_key) (Some sum) None
in_table (negsuc n) = None

-- added to a note's key byte, not to a rest's
unfoldable pub transposed_of : ℕ → ℕ → Option ℕ
transposed_of b transpose = pick (eqb b rest_key) (Some rest_key) (in_table (pos b +ℤ amount_of transpose))
