-- Words in lent bytes.
use Rattle.std.specs.Prelude.{ℕ, ◌+◌, ◌*◌, ◌≤◌, List, get_or}

-- words are little-endian
unfoldable pub word_at : List ℕ → ℕ → ℕ
word_at bytes at = get_or bytes at 0 + 256 * get_or bytes (at + 1) 0

-- key periods are big-endian words
unfoldable pub period_at : List ℕ → ℕ → ℕ
period_at periods key = 256 * get_or periods (2 * key) 0 + get_or periods (2 * key + 1) 0

-- Below: only private contracts and laws use these.

-- what is lent as bytes
abbrev pub AllBytes : List ℕ → Type 0
AllBytes bytes = (i : ℕ) → get_or bytes i 0 ≤ 255
