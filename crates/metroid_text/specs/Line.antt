-- Lines, and what one is to the buffer that it is written into.
use Rattle.std.specs.Prelude.{ℕ, ◌+◌, ◌≤◌, List, [], ◌∷◌, ◌++◌, ◌≡◌, length}
use Rattle.std.proofs.lemmas.List.Edits.{sets}
use Rattle.metroid_text.specs.declared.line.Line.{Line}
use Rattle.metroid_text.specs.Decimal.{decimal, digits_most}

abbrev pub space : List ℕ
space = 0x20 ∷ []

abbrev pub newline : List ℕ
newline = 0x0a ∷ []

-- the texts of a list's items, in order
unfoldable pub each : {A : Type 0} → (A → List ℕ) → List A → List ℕ
each text [] = []
each text (x ∷ xs) = text x ++ each text xs

abbrev pub after_space : ℕ → List ℕ
after_space n = space ++ decimal n

-- numbers, each after a space
abbrev pub spaced : List ℕ → List ℕ
spaced = each after_space

-- no line is longer
abbrev pub line_most : ℕ
line_most = 644

-- the count is the whole line's, whatever the room; the buffer has the line as far as it fits, and behind it what it had
pub record Spells (line before : List ℕ) (count : ℕ) (after : List ℕ) : Type 0 where
  pub size : count ≡ length line
  pub most : count ≤ line_most
  pub buffer : after ≡ sets before 0 line

-- Below: only private contracts and laws use these.
-- the most bytes of a number after a space
abbrev pub spaced_most : ℕ
spaced_most = 1 + digits_most

-- a text of at most so many bytes from an index on, as far as it fits; next is the index behind it
pub record Puts (most : ℕ) (text before : List ℕ) (at next : ℕ) (after : List ℕ) : Type 0 where
  pub size : next ≡ at + length text
  pub within : length text ≤ most
  pub buffer : after ≡ sets before at text

-- the same of a line, which stays in its buffer
pub record Writes (most : ℕ) (text : List ℕ) (before after : Line) : Type 0 where
  pub put : Puts most text before.out.now before.at after.at after.out.now
  pub same : after.out.ghost_name ≡ before.out.ghost_name
