-- The envelopes of the squares: where one stands, and that it ends.
use Rattle.std.specs.Prelude.{ℕ, ◌+◌, ◌-◌, ◌*◌, Bool, true, false, List, [], ◌∷◌, eqb, take, drop}
use Rattle.engine_base.specs.Pick.{pick, all}
use Rattle.engine_base.specs.Address.{offset_of, within}
use Rattle.engine_base.specs.Bytes.{word_at}

-- F0 or FF stands in an envelope's bytes
abbrev pub shows_end : List ℕ → Bool
shows_end [] = false
shows_end (b ∷ rest) = pick (eqb b 0xf0) true (pick (eqb b 0xff) true (shows_end rest))

-- the address of an envelope by its number, from 1 on, in the table
unfoldable pub envelope_address : List ℕ → ℕ → ℕ → ℕ
envelope_address bank table number = word_at bank (offset_of (table + 2 * (number - 1)))

abbrev pub envelope_reach : ℕ
envelope_reach = 64

-- no envelope, or one within the bank that shows F0 or FF in 64 bytes, cut at $bfff
unfoldable pub envelope_ends : List ℕ → ℕ → ℕ → Bool
envelope_ends bank table number =
    pick (eqb number 0) true
    (all
    (within (envelope_address bank table number) 1
    ∷ shows_end (take envelope_reach (drop (offset_of (envelope_address bank table number)) bank))
    ∷ []))
