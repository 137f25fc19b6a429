-- Document 003, 'Timbre and Envelopes': ctrl 1 of a square, two volumes an envelope byte, one a frame from the note's first.
use Rattle.std.specs.Prelude.{ℕ, zero, suc, ◌-◌, ◌/◌, ◌%◌, List, [], ◌∷◌, eqb, take, drop}
use Rattle.engine_base.specs.Pick.{pick}
use Rattle.engine_base.specs.Address.{offset_of, within}
use Rattle.engine_base.specs.Ctrl1.{default_ctrl1, combined, by_byte}
use Rattle.engine_base.specs.Envelope.{envelope_reach, envelope_address}
use Rattle.mother_player.specs.declared.record.Channel.{Channel}

-- the high half first; what F0 or FF gives, as a whole byte, holds from then on; past the bytes it is as if FF stood there
unfoldable pub ctrl1_at : ℕ → List ℕ → ℕ → ℕ
ctrl1_at default [] index = default_ctrl1 default
ctrl1_at default (v ∷ vs) zero = by_byte default v (combined (v / 16) default)
ctrl1_at default (v ∷ vs) (suc zero) = by_byte default v (combined (v % 16) default)
ctrl1_at default (v ∷ vs) (suc (suc index)) = by_byte default v (ctrl1_at default vs index)

-- the bytes of envelope x, 64 of them, cut at $bfff; none of number 0, or if its address is outside
unfoldable pub envelope_of : List ℕ → ℕ → ℕ → List ℕ
envelope_of bank table x =
    pick (eqb x 0) []
    (pick (within (envelope_address bank table x) 1)
    (take envelope_reach (drop (offset_of (envelope_address bank table x)) bank))
    [])

-- by x of pppx xxxx, with C as the default; the frame's index is the length less the frames left, before it is taken off
unfoldable pub note_ctrl1 : List ℕ → ℕ → Channel → ℕ
note_ctrl1 bank table c =
    ctrl1_at c.ctrl (envelope_of bank table (c.timbre % 32)) (c.length.count - c.left.count)

-- Below: only private contracts and laws use these.

-- the volume of a byte in the frame of that index
unfoldable pub half_of : ℕ → ℕ → ℕ
half_of index v = pick (eqb (index % 2) 0) (v / 16) (v % 16)
