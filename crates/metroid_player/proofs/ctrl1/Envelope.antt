-- Ctrl 1 from the rest of an envelope: the turn of a loop over its bytes.
use Prim.Native.Nat.{ℕ, zero, suc, ◌+◌, ◌-◌, ◌<◌}
use mathlib.Core.List.{List, ◌∷◌}
use mathlib.Core.Path.{◌≡◌, refl}
use native.Mathlib.Numerals.{add-one}
use native.Mathlib.Omega.{arith}
use borrow.Author.Tests.{le-leb, lt-leb}
use lib.Dec.{leb}
use lib.ListN.{length, drop, get_or}
use lib.Seq.{drop-cons}
use Rattle.engine_base.specs.Pick.{pick}
use Rattle.engine_base.specs.Ctrl1.{combined, by_byte}
use Rattle.metroid_player.specs.Ctrl1.{ctrl1_at}

-- what is given from byte i on: by the byte itself up to the index, by the rest past it
abbrev pub turn : ℕ → List ℕ → ℕ → ℕ → ℕ
turn d s index i =
    by_byte d (get_or s i 0) (pick (leb index i) (combined (get_or s i 0) d) (ctrl1_at d (drop (i + 1) s) (index - (i + 1))))

pub envelope_turn : (d : ℕ) (s : List ℕ) (index i : ℕ) → i < length s → ctrl1_at d (drop i s) (index - i) ≡ turn d s index i
unfolding ctrl1_at
envelope_turn d s index i h = rw (drop-cons {A = ℕ} s i 0 h) (at (index - i) refl)
  where
    at : (m : ℕ) → index - i ≡ m → ctrl1_at d (get_or s i 0 ∷ drop (suc i) s) m ≡ turn d s index i
    at zero e = rw (le-leb index i (omega arith))
    at (suc m) e =
        let q : index - (i + 1) ≡ m = omega arith in
        rw (lt-leb index i (omega arith), q, add-one)
