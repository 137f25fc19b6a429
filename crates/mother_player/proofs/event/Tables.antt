-- The tables at their addresses, byte by byte.
use Prim.Native.Nat.{ℕ, ◌+◌, ◌*◌}
use mathlib.Core.List.{List}
use mathlib.Core.Path.{◌≡◌, sym, ◌∙◌}
use native.Mathlib.Nat.{add_assoc}
use lib.ListN.{get_or}
use lib.Seq.{get_or-drop}
use Rattle.engine_base.specs.Address.{offset_of}
use Rattle.engine_base.specs.Bytes.{period_at}
use Rattle.mother_player.specs.Event.{table_at}

module _ (bank : List ℕ) (table off : ℕ) (e : off ≡ offset_of table) where
  pub byte_is : (at : ℕ) → get_or bank (off + at) 0 ≡ get_or (table_at bank table) at 0
  byte_is at = rw e (sym (get_or-drop (offset_of table) bank at 0))

  pub byte_behind : (at n : ℕ) → get_or bank (off + at + n) 0 ≡ get_or (table_at bank table) (at + n) 0
  byte_behind at n = rw (add_assoc off at n) (byte_is (at + n))

  pub period_is : (key high low r : ℕ) → high ≡ get_or bank (off + 2 * key) 0 → low ≡ get_or bank (off + 2 * key + 1) 0 →
      r ≡ 256 * high + low → r ≡ period_at (table_at bank table) key
  unfolding period_at
  period_is key high low r h l q = q ∙ rw (h, l, byte_is (2 * key), byte_behind (2 * key) 1)
