use Prim.Native.Nat.{◌+◌, ◌≤◌}
use native.Mathlib.Omega.{arith}
use lib.ListN.{length, get_or-eq_default}
use Rattle.engine_base.specs.Bytes.{word_at}
use Rattle.engine_base.proofs.bytes.word.Goals as goal

pub returns-then-bytes-at : goal.returns-then-bytes-at
unfolding word_at
returns-then-bytes-at c =
    let a = c.args in
    let low = c.if-bytes-at.true in
    let high : length a.bytes.now ≤ a.at + 1 = omega arith in
    simp get_or-eq_default

pub returns : goal.returns
unfolding word_at
returns c = omega (arith, c.from_le_bytes.ensures, c.byte.ensures, c.byte-2.ensures)
