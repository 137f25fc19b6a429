use mathlib.Core.Path.{◌≡◌}
use borrow.Author.Rules.{rules}
use Rattle.std.specs.Prelude.{Err}
use Rattle.engine_base.specs.declared.refusal.Refusal.TheVariants.{InvalidWord}
use Rattle.metroid_format.proofs.words.Owed.{writes_invalid, writes_short, writes_long, writes_all}
use Rattle.metroid_format.proofs.words.write_words.Goals as goal
use Rattle.metroid_format.proofs.words.write_words.Goals.{then-out-count-via-then-out-count, then-out-count-via-else-out-count+then-count-gt-DATA_LIMIT}

pub returns-in_err-count : goal.returns-in_err-count
returns-in_err-count c =
    let invalid = rw c.in_err-count.ensures.ok_part at c.encode.ensures.valid in
    let refused = rw c.in_err-count.ensures.ok_part at c.in_err-count.ensures.value in
    let e : c.from_residual.result ≡ Err InvalidWord = search rules in
    rw e (writes_invalid _ _ _ _ invalid)

pub returns-then-out-count : goal.returns-then-out-count
returns-then-out-count c =
    elim c.then-out-count.branch [
      | then-out-count-via-then-out-count w ↦ writes_short _ _ _ _ _ _ _ (rw c.in_ok-count.ensures.ok_part at c.encode.ensures.valid) w.if-out-count.true
      | then-out-count-via-else-out-count+then-count-gt-DATA_LIMIT w ↦ writes_long _ _ _ _ _ _ _ (rw c.in_ok-count.ensures.ok_part at c.encode.ensures.valid) w.if-out-count.false w.if-count-gt-DATA_LIMIT.true
    ]

pub returns : goal.returns
returns c = writes_all _ _ _ _ _ _ _ (rw c.in_ok-count.ensures.ok_part at c.encode.ensures.valid) c.if-out-count.false c.if-count-gt-DATA_LIMIT.false _ c.encode-2.ensures.written
