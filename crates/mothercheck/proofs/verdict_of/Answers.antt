use Prim.Native.Nat.{ℕ}
use mathlib.Core.List.{List}
use mathlib.Core.Path.{◌≡◌, ◌∙◌}
use native.Mathlib.Omega.{arith}
use lib.ListN.{length, take, drop, length-drop}
use lib.Seq.{take_all}
use Rattle.mother_format.specs.Bank.{bank_size}
use Rattle.mothercheck.proofs.verdict_of.Goals as goal

rest : (l : List ℕ) → take (length l) (drop bank_size l) ≡ drop bank_size l
rest l = take_all (length l) (drop bank_size l) (simp length-drop (omega arith))

pub returns : goal.returns
returns c =
    c.check.ensures.answer.same
    ∙ rw (c.part.ensures, c.part-2.ensures, rest _, c.published_places.ensures)
