use native.Mathlib.Omega.{arith}
use Rattle.std.proofs.Common.{◌∙◌, sym}
use Rattle.metroid_check.proofs.verdict.Laws.{opened_verdict, unopened_verdict}
use Rattle.metroid_check.proofs.Countdown.{foreseen}
use Rattle.metroid_check.proofs.verdict.check.Goals as goal

pub returns-in-Ok : goal.returns-in-Ok
returns-in-Ok c =
    foreseen _ _ _ (λ i. omega (arith, c.type_inv.bank i)) _
    (rw (c.verdict_of.ensures, c.soonest_of.ensures.same)
    (opened_verdict _ _ _ (sym c.open.ensures.same ∙ c.in-Ok.is)))

pub returns-in-Err : goal.returns-in-Err
returns-in-Err c =
    foreseen _ _ _ (λ i. omega (arith, c.type_inv.bank i)) _
    (unopened_verdict _ _ _ (sym c.open.ensures.same ∙ c.in-Err.is))
