use native.Mathlib.Omega.{arith}
use Rattle.std.specs.Prelude.{Some, None}
use Rattle.mother_check.proofs.verdict.Laws.{opened_verdict, unopened_verdict}
use Rattle.mother_check.proofs.verdict.verdict_of.Goals as goal

pub returns-in-Err : goal.returns-in-Err
returns-in-Err c = unopened_verdict _ _ _ _ _ c.open.ensures.same _ c.in-Err.is

pub returns-in-Ok-track_first : goal.returns-in-Ok-track_first
returns-in-Ok-track_first c = opened_verdict _ _ _ _ _ c.open.ensures.same (λ i. omega (arith, c.type_inv.bank8 i)) (λ i. omega (arith, c.type_inv.banka i)) _ c.in-Ok.is _ c.extremes_of-extremes.ensures _ c.track_first.ensures None c.in-Ok-track_first.is

pub returns-in-Err-track_first : goal.returns-in-Err-track_first
returns-in-Err-track_first c = opened_verdict _ _ _ _ _ c.open.ensures.same (λ i. omega (arith, c.type_inv.bank8 i)) (λ i. omega (arith, c.type_inv.banka i)) _ c.in-Ok.is _ c.extremes_of-extremes.ensures _ c.track_first.ensures (Some _) c.in-Err-track_first.is
