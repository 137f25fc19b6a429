use denote.Enum.Bare.{same_true}
use mathlib.Core.Path.{◌≡◌, refl, sym, ap}
use borrow.Author.Rules.{rules}
use Rattle.engine_base.specs.Refusal.{number_of}
use Rattle.engine_base.specs.contracts.refusal.Refusal.{the_type}
use Rattle.engine_base.specs.declared.refusal.Refusal.TheVariants.{PastData}
use Rattle.engine_base.proofs.Picks.{false_true}
use Rattle.metroid_format.proofs.mend.Laws.{other, there, after_fits, ends_there, passes_found, passes_past, passes_rest}
use Rattle.metroid_format.proofs.mend.mend_command.Goals as goal

pub bounds-bytes-offset : goal.bounds-bytes-offset
bounds-bytes-offset c =
    let y = other _ _ _ c.requires _ c.command_at.ensures.same _ _ c.in-Err.is (λ z. false_true (rw z at (c.if-eq.ensures))) in
    search there depth 10

pub overflow_add-result : goal.overflow_add-result
overflow_add-result c =
    let y = other _ _ _ c.requires _ c.command_at.ensures.same _ _ c.in-Err.is (λ z. false_true (rw z at (c.if-eq.ensures))) in
    search after_fits depth 12

pub returns-in-Ok : goal.returns-in-Ok
returns-in-Ok c = (refl, search ends_there depth 12)

pub returns-in-Ok-2 : goal.returns-in-Ok-2
returns-in-Ok-2 c = search passes_found depth 12

pub returns-in-Err : goal.returns-in-Err
returns-in-Err c =
    let e : c.in-Err.refusal ≡ PastData = same_true the_type (search rules) _ _ (sym c.if-eq.ensures) in
    let y : number_of c.in-Err.refusal ≡ number_of PastData = ap number_of e in
    search passes_past depth 10

pub returns-in-Err-2 : goal.returns-in-Err-2
returns-in-Err-2 c =
    let y = other _ _ _ c.requires _ c.command_at.ensures.same _ _ c.in-Err.is (λ z. false_true (rw z at (c.if-eq.ensures))) in
    search passes_rest depth 10
