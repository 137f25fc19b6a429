use Rattle.mother_format.specs.Bank.{banks}
use Rattle.mother_check.proofs.settings.Laws.{Worsening}
use Rattle.mother_check.proofs.settings.with_window.Given as goal

abbrev pub invariant-loop-l : goal.invariant-loop-l
invariant-loop-l l = Worsening (banks l.banks.bank8.now l.banks.banka.now) l.table l.t l.initial.window-items l.window-items l.l
