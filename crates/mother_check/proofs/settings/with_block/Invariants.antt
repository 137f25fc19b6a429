use Rattle.mother_format.specs.Bank.{banks}
use Rattle.mother_check.proofs.settings.Laws.{Gathering}
use Rattle.mother_check.proofs.settings.with_block.Given as goal

abbrev pub invariant-loop : goal.invariant-loop
invariant-loop l = Gathering (banks l.banks.bank8.now l.banks.banka.now) l.table l.kind l.block l.initial.e l.e l.counter l.at
