use mathlib.Core.Path.{sym, ◌∙◌}
use Rattle.metroid_text.proofs.line.Laws.{writes_then}
use Rattle.metroid_text.specs.Mother.{fault_words}
use Rattle.metroid_text.proofs.mother.put_fault.Goals as goal

pub returns-then-names_address : goal.returns-then-names_address
unfolding fault_words
returns-then-names_address c =
    let told = rw (c.from.ensures, c.number.ensures, c.from-2.ensures, c.from-3.ensures, c.from-4.ensures) at c.put_sentence.ensures in
    rw (sym c.names_address.ensures ∙ c.if-names_address.true)
    (writes_then (writes_then told c.text.ensures) c.hex.ensures)
