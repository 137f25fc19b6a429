use Rattle.metroid_text.proofs.line.Laws.{writes_then}
use Rattle.metroid_text.proofs.verdict.put_words.Goals as goal

pub returns-in-Fault : goal.returns-in-Fault
returns-in-Fault c = rw (c.in-Fault.is, ← c.number-in-Fault.ensures, ← c.from-in-Fault.ensures, ← c.from-in-Fault-2.ensures, ← c.from-in-Fault-3.ensures) (writes_then (writes_then c.put_sentence-in-Fault.ensures c.text.ensures) c.hex.ensures)
