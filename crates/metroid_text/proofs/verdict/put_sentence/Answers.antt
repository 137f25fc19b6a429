use Rattle.metroid_text.proofs.line.Laws.{writes_then}
use Rattle.metroid_text.proofs.verdict.put_sentence.Goals as goal

pub returns : goal.returns
returns c = writes_then c.text.ensures c.spaced.ensures
