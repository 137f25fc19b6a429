use Rattle.metroid_text.proofs.line.Laws.{writes_then}
use Rattle.metroid_text.proofs.verdict.put.Goals as goal

pub returns : goal.returns
returns c = writes_then c.put_words.ensures c.text.ensures
