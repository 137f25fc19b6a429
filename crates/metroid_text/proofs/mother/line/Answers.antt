use mathlib.Core.Path.{refl}
use native.Mathlib.Omega.{arith}
use borrow.Author.Rules.{rules}
use Rattle.metroid_text.proofs.line.Laws.{writes_then, spelled}
use Rattle.metroid_text.proofs.mother.line.Goals as goal

pub returns : goal.returns
returns c = spelled (writes_then (writes_then c.put_track.ensures c.text.ensures) c.put.ensures) refl (search rules) (omega arith)
