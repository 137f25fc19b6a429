use Rattle.mother_format.specs.Bank.{bytes_of}
use Rattle.mother_player.proofs.ctrl1.Envelope.{Along}
use Rattle.mother_player.proofs.ctrl1.ctrl1_at.Given as goal

abbrev pub invariant-loop-i : goal.invariant-loop-i
invariant-loop-i l = Along (bytes_of l.banks) l.at l.default l.index.count l.last l.i
