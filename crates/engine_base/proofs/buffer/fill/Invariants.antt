use Rattle.engine_base.proofs.Buffers.{Filling}
use Rattle.engine_base.proofs.buffer.fill.Given as goal

abbrev pub invariant-loop-i : goal.invariant-loop-i
invariant-loop-i g l = Filling l.initial.out l.at l.values l.out l.i
