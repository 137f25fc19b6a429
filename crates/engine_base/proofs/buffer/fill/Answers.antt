use Rattle.std.proofs.Common.{rules}
use Rattle.engine_base.proofs.Buffers.{sets_out, filling_more, filling_out, filled}
use Rattle.engine_base.proofs.buffer.fill.Goals as goal

pub returns-then-out-at : goal.returns-then-out-at
returns-then-out-at g c = search sets_out depth 8

pub loop-i-preserved : goal.loop-i-preserved
loop-i-preserved g c = search (rules, filling_more, filling_out) depth 10

pub returns : goal.returns
returns g c = search filled depth 8
