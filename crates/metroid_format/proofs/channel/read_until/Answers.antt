use mathlib.Core.Path.{refl, ap}
use native.Mathlib.Omega.{arith}
use lib.ListN.{length, length-take}
use Rattle.engine_base.specs.Address.{address_of}
use Rattle.metroid_format.specs.Channel.{source_of, read_until}
use Rattle.metroid_format.proofs.channel.ReadSteps.{read_turn, read_none, read_cut}
use Rattle.metroid_format.proofs.channel.read_until.Goals as goal
use Rattle.metroid_format.proofs.channel.read_until.Invariants.{fuel}

pub loop-count-init : goal.loop-count-init
unfolding read_until
loop-count-init c = refl

pub step_from-requires : goal.step_from-requires
unfolding read_until
step_from-requires c = omega (arith, simp length-take at (ap length c.part.ensures))

pub loop-count-preserved : goal.loop-count-preserved
unfolding read_until
loop-count-preserved c = read_turn _ _ _ fuel _ _ _ c.step_from.ensures c.in-Again.is c.loop-count-test.true c.loop-count.invariant

pub returns-in-Note : goal.returns-in-Note
unfolding read_until
returns-in-Note c =
    let a = c.args.source in
    read_cut _ a.bytes.now _ _ _ _ _ _ c.part.ensures
    (read_turn (source_of a.kind c.part.result.now a.lengths.now a.window (address_of a.base)) _ _ fuel _ _ _
    c.step_from.ensures
    c.in-Note.is
    c.loop-count-test.true
    c.loop-count.invariant)

pub returns-in-End : goal.returns-in-End
unfolding read_until
returns-in-End c =
    let a = c.args.source in
    read_cut _ a.bytes.now _ _ _ _ _ _ c.part.ensures
    (read_turn (source_of a.kind c.part.result.now a.lengths.now a.window (address_of a.base)) _ _ fuel _ _ _
    c.step_from.ensures
    c.in-End.is
    c.loop-count-test.true
    c.loop-count.invariant)

pub returns-in-Refused : goal.returns-in-Refused
unfolding read_until
returns-in-Refused c =
    let a = c.args.source in
    read_cut _ a.bytes.now _ _ _ _ _ _ c.part.ensures
    (read_turn (source_of a.kind c.part.result.now a.lengths.now a.window (address_of a.base)) _ _ fuel _ _ _
    c.step_from.ensures
    c.in-Refused.is
    c.loop-count-test.true
    c.loop-count.invariant)

pub returns : goal.returns
unfolding read_until
returns c =
    read_cut _ c.args.source.bytes.now _ _ _ _ _ _ c.part.ensures
    (rw c.address_at.ensures (read_none _ _ _ fuel _ (omega arith) c.loop-count.invariant))
