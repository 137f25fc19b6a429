use mathlib.Core.Path.{◌≡◌}
use Prim.Native.Nat.{◌-◌}
use lib.ListN.{drop}
use Rattle.metroid_player.specs.Ctrl1.{ctrl1_at}
use Rattle.metroid_player.proofs.ctrl1.ctrl1_at.Given as goal

-- the rest of the envelope gives, at what is left of the index, what the whole gives at the index
abbrev pub invariant-loop-i : goal.invariant-loop-i
invariant-loop-i l = ctrl1_at l.default (drop l.i l.envelope) (l.last - l.i) ≡ ctrl1_at l.default l.envelope l.last
