use native.Mathlib.Omega.{arith}
use Rattle.engine_base.specs.declared.time.Frames.{Frames}
use Rattle.engine_base.specs.Release.{dynamic}
use Prim.Native.Nat.{ℕ, ◌-◌, ◌*◌, min}
use mathlib.Core.Path.{◌≡◌}
use Rattle.engine_base.proofs.release.dynamic_of.Goals as goal

counted : (length : Frames) (n : ℕ) → n ≡ min (4 * (length.count - 1)) 60 → record { count = n } ≡ dynamic length
unfolding dynamic
counted length n e = rw e

pub returns : goal.returns
returns c = counted _ _ (omega (arith, c.min.ensures, c.saturating_sub.ensures))
