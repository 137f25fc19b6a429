-- An envelope's bytes in one bank or across both.
use Prim.Native.Nat.{ℕ, ◌-◌, ◌≤◌, ◌<◌}
use mathlib.Core.Bool.{Bool, true, false}
use mathlib.Core.List.{List, [], ◌∷◌, ◌++◌}
use mathlib.Core.Path.{◌≡◌, refl}
use native.Mathlib.Omega.{arith}
use lib.Dec.{eqb}
use lib.ListN.{length, take, drop, length-take}
use Rattle.engine_base.specs.Pick.{pick}
use Rattle.engine_base.specs.Envelope.{shows_end, envelope_reach}
use Rattle.mother_format.proofs.bank.Joined.{drop_left, drop_right, take_both}

pub ends_either : (a b : List ℕ) → shows_end (a ++ b) ≡ pick (shows_end a) true (shows_end b)
ends_either [] b = refl
ends_either (x ∷ a) b = one (eqb x 0xf0) (eqb x 0xff) (ends_either a b)
  where
    one : (p q : Bool) → shows_end (a ++ b) ≡ pick (shows_end a) true (shows_end b) →
        pick p true (pick q true (shows_end (a ++ b))) ≡ pick (pick p true (pick q true (shows_end a))) true (shows_end b)
    one true q e = refl
    one false true e = refl
    one false false e = e

module _ (bank8 banka : List ℕ) (at : ℕ) where
  pub ends_right : length bank8 ≤ at → shows_end (take envelope_reach (drop at (bank8 ++ banka))) ≡ shows_end (take envelope_reach (drop (at - length bank8) banka))
  ends_right h = rw (drop_right bank8 banka at h)

  -- the first bytes are what `part` gives of the first bank
  module _ (first : List ℕ) (e : first ≡ take envelope_reach (drop at bank8)) where
    pub first_within : length first ≤ envelope_reach
    first_within = rw (e, length-take envelope_reach (drop at bank8)) (omega arith)

    left_over : envelope_reach - length (drop at bank8) ≡ envelope_reach - length first
    left_over = rw (e, length-take envelope_reach (drop at bank8)) (omega arith)

    pub ends_across : at < length bank8 →
        shows_end (take envelope_reach (drop at (bank8 ++ banka))) ≡ pick (shows_end first) true (shows_end (take (envelope_reach - length first) banka))
    ends_across h =
        rw (drop_left bank8 banka at (omega arith), take_both (drop at bank8) banka envelope_reach, ← e, left_over)
        (ends_either first (take (envelope_reach - length first) banka))
