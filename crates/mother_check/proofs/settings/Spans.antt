-- What the extremes of a track's transposes and windows are to them.
use Prim.Native.Nat.{ℕ, ◌≤◌, ◌<◌}
use mathlib.Core.Bool.{false}
use mathlib.Core.List.{List}
use mathlib.Core.Path.{◌≡◌}
use lib.ListN.{get_or}
use Rattle.mother_format.specs.Channel.{length_fault}
use Rattle.mother_check.specs.Extremes.{rank_of, is_sooner}
use Rattle.mother_check.proofs.Member.{In}
use Rattle.mother_check.specs.declared.settings.Extremes.{Extremes}

pub record Spans (bank : List ℕ) (table : ℕ) (ms ws : List ℕ) (e : Extremes) : Type 0 where
  pub low_in : In e.low ms
  pub high_in : In e.high ms
  pub lowest : (m : ℕ) → In m ms → rank_of e.low ≤ rank_of m
  pub highest : (m : ℕ) → In m ms → rank_of m ≤ rank_of e.high
  pub window_in : (l : ℕ) → l < 16 → In (get_or e.windows l 0) ws
  -- no window fails sooner
  pub worst : (l : ℕ) → l < 16 → (w : ℕ) → In w ws →
      is_sooner (length_fault bank table w l) (length_fault bank table (get_or e.windows l 0) l) ≡ false
