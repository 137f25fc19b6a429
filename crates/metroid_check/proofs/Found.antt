-- What the soonest stop of the channels is among the stops ahead of them: the least.
use Prim.Native.Nat.{ℕ, ◌+◌, ◌≤◌}
use mathlib.Core.List.{List, [], ◌∷◌, map}
use mathlib.Core.Path.{◌≡◌}
use native.Mathlib.Omega.{arith}
use borrow.Author.Tests.{leb-true, leb-false}
use lib.Dec.{leb}
use Rattle.std.specs.Prelude.{Option, Some, None}
use Rattle.engine_base.proofs.Picks.{by-test}
use Rattle.metroid_format.specs.Timeline.{sooner, soonest_from}
use Rattle.metroid_format.specs.declared.header.Voice.{Voice}
use Rattle.metroid_format.specs.declared.header.Track.{Track}
use Rattle.metroid_format.specs.Timeline.{Finish}
use Rattle.metroid_check.proofs.ahead.Settling.{Ahead, nothing, stop}
use Rattle.metroid_check.proofs.ahead.Starting.{SomeStop, ahead_of}
use Rattle.metroid_check.proofs.ahead.Foreseen.{NoneBefore, Least}
use Rattle.metroid_format.specs.declared.timeline.Soonest.{Soonest}

abbrev AllNothing : List Ahead → Type 0
AllNothing [] = Unit {0}
AllNothing (nothing ∷ now) = AllNothing now
AllNothing (stop n finish ∷ now) = ⊥

-- the first stop, by its frame, its channel and how it stops
abbrev pub first_stop : ℕ → ℕ → Finish → Option Soonest
first_stop frame channel finish = Some (record { frame = frame; channel = channel; finish = finish })

-- of the stops ahead from the i-th channel on
pub data Found (i : ℕ) (now : List Ahead) : Option Soonest → Type 0 where
  none : AllNothing now → Found i now None
  least : {n k channel : ℕ} {finish : Finish} → Least now n k finish → channel ≡ i + k → Found i now (first_stop n channel finish)

all_before : (n : ℕ) (now : List Ahead) → AllNothing now → NoneBefore n now
all_before n [] a = tt
all_before n (nothing ∷ now) a = all_before n now a
all_before n (stop m finish ∷ now) a = absurd a

none_sooner : {m n : ℕ} (now : List Ahead) → n ≤ m → NoneBefore m now → NoneBefore n now
none_sooner [] h b = tt
none_sooner (nothing ∷ now) h b = none_sooner now h b
none_sooner (stop l finish ∷ now) h (g, b) = (omega arith, none_sooner now h b)

least_before : {now : List Ahead} {m n k : ℕ} {finish : Finish} → n ≤ m → Least now m k finish → NoneBefore n now
least_before h (Least.first {rest} b) = (h, none_sooner rest h b)
least_before h (Least.unused l) = least_before h l
least_before h (Least.sooner g l) = (omega arith, least_before h l)

module _ (i : ℕ) {now : List Ahead} where
  find_unused : {s : Option Soonest} → Found (i + 1) now s → Found i (nothing ∷ now) s
  find_unused (none a) = none a
  find_unused (least {channel} l e) = least {channel = channel} (Least.unused l) (omega arith)

  find_used : (n : ℕ) (finish : Finish) {s : Option Soonest} → Found (i + 1) now s →
      Found i (stop n finish ∷ now) (sooner (first_stop n i finish) s)
  find_used n finish (none a) = least {channel = i} (Least.first (all_before n now a)) (omega arith)
  find_used n finish (least {n = m} {channel} l e) =
      by-test (Found i (stop n finish ∷ now)) (leb n m)
      (λ t. least {channel = i} (Least.first (least_before (leb-true n m t) l)) (omega arith)) λ f.
      least {channel = channel} (Least.sooner (omega (arith, leb-false n m f)) l) (omega arith)

pub found : (bank : List ℕ) (track : Track) (i : ℕ) (voices : List (Option Voice)) →
    Found i (map (ahead_of bank track) voices) (soonest_from bank track i voices)
unfolding soonest_from
found bank track i [] = none tt
found bank track i (None ∷ vs) = find_unused i (found bank track (i + 1) vs)
found bank track i (Some v ∷ vs) = find_used i _ _ (found bank track (i + 1) vs)

some_all : {now : List Ahead} → SomeStop now → AllNothing now → ⊥
some_all SomeStop.here a = a
some_all (SomeStop.later {first = nothing} s) a = some_all s a
some_all (SomeStop.later {first = stop n finish} s) a = a

-- where some channel has a stop ahead
pub data FoundSome (now : List Ahead) : Option Soonest → Type 0 where
  least : {n i : ℕ} {finish : Finish} → Least now n i finish → FoundSome now (first_stop n i finish)

pub found_some : {now : List Ahead} {s : Option Soonest} → SomeStop now → Found 0 now s → FoundSome now s
found_some s (none a) = absurd (some_all s a)
found_some s (least {k} {channel} l e) = let same : channel ≡ k = omega arith in rw same (least l)
