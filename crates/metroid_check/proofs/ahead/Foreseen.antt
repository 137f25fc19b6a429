-- The least stop ahead by frame and then channel: no frame before shows a stop, and that frame shows this one.
use Prim.Native.Nat.{ℕ, suc, ◌≤◌, ◌<◌}
use mathlib.Core.List.{List, [], ◌∷◌}
use mathlib.Core.Path.{◌≡◌, refl, ap, subst}
use native.Mathlib.Omega.{arith}
use lib.ListN.{length}
use Rattle.std.specs.Prelude.{Ok, Err}
use Rattle.metroid_format.specs.declared.header.Track.{Track}
use Rattle.metroid_format.specs.Timeline.{Finish}
use Rattle.metroid_player.specs.Record.{ended_player}
use Rattle.metroid_check.specs.Run.{last_counted}
use Rattle.metroid_player.specs.Frame.{frame_of_track}
use Rattle.metroid_player.specs.declared.record.Player.{Player}
use Rattle.engine_base.specs.declared.answer.Answer.{Answer}
use Rattle.metroid_player.specs.declared.frame.Framed.{Framed}
use Rattle.metroid_check.proofs.ahead.Framing.{InRun, FrameOfRun, events, ends, faults, frame_of_run}
use Rattle.metroid_check.proofs.ahead.Settling.{Ahead, none, nothing, stop, Nearer, Due}

-- no stop of a list is before frame n
abbrev pub NoneBefore : ℕ → List Ahead → Type 0
NoneBefore n [] = Unit {0}
NoneBefore n (nothing ∷ rest) = NoneBefore n rest
NoneBefore n (stop m finish ∷ rest) = (n ≤ m) × NoneBefore n rest

-- its frame, its channel and how it stops
pub data Least : List Ahead → ℕ → ℕ → Finish → Type 0 where
  first : {n : ℕ} {finish : Finish} {rest : List Ahead} → NoneBefore n rest → Least (stop n finish ∷ rest) n 0 finish
  unused : {n i : ℕ} {finish : Finish} {rest : List Ahead} → Least rest n i finish → Least (nothing ∷ rest) n (suc i) finish
  sooner : {m n i : ℕ} {other finish : Finish} {rest : List Ahead} → n < m → Least rest n i finish →
      Least (stop m other ∷ rest) n (suc i) finish

none_due : {now : List Ahead} {i : ℕ} {f : Finish} (n : ℕ) → Due now i f → NoneBefore (suc n) now → ⊥
none_due n Due.here (h, b) = omega arith
none_due n (Due.unused d) b = none_due n d b
none_due n (Due.used d) (h, b) = none_due n d b

none_nearer : {now then : List Ahead} (n : ℕ) → Nearer now then → NoneBefore (suc n) now → NoneBefore n then
none_nearer n Nearer.none b = tt
none_nearer n (Nearer.unused d) b = none_nearer n d b
none_nearer n (Nearer.used d) (h, b) = (omega arith, none_nearer n d b)

-- a channel that stops now is the least
pub due_least : {now : List Ahead} {n i j : ℕ} {f g : Finish} → Due now j g → Least now n i f → (n ≡ 0) × (i ≡ j) × (f ≡ g)
due_least Due.here (first h) = (refl, refl, refl)
due_least Due.here (sooner h l) = absurd (omega arith)
due_least (Due.unused d) (unused l) = let (z, e, f) = due_least d l in (z, ap suc e, f)
due_least (Due.used d) (first h) = absurd (none_due _ d h)
due_least (Due.used d) (sooner h l) = let (z, e, f) = due_least d l in (z, ap suc e, f)

-- where none stops now, the least is a frame nearer
pub nearer_least : {now then : List Ahead} {n i : ℕ} {f : Finish} → Nearer now then → Least now n i f → (m : ℕ) × (n ≡ suc m) × Least then m i f
nearer_least (Nearer.unused d) (unused l) = let (m, e, k) = nearer_least d l in (m, e, unused k)
nearer_least (Nearer.used d) (first h) = (_, refl, first (none_nearer _ d h))
nearer_least (Nearer.used {n = m} d) (sooner h l) = let (k, e, s) = nearer_least d l in (k, e, sooner {m = m} {n = k} (omega arith) s)
nearer_least none x4 = elim x4 [ ]

-- what the frame of the least stop answers, and the record that it gives
abbrev pub StopsAt : Track → Player → ℕ → Finish → Framed → Type 0
StopsAt track player i (Ok passed) f =
    (f.answer ≡ Answer.End) × (last_counted f.counts ≡ i) × (f.player ≡ ended_player track.restart player.pass_length)
StopsAt track player i (Err (refusal, at, address)) f = (f.answer ≡ Answer.Fault refusal i at address) × (f.player ≡ player)

-- a frame that answers events, after which the least stop is n frames ahead
abbrev pub PlaysOn : List ℕ → Track → ℕ → ℕ → Finish → Framed → Type 0
PlaysOn bank track n i finish f =
    (f.answer ≡ Answer.Events) × (then : List Ahead) × InRun bank track f.player then × Least then n i finish

module _ (bank : List ℕ) (track : Track) (whole : length track.voices ≡ 4) where
  plays_by : {player : Player} {now : List Ahead} {n i : ℕ} {finish : Finish} (f : Framed) → FrameOfRun bank track player now f →
      Least now (suc n) i finish → PlaysOn bank track n i finish f
  plays_by {n} {i} {finish} _ (events {then} d r) l =
      let (m, e, k) = nearer_least d l in
      let same : m ≡ n = omega arith in
      (refl, then, r, subst (λ m. Least then m i finish) same k)
  plays_by _ (ends d c) l = let (z, e, f) = due_least d l in absurd (omega arith)
  plays_by _ (faults d) l = let (z, e, f) = due_least d l in absurd (omega arith)

  stops_by : {player : Player} {now : List Ahead} {i : ℕ} {finish : Finish} (f : Framed) → FrameOfRun bank track player now f →
      Least now 0 i finish → StopsAt track player i finish f
  stops_by _ (events d r) l = let (m, e, k) = nearer_least d l in absurd (omega arith)
  stops_by _ (ends d c) l = let (z, e, f) = due_least d l in rw (e, f) (refl, c, refl)
  stops_by _ (faults d) l = let (z, e, f) = due_least d l in rw (e, f) (refl, refl)

  pub plays_before : {player : Player} {now : List Ahead} {n i : ℕ} {finish : Finish} → InRun bank track player now →
      Least now (suc n) i finish → PlaysOn bank track n i finish (frame_of_track bank track player)
  plays_before p l = plays_by _ (frame_of_run bank track whole p) l

  pub stops_at : {player : Player} {now : List Ahead} {i : ℕ} {finish : Finish} → InRun bank track player now →
      Least now 0 i finish → StopsAt track player i finish (frame_of_track bank track player)
  stops_at p l = stops_by _ (frame_of_run bank track whole p) l
