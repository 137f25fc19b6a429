-- The channels gone through one after the other, with the soonest stop so far; and how late the soonest can be.
use Prim.Native.Nat.{ℕ, zero, suc, ◌+◌, ◌*◌, ◌≤◌, ◌<◌}
use mathlib.Core.Bool.{Bool, true, false}
use mathlib.Core.List.{List, [], ◌∷◌}
use mathlib.Core.Path.{◌≡◌, refl, ◌∙◌}
use native.Mathlib.Numerals.{add-one}
use native.Mathlib.Omega.{arith}
use borrow.Author.Tests.{le-leb, lt-leb, leb-true, leb-false}
use Rattle.std.specs.Prelude.{Option, None, Some}
use lib.Dec.{leb}
use lib.ListN.{length, get_or, take, drop, drop_of_length-le}
use lib.Seq.{drop-cons, get_or-drop}
use Rattle.engine_base.specs.Bytes.{AllBytes}
use Rattle.engine_base.proofs.Picks.{by-test}
use Rattle.metroid_format.specs.Bank.{lengths_size}
use Rattle.metroid_format.specs.Command.{data_limit}
use Rattle.metroid_format.specs.Channel.{channel_source}
use Rattle.metroid_format.specs.Timeline.{frames_a_byte, stop_of, sooner, soonest_from, soonest_of}
use Rattle.metroid_format.proofs.channel.Offsets.{source_within}
use Rattle.metroid_format.proofs.timeline.PassBound.{timeline_bounded}
use Rattle.metroid_format.specs.declared.header.Voice.{Voice}
use Rattle.metroid_format.specs.declared.header.Track.{Track}
use Rattle.metroid_format.specs.declared.timeline.Soonest.{Soonest}

sooner_nothing : (s : Option Soonest) → sooner s None ≡ s
sooner_nothing None = refl
sooner_nothing (Some s) = refl

sooner_assoc : (a b c : Option Soonest) → sooner (sooner a b) c ≡ sooner a (sooner b c)
sooner_assoc None b c = refl
sooner_assoc (Some a) None c = refl
sooner_assoc (Some a) (Some b) None = sooner_nothing _
sooner_assoc (Some a) (Some b) (Some c) = one (leb a.frame b.frame) refl (leb b.frame c.frame) refl
  where
    one : (first : Bool) → leb a.frame b.frame ≡ first → (last : Bool) → leb b.frame c.frame ≡ last →
        sooner (sooner (Some a) (Some b)) (Some c) ≡ sooner (Some a) (sooner (Some b) (Some c))
    one true e true d =
        let w : a.frame ≤ c.frame = omega (arith, leb-true _ _ e, leb-true _ _ d) in
        simp (e, d, le-leb _ _ w)
    one true e false d = simp (e, d)
    one false e true d = simp (e, d)
    one false e false d =
        let w : c.frame < a.frame = omega (arith, leb-false _ _ e, leb-false _ _ d) in
        simp (e, d, lt-leb _ _ w)

-- with what is found from the i-th channel on, the soonest so far gives the soonest of all
pub record Looking (bank : List ℕ) (track : Track) (voices : List (Option Voice)) (i : ℕ) (soonest : Option Soonest) : Type 0 where
  pub four : length voices ≡ 4
  pub same : soonest_from bank track 0 voices ≡ sooner soonest (soonest_from bank track i (drop i voices))

module _ (bank : List ℕ) (track : Track) (voices : List (Option Voice)) (i : ℕ) (soonest : Option Soonest) (m : Looking bank track voices i soonest) where
  pub look_on : i < 4 → (d : Option Voice) (stop next : Option Soonest) → stop ≡ stop_of bank track i (get_or voices i d) → next ≡ sooner soonest stop →
      Looking bank track voices (i + 1) next
  unfolding soonest_from
  look_on h d stop next s e = record {
    four = m.four;
    same =
        let v : i < length voices = omega (arith, m.four) in
        rw (e, s, sooner_assoc) (m.same ∙ rw (drop-cons voices i d, add-one i));
  }

  pub looked : 4 ≤ i → soonest ≡ soonest_from bank track 0 voices
  unfolding soonest_from
  looked h =
      let v : length voices ≤ i = omega (arith, m.four) in
      rw (m.same, drop_of_length-le voices {i = i} v, sooner_nothing)

-- its frame is at most so late
abbrev pub StopWithin : ℕ → Option Soonest → Type 0
StopWithin most None = Unit {0}
StopWithin most (Some stop) = stop.frame ≤ most

sooner_within : (most : ℕ) (a b : Option Soonest) → StopWithin most a → StopWithin most b → StopWithin most (sooner a b)
sooner_within most None b p q = q
sooner_within most (Some a) None p q = p
sooner_within most (Some a) (Some b) p q = by-test (StopWithin most) (leb a.frame b.frame) (λ _. p) λ _. q

take_bytes : (n : ℕ) (l : List ℕ) → AllBytes l → AllBytes (take n l)
take_bytes zero l b i = omega arith
take_bytes (suc n) [] b i = omega arith
take_bytes (suc n) (x ∷ xs) b zero = b 0
take_bytes (suc n) (x ∷ xs) b (suc i) = take_bytes n xs (λ j. b (suc j)) i

module _ (bank : List ℕ) (track : Track) (bytes : AllBytes bank) where
  table_bytes : AllBytes (take lengths_size (drop track.lengths bank))
  table_bytes = take_bytes lengths_size (drop track.lengths bank) λ i. rw (get_or-drop track.lengths bank i 0) (bytes (track.lengths + i))

  stop_within : (i : ℕ) (v : Option Voice) → StopWithin (frames_a_byte * data_limit) (stop_of bank track i v)
  stop_within i None = tt
  stop_within i (Some v) = omega (arith, timeline_bounded (channel_source bank track v) table_bytes, source_within bank track v)

  from_within : (i : ℕ) (vs : List (Option Voice)) → StopWithin (frames_a_byte * data_limit) (soonest_from bank track i vs)
  unfolding soonest_from
  from_within i [] = tt
  from_within i (v ∷ vs) = sooner_within _ (stop_of bank track i v) _ (stop_within i v) (from_within (i + 1) vs)

  -- in a bank of bytes the first stop comes within 65,280 frames for each of a channel's 256 bytes
  pub soonest_within : StopWithin (frames_a_byte * data_limit) (soonest_of bank track)
  soonest_within = from_within 0 track.voices
