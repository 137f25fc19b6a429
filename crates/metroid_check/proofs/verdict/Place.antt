-- A verdict's refusal is one of 1 to 15, and its place one of the four channels, an offset in its data or at its end, and the address
-- there: the channel's start address plus the offset, at most $c000; for 15 the smaller of start + 256 and $c000.
use Prim.Native.Nat.{ℕ, ◌+◌, ◌<◌, ◌≤◌, min}
use mathlib.Core.List.{List, [], ◌∷◌}
use mathlib.Core.Path.{◌≡◌, refl, subst}
use native.Mathlib.Omega.{arith}
use lib.Dec.{leb}
use lib.ListN.{length, length-take, length-drop}
use Rattle.engine_base.specs.Address.{bank_end}
use Rattle.std.specs.Prelude.{Option, Some, None, Result, Ok, Err}
use Rattle.engine_base.specs.Refusal.{FaultAt}
use Rattle.engine_base.specs.declared.refusal.Refusal.{Refusal}
use Rattle.engine_base.specs.declared.refusal.Refusal.TheVariants.{PastData}
use Rattle.metroid_format.specs.Bank.{bank_size}
use Rattle.metroid_format.specs.Command.{data_limit}
use Rattle.metroid_format.specs.Header.{open_track, header_of, channel_start}
use Rattle.engine_base.proofs.Picks.{by-test}
use Rattle.metroid_format.proofs.header.Opening.{MayStart, AllStart, opens, unopened}
use Rattle.metroid_format.proofs.timeline.Offsets.{track_within, walk_wants}
use Rattle.metroid_format.proofs.timeline.Walked.{timeline_walk}
use Rattle.metroid_format.specs.declared.bank.Places.{Places}
use Rattle.metroid_format.specs.declared.header.Voice.{Voice}
use Rattle.metroid_format.specs.declared.header.Track.{Track}
use Rattle.metroid_format.specs.Timeline.{Finish}
use Rattle.metroid_format.specs.Channel.{Source, channel_source, fresh_cursor}
use Rattle.metroid_format.specs.Timeline.{Walk, timeline_of, stop_of, sooner, soonest_from, soonest_of}
use Rattle.metroid_format.proofs.channel.Offsets.{source_within}
use Rattle.metroid_check.specs.Verdict.{verdict_stop, verdict_by, verdict_opened, verdict_of, VerdictWithin}
use Rattle.metroid_format.specs.declared.timeline.Soonest.{Soonest}
use Rattle.metroid_check.specs.declared.verdict.Verdict.{Verdict}

-- the address of a fault of a channel by itself
abbrev InBank : ℕ → Finish → Type 0
InBank start (Ok passed) = Unit {0}
InBank start (Err (refusal, at, address)) =
    FaultAt start data_limit refusal at address
    × (address ≤ bank_end)
    × (refusal ≡ PastData → address ≡ min (start + data_limit) bank_end)

module _ (bank : List ℕ) (track : Track) (v : Voice) where
  abbrev source : Source
  source = channel_source bank track v

  -- 256 bytes or to $bfff, whichever is sooner
  data_end : length bank ≡ bank_size → v.«data» < bank_size → source.start + length source.bytes ≡ min (source.start + data_limit) bank_end
  data_end e h = rw (length-take, length-drop, e) (omega arith)

  in_bank : length bank ≡ bank_size → v.«data» < bank_size → {frames : ℕ} (finish : Finish) →
      Walk source fresh_cursor frames finish → InBank source.start finish
  in_bank e h (Ok passed) w = tt
  in_bank e h (Err (refusal, at, address)) w =
      let end = data_end e h in
      let ((low, high, within), a) = track_within source (length source.bytes) (omega arith) w in (
        ((low, high, omega (arith, source_within bank track v)), a),
        omega arith,
        λ z. let past = walk_wants w z in omega arith,
      )

module _ (bank : List ℕ) (track : Track) (start : ℕ → ℕ) (n : ℕ) where
  -- one of the channels below n
  abbrev Below : Option Soonest → Type 0
  Below None = Unit {0}
  Below (Some stop) = (stop.channel < n) × InBank (start stop.channel) stop.finish

  sooner_below : (a b : Option Soonest) → Below a → Below b → Below (sooner a b)
  sooner_below None b p q = q
  sooner_below (Some a) None p q = p
  sooner_below (Some a) (Some b) p q = by-test Below (leb a.frame b.frame) (λ _. p) λ _. q

  stop_below : (i : ℕ) (v : Option Voice) → length bank ≡ bank_size → MayStart (start i) v → i < n → Below (stop_of bank track i v)
  stop_below i None e s h = tt
  stop_below i (Some v) e s h =
      let finish = (timeline_of (channel_source bank track v)).finish in
      let walk = timeline_walk (channel_source bank track v) in
      (h, subst (λ a. InBank a finish) s.address (in_bank bank track v e s.inside finish walk))

  soonest_below : (i : ℕ) (vs : List (Option Voice)) → length bank ≡ bank_size → AllStart start i vs → n ≡ i + length vs →
      Below (soonest_from bank track i vs)
  unfolding soonest_from
  soonest_below i [] b s e = tt
  soonest_below i (v ∷ vs) b (s, ss) e =
      sooner_below (stop_of bank track i v) _ (stop_below i v b s (omega arith)) (soonest_below (i + 1) vs b ss (omega arith))

by_finish : (start : ℕ → ℕ) (frame i : ℕ) (finish : Finish) → i < 4 → InBank (start i) finish →
    VerdictWithin start (verdict_stop frame i finish)
by_finish start frame i (Ok passed) h p = h
by_finish start frame i (Err (refusal, at, address)) h (placed, inside, wanted) = (h, placed, inside, wanted)

by_soonest : (bank : List ℕ) (track : Track) (start : ℕ → ℕ) (s : Option Soonest) → Below bank track start 4 s → VerdictWithin start (verdict_by s)
by_soonest bank track start None p = (omega arith, omega arith)
by_soonest bank track start (Some stop) (h, p) = by_finish start stop.frame stop.channel stop.finish h p

module _ (bank : List ℕ) (places : Places) (track : ℕ) where
  abbrev start : ℕ → ℕ
  start = channel_start (header_of bank places track)

  opened_within : (opened : Result Track Refusal) → open_track bank places track ≡ opened →
      VerdictWithin start (verdict_opened bank opened)
  opened_within (Ok opened) e =
      let o = opens bank places track e in
      by_soonest bank opened start (soonest_of bank opened)
      (soonest_below bank opened start 4 0 opened.voices o.size o.starts (omega (arith, o.four)))
  opened_within (Err refusal) e = unopened bank places track e

  pub verdict_within : VerdictWithin (channel_start (header_of bank places track)) (verdict_of bank places track)
  unfolding verdict_of
  verdict_within = opened_within (open_track bank places track) refl

  -- the address is the channel's start address plus the offset, and at most $c000
  pub verdict_address : {refusal : Refusal} {i at frame address : ℕ} → verdict_of bank places track ≡ Verdict.Fault refusal i at frame address →
      (address ≡ channel_start (header_of bank places track) i + at) × (address ≤ bank_end)
  verdict_address e =
      let (_, placed, inside, _) = subst (VerdictWithin (channel_start (header_of bank places track))) e verdict_within in
      (placed.1, inside)

  -- of 15 it is the address wanted
  pub address_wanted : {i at frame address : ℕ} → verdict_of bank places track ≡ Verdict.Fault PastData i at frame address →
      address ≡ min (channel_start (header_of bank places track) i + data_limit) bank_end
  address_wanted e =
      let (_, _, _, wanted) = subst (VerdictWithin (channel_start (header_of bank places track))) e verdict_within in
      wanted refl
