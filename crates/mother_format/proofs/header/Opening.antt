-- The numbers of an opening, and where a header stands that 1 to 4 let pass.
use Prim.Native.Nat.{ℕ, ◌≤◌}
use mathlib.Core.List.{List}
use mathlib.Core.Path.{◌≡◌, sym, subst}
use native.Mathlib.Omega.{arith}
use mir.Syntax.{w16}
use mir.Val.{Fits}
use lib.Dec.{eqb, ltb}
use lib.ListN.{length, get_or}
use Rattle.std.specs.Prelude.{Result, Ok, Err}
use Rattle.engine_base.specs.Refusal.{number_of}
use Rattle.engine_base.specs.declared.refusal.Refusal.{Refusal}
use Rattle.engine_base.specs.declared.refusal.Refusal.TheVariants.{WrongSize, TableOutside, NoTrack, HeaderOutside, ChannelOutside, NoChannel, OddTranspose}
use Rattle.engine_base.specs.Address.{offset_of, within}
use Rattle.mother_format.specs.Bank.{bank_size, banks}
use Rattle.mother_format.specs.Transpose.{is_odd}
use Rattle.mother_format.specs.Header.{places_fit, header_address, header_size, places_number, addresses_fit, all_unused, header_number, and_then, number_of as number_of_track, voices_of, track_of, open_track}
use Rattle.engine_base.proofs.Picks.{by-test, passed}
use Rattle.engine_base.proofs.address.Inside.{inside}
use Rattle.mother_format.specs.declared.bank.Places.{Places}
use Rattle.mother_format.specs.declared.header.Track.{Track}

pub header_fits : (bank8 banka : List ℕ) (places : Places) (track address offset : ℕ) (u : Unit {0}) →
    Ok u ≡ places_number bank8 banka places track →
    address ≡ header_address (banks bank8 banka) places track → offset ≡ offset_of address → Fits w16 offset
unfolding places_number
header_fits bank8 banka places track address offset u z a o =
    let low = passed (eqb (length bank8) bank_size) WrongSize _ (sym z) in
    let high = passed (eqb (length banka) bank_size) WrongSize _ low.1 in
    let tables = passed (places_fit places) TableOutside _ high.1 in
    let below = passed (ltb track places.track_count) NoTrack _ tables.1 in
    let stands = passed (within (header_address (banks bank8 banka) places track) header_size) HeaderOutside _ below.1 in
    let (first, last) = inside _ _ stands.0 in
    record { fits = omega arith }

-- 1 to 4, 8, 9 and 19
pub data Unopened : Refusal → Type 0 where
  of_places : {refusal : Refusal} → number_of WrongSize ≤ number_of refusal → number_of refusal ≤ number_of HeaderOutside → Unopened refusal
  of_channels : {refusal : Refusal} → number_of ChannelOutside ≤ number_of refusal → number_of refusal ≤ number_of NoChannel → Unopened refusal
  of_transpose : Unopened OddTranspose

abbrev Named : {A : Type 0} → Result A Refusal → Type 0
Named (Ok given) = Unit {0}
Named (Err refusal) = Unopened refusal

places_named : (bank8 banka : List ℕ) (places : Places) (track : ℕ) → Named (places_number bank8 banka places track)
unfolding places_number
places_named bank8 banka places track =
    by-test Named (eqb (length bank8) bank_size)
    (λ _. by-test Named (eqb (length banka) bank_size)
    (λ _. by-test Named (places_fit places)
    (λ _. by-test Named (ltb track places.track_count)
    (λ _. by-test Named (within (header_address (banks bank8 banka) places track) header_size) (λ _. tt)
    (λ _. of_places (omega arith) (omega arith)))
    (λ _. of_places (omega arith) (omega arith)))
    (λ _. of_places (omega arith) (omega arith)))
    (λ _. of_places (omega arith) (omega arith)))
    (λ _. of_places (omega arith) (omega arith))

header_named : (bank : List ℕ) (header : ℕ) → Named (header_number bank header)
unfolding header_number
header_named bank header =
    by-test Named (addresses_fit bank header)
    (λ _. by-test Named (all_unused bank header) (λ _. of_channels (omega arith) (omega arith))
    (λ _. by-test Named (is_odd (get_or bank header 0)) (λ _. of_transpose) (λ _. tt)))
    (λ _. of_channels (omega arith) (omega arith))

after_named : {A : Type 0} (first : Result (Unit {0}) Refusal) (rest : Result A Refusal) → Named first → Named rest → Named (and_then first rest)
after_named (Ok u) rest f r = r
after_named (Err refusal) rest f r = f

-- a track that does not open is refused under one of these
pub unopened : (bank8 banka : List ℕ) (places : Places) (track : ℕ) (refusal : Refusal) →
    open_track bank8 banka places track ≡ Err refusal → Unopened refusal
unfolding open_track number_of_track
unopened bank8 banka places track refusal e =
    subst Named e
    (after_named (number_of_track bank8 banka places track) _
    (after_named (places_number bank8 banka places track) _ (places_named bank8 banka places track) (header_named (banks bank8 banka) _)) tt)

abbrev HasFour : Result Track Refusal → Type 0
HasFour (Ok t) = length t.voices ≤ 4
HasFour (Err refusal) = Unit {0}

pub four_voices : (bank8 banka : List ℕ) (places : Places) (track : ℕ) (found : Track) →
    open_track bank8 banka places track ≡ Ok found → length found.voices ≤ 4
unfolding open_track track_of voices_of
four_voices bank8 banka places track found e =
    subst HasFour e (by _ (number_of_track bank8 banka places track) (omega arith))
  where
    by : (t : Track) (first : Result (Unit {0}) Refusal) → length t.voices ≤ 4 → HasFour (and_then first (Ok t))
    by t (Ok u) h = h
    by t (Err refusal) h = tt
