-- What holds of a track that opening gives.
use Prim.Native.Nat.{ℕ, ◌+◌, ◌/◌, ◌<◌}
use mathlib.Core.Bool.{Bool, true, false}
use mathlib.Core.List.{List, [], ◌∷◌}
use mathlib.Core.Path.{◌≡◌, refl, sym, subst}
use native.Mathlib.Omega.{arith}
use borrow.Author.Tests.{eqb-true, leb-true}
use borrow.Author.Rules.{rules}
use Rattle.std.specs.Prelude.{Option, None, Some, Result, Ok, Err}
use lib.Dec.{eqb, leb, ltb}
use lib.ListN.{length, get_or}
use Rattle.engine_base.specs.Pick.{pick, unless, all}
use Rattle.engine_base.specs.Refusal.{Unopened}
use Rattle.engine_base.specs.declared.refusal.Refusal.{Refusal}
use Rattle.engine_base.specs.declared.refusal.Refusal.TheVariants.{WrongSize, TableOutside, NoTrack, HeaderOutside, WindowTooHigh, EnvelopeTooHigh, NoEnvelopeEnd, ChannelOutside, NoChannel}
use Rattle.engine_base.specs.Address.{bank_start, bank_end, offset_of, address_of, within}
use Rattle.metroid_format.specs.Bank.{bank_size}
use Rattle.metroid_format.specs.Header.{
  places_fit,
  window_fits,
  envelope_numbers_fit,
  squares_end,
  address_fits,
  addresses_fit,
  all_unused,
  header_number,
  number_of,
  header_of,
  header_address,
  header_size,
  voice_of,
  voices_of,
  track_of,
  opened,
  open_track,
  channel_start,
}
use Rattle.engine_base.proofs.Picks.{by-test, both, refused_given, passed, unpassed, false_true}
use Rattle.metroid_format.specs.declared.command.Kind.{Kind}
use Rattle.metroid_format.specs.declared.bank.Places.{Places}
use Rattle.metroid_format.specs.declared.header.Voice.{Voice}
use Rattle.metroid_format.specs.declared.header.Track.{Track}

-- a used channel's data start in the bank, at its start address
pub record StartsAt (start : ℕ) (voice : Voice) : Type 0 where
  pub inside : voice.«data» < bank_size
  pub address : address_of voice.«data» ≡ start

abbrev pub MayStart : ℕ → Option Voice → Type 0
MayStart start None = Unit {0}
MayStart start (Some voice) = StartsAt start voice

-- of the i-th channel and those after it
abbrev pub AllStart : (ℕ → ℕ) → ℕ → List (Option Voice) → Type 0
AllStart start i [] = Unit {0}
AllStart start i (v ∷ vs) = MayStart (start i) v × AllStart start (i + 1) vs

pub data SomeUsed : List (Option Voice) → Type 0 where
  here : {v : Voice} {vs : List (Option Voice)} → SomeUsed (Some v ∷ vs)
  later : {v : Option Voice} {vs : List (Option Voice)} → SomeUsed vs → SomeUsed (v ∷ vs)

pub record Opens (bank : List ℕ) (start : ℕ → ℕ) (track : Track) : Type 0 where
  pub size : length bank ≡ bank_size
  pub four : length track.voices ≡ 4
  pub low : track.window < 32
  pub starts : AllStart start 0 track.voices
  pub some : SomeUsed track.voices

address_offset : (address : ℕ) → address_fits address ≡ true
    → (offset_of address < bank_size) × (eqb address 0 ≡ false → address_of (offset_of address) ≡ address)
unfolding address_fits within
address_offset address e = by (eqb address 0) (eqb-true address 0) e
  where
    last : Bool
    last = all (leb (address + 1) bank_end ∷ [])

    by : (unused : Bool) → (unused ≡ true → address ≡ 0)
        → pick unused true (pick (leb bank_start address) last false) ≡ true
        → (offset_of address < bank_size) × (unused ≡ false → address_of (offset_of address) ≡ address)
    by true h e = (omega (arith, h refl), λ z. absurd (false_true (sym z)))
    by false h e =
        let inside = both (leb bank_start address) last e in
        let low = leb-true bank_start address inside.0 in
        (omega (arith, leb-true (address + 1) bank_end (both _ true inside.1).0), λ _. omega arith)

voice_start : (bank : List ℕ) (table : ℕ) (k : Kind) (address number ctrl1 : ℕ)
    → address_fits address ≡ true → MayStart address (voice_of bank table k address number ctrl1)
unfolding voice_of
voice_start bank table k address number ctrl1 e =
    let inside = address_offset address e in
    by-test (MayStart address) (eqb address 0) (λ _. tt) λ u.
    record { inside = inside.0; address = inside.1 u }

voices_start : (bank : List ℕ) (places : Places) (header : List ℕ)
    → addresses_fit header ≡ true → AllStart (channel_start header) 0 (voices_of bank places header)
unfolding addresses_fit voices_of
voices_start bank places header e =
    let square1 = both _ _ e in
    let square2 = both _ _ square1.1 in
    let triangle = both _ _ square2.1 in
    let noise = both _ _ triangle.1 in (
      voice_start _ _ _ _ _ _ square1.0,
      (
        voice_start _ _ _ _ _ _ square2.0,
        (voice_start _ _ _ _ _ _ triangle.0, (voice_start _ _ _ _ _ _ noise.0, tt)),
      ),
    )

voice_used : (bank : List ℕ) (table : ℕ) (k : Kind) (address number ctrl1 : ℕ) {vs : List (Option Voice)}
    → eqb address 0 ≡ false → SomeUsed (voice_of bank table k address number ctrl1 ∷ vs)
unfolding voice_of
voice_used bank table k address number ctrl1 e = rw e here

used_first : {v : Option Voice} {vs : List (Option Voice)} (unused others : Bool) → (unused ≡ false → SomeUsed (v ∷ vs))
    → (others ≡ false → SomeUsed vs) → pick unused others false ≡ false → SomeUsed (v ∷ vs)
used_first true others first rest e = later (rest e)
used_first false others first rest e = first refl

voices_used : (bank : List ℕ) (places : Places) (header : List ℕ)
    → all_unused header ≡ false → SomeUsed (voices_of bank places header)
unfolding all_unused voices_of
voices_used bank places header e =
    used_first _ _ (voice_used _ _ _ _ _ _)
    (used_first _ _ (voice_used _ _ _ _ _ _)
    (used_first _ _ (voice_used _ _ _ _ _ _)
    (used_first _ _ (voice_used _ _ _ _ _ _) λ e. absurd (false_true (sym e)))))
    e

track_opens : (bank : List ℕ) (places : Places) (header : List ℕ)
    → length bank ≡ bank_size
    → header_number bank places.envelope_addresses header ≡ Ok tt
    → Opens bank (channel_start header) (track_of bank places header)
unfolding header_number window_fits track_of voices_of
track_opens bank places header size e =
    let low = passed (window_fits header) WindowTooHigh _ e in
    let numbers = passed (envelope_numbers_fit header) EnvelopeTooHigh _ low.1 in
    let ends = passed (squares_end bank places.envelope_addresses header) NoEnvelopeEnd _ numbers.1 in
    let fits = passed (addresses_fit header) ChannelOutside _ ends.1 in
    record {
      size = size;
      four = refl;
      low = omega (arith, eqb-true (get_or header 0 0 / 32) 0 low.0);
      starts = voices_start bank places header fits.0;
      some = voices_used bank places header (unpassed (all_unused header) NoChannel _ fits.1);
    }

opened_ok : (r : Result (Unit {0}) Refusal) (t given : Track) → opened r t ≡ Ok given → (r ≡ Ok tt) × (t ≡ given)
opened_ok (Ok passed) t given e = (refl, cc)
opened_ok (Err refusal) t given e = absurd (refused_given refusal given e)

pub opens : (bank : List ℕ) (places : Places) (track : ℕ) {given : Track}
    → open_track bank places track ≡ Ok given
    → Opens bank (channel_start (header_of bank places track)) given
unfolding open_track number_of
opens bank places track {given} e =
    let opened = opened_ok (number_of bank places track) (track_of bank places (header_of bank places track)) given e in
    let size = passed (eqb (length bank) bank_size) WrongSize _ opened.0 in
    let tables = passed (places_fit places) TableOutside _ size.1 in
    let below = passed (ltb track places.track_count) NoTrack _ tables.1 in
    let within = passed (within (header_address bank places track) header_size) HeaderOutside _ below.1 in
    rw (← opened.1) (track_opens bank places (header_of bank places track) (eqb-true _ _ size.0) within.1)

-- refused, if at all, under one of 1 to 9
abbrev MayOpen : {A : Type 0} → Result A Refusal → Type 0
MayOpen (Ok given) = Unit {0}
MayOpen (Err refusal) = Unopened refusal

may_open : (test : Bool) (refusal : Refusal) (rest : Result (Unit {0}) Refusal) → Unopened refusal → MayOpen rest → MayOpen (unless test refusal rest)
may_open true refusal rest h k = k
may_open false refusal rest h k = h

may_refuse : (test : Bool) (refusal : Refusal) → Unopened refusal → MayOpen (pick {A = Result (Unit {0}) Refusal} test (Err refusal) (Ok tt))
may_refuse true refusal h = h
may_refuse false refusal h = tt

header_may : (bank : List ℕ) (table : ℕ) (header : List ℕ) → MayOpen (header_number bank table header)
unfolding header_number
header_may bank table header = search (may_open, may_refuse, rules) depth 30

number_may : (bank : List ℕ) (places : Places) (track : ℕ) → MayOpen (number_of bank places track)
unfolding number_of
number_may bank places track = search (may_open, header_may, rules) depth 30

opened_may : (r : Result (Unit {0}) Refusal) (t : Track) → MayOpen r → MayOpen (opened r t)
opened_may (Ok passed) t m = tt
opened_may (Err refusal) t m = m

-- else it is refused under one of 1 to 9
pub unopened : (bank : List ℕ) (places : Places) (track : ℕ) {refusal : Refusal}
    → open_track bank places track ≡ Err refusal → Unopened refusal
unfolding open_track
unopened bank places track {refusal} e =
    subst (λ (r : Result Track Refusal). MayOpen r) e
    (opened_may (number_of bank places track) (track_of bank places (header_of bank places track)) (number_may bank places track))
