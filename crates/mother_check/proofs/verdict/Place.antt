-- The numbers and places of a verdict.
use Prim.Native.Nat.{ℕ, zero, suc, ◌+◌, ◌≤◌, ◌<◌}
use mathlib.Core.Bool.{Bool, true, false}
use mathlib.Core.List.{List, [], ◌∷◌}
use mathlib.Core.Path.{◌≡◌, refl, subst}
use native.Mathlib.Omega.{arith}
use borrow.Author.Tests.{le-leb, lt-leb}
use lib.ListN.{length, get_or}
use Rattle.std.specs.Prelude.{Option, Some, None, Ok, Err, Result}
use Rattle.engine_base.specs.Address.{offset_of, within}
use Rattle.engine_base.specs.Refusal.{number_of}
use Rattle.engine_base.specs.declared.refusal.Refusal.{Refusal}
use Rattle.engine_base.specs.declared.refusal.Refusal.TheVariants.{EnvelopeTooHigh, NoEnvelopeEnd, InvalidCommand, PastData, OddTranspose, BadPlaylist, NoNote}
use Rattle.engine_base.proofs.Picks.{by-test}
use Rattle.mother_format.specs.Bank.{block_limit, banks, block_of}
use Rattle.mother_format.specs.Header.{open_track}
use Rattle.mother_format.specs.Playlist.{entry_at}
use Rattle.mother_format.specs.Channel.{Source, block_source, played_at, refused_at}
use Rattle.mother_format.specs.Command.{command_at}
use Rattle.mother_format.specs.Straight.{Straight, is_end, straight_by, straight_from}
use Rattle.mother_format.proofs.bank.Joined.{block_within}
use Rattle.mother_format.proofs.channel.Plays.{Refusing, Plays, plays}
use Rattle.mother_format.proofs.header.Opening.{Unopened, unopened, four_voices}
use Rattle.mother_format.proofs.playlist.Next.{EntryWithin, entry_within}
use Rattle.mother_format.proofs.command.Laws.{stands}
use Rattle.mother_format.specs.declared.bank.Places.{Places}
use Rattle.mother_format.specs.declared.channel.Played.{Played}
use Rattle.mother_format.specs.declared.channel.Setting.{Setting}
use Rattle.engine_base.specs.declared.time.Frames.{Frames}
use Rattle.mother_format.specs.declared.command.Kind.{Kind}
use Rattle.mother_format.specs.Command.{Decoded}
use Rattle.mother_format.specs.declared.header.Voice.{Voice}
use Rattle.mother_format.specs.declared.header.Track.{Track}
use Rattle.mother_format.specs.declared.playlist.Entry.{Entry}
use Rattle.mother_check.specs.Walk.{spot_at, word_by, word_at, marks_at, Named, block, bad, named_by, named_from, named}
use Rattle.mother_check.specs.Reading.{passed}
use Rattle.mother_check.specs.Settings.{settings_of}
use Rattle.mother_check.specs.Faults.{site_of, fault_at, fault_by, length_by, command_faults, end_fault, read_faults, entering, block_faults, sized_after, named_faults, channel_faults, voices_faults, track_faults, first_of}
use Rattle.mother_check.specs.Verdict.{verdict_by, verdict_on, verdict_of, told_verdict}
use Rattle.mother_check.proofs.Member.{In, here, there, in_one, none_in}
use Rattle.mother_check.proofs.first.Order.{first_found_in}
use Rattle.mother_check.specs.declared.reading.Progress.{Progress}
use Rattle.mother_check.specs.declared.walk.Spot.{Spot}
use Rattle.mother_check.specs.declared.walk.Word.{Word}
use Rattle.mother_check.specs.declared.faults.Site.{Site}
use Rattle.mother_check.specs.declared.faults.Fault.{Fault}
use Rattle.mother_check.specs.declared.verdict.Verdict.{Verdict}

-- refusal, offset and address of a fault: of 10 to 15 the address is that of a block in the banks plus the offset
pub data Faulting : Refusal → ℕ → ℕ → Type 0 where
  of_data : {refusal : Refusal} {at : ℕ} (start : ℕ) → number_of InvalidCommand ≤ number_of refusal → number_of refusal ≤ number_of PastData →
      at ≤ block_limit → within start 1 ≡ true → Faulting refusal at (start + at)
  of_envelope : {refusal : Refusal} {at : ℕ} → number_of EnvelopeTooHigh ≤ number_of refusal → number_of refusal ≤ number_of NoEnvelopeEnd →
      at ≤ block_limit → Faulting refusal at 0
  of_transpose : {at : ℕ} → at ≤ block_limit → Faulting OddTranspose at 0
  of_playlist : Faulting BadPlaylist 0 0
  of_end : {at : ℕ} → at ≤ block_limit → Faulting NoNote at 0

-- in a channel from one on, below another
pub record FaultFrom (first last : ℕ) (f : Fault) : Type 0 where
  pub from : first ≤ f.channel
  pub to : f.channel < last
  pub says : Faulting f.refusal f.at f.address

-- a refusal is one of 1 to 4, 8, 9 and 19, or it has a place
abbrev pub VerdictWithin : Verdict → Type 0
VerdictWithin Verdict.Pass = Unit {0}
VerdictWithin (Verdict.Refused refusal) = Unopened refusal
VerdictWithin (Verdict.Fault f) = FaultFrom 0 4 f

fault_from : {i : ℕ} {f : Fault} → f.channel ≡ i → Faulting f.refusal f.at f.address → FaultFrom i (i + 1) f
fault_from e s = record { from = omega arith; to = omega arith; says = s }

widened : {i first last : ℕ} {f : Fault} → first ≤ i → i < last → FaultFrom i (i + 1) f → FaultFrom first last f
widened h w x = record { from = omega (arith, x.from); to = omega (arith, x.to); says = x.says }

module _ (start : ℕ) (w : within start 1 ≡ true) (site : Site) where
  abbrev Sited : Fault → Type 0
  Sited f = FaultFrom site.channel (site.channel + 1) f

  one_within : (refusal : Refusal) (at address : ℕ) → Faulting refusal at address → (f : Fault) → In f (fault_at site refusal at address ∷ []) → Sited f
  one_within refusal at address x _ here = fault_from refl x
  one_within refusal at address x f (there x4) = elim x4 [ ]

  refused_within : (refusal : Refusal) (at : ℕ) → Refusing refusal → at ≤ block_limit → (f : Fault) → In f (fault_by site (refused_at start refusal at)) → Sited f
  refused_within refusal at (Refusing.of_envelope low high) h =
      rw (lt-leb (number_of InvalidCommand) (number_of refusal) (omega arith)) (one_within refusal at 0 (of_envelope low high h))
  refused_within refusal at (Refusing.of_data low high) h =
      rw (le-leb (number_of InvalidCommand) (number_of refusal) low, le-leb (number_of refusal) (number_of PastData) high)
      (one_within refusal at (start + at) (of_data start low high h w))
  refused_within refusal at Refusing.of_transpose h = one_within OddTranspose at 0 (of_transpose h)

  module _ (bank8 banka : List ℕ) (places : Places) (kind : Kind) where
    abbrev bytes : List ℕ
    bytes = block_of bank8 banka start

    abbrev source : Source
    source = block_source bank8 banka places kind start

    played_within : (s : Setting) (l : Frames) (at : ℕ) → at ≤ length bytes → (p : Played) → Plays source s l at p → (f : Fault) → In f (fault_by site p) → Sited f
    played_within s l at h _ (Plays.ends_block next e) f i = none_in i
    played_within s l at h _ (Plays.transposes m next e t) f i = none_in i
    played_within s l at h _ (Plays.windows t next e) f i = none_in i
    played_within s l at h _ (Plays.ends_loop next e) f i = none_in i
    played_within s l at h _ (Plays.begins_loop n counter next e t) f i = none_in i
    played_within s l at h _ (Plays.sets_length l' b sound next long e t u) f i = none_in i
    played_within s l at h _ (Plays.sets_timbre x c next e) f i = none_in i
    played_within s l at h _ (Plays.notes b sound next e t u) f i = none_in i
    played_within s l at h _ (Plays.refuses refusal offset r near) f i =
        let small = block_within bank8 banka start in
        refused_within refusal offset r (omega arith) f i

    command_within : (ss : List Setting) (sized : Bool) (at : ℕ) → at ≤ length bytes → (f : Fault) → In f (command_faults source site ss sized at) → Sited f
    unfolding command_faults
    command_within [] sized at h f i = none_in i
    command_within (s ∷ ss) sized at h f i =
        in_one (fault_by site (played_at source s (length_by sized) at))
        (played_within s (length_by sized) at h _ (plays source s (length_by sized) at) f) (command_within ss sized at h f) i

    end_within : (noted : Bool) (at : ℕ) → at ≤ length bytes → (f : Fault) → In f (end_fault site noted at) → Sited f
    end_within true at h f i = none_in i
    end_within false at h _ here = let small = block_within bank8 banka start in fault_from refl (of_end (omega arith))
    end_within false at h f (there x5) = elim x5 [ ]

    module _ (ss : List Setting) where
      abbrev ReadWithin : Progress → ℕ → Straight → Type 0
      ReadWithin p at s = (f : Fault) → In f (read_faults source site ss p at s.commands s.finish) → Sited f

      stopped_within : (p : Progress) (at : ℕ) (refusal : Refusal) (offset : ℕ) → at ≤ length bytes → ReadWithin p at (record { commands = []; finish = Err (refusal, offset) })
      unfolding read_faults
      stopped_within p at refusal offset h f i = in_one (command_faults source site ss p.sized at) (command_within ss p.sized at h f) (λ n. none_in n) i

      read_within : (left : ℕ) (p : Progress) (at : ℕ) → at ≤ length bytes → ReadWithin p at (straight_from kind bytes left at)
      unfolding straight_from read_faults
      read_within zero p at h = stopped_within p at PastData at h
      read_within (suc left) p at h = by (read_within left) (command_at kind bytes at) refl
        where
          by : ((q : Progress) (next : ℕ) → next ≤ length bytes → ReadWithin q next (straight_from kind bytes left next)) →
              (d : Decoded) → command_at kind bytes at ≡ d → ReadWithin p at (straight_by at (λ next. straight_from kind bytes left next) d)
          by further (Ok (c, next)) e =
              let (size, near, small) = stands kind bytes at e in
              by-test (ReadWithin p at) (is_end c)
              (λ _ f n. in_one (command_faults source site ss p.sized at) (command_within ss p.sized at h f) (end_within p.noted at h f) n) λ _ f n.
              in_one (command_faults source site ss p.sized at) (command_within ss p.sized at h f)
              (subst (λ o. ReadWithin (passed p c) o (straight_from kind bytes left next)) size (further (passed p c) next near) f) n
          by further (Err (refusal, offset)) e = stopped_within p at refusal offset h

    block_faults_within : (ss : List Setting) (sized : Bool) (f : Fault) → In f (block_faults bank8 banka places kind start site ss sized) → Sited f
    unfolding block_faults
    block_faults_within ss sized = read_within ss (length bytes) (entering sized) 0 (omega arith)

-- the blocks of a playlist are in the banks
abbrev Inside : List Named → Type 0
Inside [] = Unit {0}
Inside (block place address ∷ names) = (within address 1 ≡ true) × Inside names
Inside (bad place ∷ names) = Inside names

names_inside : (bank : List ℕ) (more : ℕ) (spot : Spot) (marks : List Bool) (place : ℕ) → Inside (named_from bank more spot marks place)
unfolding named_from word_at
names_inside bank zero spot marks place = tt
names_inside bank (suc more) spot marks place =
    by (λ next. names_inside bank more next (marks_at bank spot marks) (place + 1)) (entry_at bank spot.list spot.row spot.by_goto)
    (entry_within bank spot.list spot.row spot.by_goto)
  where
    by : ((next : Spot) → Inside (named_from bank more next (marks_at bank spot marks) (place + 1))) → (x : Result Entry Refusal) → EntryWithin spot.row x →
        Inside (named_by place (λ next. named_from bank more next (marks_at bank spot marks) (place + 1)) (word_by spot marks x))
    by further (Ok Entry.End) w = tt
    by further (Ok (Entry.Goto target)) w =
        by-test (λ (x : Word). Inside (named_by place (λ next. named_from bank more next (marks_at bank spot marks) (place + 1)) x)) (get_or marks (offset_of target) false)
        (λ _. tt) λ _. further (spot_at target 0 true)
    by further (Ok (Entry.Block address next)) (row, w) = (w, further (spot_at next (spot.row + 1) false))
    by further (Err refusal) w = tt

module _ (bank8 banka : List ℕ) (places : Places) (ss : List Setting) where
  named_within : (kind : Kind) (i : ℕ) (sized : Bool) (names : List Named) → Inside names → (f : Fault) →
      In f (named_faults bank8 banka places kind i ss sized names) → FaultFrom i (i + 1) f
  unfolding named_faults
  named_within kind i sized [] w f n = none_in n
  named_within kind i sized (block place address ∷ names) (w, ws) f n =
      in_one (block_faults bank8 banka places kind address (site_of i place) ss sized)
      (block_faults_within address w (site_of i place) bank8 banka places kind ss sized f)
      (named_within kind i (sized_after bank8 banka kind address sized) names ws f) n
  named_within kind i sized (bad place ∷ names) ws _ here = fault_from refl of_playlist
  named_within kind i sized (bad place ∷ names) ws f (there n) = named_within kind i sized names ws f n

  channel_within : (i : ℕ) (v : Option Voice) (f : Fault) → In f (channel_faults bank8 banka places i ss v) → FaultFrom i (i + 1) f
  unfolding channel_faults named
  channel_within i None f n = none_in n
  channel_within i (Some v) f n = named_within v.kind i false (named (banks bank8 banka) v.list) (names_inside (banks bank8 banka) _ _ _ _) f n

  voices_within : (i last : ℕ) (vs : List (Option Voice)) → i + length vs ≤ last → (f : Fault) → In f (voices_faults bank8 banka places i ss vs) → FaultFrom i last f
  unfolding voices_faults
  voices_within i last [] h f n = none_in n
  voices_within i last (v ∷ vs) h f n =
      in_one (channel_faults bank8 banka places i ss v) (λ m. widened (omega arith) (omega arith) (channel_within i v f m))
      (λ m. let x = voices_within (i + 1) last vs (omega arith) f m in record { from = omega (arith, x.from); to = x.to; says = x.says }) n

first_within : (fs : List Fault) → ((f : Fault) → In f fs → FaultFrom 0 4 f) → (x : Option Fault) → first_of fs ≡ x → VerdictWithin (verdict_by x)
first_within fs h None e = tt
first_within fs h (Some f) e = h f (first_found_in fs f e)

pub verdict_within : (bank8 banka : List ℕ) (places : Places) (track : ℕ) → VerdictWithin (verdict_of bank8 banka places track)
unfolding verdict_of track_faults
verdict_within bank8 banka places track = by (open_track bank8 banka places track) refl
  where
    by : (x : Result Track Refusal) → open_track bank8 banka places track ≡ x → VerdictWithin (verdict_on bank8 banka places x)
    by (Ok found) e =
        first_within (track_faults bank8 banka places found)
        (voices_within bank8 banka places (settings_of bank8 banka found) 0 4 found.voices (omega (arith, four_voices bank8 banka places track found e))) _ refl
    by (Err refusal) e = unopened bank8 banka places track refusal e

-- 0 is told of a pass alone
pub passes : (v : Verdict) → VerdictWithin v → (told_verdict v).number ≡ 0 → v ≡ Verdict.Pass
passes Verdict.Pass w e = refl
passes (Verdict.Refused refusal) w e = absurd (unopened_not_0 refusal w e)
  where
    unopened_not_0 : (refusal : Refusal) → Unopened refusal → number_of refusal ≡ 0 → ⊥
    unopened_not_0 refusal (Unopened.of_places low high) e = omega arith
    unopened_not_0 refusal (Unopened.of_channels low high) e = omega arith
    unopened_not_0 refusal Unopened.of_transpose e = omega arith
passes (Verdict.Fault f) w e = absurd (not_0 f.refusal f.at f.address w.says e)
  where
    not_0 : (refusal : Refusal) (at address : ℕ) → Faulting refusal at address → number_of refusal ≡ 0 → ⊥
    not_0 refusal at address (of_data start low high h w) e = omega arith
    not_0 refusal at address (of_envelope low high h) e = omega arith
    not_0 refusal at address (of_transpose h) e = omega arith
    not_0 refusal at address of_playlist e = omega arith
    not_0 refusal at address (of_end h) e = omega arith
