-- The search for the first fault of a channel and of a track, as the code goes.
use Prim.Native.Nat.{ℕ, ◌+◌, ◌-◌, ◌≤◌, ◌<◌}
use mathlib.Core.Bool.{Bool, false}
use mathlib.Core.List.{List}
use mathlib.Core.Path.{◌≡◌, refl, sym, ap, ◌∙◌}
use native.Mathlib.Nat.{sub-zero}
use native.Mathlib.Omega.{arith}
use lib.ListN.{length, get_or, drop, drop_of_length-le, length-replicate}
use Rattle.std.specs.Prelude.{Option, Some, None, Result, Ok, Err}
use Rattle.engine_base.specs.declared.refusal.Refusal.TheVariants.{BadPlaylist}
use Rattle.engine_base.proofs.Channels.{drop_next}
use Rattle.mother_format.specs.Bank.{banks}
use Rattle.mother_format.specs.declared.bank.Places.{Places}
use Rattle.mother_format.specs.declared.command.Kind.{Kind}
use Rattle.mother_format.specs.declared.header.Voice.{Voice}
use Rattle.mother_check.specs.Walk.{addresses, unmarked, first_spot, word_at, marks_at, Named, named_from, most_words, named}
use Rattle.mother_check.specs.Faults.{site_of, fault_at, sized_after}
use Rattle.mother_check.specs.First.{then_first, block_first, read_of, unless_found, named_first, channel_first, voice_first, voices_first}
use Rattle.mother_check.proofs.faults.Laws.{same_found}
use Rattle.mother_check.proofs.walk.Turns.{names_none, names_step, still_marked}
use Rattle.mother_check.specs.declared.walk.Spot.{Spot}
use Rattle.mother_check.specs.declared.walk.Word.{Word}
use Rattle.mother_check.specs.declared.settings.Extremes.{Extremes}
use Rattle.mother_check.specs.declared.faults.Fault.{Fault}

-- what was read of a block, taken apart
abbrev first_in : Result Bool Fault → Option Fault
first_in (Err f) = Some f
first_in (Ok sized) = None

abbrev sized_in : Bool → Result Bool Fault → Bool
sized_in sized (Err f) = sized
sized_in sized (Ok after) = after

first_in_lem : (first : Option Fault) (sized : Bool) → first_in (read_of first sized) ≡ first
first_in_lem None sized = refl
first_in_lem (Some f) sized = refl

sized_in_lem : (first : Option Fault) (sized : Bool) → sized_in sized (read_of first sized) ≡ sized
sized_in_lem None sized = refl
sized_in_lem (Some f) sized = refl

module _ (bank8 banka : List ℕ) (places : Places) (kind : Kind) (list i : ℕ) (e : Extremes) where
  abbrev bank : List ℕ
  bank = banks bank8 banka

  abbrev whole : Option Fault
  whole = channel_first bank8 banka places kind list i e

  abbrev from_here : Bool → List Named → Option Fault
  from_here sized names = named_first bank8 banka places kind i e sized names

  -- before the n-th word
  pub record Midlist (marks : List Bool) (spot : Spot) (sized : Bool) (n : ℕ) : Type 0 where
    pub within : n ≤ most_words
    pub marked : length marks ≡ addresses
    pub rest : whole ≡ from_here sized (named_from bank (most_words - n) spot marks n)

  pub midlist_none : (spot : Spot) → spot ≡ first_spot list → Midlist unmarked spot false 0
  unfolding channel_first named
  midlist_none spot e = record { within = omega arith; marked = length-replicate addresses false; rest = rw (sub-zero most_words, e) }

  module _ (marks : List Bool) (spot : Spot) (sized : Bool) (n : ℕ) (m : Midlist marks spot sized n) where
    pub list_past : most_words ≤ n → Ok tt ≡ unless_found whole
    unfolding named_first
    list_past h = ap unless_found (sym (m.rest ∙ ap (from_here sized) (names_none bank most_words spot marks n h)))

    module _ (h : n < most_words) (word : Word) (after : List Bool) (q : (word ≡ word_at bank spot marks) × (after ≡ marks_at bank spot marks)) where
      pub list_done : word ≡ Word.Done → Ok tt ≡ unless_found whole
      unfolding named_first
      list_done w = ap unless_found (sym (m.rest ∙ ap (from_here sized) (names_step bank most_words spot marks n word after q h _ w)))

      pub list_bad : word ≡ Word.Bad → (r : Fault) → r ≡ fault_at (site_of i n) BadPlaylist 0 0 → Err r ≡ unless_found whole
      unfolding named_first
      list_bad w r b = ap unless_found (ap Some b ∙ sym (m.rest ∙ ap (from_here sized) (names_step bank most_words spot marks n word after q h _ w)))

      pub list_goto : (next : Spot) → word ≡ Word.Goto next → (there : Spot) → there ≡ next → (sized' : Bool) → sized' ≡ sized → Midlist after there sized' (n + 1)
      list_goto next w there t sized' s = record {
        within = omega arith;
        marked = still_marked bank most_words spot marks n word after q _ m.marked;
        rest = m.rest ∙ ap (from_here sized) (names_step bank most_words spot marks n word after q h _ w) ∙ rw (t, s);
      }

      module _ (address : ℕ) (next : Spot) (w : word ≡ Word.Block address next) (read : Result Bool Fault)
          (b : read ≡ read_of (block_first bank8 banka places kind address (site_of i n) e sized) (sized_after bank8 banka kind address sized)) where
        names : List Named
        names = named_from bank (most_words - (n + 1)) next after (n + 1)

        first : Option Fault
        first = block_first bank8 banka places kind address (site_of i n) e sized

        rest_is : whole ≡ then_first first (from_here (sized_after bank8 banka kind address sized) names)
        unfolding named_first names first
        rest_is = m.rest ∙ ap (from_here sized) (names_step bank most_words spot marks n word after q h _ w)

        first_is : first_in read ≡ first
        unfolding first
        first_is = ap first_in b ∙ first_in_lem _ _

        pub list_faulty : (f : Fault) → read ≡ Err f → Err f ≡ unless_found whole
        list_faulty f t =
            let is : first ≡ Some f = sym first_is ∙ ap first_in t in
            ap unless_found (sym (rest_is ∙ ap (λ x. then_first x (from_here (sized_after bank8 banka kind address sized) names)) is))

        pub list_clean : (clean : Bool) → read ≡ Ok clean → (there : Spot) → there ≡ next → (sized' : Bool) → sized' ≡ clean →
            Midlist after there sized' (n + 1)
        unfolding names
        list_clean clean t there v sized' s =
            let is : first ≡ None = sym first_is ∙ ap first_in t in
            let size : sized_after bank8 banka kind address sized ≡ clean = sym (sized_in_lem (block_first bank8 banka places kind address (site_of i n) e sized) _) ∙ ap (sized_in (sized_after bank8 banka kind address sized)) (sym b ∙ t) in
            record {
              within = omega arith;
              marked = still_marked bank most_words spot marks n word after q _ m.marked;
              rest = rest_is ∙ ap (λ x. then_first x (from_here (sized_after bank8 banka kind address sized) names)) is ∙ ap (λ s. from_here s names) size ∙ rw (v, s);
            }

module _ (bank8 banka : List ℕ) (places : Places) (e : Extremes) (voices : List (Option Voice)) where
  abbrev all : Option Fault
  all = voices_first bank8 banka places 0 e voices

  -- before the i-th channel
  pub record Midtrack (i : ℕ) : Type 0 where
    pub within : i ≤ 4
    pub four : length voices ≡ 4
    pub rest : all ≡ voices_first bank8 banka places i e (drop i voices)

  module _ (i : ℕ) (m : Midtrack i) where
    pub track_past : 4 ≤ i → Ok tt ≡ unless_found all
    unfolding voices_first
    track_past h = let w : length voices ≤ i = omega (arith, m.four) in let is : all ≡ None = m.rest ∙ rw (drop_of_length-le voices w) in ap unless_found (sym is)

    module _ (h : i < 4) (d : Option Voice) where
      voice_is : all ≡ then_first (voice_first bank8 banka places i e (get_or voices i d)) (voices_first bank8 banka places (i + 1) e (drop (i + 1) voices))
      unfolding voices_first
      voice_is = m.rest ∙ rw (drop_next voices i d m.four h)

      pub track_unused : get_or voices i d ≡ None → Midtrack (i + 1)
      track_unused u = record { within = omega arith; four = m.four; rest = voice_is ∙ rw u }

      module _ (v : Voice) (u : get_or voices i d ≡ Some v) (r : Result (Unit {0}) Fault) (q : r ≡ unless_found (channel_first bank8 banka places v.kind v.list i e)) where
        pub track_found : (f : Fault) → r ≡ Err f → Err f ≡ unless_found all
        track_found f t = let is : all ≡ Some f = voice_is ∙ rw (u, same_found _ (Some f) (sym q ∙ t)) in ap unless_found (sym is)

        pub track_clean : r ≡ Ok tt → Midtrack (i + 1)
        track_clean t = record { within = omega arith; four = m.four; rest = voice_is ∙ rw (u, same_found _ None (sym q ∙ t)) }
