-- Mending a command at a time, and listing a change at a time.
use Prim.Native.Nat.{ℕ, suc, ◌+◌, ◌-◌, ◌*◌, ◌^◌, ◌≤◌, ◌<◌}
use mathlib.Core.Bool.{Bool, true, false}
use mathlib.Core.List.{List, [], ◌∷◌, ◌++◌}
use mathlib.Core.Path.{◌≡◌, refl, sym, ap, ◌∙◌}
use native.Mathlib.Numerals.{add-one}
use native.Mathlib.Omega.{arith}
use borrow.Author.Tests.{eq-eqb, ne_eqb, le-leb, lt-leb}
use mir.Syntax.{w64}
use mir.Val.{Fits}
use lib.Dec.{eqb}
use lib.ListN.{length, get_or, set, drop, drop_of_length-le, length-set, length-append}
use lib.Seq.{drop-cons}
use Rattle.std.specs.Prelude.{Ok, Err}
use Rattle.engine_base.specs.Refusal.{number_of}
use Rattle.engine_base.specs.declared.refusal.Refusal.{Refusal}
use Rattle.engine_base.specs.declared.refusal.Refusal.TheVariants.{PastData}
use Rattle.metroid_format.specs.Command.{command_at, is_end, Decoded}
use Rattle.metroid_format.specs.Mend.{rest_of, closed, mended_by, mended_from, mended, Passes, Change, change_at, changes_from, changes, change_words, Lists}
use Rattle.metroid_format.specs.declared.command.Kind.{Kind}
use Rattle.metroid_format.specs.declared.command.Command.{Command}
use Rattle.engine_base.proofs.Picks.{by-test}
use Rattle.engine_base.proofs.Buffers.{Written, written_more}
use Rattle.metroid_format.proofs.command.Laws.{Unfit, past, lone, behind, found, unfit, next_after}

module _ (kind : Kind) (bytes : List ℕ) (at : ℕ) where
  past_by : {refusal : Refusal} {offset : ℕ} → Unfit bytes at refusal offset → number_of refusal ≡ number_of PastData → (length bytes ≤ offset) × (offset ≤ at + 1)
  past_by (past offset h m i) z = (h, i)
  past_by (lone refusal low high h) z = absurd (omega arith)
  past_by (behind l s h e) z = absurd (omega arith)

  other_by : {refusal : Refusal} {offset : ℕ} → Unfit bytes at refusal offset → (refusal ≡ PastData → ⊥) → number_of refusal ≡ number_of PastData → ⊥
  other_by (past offset h m i) z e = z refl
  other_by (lone refusal low high h) z e = absurd (omega arith)
  other_by (behind l s h e) z f = absurd (omega arith)

  pub past_there : {refusal : Refusal} {offset : ℕ} → command_at kind bytes at ≡ Err (refusal, offset) → number_of refusal ≡ number_of PastData → (length bytes ≤ offset) × (offset ≤ at + 1)
  past_there e z = past_by (unfit kind bytes at e) z

  in_data_by : {refusal : Refusal} {offset : ℕ} → Unfit bytes at refusal offset → (number_of refusal ≡ number_of PastData → ⊥) → (at ≤ offset) × (offset < length bytes)
  in_data_by (past offset h m i) z = absurd (z refl)
  in_data_by (lone refusal low high h) z = (omega arith, h)
  in_data_by (behind l s h e) z = (omega arith, h)

  pub in_data : {refusal : Refusal} {offset : ℕ} → command_at kind bytes at ≡ Err (refusal, offset) → (number_of refusal ≡ number_of PastData → ⊥) → (at ≤ offset) × (offset < length bytes)
  in_data e z = in_data_by (unfit kind bytes at e) z

module _ (kind : Kind) (bytes : List ℕ) (at : ℕ) where
  pub mended_next : (left : ℕ) (d : Decoded) → command_at kind bytes at ≡ d → mended_from kind (suc left) at bytes ≡ mended_by kind bytes at (λ next bytes'. mended_from kind left next bytes') d
  unfolding mended_from
  mended_next left d e = rw e

  -- r is what `command_at` answers
  module _ (h : at < length bytes) (r : Decoded) (q : r ≡ command_at kind bytes at) where
    -- y is what `is_end` answers
    module _ (c : Command) (next : ℕ) (e : r ≡ Ok (c, next)) (y : Bool) (f : y ≡ is_end c) where
      pub ends_there : y ≡ true → (left : ℕ) → mended_from kind (suc left) at bytes ≡ bytes
      ends_there t left = mended_next left _ (sym q ∙ e) ∙ rw (← f, t)

      pub passes_found : y ≡ false → Passes kind at bytes next bytes
      passes_found t =
          record { later = next_after (found kind bytes at (sym q ∙ e)); size = refl; same = λ left. mended_next left _ (sym q ∙ e) ∙ rw (← f, t) }

    module _ (refusal : Refusal) (offset : ℕ) (e : r ≡ Err (refusal, offset)) where
      pub other : (refusal ≡ PastData → ⊥) → number_of refusal ≡ number_of PastData → ⊥
      other z = other_by kind bytes at (unfit kind bytes at (sym q ∙ e)) z

      pub passes_past : number_of refusal ≡ number_of PastData → Passes kind at bytes offset bytes
      passes_past y =
          let l = (past_there kind bytes at (sym q ∙ e) y).0 in
          record {
            later = omega arith;
            size = refl;
            same = λ left. mended_next left _ (sym q ∙ e) ∙ rw (eq-eqb _ _ y, le-leb _ _ l);
          }

      module _ (y : number_of refusal ≡ number_of PastData → ⊥) where
        pub there : offset < length bytes
        there = (in_data kind bytes at (sym q ∙ e) y).1

        pub after_fits : length bytes < 2 ^ 64 → Fits w64 (offset + 1)
        after_fits f = record { fits = omega (arith, there) }

        -- v is what `rest_of` answers
        pub passes_rest : (v : ℕ) → v ≡ rest_of kind → Passes kind at bytes (offset + 1) (set bytes offset v)
        passes_rest v g =
            let i = (in_data kind bytes at (sym q ∙ e) y).0 in
            record {
              later = omega arith;
              size = length-set bytes offset v;
              same = λ left. mended_next left _ (sym q ∙ e) ∙ rw (ne_eqb _ _ y, ← g);
            }

-- after so many commands, what is left to mend, from an offset on, makes the data whole
pub record Midway (kind : Kind) (before : List ℕ) (passed at : ℕ) (now : List ℕ) : Type 0 where
  pub within : 0 < length before → at < length now
  pub size : length now ≡ length before
  pub same : mended_from kind (length before - passed) at now ≡ mended kind before

module _ (kind : Kind) (before : List ℕ) where
  module _ (now : List ℕ) (passed at : ℕ) (m : Midway kind before passed at now) where
    pub midway_past : length before ≤ passed → now ≡ mended kind before
    unfolding mended_from
    midway_past h =
        let none : length before - passed ≡ 0 = omega arith in
        rw none at m.same

    module _ (h : passed < length before) where
      one : mended_from kind (suc (length before - (passed + 1))) at now ≡ mended kind before
      one =
          let more : length before - passed ≡ suc (length before - (passed + 1)) = omega arith in
          rw more at m.same

      pub midway_end : (after : List ℕ) → after ≡ now → ((left : ℕ) → mended_from kind (suc left) at now ≡ now) → after ≡ mended kind before
      midway_end after e z = e ∙ sym (z _) ∙ one

      module _ (after : List ℕ) (next : ℕ) (p : Passes kind at now next after) where
        pub midway_closed : length after ≤ next → (r : List ℕ) → r ≡ closed kind at after → r ≡ mended kind before
        midway_closed n r e = e ∙ sym (p.same _ ∙ rw (le-leb _ _ n)) ∙ one

        pub midway_more : next < length after → Midway kind before (passed + 1) next after
        midway_more n = record { within = λ _. n; size = p.size ∙ m.size; same = sym (p.same _ ∙ rw (lt-leb _ _ n)) ∙ one }

pub words_append : (cs ds : List Change) → change_words (cs ++ ds) ≡ change_words cs ++ change_words ds
unfolding change_words
words_append [] ds = refl
words_append (c ∷ cs) ds = ap (λ l. c.offset ∷ c.old ∷ c.new ∷ l) (words_append cs ds)

pub words_length : (cs : List Change) → length (change_words cs) ≡ length cs * 3
unfolding change_words
words_length [] = refl
words_length (c ∷ cs) = omega (arith, words_length cs)

pub one_at_most : (at old new : ℕ) → length (change_at at old new) ≤ 1
one_at_most at old new = by-test {A = List Change} (λ (x : List Change). length x ≤ 1) (eqb old new) (λ _. omega arith) (λ _. omega arith)

module _ (before after : List ℕ) where
  abbrev rest_changes : ℕ → List Change
  rest_changes i = changes_from i (drop i before) (drop i after)

  -- after i bytes and n changes
  pub record Listing (list now : List ℕ) (i n : ℕ) : Type 0 where
    pub within : i ≤ length before
    pub few : n ≤ i
    pub counted : length (changes before after) ≡ n + length (rest_changes i)
    pub written : Written list (change_words (changes before after)) now (n * 3) (change_words (rest_changes i))

  next_change : (i : ℕ) → i < length before → length after ≡ length before → rest_changes i ≡ change_at i (get_or before i 0) (get_or after i 0) ++ rest_changes (i + 1)
  unfolding changes_from
  next_change i h e =
      let j : i < length after = omega arith in
      rw (drop-cons before i 0 h, drop-cons after i 0 j, add-one i)

  module _ (list now : List ℕ) (i n : ℕ) (m : Listing list now i n) where
    pub listing_all : length before ≤ i → Lists 0 (changes before after) list n now
    unfolding changes_from change_words
    listing_all h =
        let none : drop i before ≡ [] = drop_of_length-le before h in
        record { counted = omega (arith, rw none at m.counted); filled = sym (rw none at m.written.buffer) }

    pub listing_more : i < length before → length after ≡ length before → (n' : ℕ) (now' : List ℕ) → Lists n (change_at i (get_or before i 0) (get_or after i 0)) now n' now' → Listing list now' (i + 1) n'
    listing_more h e n' now' l =
        let cs = change_at i (get_or before i 0) (get_or after i 0) in
        let s = next_change i h e in
        let w = written_more (change_words cs) (rw (s, words_append cs (rest_changes (i + 1))) at m.written) in
        let k : n * 3 + length (change_words cs) ≡ n' * 3 = omega (arith, words_length cs, l.counted) in
        record {
          within = omega arith;
          few = omega (arith, m.few, l.counted, one_at_most i (get_or before i 0) (get_or after i 0));
          counted = omega (arith, rw s at m.counted, length-append cs (rest_changes (i + 1)), l.counted);
          written = rw (l.filled, ← k) w;
        }
