-- Straight reading and writing, a command at a time.
use Prim.Native.Nat.{ℕ, zero, suc, ◌+◌, ◌-◌, ◌*◌, ◌^◌, ◌/◌, ◌%◌, ◌≤◌, ◌<◌}
use mathlib.Core.Bool.{Bool, true, false}
use mathlib.Core.List.{List, [], ◌∷◌, ◌++◌, append-nil}
use mathlib.Core.Path.{◌≡◌, refl, sym, subst, ◌∙◌}
use native.Mathlib.Nat.{sub-zero}
use native.Mathlib.Numerals.{add-one}
use native.Mathlib.Omega.{arith}
use borrow.Author.Tests.{eq-eqb, ne_eqb, eqb-true}
use mir.Syntax.{w64}
use mir.Val.{Fits}
use lib.Dec.{eqb, eqb-zero-suc, eqb-suc-zero, eqb-suc-suc}
use lib.ListN.{length, get_or, set, take, drop, drop_of_length-le}
use lib.Seq.{sets, drop-cons, length-take-le}
use Rattle.std.specs.Prelude.{Ok, Err}
use Rattle.engine_base.specs.Bytes.{word_at}
use Rattle.engine_base.specs.declared.refusal.Refusal.{Refusal}
use Rattle.engine_base.specs.declared.refusal.Refusal.TheVariants.{PastData, InvalidWord}
use Rattle.metroid_format.specs.Command.{command_at, word_of, is_end, Decoded, Finish}
use Rattle.metroid_format.specs.Words.{pair, command_of_word, Straight, straight_from, straight_by, straight, after_command, Decodes, Encoded, encoded, encoded_by, before_rest, Encodes}
use Rattle.metroid_format.specs.declared.command.Kind.{Kind}
use Rattle.metroid_format.specs.declared.command.Command.{Command}
use Rattle.engine_base.proofs.Picks.{by-test}
use Rattle.metroid_format.proofs.command.Laws.{Stands, found, next_within, word_there}
use Rattle.engine_base.proofs.Buffers.{Written, written_more}

pub le_bytes : (w : ℕ) → w < 2 ^ 16 → w % 256 ∷ w / 256 % 256 ∷ [] ≡ pair w
le_bytes w h =
    let small : w / 256 % 256 ≡ w / 256 = omega arith in
    rw small

-- r is what `command_at` answers of a word's two bytes, and v the word of the command's
module _ (kind : Kind) (w : ℕ) (bytes : List ℕ) (b : bytes ≡ pair w) (r : Decoded) (q : r ≡ command_at kind bytes 0) (c : Command) (next : ℕ) (e : r ≡ Ok (c, next)) (part : List ℕ) (p : part ≡ take next bytes) (v : ℕ) (f : v ≡ word_at part 0) where
  reads : command_at kind (pair w) 0 ≡ Ok (c, next)
  reads = rw (← b) (sym q ∙ e)

  given_word : v ≡ word_of c
  given_word = f ∙ rw (p, b, ← sub-zero next) (word_there (found kind (pair w) 0 reads))

  pub word_given : v ≡ w → Ok (c, next) ≡ command_of_word kind w
  unfolding command_of_word
  word_given g = rw reads (simp (eq-eqb (word_of c) w (sym given_word ∙ g)))

  pub word_other : (v ≡ w → ⊥) → Err (InvalidWord, 0) ≡ command_of_word kind w
  unfolding command_of_word
  word_other g = rw reads (simp (ne_eqb (word_of c) w (λ h. g (given_word ∙ h))))

module _ (kind : Kind) (bytes : List ℕ) where
  pub straight_next : (left l at : ℕ) (d : Decoded) → left ≡ suc l → command_at kind bytes at ≡ d → straight_from kind bytes left at ≡ straight_by at (λ next. straight_from kind bytes l next) d
  unfolding straight_from
  straight_next left l at d e f = rw (e, f)

  straight_none : (left at : ℕ) → left ≡ 0 → straight_from kind bytes left at ≡ record { words = []; reach = at; finish = Err (PastData, at) }
  unfolding straight_from
  straight_none left at e = rw e

  -- after n words, from an offset on
  pub record Midway (before now : List ℕ) (n at : ℕ) : Type 0 where
    pub within : n ≤ length bytes
    pub written : Written before (straight kind bytes).words now n (straight_from kind bytes (length bytes - n) at).words
    pub finish : (straight kind bytes).finish ≡ (straight_from kind bytes (length bytes - n) at).finish

  module _ (before now : List ℕ) (n at : ℕ) (m : Midway before now n at) where
    rest_is : (s : Straight) → straight_from kind bytes (length bytes - n) at ≡ s → Written before (straight kind bytes).words now n s.words × ((straight kind bytes).finish ≡ s.finish)
    rest_is s e = (rw e at m.written, rw e at m.finish)

    decodes : (f : Finish) (k : ℕ) (now' : List ℕ) → Written before (straight kind bytes).words now' k [] → (straight kind bytes).finish ≡ f → Decodes (straight kind bytes) before k f now'
    decodes f k now' w e = record { counted = omega (arith, w.count); stopped = sym e; filled = sym w.buffer }

    pub decodes_past : length bytes ≤ n → Decodes (straight kind bytes) before (length bytes) (Err (PastData, at)) now
    decodes_past h =
        let (w, e) = rest_is _ (straight_none (length bytes - n) at (omega arith)) in
        record { counted = omega (arith, w.count, m.within); stopped = sym e; filled = sym w.buffer }

    module _ (h : n < length bytes) where
      one_more : length bytes - n ≡ suc (length bytes - (n + 1))
      one_more = omega arith

      -- r is what `command_at` answers
      module _ (r : Decoded) (q : r ≡ command_at kind bytes at) where
        pub decodes_refused : (refusal : Refusal) (offset : ℕ) → r ≡ Err (refusal, offset) → Decodes (straight kind bytes) before n (Err (refusal, offset)) now
        decodes_refused refusal offset e =
            let s = rest_is _ (straight_next _ _ at _ one_more (sym q ∙ e)) in
            decodes _ n now s.0 s.1

        -- w is the word of the command's bytes, and now' the buffer with the word
        module _ (c : Command) (next : ℕ) (e : r ≡ Ok (c, next)) (part : List ℕ) (p : part ≡ take (next - at) (drop at bytes)) (w : ℕ) (f : w ≡ word_at part 0) (now' : List ℕ) (g : now' ≡ set now n w) where
          standing : Stands kind bytes at c next
          standing = found kind bytes at (sym q ∙ e)

          word_is : w ≡ word_of c
          word_is = f ∙ rw p (word_there standing)

          -- y is what `is_end` answers
          module _ (y : Bool) (t : y ≡ is_end c) where
            after : (x : Bool) → y ≡ x → straight_from kind bytes (length bytes - n) at ≡ after_command x w next (straight_from kind bytes (length bytes - (n + 1)) next)
            after x z = straight_next _ _ at _ one_more (sym q ∙ e) ∙ rw (← t, ← word_is, z)

            pub decodes_end : y ≡ true → Decodes (straight kind bytes) before (n + 1) (Ok tt) now'
            decodes_end z =
                let s = rest_is _ (after true z) in
                decodes _ (n + 1) _ (rw g (written_more (w ∷ []) s.0)) s.1

            pub midway_more : y ≡ false → Midway before now' (n + 1) next
            midway_more z =
                let s = rest_is _ (after false z) in
                record { within = omega arith; written = rw g (written_more (w ∷ []) s.0); finish = s.1 }

abbrev Word : Kind → ℕ → Decoded → Type 0
Word kind w (Ok (c, next)) = Stands kind (pair w) 0 c next × (word_of c ≡ w)
Word kind w (Err (refusal, offset)) = Unit {0}

word_right : (kind : Kind) (w : ℕ) (d : Decoded) → command_at kind (pair w) 0 ≡ d → Word kind w (command_of_word kind w)
unfolding command_of_word
word_right kind w (Ok (c, next)) e =
    rw e (by-test (Word kind w) (eqb (word_of c) w) (λ f. (found kind (pair w) 0 e, eqb-true (word_of c) w f)) (λ _. tt))
word_right kind w (Err (refusal, offset)) e = rw e tt

-- a word that stands for a command is read from both its bytes or its first
pub word_stands : (kind : Kind) (w : ℕ) {c : Command} {next : ℕ} → command_of_word kind w ≡ Ok (c, next) → Stands kind (pair w) 0 c next × (word_of c ≡ w)
word_stands kind w e = subst (Word kind w) e (word_right kind w (command_at kind (pair w) 0) refl)

none_left : (i : ℕ) (l : List ℕ) → i ≤ length l → eqb (length (drop i l)) 0 ≡ eqb i (length l)
none_left zero [] h = refl
none_left zero (x ∷ xs) h = eqb-suc-zero (length xs) ∙ sym (eqb-zero-suc (length xs))
none_left (suc i) [] h = absurd (omega arith)
none_left (suc i) (x ∷ xs) h = none_left i xs (omega arith) ∙ sym (eqb-suc-suc i (length xs))

module _ (kind : Kind) (words : List ℕ) where
  encoded_next : (i : ℕ) (d : Decoded) → i < length words → command_of_word kind (get_or words i 0) ≡ d → encoded kind (drop i words) ≡ encoded_by (get_or words i 0) (drop (i + 1) words) (encoded kind (drop (i + 1) words)) d
  unfolding encoded
  encoded_next i d h e = rw (drop-cons words i 0, add-one i) (rw e)

  encoded_none : (i : ℕ) → length words ≤ i → encoded kind (drop i words) ≡ record { bytes = []; valid = false }
  unfolding encoded
  encoded_none i h = rw (drop_of_length-le words h)

  -- after i words in n bytes
  pub record Halfway (before now : List ℕ) (i n : ℕ) : Type 0 where
    pub within : i ≤ length words
    pub small : n ≤ 2 * i
    pub written : Written before (encoded kind words).bytes now n (encoded kind (drop i words)).bytes
    pub judged : (encoded kind words).valid ≡ (encoded kind (drop i words)).valid

  module _ (before now : List ℕ) (i n : ℕ) (m : Halfway before now i n) where
    rest_of : (s : Encoded) → encoded kind (drop i words) ≡ s → Written before (encoded kind words).bytes now n s.bytes × ((encoded kind words).valid ≡ s.valid)
    rest_of s e = (rw e at m.written, rw e at m.judged)

    encodes : (v : Bool) (k : ℕ) (now' : List ℕ) → Written before (encoded kind words).bytes now' k [] → (encoded kind words).valid ≡ v → Encodes (encoded kind words) before k v now'
    encodes v k now' w e = record { counted = omega (arith, w.count); judged = sym e; filled = sym w.buffer }

    -- not all words are valid
    pub record Invalid (now' : List ℕ) : Type 0 where
      pub valid : (encoded kind words).valid ≡ false
      pub written : now' ≡ sets before 0 (encoded kind words).bytes

    invalid : (k : ℕ) (now' : List ℕ) → Written before (encoded kind words).bytes now' k [] → (encoded kind words).valid ≡ false → Invalid now'
    invalid k now' w e = record { valid = e; written = sym w.buffer }

    pub encodes_past : length words ≤ i → Invalid now
    encodes_past h =
        let s = rest_of _ (encoded_none i h) in
        invalid n now s.0 s.1

    -- r is what `command_of_word` answers
    module _ (h : i < length words) (r : Decoded) (q : r ≡ command_of_word kind (get_or words i 0)) where
      pub encodes_refused : (refusal : Refusal) (offset : ℕ) → r ≡ Err (refusal, offset) → Invalid now
      encodes_refused refusal offset e =
          let s = rest_of _ (encoded_next i _ h (sym q ∙ e)) in
          invalid n now s.0 s.1

      module _ (c : Command) (size : ℕ) (e : r ≡ Ok (c, size)) where
        here : command_of_word kind (get_or words i 0) ≡ Ok (c, size)
        here = sym q ∙ e

        small : size ≤ 2
        small = next_within (word_stands kind _ here).0

        pub bytes_fit : length words * 2 < 2 ^ 63 → Fits w64 (n + size)
        bytes_fit f = record { fits = omega (arith, m.small, small) }

        -- now' is the buffer with the word's bytes
        module _ (now' : List ℕ) (g : now' ≡ sets now n (take size (pair (get_or words i 0)))) where
          length_bytes : length (take size (pair (get_or words i 0))) ≡ size
          length_bytes = length-take-le size (pair (get_or words i 0)) small

          more_bytes : (rest : List ℕ) → Written before (encoded kind words).bytes now n (take size (pair (get_or words i 0)) ++ rest) → Written before (encoded kind words).bytes now' (n + size) rest
          more_bytes rest w =
              rw g (subst (λ (k : ℕ). Written before (encoded kind words).bytes (sets now n (take size (pair (get_or words i 0)))) (n + k) rest) length_bytes (written_more (take size (pair (get_or words i 0))) w))

          -- y is what `is_end` answers
          module _ (y : Bool) (t : y ≡ is_end c) where
            after_word : (x : Bool) → y ≡ x → encoded kind (drop i words) ≡ before_rest x (take size (pair (get_or words i 0))) (drop (i + 1) words) (encoded kind (drop (i + 1) words))
            after_word x z = encoded_next i _ h here ∙ rw (← t, z)

            module _ (z : y ≡ true) where
              ends : Written before (encoded kind words).bytes now' (n + size) [] × ((encoded kind words).valid ≡ eqb (i + 1) (length words))
              ends =
                  let s = rest_of _ (after_word true z) in
                  (more_bytes [] (rw append-nil s.0), s.1 ∙ none_left (i + 1) words (omega arith))

              pub encodes_end : i + 1 ≡ length words → Encodes (encoded kind words) before (n + size) true now'
              encodes_end l = encodes true (n + size) now' ends.0 (ends.1 ∙ eq-eqb _ _ l)

              pub encodes_early : (i + 1 ≡ length words → ⊥) → Invalid now'
              encodes_early l = invalid (n + size) now' ends.0 (ends.1 ∙ ne_eqb _ _ l)

            pub halfway_more : y ≡ false → Halfway before now' (i + 1) (n + size)
            halfway_more z =
                let s = rest_of _ (after_word false z) in
                record { within = omega arith; small = omega (arith, m.small, small); written = more_bytes _ s.0; judged = s.1 }
