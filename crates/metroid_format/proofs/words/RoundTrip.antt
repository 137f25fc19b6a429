-- The way there and back: data that reads is written again as the same bytes up to its end, and a list that writes is read again as the same words.
use Prim.Native.Nat.{ℕ, zero, suc, ◌+◌, ◌-◌, ◌*◌, ◌/◌, ◌%◌, ◌≤◌, ◌<◌}
use mathlib.Core.Bool.{Bool, true, false}
use mathlib.Core.List.{List, [], ◌∷◌, ◌++◌}
use mathlib.Core.Path.{◌≡◌, refl, sym, ap, ◌∙◌}
use native.Mathlib.Nat.{add-zero, zero-add, sub-zero}
use native.Mathlib.Numerals.{add-one}
use native.Mathlib.Omega.{arith}
use borrow.Author.Tests.{eq-eqb, eqb-true, le-leb, leb-true}
use lib.Dec.{leb, eqb}
use lib.ListN.{length, get_or, take, drop, length-take, length-drop, length-append}
use lib.Seq.{length-take-le, take-take, take-add, take-append_seam, drop-append_seam, drop-drop, get_or-take, get_or-drop, drop-cons}
use Rattle.std.specs.Prelude.{Ok, Err}
use Rattle.metroid_format.specs.Command.{command_at, word_of, is_end, Decoded, Finish}
use Rattle.metroid_format.specs.Words.{pair, command_of_word, Straight, finished, straight, straight_from, straight_by, after_command, Encoded, encoded, encoded_by, before_rest, read_words, words_left, write_words, bytes_left, up_to_end, WrittenAs, ReadAs, WritesBack, ReadsBack, Reading, Writing}
use Rattle.metroid_format.specs.declared.command.Kind.{Kind}
use Rattle.metroid_format.specs.declared.command.Command.{Command}
use Rattle.metroid_format.specs.declared.command.Command.TheVariants.{End, EndLoop, BeginLoop, Length, Note}
use Rattle.engine_base.proofs.Picks.{by-test, false_true}
use Rattle.metroid_format.proofs.command.Laws.{Stands, at_end, at_end_loop, at_begin, at_length, at_note, found, stands, note_small, next_after, next_within}
use Rattle.metroid_format.proofs.words.Laws.{straight_next, word_stands}

-- a command's bytes are its word's first, or both
size_of : Command → ℕ
size_of End = 1
size_of EndLoop = 1
size_of (BeginLoop n) = 1
size_of (Length l note) = 2
size_of (Note b) = 1

module _ (kind : Kind) (bytes : List ℕ) (at : ℕ) where
  -- where a command stands, its bytes stand
  record Placed (c : Command) (next : ℕ) : Type 0 where
    next_is : next ≡ at + size_of c
    word_stands : Stands kind (pair (word_of c)) 0 c (size_of c)
    same_bytes : take (size_of c) (drop at bytes) ≡ take (size_of c) (pair (word_of c))

  first_byte : (w : ℕ) → at < length bytes → get_or bytes at 0 ≡ w % 256 → take 1 (drop at bytes) ≡ take 1 (pair w)
  first_byte w h e = rw (drop-cons bytes at 0, e)

  both_bytes : (w : ℕ) → at + 1 < length bytes → get_or bytes at 0 ≡ w % 256 → get_or bytes (at + 1) 0 ≡ w / 256 → take 2 (drop at bytes) ≡ take 2 (pair w)
  both_bytes w h e f =
      let i : at < length bytes = omega arith in
      let j : suc at < length bytes = omega arith in
      let g : get_or bytes (suc at) 0 ≡ w / 256 = rw add-one at f in
      rw (drop-cons bytes at 0, drop-cons bytes (suc at) 0, e, g)

  placed : {c : Command} {next : ℕ} → Stands kind bytes at c next → Placed c next
  unfolding size_of
  placed (at_end h e) = record { next_is = refl; word_stands = at_end (omega arith) refl; same_bytes = first_byte 0x00 h e }
  placed (at_end_loop h e) = record { next_is = refl; word_stands = at_end_loop (omega arith) refl; same_bytes = first_byte 0xff h e }
  placed (at_begin n s h e) =
      record {
        next_is = refl;
        word_stands = at_begin n s (omega arith) (omega arith);
        same_bytes = first_byte (0xc0 + n) h (omega arith);
      }
  placed (at_length l note s y h e g) =
      let small = note_small kind note y in
      record {
        next_is = omega arith;
        word_stands = at_length l note s y (omega arith) (omega arith) (omega arith);
        same_bytes = both_bytes (0xb0 + l + 256 * note) h (omega arith) (omega arith);
      }
  placed (at_note b p s y h e) =
      record {
        next_is = refl;
        word_stands = at_note b p s y (omega arith) (omega arith);
        same_bytes = first_byte b h (omega arith);
      }

  -- bytes that stand there too
  module _ (n : ℕ) (other : List ℕ) (e : take n (drop at bytes) ≡ take n other) (i : ℕ) (h : i < n) (j : i < length other) where
    there : at + i < length bytes
    there = omega (arith, simp (length-take, length-drop) at (ap length e))

    same_there : get_or bytes (at + i) 0 ≡ get_or other i 0
    same_there =
        sym (get_or-drop at bytes i 0) ∙ sym (get_or-take n (drop at bytes) i 0 h)
        ∙ ap (λ (l : List ℕ). get_or l i 0) e ∙ get_or-take n other i 0 h

  module _ (other : List ℕ) (h : 0 < length other) (e : take 1 (drop at bytes) ≡ take 1 other) where
    at_first : at < length bytes
    at_first = rw add-zero at (there 1 other e 0 (omega arith) h)

    same_first : get_or bytes at 0 ≡ get_or other 0 0
    same_first = rw add-zero at (same_there 1 other e 0 (omega arith) h)

  stands_there : (other : List ℕ) {c : Command} {next : ℕ} → Stands kind other 0 c next → take next (drop at bytes) ≡ take next other → Stands kind bytes at c (at + next)
  stands_there other (at_end h f) e = at_end (at_first other h e) (same_first other h e ∙ f)
  stands_there other (at_end_loop h f) e = at_end_loop (at_first other h e) (same_first other h e ∙ f)
  stands_there other (at_begin n s h f) e = at_begin n s (at_first other h e) (same_first other h e ∙ f)
  stands_there other (at_length l note s y h f g) e =
      let q : at + 2 ≡ at + 1 + 1 = omega arith in
      let first = rw add-zero at (same_there 2 other e 0 (omega arith) (omega arith)) in
      rw q
      (at_length l note s y (there 2 other e 1 (omega arith) h) (first ∙ f) (same_there 2 other e 1 (omega arith) h ∙ g))
  stands_there other (at_note b p s y h f) e = at_note b p s y (at_first other h e) (same_first other h e ∙ f)

command_of_placed : (kind : Kind) (c : Command) → Stands kind (pair (word_of c)) 0 c (size_of c) → command_of_word kind (word_of c) ≡ Ok (c, size_of c)
unfolding command_of_word
command_of_placed kind c s = rw (stands kind (pair (word_of c)) 0 s) (simp (eq-eqb (word_of c) (word_of c) refl))

length_bytes : (c : Command) → length (take (size_of c) (pair (word_of c))) ≡ size_of c
unfolding size_of
length_bytes End = refl
length_bytes EndLoop = refl
length_bytes (BeginLoop n) = refl
length_bytes (Length l note) = refl
length_bytes (Note b) = refl

encoded_word : (kind : Kind) (c : Command) (ws : List ℕ) (b : Bool) → Stands kind (pair (word_of c)) 0 c (size_of c) → is_end c ≡ b
    → encoded kind (word_of c ∷ ws) ≡ before_rest b (take (size_of c) (pair (word_of c))) ws (encoded kind ws)
unfolding encoded
encoded_word kind c ws b s e = rw (command_of_placed kind c s, e)

-- xs stands in l at an offset
Within : List ℕ → List ℕ → ℕ → Type 0
Within xs l at = take (length xs) (drop at l) ≡ xs

within_length : (xs l : List ℕ) (at : ℕ) → Within xs l at → length xs ≤ length l - at
unfolding Within
within_length xs l at p = omega (arith, simp (length-take, length-drop) at (ap length p))

within_join : (xs ys l : List ℕ) (at : ℕ) → Within xs l at → Within ys l (at + length xs) → Within (xs ++ ys) l at
unfolding Within
within_join xs ys l at p q =
    rw (length-append xs ys, take-add (length xs) (length ys) (drop at l), p, drop-drop (length xs) at l, q)

pub not_ended : {A E : Type 0} {refused : E} {given : A} → Err refused ≡ Ok given → ⊥
not_ended e = let z : ◌≡◌ {A = ℕ} 0 1 = cc in absurd (omega arith)

module _ (kind : Kind) (bytes : List ℕ) where
  -- what is read from an offset on is encoded as the bytes from there
  record Again (at : ℕ) (s : Straight) : Type 0 where
    valid : (encoded kind s.words).valid ≡ true
    same : Within (encoded kind s.words).bytes bytes at
    size : s.reach ≡ at + length (encoded kind s.words).bytes

  placed_within : (at next : ℕ) (c : Command) → Placed kind bytes at c next → Within (take (size_of c) (pair (word_of c))) bytes at
  unfolding Within
  placed_within at next c p = rw (length_bytes c) p.same_bytes

  again_end : (at next : ℕ) (c : Command) (rest : Straight) → Placed kind bytes at c next → is_end c ≡ true → Again at (after_command true (word_of c) next rest)
  again_end at next c rest p b =
      let e = encoded_word kind c [] true p.word_stands b in
      record { valid = rw e; same = rw e (placed_within at next c p); size = rw (e, length_bytes c) p.next_is }

  again_more : (at next : ℕ) (c : Command) (rest : Straight) → Placed kind bytes at c next → is_end c ≡ false → Again next rest → Again at (after_command false (word_of c) next rest)
  again_more at next c rest p b a =
      let e = encoded_word kind c rest.words false p.word_stands b in
      let xs = take (size_of c) (pair (word_of c)) in
      let ys = (encoded kind rest.words).bytes in
      let q : at + length xs ≡ next = rw (length_bytes c) (sym p.next_is) in
      record {
        valid = rw e a.valid;
        same = rw e (within_join xs ys bytes at (placed_within at next c p) (rw q a.same));
        size = rw e (omega (arith, a.size, q, length-append xs ys));
      }

  module _ (at : ℕ) (go : ℕ → Straight) (rest : (next : ℕ) → (go next).finish ≡ Ok tt → Again next (go next)) where
    again_after : (c : Command) (next : ℕ) (b : Bool) → is_end c ≡ b → Stands kind bytes at c next
        → (after_command b (word_of c) next (go next)).finish ≡ Ok tt → Again at (after_command b (word_of c) next (go next))
    again_after c next true b s f = again_end at next c (go next) (placed kind bytes at s) b
    again_after c next false b s f = again_more at next c (go next) (placed kind bytes at s) b (rest next f)

    again_by : (d : Decoded) → command_at kind bytes at ≡ d → (straight_by at go d).finish ≡ Ok tt → Again at (straight_by at go d)
    again_by (Ok (c, next)) e f = again_after c next (is_end c) refl (found kind bytes at e) f
    again_by (Err (refusal, offset)) e f = absurd (not_ended f)

  again : (left at : ℕ) → (straight_from kind bytes left at).finish ≡ Ok tt → Again at (straight_from kind bytes left at)
  unfolding straight_from
  again zero at f = absurd (not_ended f)
  again (suc left) at f = again_by at (λ next. straight_from kind bytes left next) (λ next g. again left next g) (command_at kind bytes at) refl f

  -- data that end are, up to and including the end, the bytes of their words
  up_to_end_lem : (straight kind bytes).finish ≡ Ok tt → up_to_end kind bytes ≡ (encoded kind (straight kind bytes).words).bytes
  unfolding up_to_end Within
  up_to_end_lem f =
      let a = again (length bytes) 0 f in
      rw (a.size ∙ zero-add _) a.same

-- valid words whose bytes are within the limit are written into any buffer with room
module _ (limit : ℕ) (kind : Kind) (words : List ℕ) (v : (encoded kind words).valid ≡ true) (l : length (encoded kind words).bytes ≤ limit) (out : List ℕ) (h : length (encoded kind words).bytes ≤ length out) where
  puts : write_words limit kind words (length out) ≡ Ok (length (encoded kind words).bytes)
  unfolding write_words
  puts = rw v (simp (le-leb _ _ h, le-leb _ _ l))

  written_as : WrittenAs limit kind words (encoded kind words).bytes out
  unfolding bytes_left
  written_as = record { answer = puts; start = rw puts (take-append_seam (encoded kind words).bytes _) }

-- only an end gives a count, that of the words
ended : (n count : ℕ) (f : Finish) → finished n f ≡ Ok count → (f ≡ Ok tt) × (n ≡ count)
ended n count (Ok passed) e = (refl, cc)
ended n count (Err (refusal, at)) e = absurd (not_ended e)

pub reading_ended : (limit : ℕ) (kind : Kind) (bytes : List ℕ) (room count : ℕ) → read_words limit kind bytes room ≡ Ok count
    → ((straight kind (take limit bytes)).finish ≡ Ok tt) × (length (straight kind (take limit bytes)).words ≡ count)
unfolding read_words
reading_ended limit kind bytes room count e =
    let s = straight kind (take limit bytes) in
    by-test (λ x. x ≡ Ok count → (s.finish ≡ Ok tt) × (length s.words ≡ count)) (leb (length s.words) room)
    (λ _. ended (length s.words) count s.finish)
    (λ _ q. absurd (not_ended q)) e

pub writes_back : (limit : ℕ) (kind : Kind) (bytes before : List ℕ) (answer : Reading) (after : List ℕ) → answer ≡ read_words limit kind bytes (length before) → after ≡ words_left limit kind bytes before
    → WritesBack limit kind bytes answer after
unfolding words_left
writes_back limit kind bytes before answer after q b count e out h =
    let part = take limit bytes in
    let words = (straight kind part).words in
    let r : read_words limit kind bytes (length before) ≡ Ok count = sym q ∙ e in
    let d = reading_ended limit kind bytes (length before) count r in
    let a = again kind part (length part) 0 d.0 in
    let u = up_to_end_lem kind part d.0 in
    let w : take count after ≡ words = rw (b, r, ← d.1) (take-append_seam words _) in
    let l = within_length (encoded kind words).bytes part 0 a.same in
    rw (w, u) (written_as limit kind words a.valid (omega (arith, l, length-take limit bytes)) out (rw u at h))

within_split : (xs ys l : List ℕ) (at : ℕ) → Within (xs ++ ys) l at → Within xs l at × Within ys l (at + length xs)
unfolding Within
within_split xs ys l at p =
    let whole : take (length xs + length ys) (drop at l) ≡ xs ++ ys = rw length-append at p in
    let first : take (length xs) (drop at l) ≡ xs =
    sym (take-take (length xs) (length xs + length ys) (drop at l) (omega arith)) ∙ ap (λ (k : List ℕ). take (length xs) k) whole ∙ take-append_seam xs ys in
    let joined : xs ++ take (length ys) (drop (length xs) (drop at l)) ≡ xs ++ ys = rw (take-add (length xs) (length ys) (drop at l), first) at whole in
    (first, rw (← drop-drop (length xs) at l) (sym (drop-append_seam xs _) ∙ ap (λ (k : List ℕ). drop (length xs) k) joined ∙ drop-append_seam xs ys))

empty_is : (ws : List ℕ) → eqb (length ws) 0 ≡ true → ws ≡ []
empty_is [] e = refl
empty_is (w ∷ ws) e = absurd (omega (arith, eqb-true (length (w ∷ ws)) 0 e))

module _ (kind : Kind) (bytes : List ℕ) where
  Back : List ℕ → Encoded → Type 0
  Back words e = (left at : ℕ) → e.valid ≡ true → Within e.bytes bytes at → length e.bytes ≤ left → straight_from kind bytes left at ≡ record { words = words; reach = at + length e.bytes; finish = Ok tt }

  straight_word : (left at : ℕ) (c : Command) (next : ℕ) (b : Bool) → Stands kind bytes at c next → is_end c ≡ b → 0 < left
      → straight_from kind bytes left at ≡ after_command b (word_of c) next (straight_from kind bytes (left - 1) next)
  straight_word left at c next b s e h =
      straight_next kind bytes left (left - 1) at (Ok (c, next)) (omega arith) (stands kind bytes at s) ∙ rw e

  module _ (w : ℕ) (ws : List ℕ) (rest : Back ws (encoded kind ws)) where
    module _ (c : Command) (next : ℕ) (s : Stands kind (pair w) 0 c next) (e : word_of c ≡ w) (at : ℕ) where
      length_word : length (take next (pair w)) ≡ next
      length_word = length-take-le next (pair w) (next_within s)

      stands_word : Within (take next (pair w)) bytes at → Stands kind bytes at c (at + next)
      unfolding Within
      stands_word p = stands_there kind bytes at (pair w) s (rw length_word at p)

    back_after : (c : Command) (next : ℕ) (b : Bool) → is_end c ≡ b → Stands kind (pair w) 0 c next → word_of c ≡ w → Back (w ∷ ws) (before_rest b (take next (pair w)) ws (encoded kind ws))
    unfolding Back
    back_after c next true b s e left at v p h =
        straight_word left at c (at + next) true (stands_word c next s e at p) b (omega (arith, length_word c next s e at, next_after s))
        ∙ rw (e, empty_is ws v, length_word c next s e at)
    back_after c next false b s e left at v p h =
        let n = length_word c next s e at in
        let i = next_after s in
        let q = within_split (take next (pair w)) (encoded kind ws).bytes bytes at p in
        let m = simp length-append at h in
        let r = rest (left - 1) (at + next) v (rw n at q.1) (omega arith) in
        let size : at + length (take next (pair w) ++ (encoded kind ws).bytes) ≡ at + next + length (encoded kind ws).bytes = simp (length-append, n) (omega arith) in
        straight_word left at c (at + next) false (stands_word c next s e at q.0) b (omega arith) ∙ rw (e, r, size)

    back_by : (d : Decoded) → command_of_word kind w ≡ d → Back (w ∷ ws) (encoded_by w ws (encoded kind ws) d)
    unfolding Back
    back_by (Ok (c, next)) e = let s = word_stands kind w e in back_after c next (is_end c) refl s.0 s.1
    back_by (Err (refusal, offset)) e = λ left at v p h. absurd (false_true v)

  back : (words : List ℕ) → Back words (encoded kind words)
  unfolding Back encoded
  back [] = λ left at v p h. absurd (false_true v)
  back (w ∷ ws) = back_by w ws (back ws) (command_of_word kind w) refl

-- only valid words within the limit are written, and the count is that of their bytes
record Fitting (limit : ℕ) (e : Encoded) (count : ℕ) : Type 0 where
  valid : e.valid ≡ true
  within : length e.bytes ≤ limit
  size : length e.bytes ≡ count

writing_fits : (limit : ℕ) (kind : Kind) (words : List ℕ) (room count : ℕ) → write_words limit kind words room ≡ Ok count → Fitting limit (encoded kind words) count
unfolding write_words
writing_fits limit kind words room count e =
    let n = length (encoded kind words).bytes in
    by-test (λ x. x ≡ Ok count → Fitting limit (encoded kind words) count) (encoded kind words).valid
    (λ v. by-test (λ x. x ≡ Ok count → Fitting limit (encoded kind words) count) (leb n room)
    (λ _. by-test (λ x. x ≡ Ok count → Fitting limit (encoded kind words) count) (leb n limit)
    (λ l q. record { valid = v; within = leb-true n limit l; size = cc })
    (λ _ q. absurd (not_ended q)))
    (λ _ q. absurd (not_ended q)))
    (λ _ q. absurd (not_ended q)) e

-- data that are read straight as these words, in so many bytes
module _ (limit : ℕ) (kind : Kind) (bytes words : List ℕ) (size : ℕ) (s : straight kind (take limit bytes) ≡ record { words = words; reach = size; finish = Ok tt }) where
  ends_there : size ≤ limit → up_to_end kind (take limit bytes) ≡ take size bytes
  unfolding up_to_end
  ends_there l = rw s (take-take size limit bytes l)

  module _ (out : List ℕ) (h : length words ≤ length out) where
    reads : read_words limit kind bytes (length out) ≡ Ok (length words)
    unfolding read_words
    reads = rw s (simp (le-leb _ _ h))

    read_as : ReadAs limit kind bytes words out
    unfolding words_left
    read_as = record { answer = reads; start = rw (reads, s) (take-append_seam words _) }

pub reads_back : (limit : ℕ) (kind : Kind) (words before : List ℕ) (answer : Writing) (after : List ℕ) → answer ≡ write_words limit kind words (length before) → after ≡ bytes_left limit kind words before
    → ReadsBack limit kind words answer after
unfolding bytes_left Within Back
reads_back limit kind words before answer after q b count e bytes same =
    let enc = (encoded kind words).bytes in
    let r : write_words limit kind words (length before) ≡ Ok count = sym q ∙ e in
    let f = writing_fits limit kind words (length before) count r in
    let g : take count after ≡ enc = rw (b, r, ← f.size) (take-append_seam enc _) in
    let part = take limit bytes in
    let c : count ≤ limit = omega (arith, f.within, f.size) in
    let w : take (length enc) part ≡ enc = rw f.size (take-take count limit bytes c ∙ same ∙ g) in
    let s = back kind part words (length part) 0 f.valid w (rw sub-zero at (within_length enc part 0 w)) in
    let t : straight kind part ≡ record { words = words; reach = count; finish = Ok tt } = s ∙ rw (zero-add (length enc), f.size) in
    (ends_there limit kind bytes words count t c ∙ same, λ out h. read_as limit kind bytes words count t out h)
