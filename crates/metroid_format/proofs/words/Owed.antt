-- What reading and writing owe: the answer, the lent buffer, and the way back.
use Prim.Native.Nat.{ℕ, ◌≤◌, ◌<◌}
use mathlib.Core.Bool.{true, false}
use mathlib.Core.List.{List, ◌++◌}
use mathlib.Core.Path.{◌≡◌, refl, sym, subst, ◌∙◌}
use native.Mathlib.Nat.{zero-add}
use native.Mathlib.Omega.{arith}
use borrow.Author.Tests.{le-leb, lt-leb}
use lib.Dec.{leb, eqb}
use lib.ListN.{length, take, drop}
use lib.Seq.{sets, sets-eq}
use Rattle.std.specs.Prelude.{Ok, Err}
use Rattle.metroid_format.specs.Words.{straight, finished, left_by, read_words, words_left, told_reading, Reads, encoded, write_words, bytes_left, told_writing, Writes, Decodes, Encodes, Unreadable, is_10, is_11, is_15, ReadWithin, Reading, Writing}
use Rattle.metroid_format.specs.declared.command.Kind.{Kind}
use Rattle.engine_base.specs.Refusal.{number_of}
use Rattle.engine_base.specs.declared.refusal.Refusal.{Refusal}
use Rattle.engine_base.specs.declared.refusal.Refusal.TheVariants.{InvalidWord, NoRoom}
use Rattle.metroid_format.specs.declared.words.ReadError.{ReadError}
use Rattle.metroid_format.specs.Command.{Finish}
use Rattle.engine_base.proofs.Picks.{answers}
use Rattle.metroid_format.proofs.words.RoundTrip.{writes_back, reads_back}
use Rattle.metroid_format.proofs.words.Within.{read_within}

-- what is written whole stands before what the buffer held
pub filled_whole : (vs before after : List ℕ) → length vs ≤ length before → after ≡ sets before 0 vs → after ≡ vs ++ drop (length vs) before
filled_whole vs before after h e = e ∙ sets-eq vs before 0 (omega arith) ∙ rw zero-add

not_zero : {refusal : Refusal} → Unreadable refusal → eqb (number_of refusal) 0 ≡ false
not_zero is_10 = refl
not_zero is_11 = refl
not_zero is_15 = refl

-- part is the data, and d what a first decoding of it answers
module _ (limit : ℕ) (kind : Kind) (bytes part before : List ℕ) (p : part ≡ take limit bytes) where
  reads_by : (x : Reading) (after : List ℕ) → read_words limit kind bytes (length before) ≡ x → after ≡ left_by (told_reading x) (straight kind part).words before → Reads limit kind bytes before x after
  unfolding words_left
  reads_by x after e f =
      let b : after ≡ words_left limit kind bytes before = rw (e, ← p) f in
      record { answered = answers told_reading x _ (sym e); buffer = b; back = writes_back limit kind bytes before x after (sym e) b }

  module _ (scratch used : List ℕ) (count : ℕ) (finish : Finish) (d : Decodes (straight kind part) scratch count finish used) where
    pub reads_short : length before < count → Reads limit kind bytes before (Err ReadError.NoRoom) before
    unfolding read_words
    reads_short h = reads_by (Err ReadError.NoRoom) before (rw (← p) (simp (lt-leb _ _ (rw d.counted at h)))) refl

    module _ (h : count ≤ length before) where
      fits_in : leb (length (straight kind part).words) (length before) ≡ true
      fits_in = le-leb _ _ (rw d.counted at h)

      answer_is : read_words limit kind bytes (length before) ≡ finished count finish
      unfolding read_words
      answer_is = rw (← p) (simp (fits_in, d.counted, d.stopped))

      pub reads_refused : (refusal : Refusal) (at : ℕ) → finish ≡ Err (refusal, at) → Reads limit kind bytes before (Err (ReadError.Byte refusal at)) before
      reads_refused refusal at e =
          let r : read_words limit kind bytes (length before) ≡ Err (ReadError.Byte refusal at) = answer_is ∙ rw e in
          reads_by _ before r (rw (not_zero (subst (ReadWithin limit) r (read_within limit kind bytes (length before))).0))

      pub reads_all : finish ≡ Ok tt → (count' : ℕ) (finish' : Finish) (after : List ℕ) → Decodes (straight kind part) before count' finish' after → Reads limit kind bytes before (Ok count) after
      reads_all e count' finish' after d' =
          reads_by _ after (answer_is ∙ rw e) (filled_whole (straight kind part).words before after (rw d.counted at h) d'.filled)

module _ (limit : ℕ) (kind : Kind) (words before : List ℕ) where
  writes_by : (x : Writing) (after : List ℕ) → write_words limit kind words (length before) ≡ x → after ≡ left_by (told_writing x) (encoded kind words).bytes before → Writes limit kind words before x after
  unfolding bytes_left
  writes_by x after e f =
      let b : after ≡ bytes_left limit kind words before = rw e f in
      record { answered = answers told_writing x _ (sym e); buffer = b; back = reads_back limit kind words before x after (sym e) b }

  pub writes_invalid : (encoded kind words).valid ≡ false → Writes limit kind words before (Err InvalidWord) before
  unfolding write_words
  writes_invalid e = writes_by _ before (rw e) refl

  module _ (scratch used : List ℕ) (count : ℕ) (d : Encodes (encoded kind words) scratch count true used) where
    pub writes_short : length before < count → Writes limit kind words before (Err NoRoom) before
    unfolding write_words
    writes_short h = writes_by _ before (rw (← d.judged) (simp (lt-leb _ _ (rw d.counted at h)))) refl

    module _ (h : count ≤ length before) where
      pub writes_long : limit < count → Writes limit kind words before (Err NoRoom) before
      unfolding write_words
      writes_long l = writes_by _ before (rw (← d.judged) (simp (le-leb _ _ (rw d.counted at h), lt-leb _ _ (rw d.counted at l)))) refl

      pub writes_all : count ≤ limit → (after : List ℕ) → after ≡ sets before 0 (encoded kind words).bytes → Writes limit kind words before (Ok count) after
      unfolding write_words
      writes_all l after f =
          writes_by _ after
          (rw (← d.judged) (simp (le-leb _ _ (rw d.counted at h), le-leb _ _ (rw d.counted at l), d.counted)))
          (filled_whole (encoded kind words).bytes before after (rw d.counted at h) f)
