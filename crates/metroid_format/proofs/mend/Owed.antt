-- What mending owes: the answer, the lent data and list, and what is so of them.
use Prim.Native.Nat.{ℕ, ◌+◌, ◌*◌, ◌≤◌, ◌<◌}
use mathlib.Core.Bool.{Bool, true, false}
use mathlib.Core.List.{List, [], ◌∷◌, ◌++◌}
use mathlib.Core.Path.{◌≡◌, refl, sym, ap, subst, ◌∙◌}
use native.Mathlib.Nat.{zero-add}
use native.Mathlib.Omega.{arith}
use borrow.Author.Tests.{eq-eqb, ne_eqb, leb-true, le-leb, lt-leb}
use mir.Syntax.{w64}
use mir.Val.{Fits}
use lib.Dec.{leb, eqb}
use lib.ListN.{length, take, drop}
use lib.Seq.{take_at, take_all, take-length, take-append_seam}
use Rattle.std.specs.Prelude.{Ok, Err}
use Rattle.engine_base.specs.Pick.{pick}
use Rattle.engine_base.specs.declared.refusal.Refusal.TheVariants.{NoRoom, WrongDataSize}
use Rattle.metroid_format.specs.Command.{data_limit}
use Rattle.metroid_format.specs.Words.{left_by, straight, read_words, ReadWithin}
use Rattle.metroid_format.specs.Mend.{mended_from, mended, changes, changes_of, change_words, mending, told_mending, data_left, list_left, Saves, Mends, Lists, Changed, is_18, is_23, MendedWithin, Mending}
use Rattle.metroid_format.specs.declared.command.Kind.{Kind}
use Rattle.engine_base.proofs.Picks.{answers, by-test, refused_given}
use Rattle.engine_base.proofs.Buffers.{sets_out}
use Rattle.metroid_format.proofs.words.RoundTrip.{reading_ended}
use Rattle.metroid_format.proofs.words.Owed.{filled_whole}
use Rattle.metroid_format.proofs.words.Within.{read_within}
use Rattle.metroid_format.proofs.mend.Laws.{words_length}
use Rattle.metroid_format.proofs.mend.Readable.{mends, kept}
use Rattle.metroid_format.proofs.mend.Changes.{no_changes, few_changes, rising, differing, put_back_lem}

length_mended : (kind : Kind) (bytes : List ℕ) → length (mended kind bytes) ≡ length bytes
unfolding mended_from
length_mended kind [] = refl
length_mended kind (b ∷ bytes) = (mends kind (length (b ∷ bytes)) 0 (b ∷ bytes) (omega arith) (omega arith)).size

-- of all data but none
pub saves : (kind : Kind) (bytes : List ℕ) → 0 < length bytes → Saves kind bytes (mended kind bytes) (changes_of kind bytes)
saves kind bytes h =
    let after = mended kind bytes in
    let size = length_mended kind bytes in
    let m = mends kind (length bytes) 0 bytes h (omega arith) in
    let n : length bytes ≤ length after + 0 = omega arith in
    record {
      reads = m.reads (length after) n;
      kept = λ e. let k = kept kind bytes (length bytes) (length bytes) 0 e in (k, ap (changes bytes) k ∙ no_changes 0 bytes);
      restored = put_back_lem bytes after size;
      rising = rising 0 0 (length bytes) bytes after (omega arith) (omega arith);
      differing = differing 0 bytes after;
      behind = m.rest (length after) n;
    }

-- data copied to the start of an array
module _ (kind : Kind) (bytes array copied : List ℕ) (e : copied ≡ bytes) where
  copied_there : take (length bytes) (copied ++ drop (length bytes) array) ≡ bytes
  copied_there = rw e (take-append_seam bytes _)

  module _ (m : List ℕ) (f : m ≡ mended kind (take (length bytes) (copied ++ drop (length bytes) array))) where
    is_mended : m ≡ mended kind bytes
    is_mended = f ∙ ap (mended kind) copied_there

    same_size : length m ≡ length bytes
    same_size = rw is_mended (length_mended kind bytes)

    pub copy_mended : take (length bytes) (m ++ drop (length bytes) (copied ++ drop (length bytes) array)) ≡ mended kind bytes
    copy_mended = take_at m _ (length bytes) same_size ∙ is_mended

-- the changes of data to others of its size, as they are counted
module _ (bytes new : List ℕ) (z : (length bytes ≤ data_limit) × (length new ≡ length bytes)) (scratch used : List ℕ) (count : ℕ) (d : Lists 0 (changes bytes new) scratch count used) where
  counted : count ≡ length (changes bytes new)
  counted = d.counted ∙ zero-add _

  words_are : count * 3 ≡ length (change_words (changes bytes new))
  words_are = ap (λ (n : ℕ). n * 3) counted ∙ sym (words_length (changes bytes new))

  pub words_fit : Fits w64 (count * 3)
  words_fit = record { fits = omega (arith, counted, few_changes 0 bytes new, z.0) }

module _ (bytes new list : List ℕ) (z : (length bytes ≤ data_limit) × (length new ≡ length bytes)) (none : List ℕ) (count : ℕ) (d : Lists 0 (changes bytes new) (take 0 list) count none) where
  -- counted into no room, the changes leave the list as it was
  still : none ++ drop 0 list ≡ list
  still = ap (λ (x : List ℕ). x ++ drop 0 list) (d.filled ∙ sym (sets_out [] 0 (change_words (changes bytes new)) (omega arith)))

  pub changed_none : length list < count * 3 → Changed bytes new list (Err NoRoom) bytes (none ++ drop 0 list)
  changed_none s =
      let e = lt-leb _ _ (rw (words_are bytes new z (take 0 list) none count d) at s) in
      record { answered = sym (simp e); becomes = sym (simp e); listed = still ∙ sym (simp e) }

  pub changed_all : count * 3 ≤ length list → (list' bytes' : List ℕ) (count' : ℕ) → Lists 0 (changes bytes new) (none ++ drop 0 list) count' list' → bytes' ≡ new → Changed bytes new list (Ok count) bytes' list'
  changed_all s list' bytes' count' t q =
      let cs = changes bytes new in
      let room : length (change_words cs) ≤ length list = rw (words_are bytes new z (take 0 list) none count d) at s in
      let e = le-leb (length (change_words cs)) (length list) room in
      record {
        answered = ap Ok (counted bytes new z (take 0 list) none count d) ∙ sym (simp e);
        becomes = q ∙ sym (simp e);
        listed = filled_whole (change_words cs) list list' room (t.filled ∙ rw still) ∙ sym (simp e);
      }

-- new is the mended data, from the start of a copy
module _ (kind : Kind) (bytes copy : List ℕ) (f : take (length bytes) copy ≡ mended kind bytes) (new : List ℕ) (g : new ≡ take (length bytes) (drop 0 copy)) where
  new_is : new ≡ mended kind bytes
  new_is = g ∙ f

  pub part_size : length new ≡ length bytes
  part_size = rw new_is (length_mended kind bytes)

module _ (limit : ℕ) (kind : Kind) (bytes list : List ℕ) where
  mends_by : (x : Mending) (bytes' list' : List ℕ) → mending limit kind bytes (length list) ≡ x
      → bytes' ≡ pick (eqb (told_mending x).number 0) (mended kind bytes) bytes → list' ≡ left_by (told_mending x) (change_words (changes_of kind bytes)) list
      → ((count : ℕ) → x ≡ Ok count → Saves kind bytes bytes' (changes_of kind bytes)) → Mends limit kind bytes list x bytes' list'
  unfolding data_left list_left
  mends_by x bytes' list' e f g s =
      record { answered = answers told_mending x _ (sym e); mends = rw e f; lists = rw e g; saves = s }

  pub mends_empty : length bytes ≡ 0 → Mends limit kind bytes list (Err WrongDataSize) bytes list
  unfolding mending
  mends_empty z =
      mends_by (Err WrongDataSize) bytes list (simp (eq-eqb _ _ z)) refl refl (λ count e. absurd (refused_given _ count e))

  module _ (z : length bytes ≡ 0 → ⊥) where
    pub mends_long : limit < length bytes → Mends limit kind bytes list (Err WrongDataSize) bytes list
    unfolding mending
    mends_long l =
        mends_by (Err WrongDataSize) bytes list (simp (ne_eqb _ _ z, lt-leb _ _ l)) refl refl (λ count e. absurd (refused_given _ count e))

    -- new is the mended data, from the start of a copy, and the data becomes it
    module _ (l : length bytes ≤ limit) (copy : List ℕ) (f : take (length bytes) copy ≡ mended kind bytes) (new : List ℕ) (g : new ≡ take (length bytes) (drop 0 copy)) where
      by_room : (b : Bool) → leb (length (change_words (changes_of kind bytes))) (length list) ≡ b → (answer : Mending) (bytes' list' : List ℕ) → Changed bytes (mended kind bytes) list answer bytes' list' → Mends limit kind bytes list answer bytes' list'
      unfolding mending
      by_room true e answer bytes' list' c =
          let a : answer ≡ Ok (length (changes_of kind bytes)) = c.answered ∙ simp e in
          let w : bytes' ≡ mended kind bytes = c.becomes ∙ simp e in
          rw a
          (mends_by (Ok (length (changes_of kind bytes))) bytes' list' (simp (ne_eqb _ _ z, le-leb _ _ l, e)) w (c.listed ∙ simp e) (λ n _. rw w (saves kind bytes (omega arith))))
      by_room false e answer bytes' list' c =
          let a : answer ≡ Err NoRoom = c.answered ∙ simp e in
          rw a
          (mends_by (Err NoRoom) bytes' list' (simp (ne_eqb _ _ z, le-leb _ _ l, e)) (c.becomes ∙ simp e) (c.listed ∙ simp e) (λ n q. absurd (refused_given _ n q)))

      pub mends_changed : (answer : Mending) (bytes' list' : List ℕ) → Changed bytes new list answer bytes' list' → Mends limit kind bytes list answer bytes' list'
      mends_changed answer bytes' list' c =
          by_room _ refl answer bytes' list' (subst (λ (x : List ℕ). Changed bytes x list answer bytes' list') (new_is kind bytes copy f new g) c)

pub mended_within : (limit : ℕ) (kind : Kind) (bytes : List ℕ) (room : ℕ) → MendedWithin limit (mending limit kind bytes room)
unfolding mending
mended_within limit kind bytes room =
    by-test (MendedWithin limit) (eqb (length bytes) 0) (λ _. is_23)
    (λ _. by-test (MendedWithin limit) (leb (length bytes) limit)
    (λ l. by-test (MendedWithin limit) (leb (length (change_words (changes_of kind bytes))) room) (λ _. omega (arith, leb-true (length bytes) limit l, few_changes 0 bytes (mended kind bytes))) (λ _. is_18))
    (λ _. is_23))

-- as the calls on words tell it: the mended data reads, given as many words as bytes, and data that reads stays as it is
module _ (limit : ℕ) (kind : Kind) (bytes : List ℕ) (h : 0 < length bytes) (l : length bytes ≤ limit) where
  few_words : (other : List ℕ) → (straight kind other).finish ≡ Ok tt → length (straight kind other).words ≤ length other
  unfolding read_words
  few_words other e =
      let n = length (straight kind other).words in
      let r : read_words (length other) kind other n ≡ Ok n = rw (take-length other, e) (simp (le-leb n n (omega arith))) in
      subst (ReadWithin (length other)) r (read_within (length other) kind other n)

  pub mended_reads : (room : ℕ) → length bytes ≤ room → read_words limit kind (mended kind bytes) room ≡ Ok (length (straight kind (mended kind bytes)).words)
  unfolding read_words
  mended_reads room r =
      let after = mended kind bytes in
      let e = (saves kind bytes h).reads in
      let n = length (straight kind after).words in
      let fits : n ≤ room = omega (arith, few_words after e, length_mended kind bytes) in
      rw (take_all limit after (omega (arith, length_mended kind bytes)), e) (simp (le-leb n room fits))

  pub read_kept : (room count : ℕ) → read_words limit kind bytes room ≡ Ok count → mended kind bytes ≡ bytes
  read_kept room count e = ((saves kind bytes h).kept (rw (take_all limit bytes l) at (reading_ended limit kind bytes room count e).0)).0
