-- The mended data reads, and nothing behind its first end has changed; data that reads stays as it is.
use Prim.Native.Nat.{ℕ, zero, suc, ◌+◌, ◌-◌, ◌≤◌, ◌<◌}
use mathlib.Core.Bool.{Bool, true, false}
use mathlib.Core.List.{List, [], ◌∷◌}
use mathlib.Core.Path.{◌≡◌, refl, sym, ap, subst, ◌∙◌}
use native.Mathlib.Omega.{arith}
use borrow.Author.Tests.{eqb-true, eqb-false, leb-true, leb-false, le-leb}
use lib.Dec.{leb, eqb}
use lib.ListN.{length, get_or, set, take, drop, length-set, drop_of_length-le}
use lib.Seq.{take-take, take-set-le, drop-set-lt, drop-drop, get_or-take, get_or-set_same, get_or-set_other}
use Rattle.std.specs.Prelude.{Ok, Err}
use Rattle.engine_base.specs.Pick.{pick}
use Rattle.engine_base.specs.Refusal.{number_of}
use Rattle.engine_base.specs.declared.refusal.Refusal.{Refusal}
use Rattle.engine_base.specs.declared.refusal.Refusal.TheVariants.{PastData}
use Rattle.metroid_format.specs.Command.{command_at, is_key, is_preset, is_note, word_of, is_end, Decoded}
use Rattle.metroid_format.specs.Words.{Straight, straight_from, straight_by, after_command}
use Rattle.metroid_format.specs.Mend.{rest_of, closed, onward, mended_by, mended_from}
use Rattle.metroid_format.specs.declared.command.Kind.{Kind}
use Rattle.metroid_format.specs.declared.command.Kind.TheVariants.{Melodic, Noise}
use Rattle.metroid_format.specs.declared.command.Command.{Command}
use Rattle.metroid_format.specs.declared.command.Command.TheVariants.{End, Note, Length}
use Rattle.engine_base.proofs.Picks.{by-test}
use Rattle.metroid_format.proofs.command.Laws.{Stands, at_end, at_end_loop, at_begin, at_length, at_note, Unfit, past, lone, behind, found, unfit, stands, next_after, next_within}
use Rattle.metroid_format.proofs.words.Laws.{straight_next}
use Rattle.metroid_format.proofs.words.RoundTrip.{not_ended}
use Rattle.metroid_format.proofs.mend.Laws.{past_there, in_data, mended_next}

-- where a command stands, it stands in data with the same bytes up to the one behind it
module _ (kind : Kind) (bytes other : List ℕ) (size : length other ≡ length bytes) (at : ℕ) where
  module _ (next : ℕ) (same : take next other ≡ take next bytes) where
    same_byte : (i : ℕ) → i < next → get_or other i 0 ≡ get_or bytes i 0
    same_byte i h = sym (get_or-take next other i 0 h) ∙ ap (λ (l : List ℕ). get_or l i 0) same ∙ get_or-take next bytes i 0 h

  still_stands : {c : Command} {next : ℕ} → Stands kind bytes at c next → take next other ≡ take next bytes → Stands kind other at c next
  still_stands (at_end h e) s = at_end (omega arith) (same_byte (at + 1) s at (omega arith) ∙ e)
  still_stands (at_end_loop h e) s = at_end_loop (omega arith) (same_byte (at + 1) s at (omega arith) ∙ e)
  still_stands (at_begin n l h e) s = at_begin n l (omega arith) (same_byte (at + 1) s at (omega arith) ∙ e)
  still_stands (at_length l note b y h e g) s =
      let next = at + 1 + 1 in
      at_length l note b y (omega arith) (same_byte next s at (omega arith) ∙ e) (same_byte next s (at + 1) (omega arith) ∙ g)
  still_stands (at_note b p l y h e) s = at_note b p l y (omega arith) (same_byte (at + 1) s at (omega arith) ∙ e)

-- the rest is a note of its channel, and no end
rest_sounds : (kind : Kind) → is_note kind (rest_of kind) ≡ true
unfolding is_key is_preset
rest_sounds Melodic = refl
rest_sounds Noise = refl

rest_small : (kind : Kind) → (0 < rest_of kind) × (rest_of kind < 0x80)
rest_small Melodic = (omega arith, omega arith)
rest_small Noise = (omega arith, omega arith)

rest_stands : (kind : Kind) (bytes : List ℕ) (at : ℕ) → at < length bytes → get_or bytes at 0 ≡ rest_of kind → Stands kind bytes at (Note (rest_of kind)) (at + 1)
rest_stands kind bytes at h e = at_note (rest_of kind) (rest_small kind).0 (rest_small kind).1 (rest_sounds kind) h e

-- a byte that became a rest is passed as the rest it is
record Passed (kind : Kind) (bytes : List ℕ) (at next : ℕ) : Type 0 where
  command : Command
  stands_there : Stands kind bytes at command next
  no_end : is_end command ≡ false

passed_by_lem : (kind : Kind) (bytes : List ℕ) (at : ℕ) {refusal : Refusal} {offset : ℕ} → Unfit bytes at refusal offset → (number_of refusal ≡ number_of PastData → ⊥) → Passed kind (set bytes offset (rest_of kind)) at (offset + 1)
passed_by_lem kind bytes at (past offset h m i) z = absurd (z refl)
passed_by_lem kind bytes at (lone refusal low high h) z =
    let i : at < length (set bytes at (rest_of kind)) = omega (arith, length-set bytes at (rest_of kind)) in
    record {
      command = Note (rest_of kind);
      stands_there = rest_stands kind _ at i (get_or-set_same bytes at (rest_of kind) 0 h);
      no_end = refl;
    }
passed_by_lem kind bytes at (behind l s h e) z =
    let v = rest_of kind in
    record {
      command = Length l v;
      stands_there = at_length l v s (rest_sounds kind) (omega (arith, length-set bytes (at + 1) v)) (get_or-set_other bytes (at + 1) at v 0 (λ k. omega arith) ∙ e) (get_or-set_same bytes (at + 1) v 0 h);
      no_end = refl;
    }

-- data that differs from other data of its size at most from one offset to another
record Between (at next : ℕ) (bytes now : List ℕ) : Type 0 where
  size : length now ≡ length bytes
  before : take at now ≡ take at bytes
  behind_it : drop next now ≡ drop next bytes

-- data that reads from an offset on, and differs from other data only from there to behind its first end
pub record Reading (kind : Kind) (at : ℕ) (bytes after : List ℕ) : Type 0 where
  pub size : length after ≡ length bytes
  pub before : take at after ≡ take at bytes
  pub reads : (left : ℕ) → length bytes ≤ left + at → (straight_from kind after left at).finish ≡ Ok tt
  pub later : (left : ℕ) → length bytes ≤ left + at → at ≤ (straight_from kind after left at).reach
  pub rest : (left : ℕ) → length bytes ≤ left + at → drop (straight_from kind after left at).reach after ≡ drop (straight_from kind after left at).reach bytes

drop_more : (n m : ℕ) (l k : List ℕ) → n ≤ m → drop n l ≡ drop n k → drop m l ≡ drop m k
drop_more n m l k h e =
    let s : n + (m - n) ≡ m = omega arith in
    rw (← s) (sym (drop-drop (m - n) n l) ∙ ap (drop (m - n)) e ∙ drop-drop (m - n) n k)

one_left : (left at size : ℕ) → at < size → size ≤ left + at → left ≡ suc (left - 1)
one_left left at size h n = omega arith

-- a command is passed, and what is behind it is mended
module _ (kind : Kind) (at next : ℕ) (bytes now after : List ℕ) (b : Between at next bytes now) (p : Passed kind now at next) (m : Reading kind next now after) where
  passed_on : (left : ℕ) → length bytes ≤ left + at → (l : ℕ) × (length now ≤ l + next) × ((straight_from kind after left at).finish ≡ (straight_from kind after l next).finish) × ((straight_from kind after left at).reach ≡ (straight_from kind after l next).reach)
  passed_on left n =
      let s = p.stands_there in
      let i = next_after s in
      let w = next_within s in
      let t = still_stands kind now after m.size at s m.before in
      let o = one_left left at (length bytes) (omega (arith, b.size)) n in
      let c = p.command in
      let r : straight_from kind after left at ≡ after_command false (word_of c) next (straight_from kind after (left - 1) next) =
      straight_next kind after left (left - 1) at (Ok (c, next)) o (stands kind after at t)
      ∙ ap (λ (x : Bool). after_command x (word_of c) next (straight_from kind after (left - 1) next)) p.no_end
      in
      (left - 1, omega (arith, b.size), ap (λ (x : Straight). x.finish) r, ap (λ (x : Straight). x.reach) r)

  onward_mends : Reading kind at bytes after
  onward_mends =
      let i = next_after p.stands_there in
      record {
        size = m.size ∙ b.size;
        before = sym (take-take at next after (omega arith)) ∙ ap (take at) m.before ∙ take-take at next now (omega arith) ∙ b.before;
        reads = λ left n. let (l, e, f, r) = passed_on left n in f ∙ m.reads l e;
        later = λ left n. let (l, e, f, r) = passed_on left n in omega (arith, r, m.later l e);
        rest = λ left n. let (l, e, f, r) = passed_on left n in rw r (m.rest l e ∙ drop_more next _ now bytes (m.later l e) b.behind_it);
      }

-- an end stands there
module _ (kind : Kind) (at : ℕ) (bytes : List ℕ) (c : Command) (next : ℕ) (s : Stands kind bytes at c next) (y : is_end c ≡ true) where
  end_there : (left : ℕ) → length bytes ≤ left + at → straight_from kind bytes left at ≡ record { words = word_of c ∷ []; reach = next; finish = Ok tt }
  end_there left n =
      let i = next_after s in
      let w = next_within s in
      straight_next kind bytes left (left - 1) at (Ok (c, next)) (one_left left at (length bytes) (omega arith) n) (stands kind bytes at s)
      ∙ ap (λ (x : Bool). after_command x (word_of c) next (straight_from kind bytes (left - 1) next)) y

  end_mends : Reading kind at bytes bytes
  end_mends =
      let i = next_after s in
      record {
        size = refl;
        before = refl;
        reads = λ left n. ap (λ (x : Straight). x.finish) (end_there left n);
        later = λ left n. omega (arith, ap (λ (x : Straight). x.reach) (end_there left n));
        rest = λ left n. refl;
      }

next_near : {kind : Kind} {bytes : List ℕ} {at : ℕ} {c : Command} {next : ℕ} → Stands kind bytes at c next → next ≤ at + 2
next_near (at_end h e) = omega arith
next_near (at_end_loop h e) = omega arith
next_near (at_begin n l h e) = omega arith
next_near (at_length l note b y h e g) = omega arith
next_near (at_note b p l y h e) = omega arith

-- other data of the size, with the same bytes up to an offset, that has its first end as its last byte
module _ (kind : Kind) (at : ℕ) (bytes other : List ℕ) (n : length other ≡ length bytes) (b : take at other ≡ take at bytes) where
  record Whole (left : ℕ) : Type 0 where
    words : List ℕ
    is : straight_from kind other left at ≡ record { words = words; reach = length bytes; finish = Ok tt }

  whole_mends : at ≤ length bytes → ((left : ℕ) → length bytes ≤ left + at → Whole left) → Reading kind at bytes other
  whole_mends h w =
      let reach : (left : ℕ) → length bytes ≤ left + at → (straight_from kind other left at).reach ≡ length bytes = λ left i. ap (λ (x : Straight). x.reach) (w left i).is in
      record {
        size = n;
        before = b;
        reads = λ left i. ap (λ (x : Straight). x.finish) (w left i).is;
        later = λ left i. omega (arith, reach left i);
        rest = λ left i. rw (reach left i) (drop_of_length-le other {i = length bytes} (omega arith) ∙ sym (drop_of_length-le bytes {i = length bytes} (omega arith)));
      }

  last_mends : at + 1 ≡ length bytes → get_or other at 0 ≡ 0x00 → Reading kind at bytes other
  last_mends h e =
      let s : Stands kind other at End (at + 1) = at_end (omega arith) e in
      whole_mends (omega arith) (λ left i. record { words = 0x00 ∷ []; is = end_there kind at other End (at + 1) s refl left (omega arith) ∙ rw h })

  rest_mends : at + 2 ≡ length bytes → get_or other at 0 ≡ rest_of kind → get_or other (at + 1) 0 ≡ 0x00 → Reading kind at bytes other
  rest_mends h r e =
      let p : Stands kind other at (Note (rest_of kind)) (at + 1) = rest_stands kind other at (omega arith) r in
      let s : Stands kind other (at + 1) End (at + 1 + 1) = at_end (omega arith) e in
      let k : at + 1 + 1 ≡ length bytes = omega arith in
      whole_mends (omega arith)
      (λ left i. record {
        words = rest_of kind ∷ 0x00 ∷ [];
        is = straight_next kind other left (left - 1) at _ (one_left left at (length bytes) (omega arith) i) (stands kind other at p)
            ∙ rw (end_there kind (at + 1) other End (at + 1 + 1) s refl (left - 1) (omega arith), k);
      })

-- with no end met, from the last command on
closed_mends : (kind : Kind) (at : ℕ) (bytes now : List ℕ) → length now ≡ length bytes → take at now ≡ take at bytes → at < length bytes → length bytes ≤ at + 2 → Reading kind at bytes (closed kind at now)
unfolding closed
closed_mends kind at bytes now n b h l =
    let last = length now - 1 in
    let ended = set now last 0x00 in
    let v = rest_of kind in
    let size : length ended ≡ length bytes = length-set now last 0x00 ∙ n in
    let front : take at ended ≡ take at bytes = take-set-le at now last 0x00 (omega arith) ∙ b in
    by-test {A = List ℕ} (Reading kind at bytes) (eqb (at + 2) (length now))
    (λ e. let two = eqb-true (at + 2) (length now) e in
    let at_last : at + 1 ≡ last = omega arith in
    rest_mends kind at bytes (set ended at v) (length-set ended at v ∙ size) (take-set-le at ended at v (omega arith) ∙ front) (omega arith)
    (get_or-set_same ended at v 0 (omega arith))
    (get_or-set_other ended at (at + 1) v 0 (λ (k : at + 1 ≡ at). omega arith) ∙ rw at_last (get_or-set_same now last 0x00 0 (omega arith))))
    (λ e. let no-two = eqb-false (at + 2) (length now) e in
    let at_last : at ≡ last = omega arith in
    last_mends kind at bytes ended size front (omega arith) (rw at_last (get_or-set_same now last 0x00 0 (omega arith))))

module _ (kind : Kind) (left at : ℕ) (bytes : List ℕ) (h : at < length bytes) (n : length bytes ≤ suc left + at)
    (later : (next : ℕ) (now : List ℕ) → next < length now → length now ≤ left + next → Reading kind next now (mended_from kind left next now)) where
  abbrev go : ℕ → List ℕ → List ℕ
  go next now = mended_from kind left next now

  onward_by : (next : ℕ) (now : List ℕ) → Between at next bytes now → Passed kind now at next → Reading kind at bytes (onward kind at next go now)
  onward_by next now b p =
      let i = next_after p.stands_there in
      let j = next_near p.stands_there in
      by-test {A = List ℕ} (Reading kind at bytes) (leb (length now) next)
      (λ e. closed_mends kind at bytes now b.size b.before h (omega (arith, leb-true (length now) next e, b.size)))
      (λ e. let l = leb-false (length now) next e in
      onward_mends kind at next bytes now (go next now) b p (later next now l (omega (arith, b.size))))

  mends_by : (d : Decoded) → command_at kind bytes at ≡ d → Reading kind at bytes (mended_by kind bytes at go d)
  mends_by (Ok (c, next)) e =
      let s = found kind bytes at e in
      by-test {A = List ℕ} (Reading kind at bytes) (is_end c) (λ y. end_mends kind at bytes c next s y)
      (λ y. onward_by next bytes (record { size = refl; before = refl; behind_it = refl }) (record { command = c; stands_there = s; no_end = y }))
  mends_by (Err (refusal, offset)) e =
      let v = rest_of kind in
      by-test {A = List ℕ} (Reading kind at bytes) (eqb (number_of refusal) (number_of PastData))
      (λ y. closed_mends kind at bytes bytes refl refl h (omega (arith, past_there kind bytes at e (eqb-true _ _ y))))
      (λ y. let z = eqb-false _ _ y in
      let w = in_data kind bytes at e z in
      onward_by (offset + 1) (set bytes offset v)
      (record { size = length-set bytes offset v; before = take-set-le at bytes offset v w.0; behind_it = drop-set-lt (offset + 1) bytes offset v (omega arith) })
      (passed_by_lem kind bytes at (unfit kind bytes at e) z))

pub mends : (kind : Kind) (left at : ℕ) (bytes : List ℕ) → at < length bytes → length bytes ≤ left + at → Reading kind at bytes (mended_from kind left at bytes)
mends kind zero at bytes h n = absurd (omega arith)
mends kind (suc left) at bytes h n =
    subst (Reading kind at bytes) (sym (mended_next kind bytes at left _ refl))
    (mends_by kind left at bytes h n (λ next now i m. mends kind left next now i m) (command_at kind bytes at) refl)

-- data that reads is left alone
faulty : (kind : Kind) (bytes : List ℕ) (left at : ℕ) → length bytes ≤ at → (straight_from kind bytes left at).finish ≡ Ok tt → ⊥
unfolding straight_from command_at
faulty kind bytes zero at h e = not_ended e
faulty kind bytes (suc left) at h e = not_ended (simp (le-leb _ _ h) at e)

module _ (kind : Kind) (bytes : List ℕ) (left l at : ℕ) (later : (next : ℕ) → (straight_from kind bytes l next).finish ≡ Ok tt → mended_from kind left next bytes ≡ bytes) where
  kept_by : (d : Decoded) → (straight_by at (λ next. straight_from kind bytes l next) d).finish ≡ Ok tt → mended_by kind bytes at (λ next now. mended_from kind left next now) d ≡ bytes
  kept_by (Ok (c, next)) e = kept_after (is_end c) e
    where
      kept_after : (y : Bool) → (after_command y (word_of c) next (straight_from kind bytes l next)).finish ≡ Ok tt → pick y bytes (onward kind at next (λ next now. mended_from kind left next now) bytes) ≡ bytes
      kept_after true f = refl
      kept_after false f =
          by-test {A = List ℕ} (λ (x : List ℕ). x ≡ bytes) (leb (length bytes) next)
          (λ y. absurd (faulty kind bytes l next (leb-true (length bytes) next y) f))
          (λ _. later next f)
  kept_by (Err (refusal, offset)) e = absurd (not_ended e)

pub kept : (kind : Kind) (bytes : List ℕ) (left l at : ℕ) → (straight_from kind bytes l at).finish ≡ Ok tt → mended_from kind left at bytes ≡ bytes
unfolding straight_from mended_from
kept kind bytes zero l at e = refl
kept kind bytes (suc left) zero at e = absurd (not_ended e)
kept kind bytes (suc left) (suc l) at e = kept_by kind bytes left l at (λ next f. kept kind bytes left l next f) (command_at kind bytes at) e
