-- The values of an answer stand one behind the other.
use Prim.Native.Nat.{ℕ, ◌+◌, ◌<◌}
use mathlib.Core.List.{List, [], ◌∷◌, ◌++◌, append_assoc}
use mathlib.Core.Path.{◌≡◌, refl, sym, ◌∙◌}
use native.Mathlib.Omega.{arith}
use lib.ListN.{length, length-append}
use lib.Seq.{sets}
use Rattle.std.proofs.Common.{map}
use Rattle.std.proofs.lemmas.List.{ext_get_or, nil_from_length, get_or-map, length-map}
use Rattle.std.specs.Array.{IsMapOf}
use Rattle.std.specs.Fn.{Mut, Called}
use Rattle.std.specs.List.{flat_map}
use Rattle.engine_base.proofs.Buffers.{sets_append}
use Rattle.engine_base.specs.Answer.{answer_kind, answer_place}
use Rattle.engine_base.specs.declared.answer.Answer.{Answer}
use Rattle.hemgosling.specs.Tell.{head_of}

three : (a : Answer) → length (answer_place a) ≡ 3
three Answer.Events = refl
three Answer.End = refl
three Answer.Stopped = refl
three (Answer.Refused refusal) = refl
three (Answer.Fault refusal channel at address) = refl

-- the kind, four counts, three words of place
pub head_put : (a : Answer) (counts before : List ℕ) (kind : ℕ) → kind ≡ answer_kind a → (one : List ℕ) → one ≡ sets before 0 (kind ∷ []) →
    (next : List ℕ) → next ≡ sets one 1 counts → (place : List ℕ) → place ≡ answer_place a →
    (last : List ℕ) → last ≡ sets next 5 place → length counts ≡ 4 → last ≡ sets before 0 (head_of a counts)
head_put a counts before kind k one o next n place p last l four =
    let five : 1 + length counts ≡ 5 = omega arith in
    rw (l, p, n, o, k) (sym (rw five at (sets_append (sets before 0 (answer_kind a ∷ [])) 1 counts (answer_place a))))

-- then what stands behind them
pub behind_head : (a : Answer) (counts before rest : List ℕ) (head : List ℕ) → head ≡ sets before 0 (head_of a counts) →
    (last : List ℕ) → last ≡ sets head 8 rest → length counts ≡ 4 → last ≡ sets before 0 (answer_kind a ∷ counts ++ (answer_place a ++ rest))
behind_head a counts before rest head h last l four =
    let eight : length (head_of a counts) ≡ 8 = omega (arith, length-append counts (answer_place a), three a) in
    rw (l, h, ← append_assoc counts (answer_place a) rest) (sym (rw eight at (sets_append before 0 (head_of a counts) rest)))

-- the words of the events, one channel behind the other
module _ {A F : Type 0} (g : Mut F (A × Unit {0}) (List ℕ)) (told : A → List ℕ) (gives : (f : F) (e : A) (words : List ℕ) (f' : F) → Called g f (e, tt) words f' → words ≡ told e) where
  words_of : {f : F} {n : ℕ} (events : List A) (words : List (List ℕ)) → length events ≡ n → IsMapOf g f events words n → words ≡ map told events
  words_of [] words n m = nil_from_length words (m.long ∙ sym n)
  words_of (e ∷ events) words n m =
      ext_get_or [] words (map told (e ∷ events)) (m.long ∙ sym n ∙ sym (length-map (e ∷ events) told))
      λ i b. (
      let h : i < length (e ∷ events) = omega (arith, m.long) in
      let k = (m.at i e [] (omega (arith, m.long))).2 in
      gives _ _ _ _ k ∙ sym (get_or-map told (e ∷ events) i e [] h)
      )

  module _ (all : List A → List ℕ) (none : all [] ≡ []) (each : (e : A) (es : List A) → all (e ∷ es) ≡ told e ++ all es) where
    flat : (events : List A) → flat_map (λ x. x) (map told events) ≡ all events
    flat [] = sym none
    flat (e ∷ es) = rw (flat es, each e es)

    pub flat_words : {f : F} {n : ℕ} (events : List A) (words : List (List ℕ)) → length events ≡ n → IsMapOf g f events words n →
        flat_map (λ x. x) words ≡ all events
    flat_words events words n m = rw (words_of events words n m) (flat events)
