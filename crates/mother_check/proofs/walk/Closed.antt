-- A player follows every goto, for ever. Whatever word of a playlist it meets is looked at: neither the marks nor the limit
-- of words keep one from it.
use Prim.Native.Nat.{ℕ, zero, suc, ◌+◌, ◌-◌, ◌*◌, ◌≤◌, ◌<◌}
use mathlib.Core.Bool.{Bool, true, false}
use mathlib.Core.List.{List, [], ◌∷◌}
use mathlib.Core.Path.{◌≡◌, refl, sym, subst, ◌∙◌}
use native.Mathlib.Omega.{arith}
use borrow.Author.Tests.{eqb-true, eqb-false}
use lib.Dec.{eqb}
use lib.ListN.{length, get_or, set, length-set, length-replicate}
use lib.Seq.{get_or-set_other}
use Rattle.std.specs.Prelude.{Result, Ok, Err}
use Rattle.engine_base.specs.Address.{bank_start, bank_end, offset_of}
use Rattle.engine_base.proofs.Picks.{false_true}
use Rattle.engine_base.proofs.address.Inside.{inside}
use Rattle.engine_base.specs.declared.refusal.Refusal.{Refusal}
use Rattle.mother_format.specs.Playlist.{row_limit, entry_at}
use Rattle.mother_format.proofs.playlist.Next.{EntryWithin, entry_within}
use Rattle.mother_format.specs.declared.playlist.Entry.{Entry}
use Rattle.mother_check.specs.Walk.{Named, spot_at, first_spot, addresses, unmarked, word_at, named_from, most_words, named}
use Rattle.mother_check.specs.declared.walk.Spot.{Spot}
use Rattle.mother_check.proofs.Member.{In, here, there}
use Rattle.mother_check.proofs.walk.Marks.{falses, fewer_falses, all_false, each_false}

-- the word at a spot, as the player reads it
abbrev entry_of : List ℕ → Spot → Result Entry Refusal
entry_of bank s = entry_at bank s.list s.row s.by_goto

-- where the walk comes, with the number of words left to look at, the marks and the place
data Walked (bank : List ℕ) (list most : ℕ) (none : List Bool) : ℕ → Spot → List Bool → ℕ → Type 0 where
  start : Walked bank list most none most (first_spot list) none 0
  on_goto : {more place target : ℕ} {s : Spot} {marks : List Bool} → Walked bank list most none (suc more) s marks place →
      entry_of bank s ≡ Ok (Entry.Goto target) → get_or marks (offset_of target) false ≡ false →
      Walked bank list most none more (spot_at target 0 true) (set marks (offset_of target) true) (place + 1)
  on_block : {more place address next : ℕ} {s : Spot} {marks : List Bool} → Walked bank list most none (suc more) s marks place →
      entry_of bank s ≡ Ok (Entry.Block address next) →
      Walked bank list most none more (spot_at next (s.row + 1) false) marks (place + 1)

-- it comes there with a word left to look at
record Comes (bank : List ℕ) (list most : ℕ) (none : List Bool) (s : Spot) : Type 0 where
  more : ℕ
  marks : List Bool
  place : ℕ
  walked : Walked bank list most none (suc more) s marks place

-- for the rest of this row and for the row of each unmarked address, 256 block words and one more
record Enough (words : ℕ) (s : Spot) (marks : List Bool) : Type 0 where
  sized : length marks ≡ addresses
  row : s.row ≤ row_limit
  left : 257 * falses marks + 257 ≤ words + s.row

record Opening (most : ℕ) (none : List Bool) : Type 0 where
  sized : length none ≡ addresses
  clear : (i : ℕ) → get_or none i false ≡ false
  left : 257 * falses none + 257 ≤ most

-- one word of the definition
module _ (bank : List ℕ) (more : ℕ) (s : Spot) (marks : List Bool) (place : ℕ) where
  goto_on : (target : ℕ) → entry_of bank s ≡ Ok (Entry.Goto target) → get_or marks (offset_of target) false ≡ false →
      named_from bank (suc more) s marks place ≡
      named_from bank more (spot_at target 0 true) (set marks (offset_of target) true) (place + 1)
  unfolding named_from word_at
  goto_on target e c = rw (e, c)

  block_on : (address next : ℕ) → entry_of bank s ≡ Ok (Entry.Block address next) →
      named_from bank (suc more) s marks place ≡
      Named.block place address ∷ named_from bank more (spot_at next (s.row + 1) false) marks (place + 1)
  unfolding named_from word_at
  block_on address next e = rw e

  bad_on : {refusal : Refusal} → entry_of bank s ≡ Err refusal → named_from bank (suc more) s marks place ≡ Named.bad place ∷ []
  unfolding named_from word_at
  bad_on e = rw e

module _ (bank : List ℕ) (s : Spot) where
  goto_inside : (target : ℕ) → entry_of bank s ≡ Ok (Entry.Goto target) → (bank_start ≤ target) × (target + 1 ≤ bank_end)
  goto_inside target e =
      inside target 1 (subst (EntryWithin s.row) e (entry_within bank s.list s.row s.by_goto))

  block_row : (address next : ℕ) → entry_of bank s ≡ Ok (Entry.Block address next) → s.row < row_limit
  block_row address next e =
      (subst (EntryWithin s.row) e (entry_within bank s.list s.row s.by_goto)).0

module _ {bank : List ℕ} {list most : ℕ} {none : List Bool} (o : Opening most none) where
  enough : {words place : ℕ} {s : Spot} {marks : List Bool} → Walked bank list most none words s marks place →
      Enough words s marks
  enough start = record { sized = o.sized; row = omega arith; left = omega arith }
  enough (on_goto {target = target} {s = s} {marks = marks} w e c) =
      let before = enough w in
      let (low, high) = goto_inside bank s target e in
      let fewer = fewer_falses marks (offset_of target) (omega arith) c in
      record { sized = length-set marks (offset_of target) true ∙ before.sized; row = omega arith; left = omega arith }
  enough (on_block {address = address} {next = next} {s = s} w e) =
      let before = enough w in
      let low = block_row bank s address next e in
      record { sized = before.sized; row = omega arith; left = omega arith }

  comes : {words place : ℕ} {s : Spot} {marks : List Bool} → Walked bank list most none words s marks place →
      Comes bank list most none s
  comes {words = zero} w = let h = enough w in absurd (omega arith)
  comes {words = suc more} w = record { more = more; marks = _; place = _; walked = w }

  -- where a mark stands, a goto has led
  marked : {words place : ℕ} {s : Spot} {marks : List Bool} → Walked bank list most none words s marks place →
      (target : ℕ) → bank_start ≤ target → get_or marks (offset_of target) false ≡ true →
      Comes bank list most none (spot_at target 0 true)
  marked start target h m = absurd (false_true (sym (o.clear (offset_of target)) ∙ m))
  marked (on_block w e) target h m = marked w target h m
  marked (on_goto {target = other} {s = s} {marks = marks} w e c) target h m =
      from (λ k. marked w target h k) (eqb (offset_of target) (offset_of other)) refl
    where
      from : (get_or marks (offset_of target) false ≡ true → Comes bank list most none (spot_at target 0 true)) →
          (b : Bool) → eqb (offset_of target) (offset_of other) ≡ b → Comes bank list most none (spot_at target 0 true)
      from earlier true q =
          let (low, high) = goto_inside bank s other e in
          let same : offset_of target ≡ offset_of other = eqb-true _ _ q in
          let now : other ≡ target = omega arith in
          subst (λ (t : ℕ). Comes bank list most none (spot_at t 0 true)) now (comes (on_goto w e c))
      from earlier false q =
          earlier (sym (get_or-set_other marks (offset_of other) (offset_of target) true false (eqb-false _ _ q)) ∙ m)

  goto_comes : {s : Spot} {target : ℕ} → Comes bank list most none s → entry_of bank s ≡ Ok (Entry.Goto target) →
      Comes bank list most none (spot_at target 0 true)
  goto_comes {s} {target} at e = from (get_or at.marks (offset_of target) false) refl
    where
      from : (b : Bool) → get_or at.marks (offset_of target) false ≡ b → Comes bank list most none (spot_at target 0 true)
      from true q = marked at.walked target (goto_inside bank s target e).0 q
      from false q = comes (on_goto at.walked e q)

-- what is named from there on is named
still_named : {bank : List ℕ} {list most : ℕ} {none : List Bool} {words place : ℕ} {s : Spot} {marks : List Bool} {x : Named} →
    Walked bank list most none words s marks place → In x (named_from bank words s marks place) →
    In x (named_from bank most (first_spot list) none 0)
still_named start m = m
still_named {bank = bank} (on_goto {target = target} w e c) m = still_named w (rw (goto_on bank _ _ _ _ target e c) m)
still_named {bank = bank} (on_block {address = address} {next = next} w e) m =
    still_named w (rw (block_on bank _ _ _ _ address next e) (there m))

opening : Opening most_words unmarked
opening =
    let count = all_false addresses in
    record { sized = length-replicate addresses false; clear = each_false addresses; left = omega arith }

-- a spot that the walk from a header's playlist looks at
pub record Looked (bank : List ℕ) (list : ℕ) (s : Spot) : Type 0 where
  at : Comes bank list most_words unmarked s

pub record Names (bank : List ℕ) (list address : ℕ) : Type 0 where
  pub place : ℕ
  pub named : In (Named.block place address) (named bank list)

pub record Bads (bank : List ℕ) (list : ℕ) : Type 0 where
  pub place : ℕ
  pub named : In (Named.bad place) (named bank list)

-- what stands first
pub record Heads (bank : List ℕ) (list address : ℕ) : Type 0 where
  pub place : ℕ
  pub rest : List Named
  pub is : named bank list ≡ Named.block place address ∷ rest

pub first_looked : (bank : List ℕ) (list : ℕ) → Looked bank list (first_spot list)
first_looked bank list = record { at = comes opening start }

module _ {bank : List ℕ} {list : ℕ} {s : Spot} (l : Looked bank list s) where
  pub goto_looked : {target : ℕ} → entry_at bank s.list s.row s.by_goto ≡ Ok (Entry.Goto target) →
      Looked bank list (spot_at target 0 true)
  goto_looked e = record { at = goto_comes opening l.at e }

  pub block_looked : {address next : ℕ} → entry_at bank s.list s.row s.by_goto ≡ Ok (Entry.Block address next) →
      Looked bank list (spot_at next (s.row + 1) false)
  block_looked e = record { at = comes opening (on_block l.at.walked e) }

  looked_named : {x : Named} → In x (named_from bank (suc l.at.more) s l.at.marks l.at.place) → In x (named bank list)
  unfolding named
  looked_named m = still_named l.at.walked m

  pub block_named : {address next : ℕ} → entry_at bank s.list s.row s.by_goto ≡ Ok (Entry.Block address next) →
      Names bank list address
  block_named {address} {next} e = record {
    place = l.at.place;
    named = looked_named (rw (block_on bank _ _ _ _ address next e) here);
  }

  pub bad_named : {refusal : Refusal} → entry_at bank s.list s.row s.by_goto ≡ Err refusal → Bads bank list
  bad_named e = record { place = l.at.place; named = looked_named (rw (bad_on bank _ _ _ _ e) here) }

pub first_block : {bank : List ℕ} {list address next : ℕ} → entry_at bank list 0 false ≡ Ok (Entry.Block address next) →
    Heads bank list address
unfolding named
first_block {bank} {list} {address} {next} e = record {
  place = 0;
  rest = _;
  is = block_on bank (most_words - 1) (first_spot list) unmarked 0 address next e;
}

pub first_block_by_goto : {bank : List ℕ} {list target address next : ℕ} → entry_at bank list 0 false ≡ Ok (Entry.Goto target) →
    entry_at bank target 0 true ≡ Ok (Entry.Block address next) → Heads bank list address
unfolding named
first_block_by_goto {bank} {list} {target} {address} {next} e b = record {
  place = 1;
  rest = _;
  is = goto_on bank (most_words - 1) (first_spot list) unmarked 0 target e (each_false addresses (offset_of target)) ∙
      block_on bank (most_words - 2) (spot_at target 0 true) _ 1 address next b;
}
