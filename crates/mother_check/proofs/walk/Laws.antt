-- A word of the walk, as the code reads it.
use Prim.Native.Nat.{ℕ, ◌+◌, ◌<◌}
use mathlib.Core.Bool.{Bool, true, false}
use mathlib.Core.List.{List}
use mathlib.Core.Path.{◌≡◌, sym, ap, subst, ◌∙◌}
use native.Mathlib.Omega.{arith}
use mir.Syntax.{w16}
use mir.Val.{Fits}
use lib.ListN.{get_or}
use Rattle.std.specs.Prelude.{Result, Ok}
use Rattle.engine_base.specs.Address.{offset_of}
use Rattle.engine_base.proofs.address.Inside.{inside}
use Rattle.engine_base.specs.declared.refusal.Refusal.{Refusal}
use Rattle.mother_format.specs.Playlist.{entry_at}
use Rattle.mother_format.proofs.playlist.Next.{EntryWithin, entry_within}
use Rattle.mother_format.specs.declared.playlist.Entry.{Entry}
use Rattle.mother_check.specs.Walk.{addresses, spot_at, word_by, word_at, marks_by, marks_at}
use Rattle.mother_check.specs.declared.walk.Spot.{Spot}
use Rattle.mother_check.specs.declared.walk.Word.{Word}
use Rattle.mother_check.specs.declared.walk.Word.TheVariants.{Done, Goto}

-- found is what `entry_at` answers
module _ (bank : List ℕ) (spot : Spot) (marks : List Bool) (found : Result Entry Refusal) (q : found ≡ entry_at bank spot.list spot.row spot.by_goto) where
  entry_fits : (x : Result Entry Refusal) → found ≡ x → EntryWithin spot.row x
  entry_fits x e = subst (EntryWithin spot.row) (sym q ∙ e) (entry_within bank spot.list spot.row spot.by_goto)

  pub target_fits : (target : ℕ) → found ≡ Ok (Entry.Goto target) → (at : ℕ) → at ≡ offset_of target → at < addresses
  target_fits target e at o =
      let (low, high) = inside target 1 (entry_fits _ e) in
      omega arith

  pub row_fits : (address next : ℕ) → found ≡ Ok (Entry.Block address next) → Fits w16 (spot.row + 1)
  row_fits address next e = let h = (entry_fits _ e).0 in record { fits = omega arith }

  pub answers_word : (x : Result Entry Refusal) → found ≡ x → (word : Word) → word ≡ word_by spot marks x → (after : List Bool) → after ≡ marks_by marks word →
      (word ≡ word_at bank spot marks) × (after ≡ marks_at bank spot marks)
  unfolding word_at
  answers_word x e word w after m =
      let is : word ≡ word_at bank spot marks = w ∙ ap (word_by spot marks) (sym e ∙ q) in
      (is, m ∙ ap (marks_by marks) is)

pub goes_marked : (spot : Spot) (target at : ℕ) → at ≡ offset_of target → (marks : List Bool) → get_or marks at false ≡ true →
    Done ≡ word_by spot marks (Ok (Entry.Goto target))
goes_marked spot target at o marks t = let m : get_or marks (offset_of target) false ≡ true = rw (← o) t in rw m

pub goes_unmarked : (spot : Spot) (target at : ℕ) → at ≡ offset_of target → (marks : List Bool) → get_or marks at false ≡ false →
    Goto (spot_at target 0 true) ≡ word_by spot marks (Ok (Entry.Goto target))
goes_unmarked spot target at o marks t = let m : get_or marks (offset_of target) false ≡ false = rw (← o) t in rw m
