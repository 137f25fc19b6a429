-- What a playlist's word leaves: the address after it is a word of 16 bits, and a block word has too few before it in its row.
use Prim.Native.Nat.{ℕ, ◌+◌, ◌/◌, ◌<◌}
use mathlib.Core.Bool.{Bool, true}
use mathlib.Core.List.{List}
use mathlib.Core.Path.{◌≡◌, sym, ◌∙◌}
use native.Mathlib.Omega.{arith}
use borrow.Author.Tests.{ltb-true}
use mir.Syntax.{w16}
use mir.Val.{Fits}
use lib.Dec.{eqb, ltb}
use Rattle.std.specs.Prelude.{Result, Ok, Err}
use Rattle.engine_base.specs.declared.refusal.Refusal.{Refusal}
use Rattle.engine_base.specs.Address.{offset_of, within}
use Rattle.engine_base.specs.Bytes.{word_at}
use Rattle.engine_base.proofs.Picks.{by-test}
use Rattle.engine_base.proofs.address.Inside.{inside}
use Rattle.mother_format.specs.Playlist.{row_limit, goto_at, entry_at}
use Rattle.mother_format.specs.declared.playlist.Entry.{Entry}

pub list_fits : (list : ℕ) (r : Bool) → r ≡ within list 2 → r ≡ true → Fits w16 (list + 2)
list_fits list r e t =
    let (first, last) = inside list 2 (sym e ∙ t) in
    record { fits = omega arith }

-- a goto and a block word name an address in the banks, and too few block words came before the latter in its row
abbrev pub EntryWithin : ℕ → Result Entry Refusal → Type 0
EntryWithin row (Ok Entry.End) = Unit {0}
EntryWithin row (Ok (Entry.Goto target)) = within target 1 ≡ true
EntryWithin row (Ok (Entry.Block address next)) = (row < row_limit) × (within address 1 ≡ true)
EntryWithin row (Err refusal) = Unit {0}

pub entry_within : (bank : List ℕ) (list row : ℕ) (by-goto : Bool) → EntryWithin row (entry_at bank list row by-goto)
unfolding entry_at goto_at
entry_within bank list row by-goto =
    by-test (EntryWithin row) (within list 2)
    (λ _. by-test (EntryWithin row) (eqb (word / 256) 0x00) (λ _. tt) λ _.
    by-test (EntryWithin row) (eqb (word / 256) 0xff)
    (λ _. by-test (EntryWithin row) by-goto (λ _. tt) λ _.
    by-test (EntryWithin row) (within (list + 2) 2) (λ _. by-test (EntryWithin row) (within (word_at bank (offset_of (list + 2))) 1) (λ w. w) λ _. tt) λ _. tt)
    λ _. by-test (EntryWithin row) (within word 1) (λ w. by-test (EntryWithin row) (ltb row row_limit) (λ t. (ltb-true _ _ t, w)) λ _. tt) λ _. tt)
    λ _. tt
  where
    word : ℕ
    word = word_at bank (offset_of list)
