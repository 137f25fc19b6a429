-- Document 003, 'Block Playlist Format', and number 20 of document 02, No. 3.
use Rattle.std.specs.Prelude.{ℕ, ◌+◌, ◌/◌, Bool, List, [], ◌∷◌, ltb, eqb, Result, Ok, Err}
use Rattle.engine_base.specs.Pick.{pick, unless}
use Rattle.engine_base.specs.Told.{Told}
use Rattle.engine_base.specs.Refusal.{number_of}
use Rattle.engine_base.specs.declared.refusal.Refusal.{Refusal}
use Rattle.engine_base.specs.declared.refusal.Refusal.TheVariants.{BadPlaylist}
use Rattle.engine_base.specs.Address.{offset_of, within}
use Rattle.engine_base.specs.Bytes.{word_at}
use Rattle.mother_format.specs.declared.playlist.Entry.{Entry}
use Rattle.mother_format.specs.declared.playlist.Entry.TheVariants.{End, Goto, Block}

-- a word of the playlist, both bytes in the banks, or 20
abbrev pub list_word : List ℕ → ℕ → (ℕ → Result Entry Refusal) → Result Entry Refusal
list_word bank list go = unless (within list 2) BadPlaylist (go (word_at bank (offset_of list)))

-- ff-- AAAA: go to playlist address A, unless a goto led here
unfoldable pub goto_at : List ℕ → ℕ → Bool → Result Entry Refusal
goto_at bank list by-goto =
    pick by-goto (Err BadPlaylist) (list_word bank list (λ target. unless (within target 1) BadPlaylist (Ok (Goto target))))

abbrev pub row_limit : ℕ
row_limit = 256

-- AAAA: play the block at address A, unless so many block words came before it in a row
abbrev pub block_at : ℕ → ℕ → ℕ → Result Entry Refusal
block_at address row next =
    unless (within address 1) BadPlaylist (unless (ltb row row_limit) BadPlaylist (Ok (Block address next)))

-- 00--: end of track; ff--: goto; anything else: a block
unfoldable pub entry_at : List ℕ → ℕ → ℕ → Bool → Result Entry Refusal
entry_at bank list row by-goto =
    list_word bank list
    (λ word.
    pick (eqb (word / 256) 0x00) (Ok End)
    (pick (eqb (word / 256) 0xff) (goto_at bank (list + 2) by-goto)
    (block_at word row (list + 2))))

abbrev pub told_entry : Result Entry Refusal → Told
told_entry (Ok End) = record { number = 0; values = [] }
told_entry (Ok (Goto target)) = record { number = 0; values = target ∷ [] }
told_entry (Ok (Block address next)) = record { number = 0; values = address ∷ next ∷ [] }
told_entry (Err refusal) = record { number = number_of refusal; values = [] }
