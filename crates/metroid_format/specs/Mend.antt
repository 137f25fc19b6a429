-- Document 02, No. 5: mending one channel's data, and the list of what was changed.
use Rattle.std.specs.Prelude.{ℕ, zero, suc, ◌+◌, ◌-◌, ◌*◌, ◌≤◌, ◌<◌, List, [], ◌∷◌, ◌++◌, ◌≡◌, Result, Ok, Err, leb, eqb, length, set, drop}
use Rattle.std.proofs.lemmas.List.Edits.{sets}
use Rattle.engine_base.specs.Pick.{pick, unless}
use Rattle.engine_base.specs.Told.{Told, Answers}
use Rattle.engine_base.specs.Refusal.{number_of}
use Rattle.engine_base.specs.declared.refusal.Refusal.{Refusal}
use Rattle.engine_base.specs.declared.refusal.Refusal.TheVariants.{PastData, NoRoom, WrongDataSize}
use Rattle.metroid_format.specs.Command.{Decoded, command_at, is_end}
use Rattle.metroid_format.specs.Words.{straight, left_by}
use Rattle.metroid_format.specs.declared.command.Kind.{Kind}
use Rattle.metroid_format.specs.declared.command.Kind.TheVariants.{Melodic, Noise}

-- how many bytes were changed, or the refusal
abbrev pub Mending : Type 0
Mending = Result ℕ Refusal

-- the rest byte
abbrev pub rest_of : Kind → ℕ
rest_of Melodic = 0x02
rest_of Noise = 0x01

-- the last byte becomes 00
abbrev pub ended : List ℕ → List ℕ
ended bytes = set bytes (length bytes - 1) 0x00

-- no end is met, and the last command stands at an offset: if it has two bytes, the last was the second of a BL, and the BL becomes the rest as well
unfoldable pub closed : Kind → ℕ → List ℕ → List ℕ
closed kind at bytes = pick (eqb (at + 2) (length bytes)) (set (ended bytes) at (rest_of kind)) (ended bytes)

-- the command at an offset is passed: reading goes on at the next one, if the data has a byte there
abbrev pub onward : Kind → ℕ → ℕ → (ℕ → List ℕ → List ℕ) → List ℕ → List ℕ
onward kind at next go bytes = pick (leb (length bytes) next) (closed kind at bytes) (go next bytes)

-- up to the first end; a byte that is refused 10 or 11 becomes the rest byte and is passed
abbrev pub mended_by : Kind → List ℕ → ℕ → (ℕ → List ℕ → List ℕ) → Decoded → List ℕ
mended_by kind bytes at go (Ok (c, next)) = pick (is_end c) bytes (onward kind at next go bytes)
mended_by kind bytes at go (Err (refusal, offset)) =
    pick (eqb (number_of refusal) (number_of PastData)) (closed kind at bytes)
    (onward kind at (offset + 1) go (set bytes offset (rest_of kind)))

-- reading straight from an offset on, with at most so many bytes left
unfoldable pub mended_from : Kind → ℕ → ℕ → List ℕ → List ℕ
mended_from kind zero at bytes = bytes
mended_from kind (suc left) at bytes = mended_by kind bytes at (λ next bytes'. mended_from kind left next bytes') (command_at kind bytes at)

abbrev pub mended : Kind → List ℕ → List ℕ
mended kind bytes = mended_from kind (length bytes) 0 bytes

-- a byte that is another one afterwards
pub record Change : Type 0 where
  pub offset : ℕ
  pub old : ℕ
  pub new : ℕ

abbrev pub change_at : ℕ → ℕ → ℕ → List Change
change_at at old new = pick (eqb old new) [] (record { offset = at; old = old; new = new } ∷ [])

-- from an offset on, in rising order
unfoldable pub changes_from : ℕ → List ℕ → List ℕ → List Change
changes_from at [] after = []
changes_from at (old ∷ before) [] = []
changes_from at (old ∷ before) (new ∷ after) = change_at at old new ++ changes_from (at + 1) before after

abbrev pub changes : List ℕ → List ℕ → List Change
changes before after = changes_from 0 before after

-- the list's words, three a change
unfoldable pub change_words : List Change → List ℕ
change_words [] = []
change_words (c ∷ cs) = c.offset ∷ c.old ∷ c.new ∷ change_words cs

abbrev pub changes_of : Kind → List ℕ → List Change
changes_of kind bytes = changes bytes (mended kind bytes)

-- data empty or over the limit, then a list without room
unfoldable pub mending : ℕ → Kind → List ℕ → ℕ → Mending
mending limit kind bytes room =
    pick (eqb (length bytes) 0) (Err WrongDataSize)
    (unless (leb (length bytes) limit) WrongDataSize
    (unless (leb (length (change_words (changes_of kind bytes))) room) NoRoom (Ok (length (changes_of kind bytes)))))

abbrev pub told_mending : Mending → Told
told_mending (Ok count) = record { number = 0; values = count ∷ [] }
told_mending (Err refusal) = record { number = number_of refusal; values = [] }

-- the data after a mending
unfoldable pub data_left : ℕ → Kind → List ℕ → ℕ → List ℕ
data_left limit kind bytes room = pick (eqb (told_mending (mending limit kind bytes room)).number 0) (mended kind bytes) bytes

-- the list after a mending
unfoldable pub list_left : ℕ → Kind → List ℕ → List ℕ → List ℕ
list_left limit kind bytes list = left_by (told_mending (mending limit kind bytes (length list))) (change_words (changes_of kind bytes)) list

-- the old bytes put back at their offsets
unfoldable pub put_back : List Change → List ℕ → List ℕ
put_back [] bytes = bytes
put_back (c ∷ cs) bytes = put_back cs (set bytes c.offset c.old)

-- offsets rise strictly, from one on, and lie below a size
abbrev pub Rising : ℕ → ℕ → List Change → Type 0
Rising from size [] = Unit {0}
Rising from size (c ∷ cs) = (from ≤ c.offset) × (c.offset < size) × Rising (c.offset + 1) size cs

abbrev pub Differing : List Change → Type 0
Differing [] = Unit {0}
Differing (c ∷ cs) = (c.old ≡ c.new → ⊥) × Differing cs

-- what mending owes: data that reads, and is as it was if it read before; changes that restore it, at rising offsets in it, each to another byte
pub record Saves (kind : Kind) (bytes after : List ℕ) (cs : List Change) : Type 0 where
  pub reads : (straight kind after).finish ≡ Ok tt
  pub kept : (straight kind bytes).finish ≡ Ok tt → (after ≡ bytes) × (cs ≡ [])
  pub restored : put_back cs after ≡ bytes
  pub rising : Rising 0 (length bytes) cs
  pub differing : Differing cs
  -- nothing behind the first end command has changed
  pub behind : drop (straight kind after).reach after ≡ drop (straight kind after).reach bytes

pub record Mends (limit : ℕ) (kind : Kind) (bytes list : List ℕ) (answer : Mending) (bytes' list' : List ℕ) : Type 0 where
  pub answered : Answers told_mending answer (mending limit kind bytes (length list))
  pub mends : bytes' ≡ data_left limit kind bytes (length list)
  pub lists : list' ≡ list_left limit kind bytes list
  pub saves : (count : ℕ) → answer ≡ Ok count → Saves kind bytes bytes' (changes_of kind bytes)

-- Below: only private contracts and laws use these.

-- what mending a command that is no end leaves: reading goes on at another offset, in the data as it is then
pub record Passes (kind : Kind) (at : ℕ) (before : List ℕ) (next : ℕ) (after : List ℕ) : Type 0 where
  pub later : at < next
  pub size : length after ≡ length before
  pub same : (left : ℕ) → mended_from kind (suc left) at before ≡ onward kind at next (λ n bytes. mended_from kind left n bytes) after

-- behind n changes: how many there are with these, and the buffer with their words as far as they fit
pub record Lists (n : ℕ) (cs : List Change) (before : List ℕ) (count : ℕ) (after : List ℕ) : Type 0 where
  pub counted : count ≡ n + length cs
  pub filled : after ≡ sets before (n * 3) (change_words cs)

-- data that becomes other data, and its changes in a list: all of it, or none where the list has no room
abbrev pub changed_or : List ℕ → List ℕ → List ℕ → {A : Type 0} → A → A → A
changed_or bytes new list x y = pick (leb (length (change_words (changes bytes new))) (length list)) x y

pub record Changed (bytes new list : List ℕ) (answer : Mending) (bytes' list' : List ℕ) : Type 0 where
  pub answered : answer ≡ changed_or bytes new list (Ok (length (changes bytes new))) (Err NoRoom)
  pub becomes : bytes' ≡ changed_or bytes new list new bytes
  pub listed : list' ≡ changed_or bytes new list (change_words (changes bytes new) ++ drop (length (change_words (changes bytes new))) list) list

-- 18 and 23: the refusals of mending
pub data Unmendable : Refusal → Type 0 where
  is_18 : Unmendable NoRoom
  is_23 : Unmendable WrongDataSize

-- a count is within a limit, and a refusal 18 or 23
abbrev pub MendedWithin : ℕ → Mending → Type 0
MendedWithin limit (Ok count) = count ≤ limit
MendedWithin limit (Err refusal) = Unmendable refusal
