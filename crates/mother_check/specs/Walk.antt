-- Document 02, No. 3: the words of a channel's playlist in playing order; what a goto leads to is looked at once.
use Rattle.std.specs.Prelude.{ℕ, zero, suc, ◌+◌, ◌*◌, Bool, true, false, List, [], ◌∷◌, get_or, set, replicate, Result, Ok, Err}
use Rattle.engine_base.specs.Pick.{pick}
use Rattle.engine_base.specs.Address.{offset_of}
use Rattle.engine_base.specs.declared.refusal.Refusal.{Refusal}
use Rattle.mother_format.specs.Playlist.{row_limit, entry_at}
use Rattle.mother_format.specs.declared.playlist.Entry.{Entry}
use Rattle.mother_check.specs.declared.walk.Spot.{Spot}
use Rattle.mother_check.specs.declared.walk.Word.{Word}
use Rattle.mother_check.specs.declared.walk.Word.TheVariants.{Done, Bad, Goto, Block}

abbrev pub spot_at : ℕ → ℕ → Bool → Spot
spot_at address words by-goto = record { list = address; row = words; by_goto = by-goto }

-- the header's playlist
abbrev pub first_spot : ℕ → Spot
first_spot address = spot_at address 0 false

-- how many addresses the banks have, and a mark for each: a goto has led there
abbrev pub addresses : ℕ
addresses = 16384

abbrev pub unmarked : List Bool
unmarked = replicate addresses false

-- a word of the playlist; a goto to a marked address ends the walk as the playlist's end does
abbrev pub word_by : Spot → List Bool → Result Entry Refusal → Word
word_by spot marks (Ok Entry.End) = Done
word_by spot marks (Ok (Entry.Goto target)) = pick (get_or marks (offset_of target) false) Done (Goto (spot_at target 0 true))
word_by spot marks (Ok (Entry.Block address next)) = Block address (spot_at next (spot.row + 1) false)
word_by spot marks (Err refusal) = Bad

unfoldable pub word_at : List ℕ → Spot → List Bool → Word
word_at bank spot marks = word_by spot marks (entry_at bank spot.list spot.row spot.by_goto)

-- a goto marks where it leads
abbrev pub marks_by : List Bool → Word → List Bool
marks_by marks Done = marks
marks_by marks Bad = marks
marks_by marks (Goto spot) = set marks (offset_of spot.list) true
marks_by marks (Block address spot) = marks

abbrev pub marks_at : List ℕ → Spot → List Bool → List Bool
marks_at bank spot marks = marks_by marks (word_at bank spot marks)

-- what the words name, each with its place: a block by its address, or 20, after which nothing is looked at
pub data Named : Type 0 where
  block : ℕ → ℕ → Named
  bad : ℕ → Named

-- a place is the number of block words and gotos before the word
abbrev pub named_by : ℕ → (Spot → List Named) → Word → List Named
named_by place on Done = []
named_by place on Bad = bad place ∷ []
named_by place on (Goto spot) = on spot
named_by place on (Block address spot) = block place address ∷ on spot

-- with so many words left to look at
unfoldable pub named_from : List ℕ → ℕ → Spot → List Bool → ℕ → List Named
named_from bank zero spot marks place = []
named_from bank (suc more) spot marks place =
    named_by place (λ next. named_from bank more next (marks_at bank spot marks) (place + 1)) (word_at bank spot marks)

-- 256 block words and one more, from the start and from each address: never used up (proofs/walk/Closed.antt)
abbrev pub most_words : ℕ
most_words = (row_limit + 1) * (addresses + 1)

unfoldable pub named : List ℕ → ℕ → List Named
named bank list = named_from bank most_words (first_spot list) unmarked 0
