-- The first fault, looked for in order, under the extremes of what is set in a track.
use Rattle.std.specs.Prelude.{ℕ, ◌+◌, ◌%◌, Bool, true, false, List, [], ◌∷◌, leb, length, get_or, Option, Some, None, Result, Ok, Err}
use Rattle.engine_base.specs.Pick.{pick}
use Rattle.engine_base.specs.declared.refusal.Refusal.{Refusal}
use Rattle.engine_base.specs.declared.refusal.Refusal.TheVariants.{InvalidNote, NoLength, PastData, OddTranspose, BadPlaylist}
use Rattle.mother_format.specs.Bank.{banks, block_of}
use Rattle.mother_format.specs.Transpose.{is_odd}
use Rattle.mother_format.specs.Command.{rule_of, command_at, bytes_of}
use Rattle.mother_format.specs.Channel.{Source, block_source, address_of, early_fault, sounding_of, played_at}
use Rattle.mother_format.specs.Straight.{Placed, straight}
use Rattle.mother_format.specs.declared.bank.Places.{Places}
use Rattle.mother_format.specs.declared.command.Kind.{Kind}
use Rattle.mother_format.specs.declared.command.Command.{Command}
use Rattle.mother_format.specs.Command.{Decoded}
use Rattle.mother_format.specs.declared.header.Voice.{Voice}
use Rattle.mother_format.specs.Straight.{Finish}
use Rattle.mother_check.specs.Walk.{Named, block, bad, named}
use Rattle.mother_check.specs.Reading.{passed}
use Rattle.mother_check.specs.Faults.{site_of, fault_at, fault_by, finish_faults, entering, sized_after, first_of}
use Rattle.mother_check.specs.declared.reading.Progress.{Progress}
use Rattle.mother_check.specs.declared.settings.Extremes.{Extremes}
use Rattle.mother_check.specs.declared.faults.Site.{Site}
use Rattle.mother_check.specs.declared.faults.Fault.{Fault}

-- Below: only private contracts and laws use these.

-- the one, else the other
abbrev pub then_first : Option Fault → Option Fault → Option Fault
then_first None rest = rest
then_first (Some f) rest = Some f

unfoldable pub tried_at : Source → Site → ℕ → ℕ → ℕ → ℕ → Option Fault
tried_at source site m w n at =
    first_of (fault_by site (played_at source (record { transpose = m; window = w }) (record { count = n }) at))

-- the window kept for the length index that the byte at an offset has, if it is BL
unfoldable pub window_for : List ℕ → List ℕ → ℕ → ℕ
window_for bytes windows at = get_or windows (get_or bytes at 0 % 16) 0

-- as if the channel had a length, then without
unfoldable pub first_tried : Source → Site → Extremes → Bool → ℕ → Option Fault
first_tried source site e sized at =
    then_first (tried_at source site e.low w 1 at)
    (then_first (tried_at source site e.high w 1 at)
    (pick sized None (tried_at source site e.low w 0 at)))
  where
    w : ℕ
    w = window_for source.bytes e.windows at

-- the same as the code looks for it: each test once, in a command's order

-- a refusal at an offset
abbrev pub refused_first : Site → ℕ → Refusal → ℕ → Option Fault
refused_first site start refusal at = Some (fault_at site refusal at (address_of refusal start at))

abbrev pub is_outside : Option ℕ → Bool
is_outside (Some b) = false
is_outside None = true

-- a note's byte under the lowest or the highest transpose
unfoldable pub is_invalid : Kind → Extremes → ℕ → Bool
is_invalid kind e b = pick (is_outside (sounding_of kind b e.low)) true (is_outside (sounding_of kind b e.high))

abbrev pub command_first : Kind → ℕ → Site → Extremes → Bool → ℕ → Command → Option Fault
command_first kind start site e sized at Command.End = None
command_first kind start site e sized at (Command.Transpose m) =
    pick (is_odd m) (refused_first site start OddTranspose at) None
command_first kind start site e sized at (Command.Window t) = None
command_first kind start site e sized at Command.EndLoop = None
command_first kind start site e sized at (Command.Length l b) =
    pick (is_invalid kind e b) (refused_first site start InvalidNote (at + 1)) None
command_first kind start site e sized at (Command.BeginLoop n) = None
command_first kind start site e sized at (Command.Timbre x c) = None
command_first kind start site e sized at (Command.Note b) =
    pick (is_invalid kind e b) (refused_first site start InvalidNote at)
    (pick sized None (refused_first site start NoLength at))

abbrev pub decoded_first : Kind → ℕ → Site → Extremes → Bool → ℕ → Decoded → Option Fault
decoded_first kind start site e sized at (Ok (command, next)) = command_first kind start site e sized at command
decoded_first kind start site e sized at (Err (refusal, offset)) = refused_first site start refusal offset

-- 12 or 13 of BL, 6 or 7 of 9f
unfoldable pub early_at : Source → List ℕ → ℕ → Result (Unit {0}) Refusal
early_at source windows at =
    early_fault source.bank source.places source.kind source.bytes (window_for source.bytes windows at) at
    (rule_of source.kind (get_or source.bytes at 0))

-- a refusal before the last byte, else what comes after
abbrev pub early_first : Site → ℕ → ℕ → Result (Unit {0}) Refusal → Option Fault → Option Fault
early_first site start at (Ok none) rest = rest
early_first site start at (Err refusal) rest = refused_first site start refusal at

unfoldable pub tested_first : Source → Site → Extremes → Bool → ℕ → Option Fault
tested_first source site e sized at =
    pick (leb (length source.bytes) at) (refused_first site source.start PastData at)
    (early_first site source.start at (early_at source e.windows at)
    (decoded_first source.kind source.start site e sized at (command_at source.kind source.bytes at)))

unfoldable pub read_first : Source → Site → Extremes → Progress → ℕ → List Placed → Finish → Option Fault
read_first source site e p at [] finish =
    then_first (first_tried source site e p.sized at) (first_of (finish_faults site p.noted finish))
read_first source site e p at (c ∷ cs) finish =
    then_first (first_tried source site e p.sized at)
    (read_first source site e (passed p c.command) (at + length (bytes_of c.command)) cs finish)

unfoldable pub block_first : List ℕ → List ℕ → Places → Kind → ℕ → Site → Extremes → Bool → Option Fault
block_first bank8 banka places kind start site e sized =
    read_first (block_source bank8 banka places kind start) site e (entering sized) 0
    (straight kind (block_of bank8 banka start)).commands
    (straight kind (block_of bank8 banka start)).finish

-- the fault, else what comes of none
abbrev pub read_of : {A : Type 0} → Option Fault → A → Result A Fault
read_of None given = Ok given
read_of (Some f) given = Err f

-- nothing, unless there is a fault
abbrev pub unless_found : Option Fault → Result (Unit {0}) Fault
unless_found first = read_of first tt

unfoldable pub named_first : List ℕ → List ℕ → Places → Kind → ℕ → Extremes → Bool → List Named → Option Fault
named_first bank8 banka places kind i e sized [] = None
named_first bank8 banka places kind i e sized (block place address ∷ names) =
    then_first (block_first bank8 banka places kind address (site_of i place) e sized)
    (named_first bank8 banka places kind i e (sized_after bank8 banka kind address sized) names)
named_first bank8 banka places kind i e sized (bad place ∷ names) =
    Some (fault_at (site_of i place) BadPlaylist 0 0)

unfoldable pub channel_first : List ℕ → List ℕ → Places → Kind → ℕ → ℕ → Extremes → Option Fault
channel_first bank8 banka places kind list i e = named_first bank8 banka places kind i e false (named (banks bank8 banka) list)

-- an unused channel has none
abbrev pub voice_first : List ℕ → List ℕ → Places → ℕ → Extremes → Option Voice → Option Fault
voice_first bank8 banka places i e None = None
voice_first bank8 banka places i e (Some v) = channel_first bank8 banka places v.kind v.list i e

unfoldable pub voices_first : List ℕ → List ℕ → Places → ℕ → Extremes → List (Option Voice) → Option Fault
voices_first bank8 banka places i e [] = None
voices_first bank8 banka places i e (v ∷ vs) =
    then_first (voice_first bank8 banka places i e v)
    (voices_first bank8 banka places (i + 1) e vs)
