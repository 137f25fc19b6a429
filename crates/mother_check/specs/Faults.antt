-- Document 02, No. 3: every fault of a track, and the first of them.
use Rattle.std.specs.Prelude.{ℕ, ◌+◌, Bool, true, false, List, [], ◌∷◌, ◌++◌, eqb, ltb, length, Option, Some, None, Ok, Err}
use Rattle.engine_base.specs.Pick.{pick}
use Rattle.engine_base.specs.Refusal.{number_of}
use Rattle.engine_base.specs.declared.refusal.Refusal.{Refusal}
use Rattle.engine_base.specs.declared.refusal.Refusal.TheVariants.{EnvelopeTooHigh, NoEnvelopeEnd, InvalidCommand, InvalidNote, PastLengths, ZeroLength, NoLength, PastData, OddTranspose, BadPlaylist, TooManyCommands, NoNote}
use Rattle.engine_base.specs.declared.time.Frames.{Frames}
use Rattle.mother_format.specs.Bank.{banks, block_of}
use Rattle.mother_format.specs.Command.{bytes_of}
use Rattle.mother_format.specs.Channel.{Source, block_source, played_at}
use Rattle.mother_format.specs.Straight.{Placed, straight}
use Rattle.mother_format.specs.declared.bank.Places.{Places}
use Rattle.mother_format.specs.declared.command.Kind.{Kind}
use Rattle.mother_format.specs.declared.channel.Setting.{Setting}
use Rattle.mother_format.specs.declared.channel.Played.{Played}
use Rattle.mother_format.specs.declared.header.Voice.{Voice}
use Rattle.mother_format.specs.declared.header.Track.{Track}
use Rattle.mother_format.specs.Straight.{Finish}
use Rattle.mother_check.specs.Walk.{Named, block, bad, named}
use Rattle.mother_check.specs.Settings.{settings_of}
use Rattle.mother_check.specs.Reading.{passed, passed_all}
use Rattle.mother_check.specs.declared.reading.Progress.{Progress}
use Rattle.mother_check.specs.declared.faults.Site.{Site}
use Rattle.mother_check.specs.declared.faults.Fault.{Fault}

-- the channel, and the playlist's place
abbrev pub site_of : ℕ → ℕ → Site
site_of i n = record { channel = i; place = n }

abbrev pub fault_at : Site → Refusal → ℕ → ℕ → Fault
fault_at site refusal at address =
    record { refusal = refusal; channel = site.channel; place = site.place; at = at; address = address }

-- what playing a command refuses
abbrev pub fault_by : Site → Played → List Fault
fault_by site Played.End = []
fault_by site (Played.Transpose m next) = []
fault_by site (Played.Window t next) = []
fault_by site (Played.EndLoop next) = []
fault_by site (Played.BeginLoop counter next) = []
fault_by site (Played.Length b frames next) = []
fault_by site (Played.Timbre x c next) = []
fault_by site (Played.Note b next) = []
fault_by site (Played.Refused refusal at address) = fault_at site refusal at address ∷ []

-- none yet, or some: 14 asks no more
abbrev pub length_by : Bool → Frames
length_by sized = record { count = pick sized 1 0 }

-- of the command at an offset, under each transpose and window that is set in the track
unfoldable pub command_faults : Source → Site → List Setting → Bool → ℕ → List Fault
command_faults source site [] sized at = []
command_faults source site (s ∷ ss) sized at =
    fault_by site (played_at source s (length_by sized) at) ++ command_faults source site ss sized at

-- 22, at its 00
abbrev pub end_fault : Site → Bool → ℕ → List Fault
end_fault site noted at = pick noted [] (fault_at site NoNote at 0 ∷ [])

abbrev pub finish_faults : Site → Bool → Finish → List Fault
finish_faults site noted (Ok at) = end_fault site noted at
finish_faults site noted (Err (refusal, at)) = []

-- of a block's commands from an offset on, and of the one that straight reading stops at
unfoldable pub read_faults : Source → Site → List Setting → Progress → ℕ → List Placed → Finish → List Fault
read_faults source site ss p at [] finish =
    command_faults source site ss p.sized at ++ finish_faults site p.noted finish
read_faults source site ss p at (c ∷ cs) finish =
    command_faults source site ss p.sized at
    ++ read_faults source site ss (passed p c.command) (at + length (bytes_of c.command)) cs finish

-- at a block's first byte
abbrev pub entering : Bool → Progress
entering sized = record { noted = false; sized = sized }

-- of a block, read straight
unfoldable pub block_faults : List ℕ → List ℕ → Places → Kind → ℕ → Site → List Setting → Bool → List Fault
block_faults bank8 banka places kind start site ss sized =
    read_faults (block_source bank8 banka places kind start) site ss (entering sized) 0
    (straight kind (block_of bank8 banka start)).commands
    (straight kind (block_of bank8 banka start)).finish

-- whether a length stands before a block's end in playing order
unfoldable pub sized_after : List ℕ → List ℕ → Kind → ℕ → Bool → Bool
sized_after bank8 banka kind start sized =
    (passed_all (entering sized) (straight kind (block_of bank8 banka start)).commands).sized

-- of what a playlist names, in playing order
unfoldable pub named_faults : List ℕ → List ℕ → Places → Kind → ℕ → List Setting → Bool → List Named → List Fault
named_faults bank8 banka places kind i ss sized [] = []
named_faults bank8 banka places kind i ss sized (block place address ∷ names) =
    block_faults bank8 banka places kind address (site_of i place) ss sized
    ++ named_faults bank8 banka places kind i ss (sized_after bank8 banka kind address sized) names
named_faults bank8 banka places kind i ss sized (bad place ∷ names) =
    fault_at (site_of i place) BadPlaylist 0 0 ∷ named_faults bank8 banka places kind i ss sized names

-- of a used channel, before whose first block no length stands
unfoldable pub channel_faults : List ℕ → List ℕ → Places → ℕ → List Setting → Option Voice → List Fault
channel_faults bank8 banka places i ss None = []
channel_faults bank8 banka places i ss (Some v) =
    named_faults bank8 banka places v.kind i ss false (named (banks bank8 banka) v.list)

unfoldable pub voices_faults : List ℕ → List ℕ → Places → ℕ → List Setting → List (Option Voice) → List Fault
voices_faults bank8 banka places i ss [] = []
voices_faults bank8 banka places i ss (v ∷ vs) =
    channel_faults bank8 banka places i ss v ++ voices_faults bank8 banka places (i + 1) ss vs

-- of a track
unfoldable pub track_faults : List ℕ → List ℕ → Places → Track → List Fault
track_faults bank8 banka places track = voices_faults bank8 banka places 0 (settings_of bank8 banka track) track.voices

-- the order of the refusals
abbrev pub order : List Refusal
order =
    OddTranspose
    ∷ BadPlaylist
    ∷ NoNote
    ∷ TooManyCommands
    ∷ EnvelopeTooHigh
    ∷ NoEnvelopeEnd
    ∷ InvalidCommand
    ∷ InvalidNote
    ∷ PastLengths
    ∷ ZeroLength
    ∷ NoLength
    ∷ PastData
    ∷ []

abbrev pub position_in : List Refusal → Refusal → ℕ
position_in [] r = 0
position_in (q ∷ qs) r = pick (eqb (number_of r) (number_of q)) 0 (position_in qs r + 1)

-- channel, playlist place, offset, then the order of the refusals
abbrev pub key_of : Fault → List ℕ
key_of f = f.channel ∷ f.place ∷ f.at ∷ position_in order f.refusal ∷ []

-- where two lists first differ, the lower number is in the first
abbrev pub is_lower : List ℕ → List ℕ → Bool
is_lower [] ns = false
is_lower (m ∷ ms) [] = false
is_lower (m ∷ ms) (n ∷ ns) = pick (ltb m n) true (pick (ltb n m) false (is_lower ms ns))

abbrev pub sooner : Fault → Option Fault → Option Fault
sooner f None = Some f
sooner f (Some g) = Some (pick (is_lower (key_of g) (key_of f)) g f)

unfoldable pub first_of : List Fault → Option Fault
first_of [] = None
first_of (f ∷ fs) = sooner f (first_of fs)
