-- Document 02, No. 3: the transposes and windows that are set anywhere in a track.
use Rattle.std.specs.Prelude.{ℕ, List, [], ◌∷◌, ◌++◌, map, Option, Some, None}
use Rattle.engine_base.specs.Pick.{pick}
use Rattle.mother_format.specs.Bank.{banks, block_of}
use Rattle.mother_format.specs.Transpose.{is_odd}
use Rattle.mother_format.specs.Straight.{Placed, straight}
use Rattle.mother_format.specs.declared.command.Kind.{Kind}
use Rattle.mother_format.specs.declared.command.Command.{Command}
use Rattle.mother_format.specs.declared.channel.Setting.{Setting}
use Rattle.mother_format.specs.declared.header.Voice.{Voice}
use Rattle.mother_format.specs.declared.header.Track.{Track}
use Rattle.mother_check.specs.Walk.{Named, block, bad, named}

-- an odd transpose sets nothing
abbrev pub transpose_of : Command → List ℕ
transpose_of Command.End = []
transpose_of (Command.Transpose m) = pick (is_odd m) [] (m ∷ [])
transpose_of (Command.Window t) = []
transpose_of Command.EndLoop = []
transpose_of (Command.Length l b) = []
transpose_of (Command.BeginLoop n) = []
transpose_of (Command.Timbre x c) = []
transpose_of (Command.Note b) = []

abbrev pub window_of : Command → List ℕ
window_of Command.End = []
window_of (Command.Transpose m) = []
window_of (Command.Window t) = t ∷ []
window_of Command.EndLoop = []
window_of (Command.Length l b) = []
window_of (Command.BeginLoop n) = []
window_of (Command.Timbre x c) = []
window_of (Command.Note b) = []

abbrev pub in_commands : (Command → List ℕ) → List Placed → List ℕ
in_commands set [] = []
in_commands set (c ∷ cs) = set c.command ++ in_commands set cs

-- a block is read straight
abbrev pub in_blocks : (Command → List ℕ) → List ℕ → List ℕ → Kind → List Named → List ℕ
in_blocks set bank8 banka kind [] = []
in_blocks set bank8 banka kind (block place address ∷ names) =
    in_commands set (straight kind (block_of bank8 banka address)).commands ++ in_blocks set bank8 banka kind names
in_blocks set bank8 banka kind (bad place ∷ names) = in_blocks set bank8 banka kind names

-- by the used channels
abbrev pub in_voice : (Command → List ℕ) → List ℕ → List ℕ → Option Voice → List ℕ
in_voice set bank8 banka None = []
in_voice set bank8 banka (Some v) = in_blocks set bank8 banka v.kind (named (banks bank8 banka) v.list)

abbrev pub in_voices : (Command → List ℕ) → List ℕ → List ℕ → List (Option Voice) → List ℕ
in_voices set bank8 banka [] = []
in_voices set bank8 banka (v ∷ vs) = in_voice set bank8 banka v ++ in_voices set bank8 banka vs

-- the header's, and the commands'
unfoldable pub transposes_of : List ℕ → List ℕ → Track → List ℕ
transposes_of bank8 banka track = track.transpose ∷ in_voices transpose_of bank8 banka track.voices

unfoldable pub windows_of : List ℕ → List ℕ → Track → List ℕ
windows_of bank8 banka track = track.window ∷ in_voices window_of bank8 banka track.voices

-- each transpose with each window
abbrev pub settings_by : List ℕ → List ℕ → List Setting
settings_by [] windows = []
settings_by (m ∷ ms) windows = map (λ t. record { transpose = m; window = t }) windows ++ settings_by ms windows

unfoldable pub settings_of : List ℕ → List ℕ → Track → List Setting
settings_of bank8 banka track = settings_by (transposes_of bank8 banka track) (windows_of bank8 banka track)
