-- Of what is set anywhere in a track: the transposes of the lowest and the highest amount, and the windows under which lengths fail.
use Rattle.std.specs.Prelude.{ℕ, ◌+◌, ◌-◌, Bool, true, false, List, [], ◌∷◌, ltb, replicate, Option, Some, None, Result, Ok, Err}
use Rattle.engine_base.specs.Pick.{pick}
use Rattle.engine_base.specs.Refusal.{number_of}
use Rattle.engine_base.specs.declared.refusal.Refusal.{Refusal}
use Rattle.mother_format.specs.Bank.{banks, block_of}
use Rattle.mother_format.specs.Channel.{length_fault}
use Rattle.mother_format.specs.Transpose.{is_odd}
use Rattle.mother_format.specs.Straight.{Placed, straight}
use Rattle.mother_format.specs.declared.bank.Places.{Places}
use Rattle.mother_format.specs.declared.command.Kind.{Kind}
use Rattle.mother_format.specs.declared.command.Command.{Command}
use Rattle.mother_format.specs.declared.header.Voice.{Voice}
use Rattle.mother_format.specs.declared.header.Track.{Track}
use Rattle.mother_check.specs.Walk.{Named, block, bad, named}
use Rattle.mother_check.specs.declared.settings.Extremes.{Extremes}

-- Below: only private contracts and laws use these.

-- the amount plus 128
unfoldable pub rank_of : ℕ → ℕ
rank_of b = pick (ltb b 0x80) (b + 0x80) (0xff - b)

unfoldable pub with_transpose : Extremes → ℕ → Extremes
with_transpose e m =
    pick (is_odd m) e
    (record {
      low = pick (ltb (rank_of m) (rank_of e.low)) m e.low;
      high = pick (ltb (rank_of e.high) (rank_of m)) m e.high;
      windows = e.windows;
    })

-- of a length: it is refused, and for what comes before the other's refusal, if that is one
abbrev pub is_sooner : Result (Unit {0}) Refusal → Result (Unit {0}) Refusal → Bool
is_sooner (Ok none) b = false
is_sooner (Err a) (Ok none) = true
is_sooner (Err a) (Err b) = ltb (number_of a) (number_of b)

unfoldable pub worse_window : List ℕ → ℕ → ℕ → ℕ → ℕ → ℕ
worse_window bank table l w t = pick (is_sooner (length_fault bank table t l) (length_fault bank table w l)) t w

-- of each length index from l on
abbrev pub worse_from : List ℕ → ℕ → ℕ → ℕ → List ℕ → List ℕ
worse_from bank table t l [] = []
worse_from bank table t l (w ∷ ws) = worse_window bank table l w t ∷ worse_from bank table t (l + 1) ws

unfoldable pub with_window : List ℕ → ℕ → Extremes → ℕ → Extremes
with_window bank table e t = record { low = e.low; high = e.high; windows = worse_from bank table t 0 e.windows }

abbrev pub with_command : List ℕ → ℕ → Extremes → Command → Extremes
with_command bank table e Command.End = e
with_command bank table e (Command.Transpose m) = with_transpose e m
with_command bank table e (Command.Window t) = with_window bank table e t
with_command bank table e Command.EndLoop = e
with_command bank table e (Command.Length l b) = e
with_command bank table e (Command.BeginLoop n) = e
with_command bank table e (Command.Timbre x c) = e
with_command bank table e (Command.Note b) = e

abbrev pub with_commands : List ℕ → ℕ → Extremes → List Placed → Extremes
with_commands bank table e [] = e
with_commands bank table e (c ∷ cs) = with_commands bank table (with_command bank table e c.command) cs

unfoldable pub with_block : List ℕ → List ℕ → ℕ → Kind → ℕ → Extremes → Extremes
with_block bank8 banka table kind start e =
    with_commands (banks bank8 banka) table e (straight kind (block_of bank8 banka start)).commands

abbrev pub with_named : List ℕ → List ℕ → ℕ → Kind → Extremes → List Named → Extremes
with_named bank8 banka table kind e [] = e
with_named bank8 banka table kind e (block place address ∷ names) =
    with_named bank8 banka table kind (with_block bank8 banka table kind address e) names
with_named bank8 banka table kind e (bad place ∷ names) = with_named bank8 banka table kind e names

unfoldable pub with_channel : List ℕ → List ℕ → ℕ → Kind → ℕ → Extremes → Extremes
with_channel bank8 banka table kind list e = with_named bank8 banka table kind e (named (banks bank8 banka) list)

-- an unused channel sets nothing
abbrev pub with_voice : List ℕ → List ℕ → ℕ → Extremes → Option Voice → Extremes
with_voice bank8 banka table e None = e
with_voice bank8 banka table e (Some v) = with_channel bank8 banka table v.kind v.list e

unfoldable pub with_voices : List ℕ → List ℕ → ℕ → Extremes → List (Option Voice) → Extremes
with_voices bank8 banka table e [] = e
with_voices bank8 banka table e (v ∷ vs) = with_voices bank8 banka table (with_voice bank8 banka table e v) vs

unfoldable pub extremes_of : List ℕ → List ℕ → Places → Track → Extremes
extremes_of bank8 banka places track =
    with_voices bank8 banka places.note_lengths
    (record { low = track.transpose; high = track.transpose; windows = replicate 16 track.window })
    track.voices
