-- Document 01, 'Who uses it', and document 02, No. 2: the record, and what 16 tests.
use Rattle.std.specs.Prelude.{ℕ, Bool, true, false, Option, Some, None, List, [], ◌∷◌, leb, eqb}
use Rattle.engine_base.specs.Pick.{pick}
use Rattle.engine_base.specs.Channels.{four}
use Rattle.metroid_format.specs.Command.{data_limit, is_note}
use Rattle.metroid_format.specs.declared.channel.Cursor.{Cursor}
use Rattle.metroid_format.specs.declared.header.Voice.{Voice}
use Rattle.metroid_player.specs.declared.record.Channel.{Channel}
use Rattle.metroid_player.specs.declared.record.Player.{Player}

abbrev pub fresh_channel : Channel
fresh_channel =
    record { next = 0; loop_start = 0; counter = 0; length = record { count = 0 }; left = record { count = 0 }; sounding = 0 }

-- before the first frame of a pass: all 0 but the two numbers, the pass's full length
abbrev pub fresh_player : ℕ → Player
fresh_player length = record { stopped = 0; channels = four fresh_channel; frames_left = length; pass_length = length }

-- all 0 but the mark
abbrev pub stopped_player : Player
stopped_player = record { stopped = 1; channels = four fresh_channel; frames_left = 0; pass_length = 0 }

-- the end gives a fresh record for another pass, or, without restart, a stopped one
abbrev pub ended_player : Bool → ℕ → Player
ended_player restart length = pick restart (fresh_player length) stopped_player

abbrev pub cursor_of : Channel → Cursor
cursor_of c = record { next = c.next; loop_start = c.loop_start; counter = c.counter; length = c.length }

-- frames left above 0 want a length not below them and a sounding byte that is a key, rest or preset of the channel
unfoldable pub sound_fits : Voice → Channel → Bool
sound_fits voice c =
    pick (eqb c.left.count 0) true
    (pick (leb c.left.count c.length.count) (is_note voice.kind c.sounding) false)

-- 16 asks only used channels
unfoldable pub channel_fits : Option Voice → Channel → Bool
channel_fits None c = true
channel_fits (Some voice) c =
    pick (leb c.next data_limit) (pick (leb c.loop_start data_limit) (sound_fits voice c) false) false

abbrev pub channels_fit : List (Option Voice) → List Channel → Bool
channels_fit [] cs = true
channels_fit (v ∷ vs) [] = true
channels_fit (v ∷ vs) (c ∷ cs) = pick (channel_fits v c) (channels_fit vs cs) false

-- what either number may be
abbrev pub most_frames : ℕ
most_frames = 16777216

-- what is not refused under 16; the numbers are asked whether or not any channel is used
unfoldable pub record_fits : List (Option Voice) → Player → Bool
record_fits voices player =
    pick (leb player.frames_left most_frames)
    (pick (leb player.pass_length most_frames) (channels_fit voices player.channels) false)
    false
