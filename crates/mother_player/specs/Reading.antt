-- Document 02, No. 3: a channel goes on through its block and its playlist until a note, the track's end or a refusal.
use Rattle.std.specs.Prelude.{ℕ, zero, suc, ◌+◌, Bool, true, false, List, eqb, Result, Ok, Err}
use Rattle.engine_base.specs.Pick.{pick}
use Rattle.engine_base.specs.declared.refusal.Refusal.{Refusal}
use Rattle.engine_base.specs.declared.refusal.Refusal.TheVariants.{TooManyCommands}
use Rattle.engine_base.specs.declared.time.Frames.{Frames}
use Rattle.mother_format.specs.Bank.{banks}
use Rattle.mother_format.specs.Playlist.{entry_at}
use Rattle.mother_format.specs.Channel.{block_source, played_at, moved_by}
use Rattle.mother_format.specs.declared.bank.Places.{Places}
use Rattle.mother_format.specs.declared.command.Kind.{Kind}
use Rattle.mother_format.specs.declared.channel.Setting.{Setting}
use Rattle.mother_format.specs.declared.channel.Cursor.{Cursor}
use Rattle.mother_format.specs.declared.channel.Played.{Played}
use Rattle.mother_format.specs.declared.playlist.Entry.{Entry}
use Rattle.mother_player.specs.Release.{linear_of}
use Rattle.mother_player.specs.declared.record.Channel.{Channel}
use Rattle.mother_player.specs.declared.reading.Place.{Place}
use Rattle.mother_player.specs.declared.reading.Reader.{Reader}
use Rattle.mother_player.specs.declared.reading.Stepped.{Stepped}
use Rattle.mother_player.specs.declared.reading.Step.{Step}
use Rattle.engine_base.specs.declared.answer.Turned.{Turned}
use Rattle.mother_player.specs.declared.reading.Turn.{Turn}

-- a channel with another place in its playlist and block, and loop
abbrev pub placed : Channel → ℕ → ℕ → ℕ → Cursor → Channel
placed c word words at cursor = record {
  list = word;
  row = words;
  block = at;
  next = cursor.next;
  loop_start = cursor.loop_start;
  counter = cursor.counter;
  length = c.length;
  left = c.left;
  sounding = c.sounding;
  timbre = c.timbre;
  ctrl = c.ctrl;
}

abbrev pub cursor_of : Channel → Cursor
cursor_of c = record { next = c.next; loop_start = c.loop_start; counter = c.counter }

abbrev pub at_cursor : Channel → Cursor → Channel
at_cursor c cursor = placed c c.list c.row c.block cursor

-- a block word: each block starts with its loop counter and offsets 0
abbrev pub entered : Channel → ℕ → ℕ → Channel
entered c at word = placed c word (c.row + 1) at (record { next = 0; loop_start = 0; counter = 0 })

-- a goto: no block word has been read since
abbrev pub went_to : Channel → ℕ → Channel
went_to c word = placed c word 0 c.block (cursor_of c)

-- a channel with another note, and what BL and 9f set
abbrev pub noted : Channel → Frames → Frames → ℕ → ℕ → ℕ → Channel
noted c long over b x base = record {
  list = c.list;
  row = c.row;
  block = c.block;
  next = c.next;
  loop_start = c.loop_start;
  counter = c.counter;
  length = long;
  left = over;
  sounding = b;
  timbre = x;
  ctrl = base;
}

-- 9f
abbrev pub timbred : Channel → ℕ → ℕ → Channel
timbred c x base = noted c c.length c.left c.sounding x base

-- BL: on the triangle it sets the linear counter byte from the timbre
abbrev pub length_set : Channel → Frames → Kind → Channel
length_set c long Kind.Square = noted c long c.left c.sounding c.timbre c.ctrl
length_set c long Kind.Triangle = noted c long c.left c.sounding c.timbre (linear_of c.timbre long)
length_set c long Kind.Noise = noted c long c.left c.sounding c.timbre c.ctrl

-- a note sets frames left to the current length
abbrev pub begun : Channel → ℕ → Channel
begun c b = noted c c.length c.length b c.timbre c.ctrl

abbrev pub again : Place → Channel → Setting → Step
again p c s = record { stepped = Stepped.Again; reader = record { place = p; channel = c; setting = s } }

abbrev pub note_begun : Reader → Channel → Step
note_begun r c = record { stepped = Stepped.Note; reader = record { place = r.place; channel = c; setting = r.setting } }

-- what the command of a block does to a channel that stands behind it: 00 leads to the playlist, and a transpose or window holds from
-- there on for all channels
abbrev pub step_of : Kind → Reader → Played → Step
step_of kind r Played.End = again Place.List r.channel r.setting
step_of kind r (Played.Transpose m next) =
    again Place.Block r.channel (record { transpose = m; window = r.setting.window })
step_of kind r (Played.Window t next) =
    again Place.Block r.channel (record { transpose = r.setting.transpose; window = t })
step_of kind r (Played.EndLoop next) = again Place.Block r.channel r.setting
step_of kind r (Played.BeginLoop counter next) = again Place.Block r.channel r.setting
step_of kind r (Played.Length b long next) = note_begun r (begun (length_set r.channel long kind) b)
step_of kind r (Played.Timbre x base next) = again Place.Block (timbred r.channel x base) r.setting
step_of kind r (Played.Note b next) = note_begun r (begun r.channel b)
step_of kind r (Played.Refused refusal at address) = record { stepped = Stepped.Refused refusal at address; reader = r }

-- a channel that stands behind a command that it has played
abbrev pub behind : Reader → Played → Reader
behind r p = record {
  place = r.place;
  channel = at_cursor r.channel (moved_by (cursor_of r.channel) p);
  setting = r.setting;
}

-- the command of the block at the channel's offset
abbrev pub block_step : List ℕ → List ℕ → Places → Kind → Reader → Step
block_step bank8 banka places kind r =
    by (played_at (block_source bank8 banka places kind r.channel.block) r.setting r.channel.length r.channel.next)
  where
    by : Played → Step
    by p = step_of kind (behind r p) p

-- the playlist's word: its end ends the track for all channels
abbrev pub entry_step : Reader → Result Entry Refusal → Step
entry_step r (Ok Entry.End) = record { stepped = Stepped.End; reader = r }
entry_step r (Ok (Entry.Goto target)) = again Place.Target (went_to r.channel target) r.setting
entry_step r (Ok (Entry.Block at word)) = again Place.Block (entered r.channel at word) r.setting
entry_step r (Err refusal) = record { stepped = Stepped.Refused refusal 0 0; reader = r }

abbrev pub list_step : List ℕ → Reader → Bool → Step
list_step bank r by-goto = entry_step r (entry_at bank r.channel.list r.channel.row by-goto)

-- the next command, wherever it stands
abbrev pub step_at : List ℕ → List ℕ → Places → Kind → Reader → Place → Step
step_at bank8 banka places kind r Place.Block = block_step bank8 banka places kind r
step_at bank8 banka places kind r Place.List = list_step (banks bank8 banka) r false
step_at bank8 banka places kind r Place.Target = list_step (banks bank8 banka) r true

unfoldable pub step_from : List ℕ → List ℕ → Places → Kind → Reader → Step
step_from bank8 banka places kind r = step_at bank8 banka places kind r r.place

-- the offset of the next command, 0 at the playlist
abbrev pub offset_in : ℕ → Place → ℕ
offset_in next Place.Block = next
offset_in next Place.List = 0
offset_in next Place.Target = 0

abbrev pub offset_at : Reader → ℕ
offset_at r = offset_in r.channel.next r.place

abbrev pub turn_from : Turned → Bool → Reader → ℕ → Turn
turn_from turned began r count = record { turned = turned; began = began; channel = r.channel; setting = r.setting; count = count }

-- each command read counts, the refused one doesn't
abbrev pub read_by : ℕ → (Reader → Turn) → Reader → Stepped → Turn
read_by count on r Stepped.Again = on r
read_by count on r Stepped.Note = turn_from Turned.Plays true r (count + 1)
read_by count on r Stepped.End = turn_from Turned.End false r (count + 1)
read_by count on r (Stepped.Refused refusal at address) = turn_from (Turned.Refused refusal at address) false r count

abbrev pub read_step : ℕ → (Reader → Turn) → Step → Turn
read_step count on step = read_by count on step.reader step.stepped

-- with so many commands left to read and so many read; 21 comes before the next one is looked at
unfoldable pub read_from : List ℕ → List ℕ → Places → Kind → ℕ → Reader → ℕ → Turn
read_from bank8 banka places kind zero r count = turn_from (Turned.Refused TooManyCommands (offset_at r) 0) false r count
read_from bank8 banka places kind (suc more) r count =
    read_step count (λ next. read_from bank8 banka places kind more next (count + 1)) (step_from bank8 banka places kind r)

-- so many commands may a channel read in a frame
abbrev pub most_commands : ℕ
most_commands = 100000

unfoldable pub read_until : List ℕ → List ℕ → Places → Kind → Reader → Turn
read_until bank8 banka places kind r = read_from bank8 banka places kind most_commands r 0

-- a channel about to read: without a block the header's playlist comes next
unfoldable pub first_reader : ℕ → Channel → Setting → Reader
first_reader header c s =
    pick (eqb c.block 0)
    (record { place = Place.List; channel = went_to c header; setting = s })
    (record { place = Place.Block; channel = c; setting = s })
