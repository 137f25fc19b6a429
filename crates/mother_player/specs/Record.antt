-- Document 02, No. 3: the record, and what 16 tests.
use Rattle.std.specs.Prelude.{ℕ, ◌%◌, Bool, true, false, List, [], ◌∷◌, leb, eqb, Option, Some, None}
use Rattle.engine_base.specs.Pick.{pick, all}
use Rattle.engine_base.specs.Address.{within}
use Rattle.engine_base.specs.Channels.{four}
use Rattle.mother_format.specs.Bank.{block_limit}
use Rattle.mother_format.specs.Command.{is_note}
use Rattle.mother_format.specs.Envelope.{last_envelope}
use Rattle.mother_format.specs.Transpose.{is_odd, last_key}
use Rattle.mother_format.specs.declared.command.Kind.{Kind}
use Rattle.mother_format.specs.declared.command.Kind.TheVariants.{Square, Triangle, Noise}
use Rattle.mother_format.specs.declared.header.Voice.{Voice}
use Rattle.mother_player.specs.declared.record.Channel.{Channel}
use Rattle.mother_player.specs.declared.record.Player.{Player}

abbrev pub fresh_channel : Channel
fresh_channel = record {
  list = 0;
  row = 0;
  block = 0;
  next = 0;
  loop_start = 0;
  counter = 0;
  length = record { count = 0 };
  left = record { count = 0 };
  sounding = 0;
  timbre = 0;
  ctrl = 0;
}

-- before the first frame: the header's transpose and window, all else 0
abbrev pub fresh_player : ℕ → ℕ → Player
fresh_player m t = record { stopped = 0; transpose = m; window = t; channels = four fresh_channel }

-- after the end: all 0 but the mark
abbrev pub stopped_player : Player
stopped_player = record { stopped = 1; transpose = 0; window = 0; channels = four fresh_channel }

-- a sounding byte of the channel: a key to $84 (the rest is one), or a preset or the noise rest
abbrev pub sounds_in : Kind → ℕ → Bool
sounds_in Square b = pick (leb b last_key) (is_note Square b) false
sounds_in Triangle b = pick (leb b last_key) (is_note Triangle b) false
sounds_in Noise b = is_note Noise b

-- frames left above 0 want a length not below them and a sounding byte of the channel
unfoldable pub sound_fits : Kind → Channel → Bool
sound_fits kind c =
    pick (eqb c.left.count 0) true
    (pick (leb c.left.count c.length.count) (sounds_in kind c.sounding) false)

-- none yet, or in the banks
unfoldable pub block_fits : ℕ → Bool
block_fits block = pick (eqb block 0) true (within block 1)

-- on a square x of pppx xxxx is an envelope
abbrev pub timbre_fits : Kind → ℕ → Bool
timbre_fits Square timbre = leb (timbre % 32) last_envelope
timbre_fits Triangle timbre = true
timbre_fits Noise timbre = true

-- 16 asks only used channels
unfoldable pub channel_fits : Option Voice → Channel → Bool
channel_fits None c = true
channel_fits (Some voice) c =
    all
    (leb c.next block_limit
    ∷ leb c.loop_start block_limit
    ∷ sound_fits voice.kind c
    ∷ block_fits c.block
    ∷ timbre_fits voice.kind c.timbre
    ∷ [])

abbrev pub channels_fit : List (Option Voice) → List Channel → Bool
channels_fit [] cs = true
channels_fit (v ∷ vs) [] = true
channels_fit (v ∷ vs) (c ∷ cs) = pick (channel_fits v c) (channels_fit vs cs) false

-- what is not refused under 16; the transpose is asked whether or not any channel is used
unfoldable pub record_fits : List (Option Voice) → Player → Bool
record_fits voices player = pick (is_odd player.transpose) false (channels_fit voices player.channels)
