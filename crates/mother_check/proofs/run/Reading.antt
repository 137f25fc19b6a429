-- Where a channel stands while it reads, with how many commands it may still read: in its block, at a playlist's word, or in the
-- block entered there, in which it reaches a note.
use Prim.Native.Nat.{ℕ, ◌+◌, ◌≤◌, ◌<◌}
use mathlib.Core.Bool.{Bool, true, false}
use mathlib.Core.List.{List}
use mathlib.Core.Path.{◌≡◌}
use lib.ListN.{length}
use Rattle.std.specs.Prelude.{Ok}
use Rattle.engine_base.specs.declared.time.Frames.{Frames}
use Rattle.mother_format.specs.Bank.{banks, block_of}
use Rattle.mother_format.specs.Channel.{Source, block_source, played_at, moved_by}
use Rattle.mother_format.specs.Playlist.{entry_at}
use Rattle.mother_format.proofs.channel.Stretch.{Onward, Stretch, still, step}
use Rattle.mother_format.specs.declared.bank.Places.{Places}
use Rattle.mother_format.specs.declared.channel.Cursor.{Cursor}
use Rattle.mother_format.specs.declared.channel.Setting.{Setting}
use Rattle.mother_format.specs.declared.channel.Played.{Played}
use Rattle.mother_format.specs.declared.playlist.Entry.{Entry}
use Rattle.mother_format.specs.declared.header.Voice.{Voice}
use Rattle.mother_format.specs.declared.header.Track.{Track}
use Rattle.mother_player.specs.Record.{timbre_fits}
use Rattle.mother_player.specs.Reading.{cursor_of}
use Rattle.mother_player.specs.declared.record.Channel.{Channel}
use Rattle.mother_player.specs.declared.reading.Place.{Place}
use Rattle.mother_player.specs.declared.reading.Reader.{Reader}
use Rattle.mother_player.specs.declared.reading.Stepped.{Stepped}
use Rattle.mother_check.specs.Walk.{spot_at}
use Rattle.mother_check.proofs.walk.Closed.{Looked, Heads}
use Rattle.mother_check.proofs.run.Standing.{Sets, Reads, Stands}

-- one command more at a stretch's end
pub snoc : (source : Source) (end : ℕ) {first last : Cursor} {n next : ℕ} (s : Setting) (f : Frames) (p : Played) →
    Stretch source end first n last → played_at source s f last.next ≡ p → Onward p next → next ≤ end →
    Stretch source end first (n + 1) (moved_by last p)
snoc source end s f p still e o h = step s f p e o h still
snoc source end s f p (step t g q d i w rest) e o h = step t g q d i w (snoc source end s f p rest e o h)

-- the most commands of a block in a row without a note
abbrev pub most : ℕ
most = 33025

-- what must be left when a block ends: two words of the playlist and another block; a block entered in this turn doesn't end
abbrev pub reserve : Bool → ℕ
reserve true = most + 3
reserve false = 0

-- a channel has a length, or it is in the first block of its playlist, before the first note
pub data Long (begun sized : Bool) (long : Frames) : Type 0 where
  with_length : 0 < long.count → Long begun sized long
  without_length : begun ≡ false → sized ≡ false → long.count ≡ 0 → Long begun sized long

module _ (bank8 banka : List ℕ) (places : Places) (track : Track) (v : Voice) where
  abbrev bank : List ℕ
  bank = banks bank8 banka

  pub record Reading (fuel : ℕ) (r : Reader) : Type 0 where
    pub begun : Bool
    pub reads : Reads bank8 banka places track v begun r.channel
    pub long : Long begun reads.clean.sized r.channel.length
    pub sets : Sets bank8 banka track r.setting
    pub first : Cursor
    pub first_most : first.counter ≤ 255
    pub so_far : ℕ
    pub stretch :
        Stretch (block_source bank8 banka places v.kind r.channel.block) (length (block_of bank8 banka r.channel.block))
        first so_far (cursor_of r.channel)
    pub room : most + reserve begun < so_far + fuel

  -- a channel has a length, or it is at its playlist's first word, or at the one that this leads to
  pub data Before (by-goto : Bool) (c : Channel) : Type 0 where
    sized : 0 < c.length.count → Before by-goto c
    unsized : c.length.count ≡ 0 →
        ((address next : ℕ) → entry_at bank c.list c.row by-goto ≡ Ok (Entry.Block address next) → Heads bank v.list address) →
        ((target address next : ℕ) → entry_at bank c.list c.row by-goto ≡ Ok (Entry.Goto target) →
        entry_at bank target 0 true ≡ Ok (Entry.Block address next) → Heads bank v.list address) →
        Before by-goto c

  pub record AtWord (by-goto : Bool) (fuel : ℕ) (r : Reader) : Type 0 where
    pub looked : Looked bank v.list (spot_at r.channel.list r.channel.row by-goto)
    pub before : Before by-goto r.channel
    pub timbre_fits_lem : timbre_fits v.kind r.channel.timbre ≡ true
    pub sets : Sets bank8 banka track r.setting
    pub room : most + 1 < fuel
    pub goto_room : by-goto ≡ false → most + 2 < fuel

  abbrev pub Able : ℕ → Reader → Place → Type 0
  Able fuel r Place.Block = Reading fuel r
  Able fuel r Place.List = AtWord false fuel r
  Able fuel r Place.Target = AtWord true fuel r

  -- a command leads on, begins a note or ends the track
  abbrev pub StepHolds : ℕ → Reader → Stepped → Type 0
  StepHolds fuel r Stepped.Again = Able fuel r r.place
  StepHolds fuel r Stepped.Note = Sets bank8 banka track r.setting × Stands bank8 banka places track v r.channel
  StepHolds fuel r Stepped.End = Unit {0}
  StepHolds fuel r (Stepped.Refused refusal at address) = ⊥
