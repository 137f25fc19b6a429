-- What holds of a record between the frames of a track without fault.
use Prim.Native.Nat.{ℕ, ◌≤◌, ◌<◌}
use mathlib.Core.Bool.{Bool, true, false}
use mathlib.Core.List.{List, [], ◌∷◌}
use mathlib.Core.Path.{◌≡◌, refl}
use native.Mathlib.Omega.{arith}
use borrow.Author.Tests.{le-leb}
use lib.ListN.{length}
use Rattle.std.specs.Prelude.{Option, Some, None}
use Rattle.engine_base.specs.Address.{within}
use Rattle.engine_base.specs.Pick.{pick}
use Rattle.engine_base.specs.declared.time.Frames.{Frames}
use Rattle.mother_format.specs.Bank.{banks, block_of, block_limit}
use Rattle.mother_format.proofs.bank.Joined.{block_within}
use Rattle.mother_format.proofs.command.Laws.{stands}
use Rattle.mother_format.specs.declared.bank.Places.{Places}
use Rattle.mother_format.specs.declared.command.Kind.{Kind}
use Rattle.mother_format.specs.declared.channel.Cursor.{Cursor}
use Rattle.mother_format.specs.declared.channel.Setting.{Setting}
use Rattle.mother_format.specs.declared.header.Voice.{Voice}
use Rattle.mother_format.specs.declared.header.Track.{Track}
use Rattle.mother_player.specs.Record.{fresh_channel, sounds_in, sound_fits, block_fits, timbre_fits, channel_fits, channels_fit}
use Rattle.mother_player.specs.Reading.{cursor_of, at_cursor, noted}
use Rattle.mother_player.specs.Frame.{one_off}
use Rattle.mother_player.specs.declared.record.Channel.{Channel}
use Rattle.mother_check.specs.Walk.{spot_at}
use Rattle.mother_check.specs.Settings.{transposes_of, windows_of, settings_of}
use Rattle.mother_check.specs.Faults.{entering}
use Rattle.mother_check.specs.declared.reading.Progress.{Progress}
use Rattle.mother_check.proofs.Member.{In}
use Rattle.mother_check.proofs.clean.Visits.{Visits, at_first, at_next}
use Rattle.mother_check.proofs.clean.Settings.{CleanBlock}
use Rattle.mother_check.proofs.walk.Closed.{Looked, Names}

visits_within : {kind : Kind} {bytes : List ℕ} {first p : Progress} {at : ℕ} → Visits kind bytes first at p → at ≤ length bytes
visits_within at_first = omega arith
visits_within {kind} {bytes} (at_next {at = at} v e t) = let (size, near, small) = stands kind bytes at e in near

pub no_timbre_fits : (kind : Kind) → timbre_fits kind 0 ≡ true
no_timbre_fits Kind.Square = refl
no_timbre_fits Kind.Triangle = refl
no_timbre_fits Kind.Noise = refl

-- any progress in a block where a note has been read, else that of its first byte
abbrev pub Stays : Bool → Bool → Progress → Type 0
Stays true sized p = Unit {0}
Stays false sized p = p ≡ entering sized

-- an offset of a block that straight reading visits
pub record Seen (kind : Kind) (bytes : List ℕ) (begun sized : Bool) (at : ℕ) : Type 0 where
  pub progress : Progress
  pub stays : Stays begun sized progress
  pub visits : Visits kind bytes (entering sized) at progress

pub seen_within : (bank8 banka : List ℕ) (start : ℕ) {kind : Kind} {begun sized : Bool} {at : ℕ} →
    Seen kind (block_of bank8 banka start) begun sized at → at ≤ block_limit
seen_within bank8 banka start s = omega (arith, visits_within s.visits, block_within bank8 banka start)

-- a setting that the track has somewhere
pub record Sets (bank8 banka : List ℕ) (track : Track) (s : Setting) : Type 0 where
  pub transpose_in : In s.transpose (transposes_of bank8 banka track)
  pub window_in : In s.window (windows_of bank8 banka track)

module _ (bank8 banka : List ℕ) (places : Places) (track : Track) where
  -- a channel in a block that its playlist names, at a place that straight reading visits
  pub record Reads (v : Voice) (begun : Bool) (c : Channel) : Type 0 where
    pub spot : Looked (banks bank8 banka) v.list (spot_at c.list c.row false)
    pub names : Names (banks bank8 banka) v.list c.block
    pub clean : CleanBlock bank8 banka places v.kind (settings_of bank8 banka track) c.block
    pub block_in : within c.block 1 ≡ true
    pub next_seen : Seen v.kind (block_of bank8 banka c.block) begun clean.sized c.next
    pub start_seen : Seen v.kind (block_of bank8 banka c.block) begun clean.sized c.loop_start
    pub counter_most : c.counter ≤ 255
    pub timbre_fits_lem : timbre_fits v.kind c.timbre ≡ true

  -- at another place of the block, with another note
  abbrev pub moved : {v : Voice} {begun later : Bool} {c : Channel} (m : Reads v begun c) (cursor : Cursor) (long over : Frames) (b x base : ℕ) →
      Seen v.kind (block_of bank8 banka c.block) later m.clean.sized cursor.next →
      Seen v.kind (block_of bank8 banka c.block) later m.clean.sized cursor.loop_start →
      cursor.counter ≤ 255 → timbre_fits v.kind x ≡ true → Reads v later (noted (at_cursor c cursor) long over b x base)
  moved m cursor long over b x base next start counter timbre = record {
    spot = m.spot;
    names = m.names;
    clean = m.clean;
    block_in = m.block_in;
    next_seen = next;
    start_seen = start;
    counter_most = counter;
    timbre_fits_lem = timbre;
  }

  -- with a note begun
  pub record Stands (v : Voice) (c : Channel) : Type 0 where
    pub reads : Reads v true c
    pub length_some : 0 < c.length.count
    pub left_most : c.left.count ≤ c.length.count
    pub sounds : sounds_in v.kind c.sounding ≡ true

  pub one_off_lem : {v : Voice} {c : Channel} → Stands v c → Stands v (one_off c)
  one_off_lem {c = c} h = record {
    reads =
        moved h.reads (cursor_of c) _ _ c.sounding c.timbre c.ctrl h.reads.next_seen h.reads.start_seen
        h.reads.counter_most h.reads.timbre_fits_lem;
    length_some = h.length_some;
    left_most = omega (arith, h.left_most);
    sounds = h.sounds;
  }

  -- of a used channel between frames
  pub data Holds (v : Voice) (c : Channel) : Type 0 where
    fresh : c ≡ fresh_channel → Holds v c
    begun : Stands v c → Holds v c

  -- an unused one may be any
  abbrev pub VoiceHolds : Option Voice → Channel → Type 0
  VoiceHolds None c = Unit {0}
  VoiceHolds (Some v) c = Holds v c

  abbrev pub AllHold : List (Option Voice) → List Channel → Type 0
  AllHold [] cs = Unit {0}
  AllHold (v ∷ vs) [] = Unit {0}
  AllHold (v ∷ vs) (c ∷ cs) = VoiceHolds v c × AllHold vs cs

  -- 16 refuses none of these

  fresh_fits : (v : Voice) → channel_fits (Some v) fresh_channel ≡ true
  unfolding channel_fits sound_fits block_fits
  fresh_fits v = rw (no_timbre_fits v.kind)

  either : (b : Bool) → pick b true true ≡ true
  either true = refl
  either false = refl

  stands_fits : (v : Voice) (c : Channel) → Stands v c → channel_fits (Some v) c ≡ true
  unfolding channel_fits sound_fits block_fits
  stands_fits v c h =
      let m = h.reads in
      let next : c.next ≤ block_limit = seen_within bank8 banka c.block m.next_seen in
      let start : c.loop_start ≤ block_limit = seen_within bank8 banka c.block m.start_seen in
      rw (le-leb _ _ next, le-leb _ _ start, le-leb _ _ h.left_most, h.sounds, m.block_in, m.timbre_fits_lem) (simp either)

  one_fits : (v : Option Voice) (c : Channel) → VoiceHolds v c → channel_fits v c ≡ true
  unfolding channel_fits
  one_fits None c h = refl
  one_fits (Some v) c (fresh e) = rw e (fresh_fits v)
  one_fits (Some v) c (begun h) = stands_fits v c h

  pub all_fit : (vs : List (Option Voice)) (cs : List Channel) → AllHold vs cs → channels_fit vs cs ≡ true
  all_fit [] cs h = refl
  all_fit (v ∷ vs) [] h = refl
  all_fit (v ∷ vs) (c ∷ cs) (one, more) = rw (one_fits v c one) (all_fit vs cs more)
