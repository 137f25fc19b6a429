-- A command of a block without fault.
use Prim.Native.Nat.{ℕ, suc, ◌+◌, ◌≤◌, ◌<◌}
use mathlib.Core.Bool.{Bool, true, false}
use mathlib.Core.List.{List}
use mathlib.Core.Path.{◌≡◌, refl, sym, ap, subst, ◌∙◌}
use native.Mathlib.Omega.{arith}
use lib.Dec.{eqb}
use lib.ListN.{length}
use Rattle.std.specs.Prelude.{Ok, Some}
use Rattle.engine_base.specs.declared.time.Frames.{Frames}
use Rattle.engine_base.proofs.Picks.{by-test, false_true}
use Rattle.engine_base.proofs.loops.Bound.{counter_bound}
use Rattle.mother_format.specs.Bank.{block_of}
use Rattle.mother_format.specs.Command.{is_note, command_at}
use Rattle.mother_format.specs.Channel.{Source, block_source, sounding_of, played_at, go_to, moved_by}
use Rattle.mother_format.specs.Straight.{is_end}
use Rattle.mother_format.specs.Transpose.{is_odd}
use Rattle.mother_format.proofs.bank.Joined.{block_within}
use Rattle.mother_format.proofs.command.Laws.{stands}
use Rattle.mother_format.proofs.channel.Plays.{Plays, plays}
use Rattle.mother_format.proofs.channel.Stretch.{Onward, on_past, on_begin, on_end, by_transpose, by_window, by_timbre, any_cost}
use Rattle.mother_format.specs.declared.bank.Places.{Places}
use Rattle.mother_format.specs.declared.command.Kind.{Kind}
use Rattle.mother_format.specs.declared.command.Command.{Command}
use Rattle.mother_format.specs.declared.channel.Cursor.{Cursor}
use Rattle.mother_format.specs.declared.channel.Setting.{Setting}
use Rattle.mother_format.specs.declared.channel.Played.{Played}
use Rattle.mother_format.specs.declared.header.Voice.{Voice}
use Rattle.mother_format.specs.declared.header.Track.{Track}
use Rattle.mother_player.specs.Record.{timbre_fits}
use Rattle.mother_player.specs.Reading.{cursor_of, at_cursor, noted, timbred, length_set, behind, step_of, step_at}
use Rattle.mother_player.specs.Reading.{begun as begunWith}
use Rattle.mother_player.specs.declared.record.Channel.{Channel}
use Rattle.mother_player.specs.declared.reading.Place.{Place}
use Rattle.mother_player.specs.declared.reading.Reader.{Reader}
use Rattle.mother_check.specs.Settings.{settings_of}
use Rattle.mother_check.specs.Faults.{length_by, entering}
use Rattle.mother_check.specs.Reading.{passed}
use Rattle.mother_check.specs.declared.reading.Progress.{Progress}
use Rattle.mother_check.proofs.Member.{In}
use Rattle.mother_check.proofs.clean.Visits.{Visits, at_next, Unrefused}
use Rattle.mother_check.proofs.clean.Laws.{clean_plays, clean_ends, note_is, length_note, longer, timbre_fits_lem, length_some, transpose_in, window_in, setting_in, sounds_fit}
use Rattle.mother_check.proofs.clean.Settings.{transpose_set, window_set, transposes_even}
use Rattle.mother_check.proofs.run.Standing.{Stays, Seen, Sets, Reads, moved, Stands}
use Rattle.mother_check.proofs.run.Reading.{snoc, most, reserve, Long, with_length, without_length, Reading, AtWord, Before, StepHolds}

-- past a command that is neither a note nor the end
seen_on : {kind : Kind} {bytes : List ℕ} {begun sized : Bool} {at next : ℕ} (s : Seen kind bytes begun sized at) {c : Command} →
    command_at kind bytes at ≡ Ok (c, next) → is_end c ≡ false → passed s.progress c ≡ s.progress →
    Seen kind bytes begun sized next
seen_on s e t same = record {
  progress = s.progress;
  stays = s.stays;
  visits = subst (Visits _ _ _ _) same (at_next s.visits e t);
}

-- past a note
seen_noted : {kind : Kind} {bytes : List ℕ} {begun sized : Bool} {at next : ℕ} → Seen kind bytes begun sized at → {c : Command} →
    command_at kind bytes at ≡ Ok (c, next) → is_end c ≡ false → Seen kind bytes true sized next
seen_noted s e t = record { progress = _; stays = tt; visits = at_next s.visits e t }

seen_any : {kind : Kind} {bytes : List ℕ} {begun sized : Bool} {at : ℕ} → Seen kind bytes begun sized at → Seen kind bytes true sized at
seen_any s = record { progress = s.progress; stays = tt; visits = s.visits }

-- 00 stands past a note, so the block was not entered in this turn
entered_before : (begun sized : Bool) (p : Progress) → Stays begun sized p → p.noted ≡ true → begun ≡ true
entered_before true sized p s n = refl
entered_before false sized p s n = absurd (false_true (sym (ap (λ (q : Progress). q.noted) s) ∙ n))

module _ (bank8 banka : List ℕ) (places : Places) (track : Track) (even : is_odd track.transpose ≡ false)
    (v : Voice) (in-track : In (Some v) track.voices)
    (fuel : ℕ) (r : Reader) (x : Reading bank8 banka places track v (suc fuel) r) where
  abbrev c : Channel
  c = r.channel

  abbrev m : Reads bank8 banka places track v x.begun c
  m = x.reads

  abbrev bytes : List ℕ
  bytes = block_of bank8 banka c.block

  abbrev source : Source
  source = block_source bank8 banka places v.kind c.block

  abbrev Finds : Command → ℕ → Type 0
  Finds command next = command_at v.kind bytes c.next ≡ Ok (command, next)

  abbrev SeenAt : Bool → ℕ → Type 0
  SeenAt begun at = Seen v.kind bytes begun m.clean.sized at

  unrefused : Unrefused (played_at source r.setting c.length c.next)
  unfolding settings_of
  unrefused = from x.long
    where
      p : Progress
      p = m.next_seen.progress

      under : Unrefused (played_at source r.setting (length_by p.sized) c.next)
      under =
          clean_plays bank8 banka places v.kind c.block m.clean.site (settings_of bank8 banka track) m.clean.sized m.clean.none
          m.next_seen.visits (setting_in _ x.sets.transpose_in x.sets.window_in)

      from : Long x.begun m.clean.sized c.length → Unrefused (played_at source r.setting c.length c.next)
      from (with_length h) = longer source r.setting (length_by p.sized) c.length c.next under h
      from (without_length b z e) =
          let none_yet : p ≡ entering m.clean.sized = subst (λ (b : Bool). Stays b m.clean.sized p) b m.next_seen.stays in
          let unsized : p.sized ≡ false = ap (λ (q : Progress). q.sized) none_yet ∙ z in
          let same : length_by p.sized ≡ c.length = ap length_by unsized ∙ ap (λ (n : ℕ). record { count = n }) (sym e) in
          subst (λ (f : Frames). Unrefused (played_at source r.setting f c.next)) same under

  -- a command that leads on in the block
  onward : (p : Played) {next : ℕ} → played_at source r.setting c.length c.next ≡ p → Onward p next → next ≤ length bytes →
      SeenAt x.begun (moved_by (cursor_of c) p).next → SeenAt x.begun (moved_by (cursor_of c) p).loop_start →
      (moved_by (cursor_of c) p).counter ≤ 255 →
      (timbre base : ℕ) → timbre_fits v.kind timbre ≡ true → (s : Setting) → Sets bank8 banka track s →
      Reading bank8 banka places track v fuel
      (record { place = Place.Block; channel = timbred (at_cursor c (moved_by (cursor_of c) p)) timbre base; setting = s })
  onward p e o h next start counter timbre base fits s sets = record {
    begun = x.begun;
    reads = moved bank8 banka places track m (moved_by (cursor_of c) p) c.length c.left c.sounding timbre base next start counter fits;
    long = x.long;
    sets = sets;
    first = x.first;
    first_most = x.first_most;
    so_far = x.so_far + 1;
    stretch = snoc source (length bytes) r.setting c.length p x.stretch e o h;
    room = omega (arith, x.room);
  }

  -- one that leaves the timbre as it is
  passing : (p : Played) {next : ℕ} → played_at source r.setting c.length c.next ≡ p → Onward p next → next ≤ length bytes →
      SeenAt x.begun (moved_by (cursor_of c) p).next → SeenAt x.begun (moved_by (cursor_of c) p).loop_start →
      (moved_by (cursor_of c) p).counter ≤ 255 → (s : Setting) → Sets bank8 banka track s →
      Reading bank8 banka places track v fuel (record { place = Place.Block; channel = at_cursor c (moved_by (cursor_of c) p); setting = s })
  passing p e o h next start counter s sets = onward p e o h next start counter c.timbre c.ctrl m.timbre_fits_lem s sets

  leaves : (next : ℕ) → Finds Command.End next →
      AtWord bank8 banka places track v false fuel (record { place = Place.List; channel = c; setting = r.setting })
  leaves next e = record {
    looked = m.spot;
    before = from x.long;
    timbre_fits_lem = m.timbre_fits_lem;
    sets = x.sets;
    room = omega (arith, few, room);
    goto_room = λ _. omega (arith, few, room);
  }
    where
      past : x.begun ≡ true
      past =
          entered_before x.begun m.clean.sized m.next_seen.progress m.next_seen.stays
          (clean_ends bank8 banka places v.kind c.block m.clean.site (settings_of bank8 banka track) m.clean.sized m.clean.none
          m.next_seen.visits e)

      few : x.so_far ≤ most
      few = any_cost _ _ (block_within bank8 banka c.block) x.first_most x.stretch

      room : most + reserve true < x.so_far + suc fuel
      room = rw past at x.room

      from : Long x.begun m.clean.sized c.length → Before bank8 banka places track v false c
      from (with_length h) = Before.sized h
      from (without_length z unsized count) = absurd (false_true (sym z ∙ past))

  -- a note begun behind the command
  module _ (b sound next : ℕ) (is : is_note v.kind b ≡ true) (sounds : sounding_of v.kind b r.setting.transpose ≡ Some sound)
      (seen : SeenAt true next) (frames : Frames) (h : 0 < frames.count) where
    sounding : (base : ℕ) → Stands bank8 banka places track v (noted (at_cursor c (go_to (cursor_of c) next)) frames frames sound c.timbre base)
    sounding base = record {
      reads =
          moved bank8 banka places track m (go_to (cursor_of c) next) frames frames sound c.timbre base seen (seen_any m.start_seen)
          m.counter_most m.timbre_fits_lem;
      length_some = h;
      left_most = omega arith;
      sounds = sounds_fit v.kind b r.setting.transpose sound is (transposes_even bank8 banka track even x.sets.transpose_in) sounds;
    }

    lengthened : (kind : Kind) → Stands bank8 banka places track v (begunWith (length_set (at_cursor c (go_to (cursor_of c) next)) frames kind) sound)
    lengthened Kind.Square = sounding _
    lengthened Kind.Triangle = sounding _
    lengthened Kind.Noise = sounding _

  near : {command : Command} {next : ℕ} → Finds command next → next ≤ length bytes
  near f = let (size, h, small) = stands v.kind bytes c.next f in h

  played_holds : (p : Played) → played_at source r.setting c.length c.next ≡ p → Plays source r.setting c.length c.next p →
      Unrefused p → StepHolds bank8 banka places track v fuel (step_of v.kind (behind r p) p).reader (step_of v.kind (behind r p) p).stepped
  played_holds _ e (Plays.ends_block next f) u = leaves next f
  played_holds _ e (Plays.transposes t next f odd) u =
      passing _ e (on_past (by_transpose t next)) (near f) (seen_on m.next_seen f refl refl) m.start_seen m.counter_most _
      (record {
        transpose_in = transpose_set bank8 banka track v in-track m.names.named (transpose_in v.kind bytes m.next_seen.visits f odd);
        window_in = x.sets.window_in;
      })
  played_holds _ e (Plays.windows t next f) u =
      passing _ e (on_past (by_window t next)) (near f) (seen_on m.next_seen f refl refl) m.start_seen m.counter_most _
      (record {
        transpose_in = x.sets.transpose_in;
        window_in = window_set bank8 banka track v in-track m.names.named (window_in v.kind bytes m.next_seen.visits f);
      })
  played_holds _ e (Plays.ends_loop next f) u =
      passing _ e (on_end next) (near f)
      (by-test (λ (k : Cursor). SeenAt x.begun k.next) (eqb c.counter 0) (λ _. seen_on m.next_seen f refl refl) λ _. m.start_seen)
      (by-test (λ (k : Cursor). SeenAt x.begun k.loop_start) (eqb c.counter 0) (λ _. m.start_seen) λ _. m.start_seen)
      (by-test (λ (k : Cursor). k.counter ≤ 255) (eqb c.counter 0) (λ _. m.counter_most) λ _. omega (arith, m.counter_most)) _
      x.sets
  played_holds _ e (Plays.begins_loop n counter next f same) u =
      let (size, h, small) = stands v.kind bytes c.next f in
      let after = seen_on m.next_seen f refl refl in
      passing _ e (on_begin counter next) h after after (rw same (counter_bound n small)) _ x.sets
  played_holds _ e (Plays.sets_length l b sound next frames f sounds same) u = (
    x.sets,
    lengthened b sound next (length_note v.kind bytes c.next f) sounds (seen_noted m.next_seen f refl) frames
        (rw same (length_some source r.setting c.length c.next unrefused f)) v.kind,
  )
  played_holds _ e (Plays.sets_timbre t base next f) u =
      onward _ e (on_past (by_timbre t base next)) (near f) (seen_on m.next_seen f refl refl) m.start_seen m.counter_most t base
      (timbre_fits_lem source r.setting c.length c.next unrefused f) _ x.sets
  played_holds _ e (Plays.notes b sound next f sounds h) u =
      (x.sets, sounding b sound next (note_is v.kind bytes c.next f) sounds (seen_noted m.next_seen f refl) c.length h c.ctrl)
  played_holds _ e (Plays.refuses refusal offset t h) u = absurd u

  pub block_holds : StepHolds bank8 banka places track v fuel (step_at bank8 banka places v.kind r Place.Block).reader (step_at bank8 banka places v.kind r Place.Block).stepped
  block_holds = played_holds (played_at source r.setting c.length c.next) refl (plays source r.setting c.length c.next) unrefused
