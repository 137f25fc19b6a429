-- A channel's turn in a track without fault: it plays or ends the track.
use Prim.Native.Nat.{ℕ, zero, suc, ◌+◌, ◌/◌}
use mathlib.Core.Bool.{Bool, true, false}
use mathlib.Core.List.{List, []}
use mathlib.Core.Path.{◌≡◌, refl, sym, subst}
use native.Mathlib.Omega.{arith}
use borrow.Author.Tests.{ne_eqb, eqb-false}
use lib.Dec.{eqb, ltb}
use Rattle.std.specs.Prelude.{Some, Result, Ok, Err}
use Rattle.engine_base.specs.Address.{offset_of, within}
use Rattle.engine_base.specs.Bytes.{word_at}
use Rattle.engine_base.proofs.Picks.{by-test, false_true}
use Rattle.engine_base.proofs.address.Inside.{inside}
use Rattle.engine_base.specs.declared.refusal.Refusal.{Refusal}
use Rattle.mother_format.specs.Bank.{banks}
use Rattle.mother_format.specs.Playlist.{row_limit, goto_at, entry_at}
use Rattle.mother_format.specs.Transpose.{is_odd}
use Rattle.mother_format.proofs.bank.Joined.{block_within}
use Rattle.mother_format.proofs.channel.Stretch.{still, any_cost}
use Rattle.mother_format.proofs.playlist.Next.{EntryWithin, entry_within}
use Rattle.mother_format.specs.declared.bank.Places.{Places}
use Rattle.mother_format.specs.declared.channel.Setting.{Setting}
use Rattle.mother_format.specs.declared.playlist.Entry.{Entry}
use Rattle.mother_format.specs.declared.header.Voice.{Voice}
use Rattle.mother_format.specs.declared.header.Track.{Track}
use Rattle.mother_player.specs.Reading.{entered, entry_step, step_at, step_from, read_by, read_from, read_until, most_commands, first_reader}
use Rattle.mother_player.specs.Frame.{one_off, turn_of}
use Rattle.mother_player.specs.declared.record.Channel.{Channel}
use Rattle.mother_player.specs.declared.reading.Place.{Place}
use Rattle.mother_player.specs.declared.reading.Reader.{Reader}
use Rattle.mother_player.specs.declared.reading.Stepped.{Stepped}
use Rattle.engine_base.specs.declared.answer.Turned.{Turned}
use Rattle.mother_player.specs.declared.reading.Turn.{Turn}
use Rattle.mother_check.specs.Settings.{settings_of}
use Rattle.mother_check.specs.Faults.{entering, track_faults}
use Rattle.mother_check.proofs.Member.{In}
use Rattle.mother_check.proofs.clean.Visits.{at_first}
use Rattle.mother_check.proofs.clean.Settings.{CleanBlock, no_bad, block_clean, first_clean}
use Rattle.mother_check.proofs.walk.Closed.{first_looked, goto_looked, block_looked, block_named, bad_named, first_block, first_block_by_goto}
use Rattle.mother_check.proofs.run.Standing.{no_timbre_fits, Sets, one_off_lem, Holds, fresh, begun}
use Rattle.mother_check.proofs.run.Reading.{Long, Reading, AtWord, Before, Able, StepHolds}
use Rattle.mother_check.proofs.run.Block.{block_holds}

-- where a goto has led no goto is followed
abbrev OnceBy : Bool → Result Entry Refusal → Type 0
OnceBy by-goto (Ok Entry.End) = Unit {0}
OnceBy by-goto (Ok (Entry.Goto target)) = by-goto ≡ false
OnceBy by-goto (Ok (Entry.Block address next)) = Unit {0}
OnceBy by-goto (Err refusal) = Unit {0}

once : (bank : List ℕ) (list row : ℕ) (by-goto : Bool) → OnceBy by-goto (entry_at bank list row by-goto)
unfolding entry_at goto_at
once bank list row by-goto =
    by-test (OnceBy by-goto) (within list 2)
    (λ _. by-test (OnceBy by-goto) (eqb (word / 256) 0x00) (λ _. tt) λ _.
    by-test (OnceBy by-goto) (eqb (word / 256) 0xff)
    (λ _. by-test (OnceBy by-goto) by-goto (λ _. tt) λ f.
    by-test (OnceBy by-goto) (within (list + 2) 2) (λ _. by-test (OnceBy by-goto) (within (word_at bank (offset_of (list + 2))) 1) (λ _. f) λ _. tt) λ _. tt)
    λ _. by-test (OnceBy by-goto) (within word 1) (λ _. by-test (OnceBy by-goto) (ltb row row_limit) (λ _. tt) λ _. tt) λ _. tt)
    λ _. tt
  where
    word : ℕ
    word = word_at bank (offset_of list)

module _ (bank8 banka : List ℕ) (places : Places) (track : Track) where
  -- of a used channel's turn
  abbrev pub TurnHolds : Voice → Turn → Turned → Type 0
  TurnHolds v t Turned.Plays = Sets bank8 banka track t.setting × Holds bank8 banka places track v (one_off t.channel)
  TurnHolds v t Turned.End = Unit {0}
  TurnHolds v t (Turned.Refused refusal at address) = ⊥

  module _ (even : is_odd track.transpose ≡ false) (none : track_faults bank8 banka places track ≡ [])
      (v : Voice) (in-track : In (Some v) track.voices) where
    abbrev bank : List ℕ
    bank = banks bank8 banka

    -- a block word
    enters : (by-goto : Bool) (fuel : ℕ) (r : Reader) (address next : ℕ) → AtWord bank8 banka places track v by-goto (suc fuel) r →
        entry_at bank r.channel.list r.channel.row by-goto ≡ Ok (Entry.Block address next) → within address 1 ≡ true →
        Reading bank8 banka places track v fuel
        (record { place = Place.Block; channel = entered r.channel address next; setting = r.setting })
    enters by-goto fuel r address next m e w = from m.before
      where
        c : Channel
        c = r.channel

        into : (clean : CleanBlock bank8 banka places v.kind (settings_of bank8 banka track) address) → Long false clean.sized c.length →
            Reading bank8 banka places track v fuel (record { place = Place.Block; channel = entered c address next; setting = r.setting })
        into clean long = record {
          begun = false;
          reads = record {
            spot = block_looked m.looked e;
            names = block_named m.looked e;
            clean = clean;
            block_in = w;
            next_seen = record { progress = entering clean.sized; stays = refl; visits = at_first };
            start_seen = record { progress = entering clean.sized; stays = refl; visits = at_first };
            counter_most = omega arith;
            timbre_fits_lem = m.timbre_fits_lem;
          };
          long = long;
          sets = m.sets;
          first = record { next = 0; loop_start = 0; counter = 0 };
          first_most = omega arith;
          so_far = 0;
          stretch = still;
          room = omega (arith, m.room);
        }

        from : Before bank8 banka places track v by-goto c →
            Reading bank8 banka places track v fuel (record { place = Place.Block; channel = entered c address next; setting = r.setting })
        from (Before.sized h) =
            let names = block_named m.looked e in
            into (block_clean bank8 banka places track none v in-track names.named) (Long.with_length h)
        from (Before.unsized z heads led) =
            let head = heads address next e in
            let clean = first_clean bank8 banka places track none v in-track head.is in
            into (record { site = clean.site; sized = false; none = clean.none }) (Long.without_length refl refl z)

    words : (by-goto : Bool) (fuel : ℕ) (r : Reader) → AtWord bank8 banka places track v by-goto (suc fuel) r → (x : Result Entry Refusal) →
        entry_at bank r.channel.list r.channel.row by-goto ≡ x → EntryWithin r.channel.row x → OnceBy by-goto x →
        StepHolds bank8 banka places track v fuel (entry_step r x).reader (entry_step r x).stepped
    words by-goto fuel r m (Ok Entry.End) e w o = tt
    words by-goto fuel r m (Ok (Entry.Goto target)) e w o = record {
      looked = goto_looked m.looked e;
      before = from m.before;
      timbre_fits_lem = m.timbre_fits_lem;
      sets = m.sets;
      room = omega (arith, m.goto_room o);
      goto_room = λ z. absurd (false_true (sym z));
    }
      where
        from : Before bank8 banka places track v by-goto r.channel →
            Before bank8 banka places track v true (entry_step r (Ok (Entry.Goto target))).reader.channel
        from (Before.sized h) = Before.sized h
        from (Before.unsized z heads led) =
            Before.unsized z (λ address next f. led target address next e f) λ further address next f g.
            absurd (false_true (sym (subst (OnceBy true) f (once bank target 0 true))))
    words by-goto fuel r m (Ok (Entry.Block address next)) e (row, w) o = enters by-goto fuel r address next m e w
    words by-goto fuel r m (Err refusal) e w o =
        let bads = bad_named m.looked e in
        no_bad bank8 banka places track none v in-track bads.named

    step_holds : (fuel : ℕ) (r : Reader) (x : Place) → Able bank8 banka places track v (suc fuel) r x →
        StepHolds bank8 banka places track v fuel (step_at bank8 banka places v.kind r x).reader (step_at bank8 banka places v.kind r x).stepped
    step_holds fuel r Place.Block m = block_holds bank8 banka places track even v in-track fuel r m
    step_holds fuel r Place.List m =
        words false fuel r m (entry_at bank r.channel.list r.channel.row false) refl
        (entry_within bank r.channel.list r.channel.row false) (once bank r.channel.list r.channel.row false)
    step_holds fuel r Place.Target m =
        words true fuel r m (entry_at bank r.channel.list r.channel.row true) refl
        (entry_within bank r.channel.list r.channel.row true) (once bank r.channel.list r.channel.row true)

    -- 100,000 commands are never used up
    able_some : (r : Reader) (x : Place) → Able bank8 banka places track v 0 r x → ⊥
    able_some r Place.Block m =
        omega (arith, m.room, any_cost _ _ (block_within bank8 banka r.channel.block) m.first_most m.stretch)
    able_some r Place.List m = omega (arith, m.room)
    able_some r Place.Target m = omega (arith, m.room)

    read_by_lem : (fuel count : ℕ) (on : Reader → Turn) →
        ((r : Reader) → Able bank8 banka places track v fuel r r.place → TurnHolds v (on r) (on r).turned) →
        (r : Reader) (x : Stepped) → StepHolds bank8 banka places track v fuel r x →
        TurnHolds v (read_by count on r x) (read_by count on r x).turned
    read_by_lem fuel count on more r Stepped.Again h = more r h
    read_by_lem fuel count on more r Stepped.Note (sets, h) = (sets, begun (one_off_lem bank8 banka places track h))
    read_by_lem fuel count on more r Stepped.End h = tt
    read_by_lem fuel count on more r (Stepped.Refused refusal at address) h = h

    read_holds : (fuel : ℕ) (r : Reader) (count : ℕ) → Able bank8 banka places track v fuel r r.place →
        TurnHolds v (read_from bank8 banka places v.kind fuel r count) (read_from bank8 banka places v.kind fuel r count).turned
    unfolding read_from step_from
    read_holds zero r count m = absurd (able_some r r.place m)
    read_holds (suc fuel) r count m =
        let step = step_at bank8 banka places v.kind r r.place in
        read_by_lem fuel count (λ next. read_from bank8 banka places v.kind fuel next (count + 1)) (λ next h. read_holds fuel next (count + 1) h)
        step.reader step.stepped (step_holds fuel r r.place m)

    first_able : (c : Channel) (s : Setting) → Sets bank8 banka track s → Holds bank8 banka places track v c →
        Able bank8 banka places track v most_commands (first_reader v.list c s) (first_reader v.list c s).place
    unfolding first_reader
    first_able c s sets (fresh e) = rw e (record {
      looked = first_looked bank v.list;
      before = Before.unsized refl (λ address next f. first_block f) λ target address next f g. first_block_by_goto f g;
      timbre_fits_lem = no_timbre_fits v.kind;
      sets = sets;
      room = omega arith;
      goto_room = λ _. omega arith;
    })
    first_able c s sets (begun h) =
        let (low, high) = inside c.block 1 h.reads.block_in in
        let some : c.block ≡ 0 → ⊥ = λ z. omega arith in
        rw (ne_eqb c.block 0 some) (record {
          begun = true;
          reads = h.reads;
          long = Long.with_length h.length_some;
          sets = sets;
          first = _;
          first_most = h.reads.counter_most;
          so_far = 0;
          stretch = still;
          room = omega arith;
        })

    pub turn_holds : (s : Setting) (c : Channel) → Sets bank8 banka track s → Holds bank8 banka places track v c →
        TurnHolds v (turn_of bank8 banka places s v c) (turn_of bank8 banka places s v c).turned
    unfolding turn_of read_until
    turn_holds s c sets h =
        by-test After (eqb c.left.count 0)
        (λ _. read_holds most_commands (first_reader v.list c s) 0 (first_able c s sets h)) λ some.
        (sets, left (eqb-false _ _ some) h)
      where
        After : Turn → Type 0
        After t = TurnHolds v t t.turned

        left : (c.left.count ≡ 0 → ⊥) → Holds bank8 banka places track v c → Holds bank8 banka places track v (one_off c)
        left some (fresh e) = absurd (some (rw e))
        left some (begun h) = begun (one_off_lem bank8 banka places track h)
