-- How many commands one reading can take: 257 for two bytes (`engine_base`, proofs/loops/Bound.antt).
use Prim.Native.Nat.{ℕ, zero, suc, ◌+◌, ◌-◌, ◌*◌, ◌/◌, ◌≤◌, ◌<◌}
use mathlib.Core.Bool.{true}
use mathlib.Core.List.{List}
use mathlib.Core.Path.{◌≡◌, refl}
use native.Mathlib.Omega.{arith}
use borrow.Author.Tests.{eq-eqb, ne_eqb}
use lib.Dec.{eqb}
use lib.ListN.{length, get_or, take, length-take}
use Rattle.engine_base.specs.Pick.{pick}
use Rattle.metroid_format.specs.Command.{data_limit, is_note}
use Rattle.metroid_format.specs.Channel.{Source, source_of, step_of, read_by, read_from, read_until, fuel_of}
use Rattle.engine_base.proofs.loops.Bound.{Mark, begins as at_begin, ends as at_end, Moves, begin, go_on, go_back, Phase, fresh, begun, Lower, lowers, some_left}
use Rattle.metroid_format.proofs.channel.Stepped.{Stepped, begins, goes_on, goes_back, notes, ends, refuses, stepped}
use Rattle.metroid_format.proofs.channel.ReadSteps.{ByCommand, again, note, end, refused}
use Rattle.metroid_format.specs.declared.command.Kind.{Kind}
use Rattle.metroid_format.specs.declared.channel.Cursor.{Cursor}
use Rattle.metroid_format.specs.declared.channel.Step.{Step}
use Rattle.metroid_format.specs.declared.channel.Stop.{Stop}
use Rattle.metroid_format.specs.declared.channel.Until.{Until}

-- a cursor whose counter is a byte; above 0 it goes back to a byte after a begin, unless there is an extra command
pub record Looped (extra : ℕ) (cursor : Cursor) : Type 0 where
  pub byte : cursor.counter ≤ 255
  pub after_begin : 0 < cursor.counter → 0 < cursor.loop_start + extra

-- of any cursor whatever
pub any_looped : (cursor : Cursor) → cursor.counter ≤ 255 → Looped 1 cursor
any_looped cursor b = record { byte = b; after_begin = λ _. omega arith }

abbrev LoopedBy : ℕ → Step → Type 0
LoopedBy extra (Step.Again cursor) = Looped extra cursor
LoopedBy extra (Step.Note b cursor) = Looped extra cursor
LoopedBy extra Step.End = Unit {0}
LoopedBy extra (Step.Refused refusal at address) = Unit {0}

-- what holds where reading stops: a note is one of the channel and longer than 0 frames, and the end counts
abbrev pub StopHolds : Source → Cursor → ℕ → Stop → Type 0
StopHolds source cursor count (Stop.Note b) = (0 < cursor.length.count) × (is_note source.kind b ≡ true)
StopHolds source cursor count Stop.End = 0 < count
StopHolds source cursor count (Stop.Refused refusal at address) = Unit {0}

module _ (source : Source) where
  abbrev Holds : Until → Type 0
  Holds until = StopHolds source until.cursor until.count until.stop

  note_holds : {cursor after : Cursor} {b : ℕ} (count : ℕ) → Stepped source cursor (Step.Note b after) → StopHolds source after count (Stop.Note b)
  note_holds count (notes b after frames h w l n) = (l, n)

  read_holds : (fuel : ℕ) (cursor : Cursor) (count : ℕ) → Holds (read_from source fuel cursor count)
  unfolding read_from
  read_holds zero cursor count = tt
  read_holds (suc fuel) cursor count = from (read_holds fuel) (step_of source cursor) refl
    where
      from : ((d : Cursor) (n : ℕ) → Holds (read_from source fuel d n)) →
          (step : Step) → step_of source cursor ≡ step → Holds (read_by (read_from source fuel) cursor count step)
      from further (Step.Again d) e = further d (count + 1)
      from further (Step.Note b d) e = note_holds (count + 1) (rw e at (stepped source cursor))
      from further Step.End e = omega arith
      from further (Step.Refused refusal at address) e = tt

  -- from any cursor whatever
  pub stop_holds : (limit : ℕ) (cursor : Cursor) → Holds (read_until limit source cursor)
  unfolding read_until
  stop_holds limit cursor = read_holds (fuel_of limit) cursor 0

  -- an end of loop, and else a begin: no other command goes on
  unfoldable mark : ℕ → Mark
  mark at = pick (eqb (get_or source.bytes at 0) 0xff) at_end at_begin

  abbrev size : ℕ
  size = length source.bytes

  abbrev PhaseOf : Cursor → ℕ → Type 0
  PhaseOf cursor p = Phase mark size cursor.next cursor.loop_start cursor.counter p

  moves : {cursor after : Cursor} → Stepped source cursor (Step.Again after) →
      Moves mark size cursor.next cursor.loop_start cursor.counter after.next after.loop_start after.counter
  unfolding mark
  moves (begins counter h e m) = begin counter h (rw (ne_eqb _ _ e)) m
  moves (goes_on h e z) = go_on h (rw (eq-eqb _ _ e)) z
  moves (goes_back h e m) = go_back h (rw (eq-eqb _ _ e)) m

  module _ (extra : ℕ) where
    looped_step : {cursor : Cursor} {step : Step} → Stepped source cursor step → Looped extra cursor → LoopedBy extra step
    looped_step (begins counter h e m) p = record { byte = m; after_begin = λ _. omega arith }
    looped_step (goes_on h e z) p = record { byte = p.byte; after_begin = p.after_begin }
    looped_step (goes_back h e m) p = record { byte = omega (arith, p.byte); after_begin = λ _. p.after_begin m }
    looped_step (notes b after frames h w l n) p = record { byte = p.byte; after_begin = p.after_begin }
    looped_step (ends h) p = tt
    looped_step (refuses refusal at h w) p = tt

    looped_after : {cursor : Cursor} {step : Step} → step_of source cursor ≡ step → Looped extra cursor → LoopedBy extra step
    looped_after {cursor} e p = looped_step (rw e at (stepped source cursor)) p

    -- the cursor that reading gives is looped as well
    pub reads_looped : {cursor : Cursor} {count : ℕ} {until : Until} → ByCommand source cursor count until →
        Looped extra cursor → Looped extra until.cursor
    reads_looped (again e r) p = reads_looped r (looped_after e p)
    reads_looped (note e) p = looped_after e p
    reads_looped (end e) p = p
    reads_looped (refused e) p = p

  note_there : {cursor after : Cursor} {b : ℕ} → Stepped source cursor (Step.Note b after) → cursor.next < length source.bytes
  note_there (notes b after frames h w l n) = omega arith

  end_there : {cursor : Cursor} → Stepped source cursor Step.End → cursor.next < length source.bytes
  end_there (ends h) = h

  -- one command, and what is read after it
  reads_by : (fuel : ℕ) (cursor : Cursor) (count : ℕ) →
      ((d : Cursor) → step_of source cursor ≡ Step.Again d → ByCommand source d (count + 1) (read_from source fuel d (count + 1))) →
      ByCommand source cursor count (read_from source (suc fuel) cursor count)
  unfolding read_from
  reads_by fuel cursor count further = from (step_of source cursor) refl
    where
      from : (step : Step) → step_of source cursor ≡ step → ByCommand source cursor count (read_by (read_from source fuel) cursor count step)
      from (Step.Again d) e = again e (further d e)
      from (Step.Note b d) e = note e
      from Step.End e = end e
      from (Step.Refused refusal at address) e = refused e

  -- fuel above what is left to read is never used up: reading goes command by command to its stop
  reads_from : (fuel : ℕ) (cursor : Cursor) (count : ℕ) {p : ℕ} → PhaseOf cursor p → p < fuel →
      ByCommand source cursor count (read_from source fuel cursor count)
  reads_from zero cursor count f h = absurd (omega arith)
  reads_from (suc fuel) cursor count f h =
      reads_by fuel cursor count λ d e.
      let l = lowers mark size (moves (rw e at (stepped source cursor))) f in
      reads_from fuel d (count + 1) l.phase (omega (arith, l.less))

  reads_count : {cursor : Cursor} {count p : ℕ} {until : Until} → ByCommand source cursor count until → PhaseOf cursor p → until.count ≤ count + p
  reads_count {cursor} (again e r) f =
      let l = lowers mark size (moves (rw e at (stepped source cursor))) f in
      omega (arith, l.less, reads_count r l.phase)
  reads_count {cursor} (note e) f = omega (arith, some_left mark size (note_there (rw e at (stepped source cursor))) f)
  reads_count {cursor} (end e) f = omega (arith, some_left mark size (end_there (rw e at (stepped source cursor))) f)
  reads_count {cursor} (refused e) f = omega arith

  module _ (half extra : ℕ) (within : length source.bytes ≤ 2 * half) where
    -- after its first command, reading from any cursor is in no loop or in a loop's first play
    enters : {cursor after : Cursor} → Looped extra cursor → Stepped source cursor (Step.Again after) →
        Lower mark size after.next after.loop_start after.counter (half * 257 + extra)
    enters p (begins counter h e m) = record { rest = _; phase = begun mark size _ counter m; less = omega arith }
    enters p (goes_on h e z) = record { rest = _; phase = fresh z; less = omega arith }
    enters {cursor} p (goes_back h e m) =
        record {
          rest = _;
          phase = begun mark size cursor.loop_start (cursor.counter - 1) (omega (arith, p.byte));
          less = omega (arith, p.after_begin m);
        }

    -- reading never uses up its fuel
    pub reads : (cursor : Cursor) → extra ≤ 1 → Looped extra cursor → ByCommand source cursor 0 (read_until (2 * half) source cursor)
    unfolding read_until
    reads cursor x p =
        let fuel : fuel_of (2 * half) ≡ suc (half * 257 + 1) = omega arith in
        rw fuel
        (reads_by (half * 257 + 1) cursor 0 λ d e.
        let l = enters p (rw e at (stepped source cursor)) in
        reads_from (half * 257 + 1) d 1 l.phase (omega (arith, l.less)))

    first_count : {cursor : Cursor} {until : Until} → Looped extra cursor → ByCommand source cursor 0 until → until.count ≤ half * 257 + extra
    first_count {cursor} p (again e r) =
        let l = enters p (rw e at (stepped source cursor)) in
        omega (arith, l.less, reads_count r l.phase)
    first_count {cursor} p (note e) = omega (arith, note_there (rw e at (stepped source cursor)))
    first_count {cursor} p (end e) = omega (arith, end_there (rw e at (stepped source cursor)))
    first_count p (refused e) = omega arith

    -- 257 commands for two bytes, and one more where a counter above 0 goes back before the first begin
    pub count_bound : (cursor : Cursor) → extra ≤ 1 → Looped extra cursor →
        (read_until (2 * half) source cursor).count ≤ half * 257 + extra
    count_bound cursor x p = first_count p (reads cursor x p)

-- so of every call: whatever the data's length and the cursor, whose counter is a byte
pub never_used_up : (kind : Kind) (bytes lengths : List ℕ) (window start : ℕ) (cursor : Cursor) → cursor.counter ≤ 255 →
    ByCommand (source_of kind (take data_limit bytes) lengths window start) cursor 0
    (read_until data_limit (source_of kind (take data_limit bytes) lengths window start) cursor)
never_used_up kind bytes lengths window start cursor b =
    let within : length (take data_limit bytes) ≤ data_limit = rw length-take (omega arith) in
    reads (source_of kind (take data_limit bytes) lengths window start) (data_limit / 2) 1 within cursor (omega arith) (any_looped cursor b)
