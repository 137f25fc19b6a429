-- How many commands of a block can be read in a row where none is a note: the bound of engine_base's proofs/loops/Bound.antt.
use Prim.Native.Nat.{ℕ, ◌+◌, ◌-◌, ◌*◌, ◌/◌, ◌%◌, ◌≤◌}
use mathlib.Core.Path.{◌≡◌, refl, sym, subst, ◌∙◌}
use native.Mathlib.Omega.{arith}
use borrow.Author.Tests.{eqb-true, eqb-false}
use lib.Dec.{eqb}
use Rattle.engine_base.specs.declared.time.Frames.{Frames}
use Rattle.mother_format.specs.Bank.{block_limit}
use Rattle.mother_format.specs.Command.{Decoded, command_at}
use Rattle.mother_format.specs.Channel.{Source, played_at, go_to, moved_by}
use Rattle.engine_base.proofs.Picks.{by-test}
use Rattle.engine_base.proofs.loops.Bound.{counter_bound, full, Mark, begins, ends, passes, Moves, begin, pass, go_on, go_back, Row, none, then, fresh_bound, any_bound}
use Rattle.mother_format.proofs.command.Laws.{stands}
use Rattle.mother_format.proofs.channel.Plays.{Plays, transposes, windows, ends_loop, begins_loop, sets_timbre, plays, ends_block, sets_length, notes, refuses}
use Rattle.mother_format.specs.declared.command.Command.{Command}
use Rattle.std.specs.Prelude.{Ok, Err}
use Rattle.mother_format.specs.declared.channel.Setting.{Setting}
use Rattle.mother_format.specs.declared.channel.Cursor.{Cursor}
use Rattle.mother_format.specs.declared.channel.Played.{Played}

-- a command that neither sounds nor ends nor is refused, and the offset after it: one that loops don't know
pub data Past : Played → ℕ → Type 0 where
  by_transpose : (m next : ℕ) → Past (Played.Transpose m next) next
  by_window : (t next : ℕ) → Past (Played.Window t next) next
  by_timbre : (x c next : ℕ) → Past (Played.Timbre x c next) next

-- or a loop's begin or end
pub data Onward : Played → ℕ → Type 0 where
  on_past : {played : Played} {next : ℕ} → Past played next → Onward played next
  on_begin : (counter next : ℕ) → Onward (Played.BeginLoop counter next) next
  on_end : (next : ℕ) → Onward (Played.EndLoop next) next

abbrev mark_by : Decoded → Mark
mark_by (Ok (Command.End, next)) = begins
mark_by (Ok (Command.Transpose m, next)) = passes next
mark_by (Ok (Command.Window t, next)) = passes next
mark_by (Ok (Command.EndLoop, next)) = ends
mark_by (Ok (Command.Length l b, next)) = begins
mark_by (Ok (Command.BeginLoop n, next)) = begins
mark_by (Ok (Command.Timbre x c, next)) = passes next
mark_by (Ok (Command.Note b, next)) = begins
mark_by (Err (refusal, offset)) = begins

module _ (source : Source) (end : ℕ) where
  mark : ℕ → Mark
  mark at = mark_by (command_at source.kind source.bytes at)

  abbrev MovesTo : Cursor → Cursor → Type 0
  MovesTo cursor after =
      Moves mark end cursor.next cursor.loop_start cursor.counter after.next after.loop_start after.counter

  module _ (setting : Setting) (frames : Frames) (cursor : Cursor) where
    moves : {played : Played} {next : ℕ} → Onward played next → Plays source setting frames cursor.next played → next ≤ end →
        MovesTo cursor (moved_by cursor played)
    unfolding mark
    moves (on_past (by_transpose _ _)) (transposes m next e t) h =
        let (size, near, small) = stands source.kind source.bytes cursor.next e in
        pass next (rw e) (omega arith) h
    moves (on_past (by_window _ _)) (windows t next e) h =
        let (size, near, small) = stands source.kind source.bytes cursor.next e in
        pass next (rw e) (omega arith) h
    moves (on_past (by_timbre _ _ _)) (sets_timbre x c next e) h =
        let (size, near, small) = stands source.kind source.bytes cursor.next e in
        pass next (rw e) (omega arith) h
    moves (on_begin _ _) (begins_loop n counter next e q) h =
        let (size, near, small) = stands source.kind source.bytes cursor.next e in
        let most : counter ≤ 255 = omega (arith, counter_bound n small) in
        subst (λ at. MovesTo cursor (record { next = at; loop_start = at; counter = counter })) (sym size) (begin counter (omega arith) (rw e) most)
    moves (on_end _) (ends_loop next e) h =
        let (size, near, small) = stands source.kind source.bytes cursor.next e in
        by-test (MovesTo cursor) (eqb cursor.counter 0)
        (λ t. subst (λ at. MovesTo cursor (go_to cursor at)) (sym size) (go_on (omega arith) (rw e) (eqb-true _ _ t))) λ t.
        let above : cursor.counter ≡ 0 → ⊥ = eqb-false _ _ t in
        go_back (omega arith) (rw e) (omega arith)

  -- so many commands in a row from a place to another, none of them a note, an end or a refusal, each wholly before the offset, whatever
  -- transpose, window and length it meets
  pub data Stretch : Cursor → ℕ → Cursor → Type 0 where
    still : {cursor : Cursor} → Stretch cursor 0 cursor
    step : {cursor last : Cursor} {n next : ℕ} (setting : Setting) (frames : Frames) (played : Played) →
        played_at source setting frames cursor.next ≡ played → Onward played next → next ≤ end →
        Stretch (moved_by cursor played) n last → Stretch cursor (n + 1) last

  row : {cursor last : Cursor} {n : ℕ} → Stretch cursor n last → Row mark end cursor.next cursor.loop_start cursor.counter n
  row still = none
  row {cursor} (step setting frames played e o h s) =
      then (moves setting frames cursor o (subst (Plays source setting frames cursor.next) e (plays source setting frames cursor.next)) h) (row s)

  -- a stretch of b bytes, entered at its first with counter 0, is left after so many commands at most
  pub stretch_cost : {cursor last : Cursor} {n : ℕ} (b : ℕ) → end ≡ cursor.next + b → cursor.counter ≡ 0 → Stretch cursor n last →
      n ≤ 257 * (b / 2) + b % 2
  stretch_cost {cursor} {n = n} b e z s =
      let left : end - cursor.next ≡ b = omega arith in
      subst (λ k. n ≤ full k) left (fresh_bound mark end z (row s))

  -- entered anywhere, whatever the loop: fewer than 33,026 of a block
  pub any_cost : {cursor last : Cursor} {n : ℕ} → end ≤ block_limit → cursor.counter ≤ 255 → Stretch cursor n last → n ≤ 33025
  any_cost l b s = omega (arith, any_bound mark end b (row s))

module _ (source : Source) where
  -- commands up to the first end or begin of a loop, in a row from a place to another
  pub data Passing : Cursor → ℕ → Cursor → Type 0 where
    none_yet : {cursor : Cursor} → Passing cursor 0 cursor
    one_more : {cursor last : Cursor} {n next : ℕ} (setting : Setting) (frames : Frames) (played : Played) →
        played_at source setting frames cursor.next ≡ played → Past played next →
        Passing (moved_by cursor played) n last → Passing cursor (n + 1) last

  -- none of them is read twice: each takes the place on, and the loop stays as it is, whatever its counter
  pub record Once (cursor : Cursor) (n : ℕ) (last : Cursor) : Type 0 where
    pub start : last.loop_start ≡ cursor.loop_start
    pub counter : last.counter ≡ cursor.counter
    pub on : cursor.next + n ≤ last.next

  moved_past : {cursor : Cursor} {played : Played} {next : ℕ} (setting : Setting) (frames : Frames) →
      Plays source setting frames cursor.next played → Past played next → Once cursor 1 (moved_by cursor played)
  moved_past {cursor} setting frames (transposes m next e t) (by_transpose _ _) =
      let (size, near, small) = stands source.kind source.bytes cursor.next e in
      record { start = refl; counter = refl; on = omega arith }
  moved_past {cursor} setting frames (windows t next e) (by_window _ _) =
      let (size, near, small) = stands source.kind source.bytes cursor.next e in
      record { start = refl; counter = refl; on = omega arith }
  moved_past {cursor} setting frames (sets_timbre x c next e) (by_timbre _ _ _) =
      let (size, near, small) = stands source.kind source.bytes cursor.next e in
      record { start = refl; counter = refl; on = omega arith }
  moved_past {cursor} setting frames (ends_block _ _) o = elim o [ ]
  moved_past {cursor} setting frames (ends_loop next _) o = elim o [ ]
  moved_past {cursor} setting frames (begins_loop n counter next _ _) o = elim o [ ]
  moved_past {cursor} setting frames (sets_length l b sound next long _ _ _) o = elim o [ ]
  moved_past {cursor} setting frames (notes b sound next _ _ _) o = elim o [ ]
  moved_past {cursor} setting frames (refuses refusal offset _ _) o = elim o [ ]

  pub read_once : {cursor last : Cursor} {n : ℕ} → Passing cursor n last → Once cursor n last
  read_once none_yet = record { start = refl; counter = refl; on = omega arith }
  read_once {cursor} (one_more setting frames played e o p) =
      let here = moved_past setting frames (subst (Plays source setting frames cursor.next) e (plays source setting frames cursor.next)) o in
      let rest = read_once p in
      record { start = rest.start ∙ here.start; counter = rest.counter ∙ here.counter; on = omega (arith, here.on, rest.on) }
