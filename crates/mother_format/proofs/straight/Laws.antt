-- Straight reading, a command at a time.
use Prim.Native.Nat.{ℕ, suc, ◌+◌, ◌-◌, ◌≤◌, ◌<◌}
use mathlib.Core.Bool.{true, false}
use mathlib.Core.List.{List, []}
use mathlib.Core.Path.{◌≡◌, sym, ap, ◌∙◌}
use native.Mathlib.Nat.{sub-zero, add-zero, zero-add, add_assoc}
use native.Mathlib.Omega.{arith}
use lib.ListN.{length}
use Rattle.engine_base.specs.declared.refusal.Refusal.{Refusal}
use Rattle.engine_base.specs.declared.refusal.Refusal.TheVariants.{PastData}
use Rattle.engine_base.specs.Told.{Answers}
use Rattle.mother_format.specs.Command.{Decoded, command_at}
use Rattle.mother_format.specs.Straight.{Finish, Straight, is_end, before, straight_by, straight_from, straight, notes_of, notes_in, reading_of, told_reading}
use Rattle.engine_base.proofs.Picks.{answers}
use Rattle.mother_format.specs.declared.command.Kind.{Kind}
use Rattle.mother_format.specs.declared.command.Command.{Command}
use Rattle.std.specs.Prelude.{Ok, Err}

notes_most : (c : Command) → notes_of c ≤ 1
notes_most Command.End = omega arith
notes_most (Command.Transpose m) = omega arith
notes_most (Command.Window t) = omega arith
notes_most Command.EndLoop = omega arith
notes_most (Command.Length l b) = omega arith
notes_most (Command.BeginLoop n) = omega arith
notes_most (Command.Timbre x c) = omega arith
notes_most (Command.Note b) = omega arith

module _ (kind : Kind) (bytes : List ℕ) where
  abbrev rest : ℕ → ℕ → Straight
  rest n at = straight_from kind bytes (length bytes - n) at

  -- after n commands, from an offset on
  pub record Midway (n at notes : ℕ) : Type 0 where
    pub within : n ≤ length bytes
    pub few : notes ≤ n
    pub count : notes_in (straight kind bytes).commands ≡ notes + notes_in (rest n at).commands
    pub finish : (straight kind bytes).finish ≡ (rest n at).finish

  pub midway_none : Midway 0 0 0
  midway_none = record { within = omega arith; few = omega arith; count = rw (sub-zero (length bytes)) (sym (zero-add _)); finish = rw (sub-zero (length bytes)) }

  module _ (n at notes : ℕ) (m : Midway n at notes) where
    step_is : n < length bytes → (d : Decoded) → command_at kind bytes at ≡ d →
        rest n at ≡ straight_by at (λ next. straight_from kind bytes (length bytes - (n + 1)) next) d
    unfolding straight_from
    step_is h d e =
        let less : length bytes - n ≡ suc (length bytes - (n + 1)) = omega arith in
        rw (less, e)

    reads : (f : Finish) → rest n at ≡ record { commands = []; finish = f } →
        Answers told_reading (record { notes = notes; finish = f }) (reading_of (straight kind bytes))
    reads f e =
        let c : notes ≡ notes_in (straight kind bytes).commands = sym (m.count ∙ ap (λ (s : Straight). notes + notes_in s.commands) e ∙ add-zero notes) in
        let g : f ≡ (straight kind bytes).finish = sym (m.finish ∙ ap (λ (s : Straight). s.finish) e) in
        answers _ _ _ (rw (c, g))

    pub more_few : (c : Command) (k : ℕ) → k ≡ notes_of c → notes + k ≤ n + 1
    more_few c k f = omega (arith, m.few, notes_most c)

    pub read_past : length bytes ≤ n → Answers told_reading (record { notes = notes; finish = Err (PastData, at) }) (reading_of (straight kind bytes))
    unfolding straight_from
    read_past h = let none : length bytes - n ≡ 0 = omega arith in reads _ (rw none)

    module _ (h : n < length bytes) (r : Decoded) (q : r ≡ command_at kind bytes at) where
      pub read_refused : (fault : Refusal × ℕ) → r ≡ Err fault →
          Answers told_reading (record { notes = notes; finish = Err fault }) (reading_of (straight kind bytes))
      read_refused fault e = reads _ (step_is h _ (sym q ∙ e))

      pub read_end : (c : Command) (next : ℕ) → r ≡ Ok (c, next) → is_end c ≡ true →
          Answers told_reading (record { notes = notes; finish = Ok at }) (reading_of (straight kind bytes))
      read_end c next e t = reads _ (step_is h _ (sym q ∙ e) ∙ rw t)

      pub read_more : (c : Command) (next : ℕ) → r ≡ Ok (c, next) → is_end c ≡ false → (k : ℕ) → k ≡ notes_of c → Midway (n + 1) next (notes + k)
      read_more c next e t k f =
          let s : rest n at ≡ before at c (rest (n + 1) next) = step_is h _ (sym q ∙ e) ∙ rw t in
          record {
            within = omega arith;
            few = more_few c k f;
            count = m.count ∙ ap (λ (s : Straight). notes + notes_in s.commands) s ∙ rw f (sym (add_assoc notes (notes_of c) _));
            finish = m.finish ∙ ap (λ (s : Straight). s.finish) s;
          }
