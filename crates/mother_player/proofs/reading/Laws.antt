-- The steps of reading, as the code takes them.
use Prim.Native.Nat.{ℕ, ◌+◌, ◌-◌, ◌<◌}
use mathlib.Core.Bool.{Bool, false}
use mathlib.Core.List.{List}
use mathlib.Core.Path.{◌≡◌, refl, sym, ap, subst, ◌∙◌}
use Rattle.std.specs.Prelude.{Result, Ok}
use Rattle.engine_base.specs.declared.refusal.Refusal.{Refusal}
use Rattle.engine_base.specs.declared.refusal.Refusal.TheVariants.{TooManyCommands}
use Rattle.engine_base.proofs.Fuel.{turn}
use Rattle.mother_format.specs.Playlist.{row_limit, entry_at}
use Rattle.mother_format.proofs.playlist.Next.{EntryWithin, entry_within}
use Rattle.mother_format.specs.declared.bank.Places.{Places}
use Rattle.mother_format.specs.declared.command.Kind.{Kind}
use Rattle.mother_format.specs.declared.playlist.Entry.{Entry}
use Rattle.mother_player.specs.Reading.{step_from, offset_at, turn_from, read_by, read_step, read_from}
use Rattle.mother_player.specs.declared.reading.Reader.{Reader}
use Rattle.mother_player.specs.declared.reading.Stepped.{Stepped}
use Rattle.mother_player.specs.declared.reading.Step.{Step}
use Rattle.engine_base.specs.declared.answer.Turned.{Turned}
use Rattle.mother_player.specs.declared.reading.Turn.{Turn}

-- found is what `entry_at` answers
pub row_within : (bank : List ℕ) (list row : ℕ) (by-goto : Bool) (found : Result Entry Refusal) → found ≡ entry_at bank list row by-goto →
    (entry : Entry) → found ≡ Ok entry → (at word : ℕ) → entry ≡ Entry.Block at word → row < row_limit
row_within bank list row by-goto found e entry t at word b =
    (subst (EntryWithin row) (sym e ∙ t ∙ ap Ok b) (entry_within bank list row by-goto)).0

module _ (bank8 banka : List ℕ) (places : Places) (kind : Kind) (r : Reader) (count fuel : ℕ) (whole : Turn) where
  -- a turn of the reading loop; step is what `step_from` answers
  pub read_turn : (step : Step) (x : Stepped) → step ≡ step_from bank8 banka places kind r → step.stepped ≡ x → count < fuel →
      read_from bank8 banka places kind (fuel - count) r count ≡ whole →
      read_by count (λ next. read_from bank8 banka places kind (fuel - (count + 1)) next (count + 1)) step.reader x ≡ whole
  unfolding read_from
  read_turn step x e t h w =
      rw (← t)
      (turn
      (λ fuel (s : Reader × ℕ). read_from bank8 banka places kind fuel s.0 s.1)
      (λ on s step. read_step s.1 (λ next. on (next, s.1 + 1)) step)
      (λ s. step_from bank8 banka places kind s.0)
      (λ fuel s. refl)
      (r, count)
      count
      fuel
      step
      step
      whole
      e
      refl
      h
      w)

  pub read_none : (n : ℕ) → n ≡ count → fuel ≡ 0 → read_from bank8 banka places kind fuel r count ≡ whole →
      turn_from (Turned.Refused TooManyCommands (offset_at r) 0) false r n ≡ whole
  unfolding read_from
  read_none n q e w = rw q (rw e at w)
