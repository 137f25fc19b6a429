-- Laws of reading until a note.
use Prim.Native.Nat.{ℕ, ◌+◌, ◌-◌, ◌<◌}
use mathlib.Core.List.{List}
use mathlib.Core.Path.{◌≡◌, refl, ◌∙◌}
use native.Mathlib.Omega.{arith}
use lib.ListN.{take}
use Rattle.engine_base.specs.declared.refusal.Refusal.{Refusal}
use Rattle.engine_base.specs.declared.refusal.Refusal.TheVariants.{PastData}
use Rattle.engine_base.specs.Told.{Answers}
use Rattle.metroid_format.specs.Command.{data_limit}
use Rattle.metroid_format.specs.Channel.{Source, source_of, address_at, step_of, read_by, read_from, read_until, told_until}
use Rattle.engine_base.proofs.Picks.{answers}
use Rattle.engine_base.proofs.Fuel.{turn}
use Rattle.metroid_format.specs.declared.command.Kind.{Kind}
use Rattle.metroid_format.specs.declared.channel.Cursor.{Cursor}
use Rattle.metroid_format.specs.declared.channel.Step.{Step}
use Rattle.metroid_format.specs.declared.channel.Until.{Until}
use Rattle.metroid_format.specs.declared.channel.Stop.{Stop}

-- a turn of the reading loop
pub read_turn : (source : Source) (cursor : Cursor) (count fuel : ℕ) (r step : Step) (whole : Until) →
    r ≡ step_of source cursor → r ≡ step → count < fuel → read_from source (fuel - count) cursor count ≡ whole →
    read_by (read_from source (fuel - (count + 1))) cursor count step ≡ whole
unfolding read_from
read_turn source cursor count =
    turn
    (λ fuel (s : Cursor × ℕ). read_from source fuel s.0 s.1)
    (λ on s step. read_by (λ after n. on (after, n)) s.0 s.1 step)
    (λ s. step_of source s.0)
    (λ fuel s. refl)
    (cursor, count)
    count

pub read_none : (source : Source) (cursor : Cursor) (count fuel : ℕ) (whole : Until) →
    count ≡ fuel → read_from source (fuel - count) cursor count ≡ whole →
    record { stop = Stop.Refused PastData cursor.next (address_at source.start cursor.next); count = fuel; cursor = cursor } ≡ whole
unfolding read_from
read_none source cursor count fuel whole e w =
    let none : fuel - fuel ≡ 0 = omega arith in
    rw (e, none) at w

-- the data is what `part` gives
pub read_cut : (kind : Kind) (bytes part lengths : List ℕ) (window address : ℕ) (start : Cursor) (until : Until) → part ≡ take data_limit bytes →
    until ≡ read_until data_limit (source_of kind part lengths window address) start →
    Answers told_until until (read_until data_limit (source_of kind (take data_limit bytes) lengths window address) start)
read_cut kind bytes part lengths window address start until e f = answers _ _ _ (f ∙ rw e)

-- reading from a cursor, with the commands read before, command by command
pub data ByCommand (source : Source) : Cursor → ℕ → Until → Type 0 where
  again : {cursor after : Cursor} {count : ℕ} {until : Until} → step_of source cursor ≡ Step.Again after →
      ByCommand source after (count + 1) until → ByCommand source cursor count until
  note : {cursor after : Cursor} {count b : ℕ} → step_of source cursor ≡ Step.Note b after →
      ByCommand source cursor count (record { stop = Stop.Note b; count = count + 1; cursor = after })
  end : {cursor : Cursor} {count : ℕ} → step_of source cursor ≡ Step.End →
      ByCommand source cursor count (record { stop = Stop.End; count = count + 1; cursor = cursor })
  refused : {cursor : Cursor} {count : ℕ} {refusal : Refusal} {at address : ℕ} → step_of source cursor ≡ Step.Refused refusal at address →
      ByCommand source cursor count (record { stop = Stop.Refused refusal at address; count = count; cursor = cursor })
