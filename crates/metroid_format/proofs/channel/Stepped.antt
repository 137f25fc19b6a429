-- What a command can do to a cursor: the cases of `played_at` and `step_of`, with what holds in each.
use Prim.Native.Nat.{ℕ, ◌+◌, ◌-◌, ◌/◌, ◌%◌, ◌≤◌, ◌<◌, max}
use mathlib.Core.Bool.{true}
use mathlib.Core.List.{List}
use mathlib.Core.Path.{◌≡◌, refl, ap, subst}
use native.Mathlib.Omega.{arith}
use borrow.Author.Tests.{eqb-true, eqb-false}
use lib.Dec.{leb, eqb}
use lib.ListN.{length, get_or}
use Rattle.std.specs.Prelude.{Result, Ok, Err}
use Rattle.engine_base.specs.Loops.{counter_of}
use Rattle.engine_base.specs.Refusal.{number_of, FaultWithin}
use Rattle.engine_base.specs.declared.refusal.Refusal.{Refusal}
use Rattle.engine_base.specs.declared.refusal.Refusal.TheVariants.{InvalidCommand, NoLength, PastData}
use Rattle.metroid_format.specs.Bank.{lengths_size}
use Rattle.metroid_format.specs.Command.{is_note, command_at, Decoded}
use Rattle.metroid_format.specs.Channel.{Source, length_fault, length_at, played_of, played_by, played_unless, played_at, address_at, step_by, step_of}
use Rattle.engine_base.proofs.Picks.{by-test, refused_given}
use Rattle.engine_base.proofs.loops.Bound.{counter_bound}
use Rattle.metroid_format.proofs.command.Laws.{Stands, at_end, at_end_loop, at_begin, at_length, at_note, Wants, found, refused_near}
use Rattle.metroid_format.specs.declared.command.Command.{Command}
use Rattle.engine_base.specs.declared.time.Frames.{Frames}
use Rattle.metroid_format.specs.declared.channel.Cursor.{Cursor}
use Rattle.metroid_format.specs.declared.channel.Played.{Played}
use Rattle.metroid_format.specs.declared.channel.Step.{Step}

-- a BL that passes 12 and 13 gives a length above 0
length_above : (lengths : List ℕ) (window b : ℕ) → b / 16 ≡ 0x0b → length_fault lengths window b ≡ Ok tt → 0 < length_at lengths window (b % 16)
unfolding length_fault
length_above lengths window b e =
    by-test (λ (m : Result (Unit {0}) Refusal). m ≡ Ok tt → 0 < length_at lengths window (b % 16)) (eqb (b / 16) 0x0b)
    (λ _.
    by-test (λ (m : Result (Unit {0}) Refusal). m ≡ Ok tt → 0 < length_at lengths window (b % 16)) (leb lengths_size (window + b % 16)) (λ _ z. absurd (refused_given _ tt z)) λ _.
    by-test (λ (m : Result (Unit {0}) Refusal). m ≡ Ok tt → 0 < length_at lengths window (b % 16)) (eqb (length_at lengths window (b % 16)) 0) (λ _ z. absurd (refused_given _ tt z)) λ t _.
    let above : length_at lengths window (b % 16) ≡ 0 → ⊥ = eqb-false _ _ t in
    omega arith) λ t _.
    absurd (eqb-false _ _ t e)

-- else it gives 12 or 13
abbrev Fault : Result (Unit {0}) Refusal → Type 0
Fault (Ok passed) = Unit {0}
Fault (Err refusal) = (number_of InvalidCommand ≤ number_of refusal) × (number_of refusal < number_of PastData)

length_number : (lengths : List ℕ) (window b : ℕ) → Fault (length_fault lengths window b)
unfolding length_fault
length_number lengths window b =
    by-test Fault (eqb (b / 16) 0x0b)
    (λ _.
    by-test Fault (leb lengths_size (window + b % 16)) (λ _. (omega arith, omega arith)) λ _.
    by-test Fault (eqb (length_at lengths window (b % 16)) 0) (λ _. (omega arith, omega arith)) λ _.
    tt) λ _.
    tt

-- a note is longer than 0 frames, and a key, rest or preset of the channel; what is not refused stands in the data, and a refusal
-- names the command's offset, or one in the data or at its end (15 one behind the data), and the address there
pub data Plays (source : Source) (at : ℕ) (current : Frames) : Played → Type 0 where
  end : at < length source.bytes → Plays source at current Played.End
  end_loop : at < length source.bytes → get_or source.bytes at 0 ≡ 0xff → Plays source at current (Played.EndLoop (at + 1))
  begin_loop : (counter : ℕ) → at < length source.bytes → (get_or source.bytes at 0 ≡ 0xff → ⊥) → counter ≤ 255 →
      Plays source at current (Played.BeginLoop counter (at + 1))
  long : (b entry : ℕ) → at + 1 < length source.bytes → 0 < get_or source.lengths entry 0 → is_note source.kind b ≡ true →
      Plays source at current (Played.Length b (record { count = get_or source.lengths entry 0 }) (at + 1 + 1))
  lone : (b : ℕ) → at < length source.bytes → 0 < current.count → is_note source.kind b ≡ true →
      Plays source at current (Played.Note b (at + 1))
  refused : (refusal : Refusal) (place : ℕ) → FaultWithin (max at (length source.bytes)) refusal place → Wants source.bytes refusal place →
      Plays source at current (Played.Refused refusal place (address_at source.start place))

pub plays : (source : Source) (at : ℕ) (current : Frames) → Plays source at current (played_at source at current)
unfolding played_at
plays source at current =
    tested (length_fault source.lengths source.window b) refl
  where
    b : ℕ
    b = get_or source.bytes at 0

    stand : {c : Command} {next : ℕ} → Stands source.kind source.bytes at c next → length_fault source.lengths source.window b ≡ Ok tt →
        Plays source at current (played_of source.lengths source.window source.start at current c next)
    stand (at_end h e) z = end h
    stand (at_end_loop h e) z = end_loop h e
    stand (at_begin n s h e) z = begin_loop (counter_of n) h (λ q. omega arith) (counter_bound n (omega arith))
    stand (at_length l note s y h e g) z =
        let r : b % 16 ≡ l = omega arith in
        rw (← r) (long note _ h (length_above source.lengths source.window b (omega arith) z) y)
    stand (at_note note p s y h e) z =
        by-test (Plays source at current) (eqb current.count 0) (λ _. refused NoLength at (omega arith, omega arith, omega arith) (λ z. absurd (omega (arith, ap number_of z)))) λ t.
        let above : current.count ≡ 0 → ⊥ = eqb-false _ _ t in
        lone note h (omega arith) y

    from : (d : Decoded) → command_at source.kind source.bytes at ≡ d → length_fault source.lengths source.window b ≡ Ok tt →
        Plays source at current (played_by source.start (played_of source.lengths source.window source.start at current) d)
    from (Ok (c, next)) e z = stand (found source.kind source.bytes at e) z
    from (Err (refusal, place)) e z =
        let (near, wants) = refused_near source.kind source.bytes at e in
        refused refusal place near wants

    tested : (f : Result (Unit {0}) Refusal) → length_fault source.lengths source.window b ≡ f →
        Plays source at current
        (played_unless source.start at f
        (played_by source.start (played_of source.lengths source.window source.start at current) (command_at source.kind source.bytes at)))
    tested (Ok passed) z = from (command_at source.kind source.bytes at) refl z
    tested (Err refusal) z =
        let (low, high) : Fault (Err refusal) = subst Fault z (length_number _ _ b) in
        refused refusal at (low, omega arith, omega arith) (λ z. absurd (omega (arith, ap number_of z)))

pub data Stepped (source : Source) (cursor : Cursor) : Step → Type 0 where
  begins : (counter : ℕ) → cursor.next < length source.bytes → (get_or source.bytes cursor.next 0 ≡ 0xff → ⊥) → counter ≤ 255 →
      Stepped source cursor
      (Step.Again (record { next = cursor.next + 1; loop_start = cursor.next + 1; counter = counter; length = cursor.length }))
  goes_on : cursor.next < length source.bytes → get_or source.bytes cursor.next 0 ≡ 0xff → cursor.counter ≡ 0 →
      Stepped source cursor
      (Step.Again (record { next = cursor.next + 1; loop_start = cursor.loop_start; counter = cursor.counter; length = cursor.length }))
  goes_back : cursor.next < length source.bytes → get_or source.bytes cursor.next 0 ≡ 0xff → 0 < cursor.counter →
      Stepped source cursor
      (Step.Again (record { next = cursor.loop_start; loop_start = cursor.loop_start; counter = cursor.counter - 1; length = cursor.length }))
  notes : (b after : ℕ) (frames : Frames) → cursor.next < after → after ≤ length source.bytes →
      0 < frames.count → is_note source.kind b ≡ true →
      Stepped source cursor
      (Step.Note b (record { next = after; loop_start = cursor.loop_start; counter = cursor.counter; length = frames }))
  ends : cursor.next < length source.bytes → Stepped source cursor Step.End
  refuses : (refusal : Refusal) (at : ℕ) → FaultWithin (max cursor.next (length source.bytes)) refusal at → Wants source.bytes refusal at →
      Stepped source cursor (Step.Refused refusal at (address_at source.start at))

pub stepped : (source : Source) (cursor : Cursor) → Stepped source cursor (step_of source cursor)
unfolding step_of
stepped source cursor = from _ (plays source cursor.next cursor.length)
  where
    from : (p : Played) → Plays source cursor.next cursor.length p → Stepped source cursor (step_by cursor p)
    from _ (end h) = ends h
    from _ (end_loop h e) =
        by-test (λ (d : Cursor). Stepped source cursor (Step.Again d)) (eqb cursor.counter 0)
        (λ t. goes_on h e (eqb-true _ _ t)) λ t.
        let above : cursor.counter ≡ 0 → ⊥ = eqb-false _ _ t in
        goes_back h e (omega arith)
    from _ (begin_loop counter h e m) = begins counter h e m
    from _ (long b entry h l n) = notes b (cursor.next + 1 + 1) _ (omega arith) (omega arith) l n
    from _ (lone b h l n) = notes b (cursor.next + 1) cursor.length (omega arith) (omega arith) l n
    from _ (refused refusal place h w) = refuses refusal place h w
