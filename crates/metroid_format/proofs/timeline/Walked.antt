-- Laws of a channel's walk: there is one from a cursor at most, and the pass over the bytes comes to what it comes to.
use Prim.Native.Nat.{ℕ, zero, suc, ◌+◌, ◌-◌, ◌*◌, ◌≤◌, ◌<◌}
use mathlib.Core.Bool.{Bool, true, false}
use mathlib.Core.Path.{◌≡◌, refl, sym, ap, subst, ◌∙◌}
use native.Mathlib.Nat.{add_assoc, add_comm, zero-add, add-zero, zero-mul, one-mul, add-mul, suc-mul}
use native.Mathlib.Omega.{arith}
use borrow.Author.Tests.{ne_eqb}
use lib.Dec.{eqb}
use lib.ListN.{length, get_or}
use Rattle.std.specs.Prelude.{Result, Ok, Err}
use Rattle.engine_base.specs.Pick.{pick}
use Rattle.engine_base.specs.declared.refusal.Refusal.{Refusal}
use Rattle.engine_base.specs.declared.refusal.Refusal.TheVariants.{NoLength}
use Rattle.metroid_format.specs.Command.{command_at, Decoded}
use Rattle.metroid_format.specs.Channel.{Source, address_at, fresh_cursor, length_fault, played_of, played_by, played_unless, played_at, step_by, step_of}
use Rattle.metroid_format.specs.Timeline.{Walk, again, note, ended, refused, after_lone, passed_by, passed_of, pass_by, pass_from, fresh_pass, timeline_of, Finish, Passed}
use Rattle.metroid_format.proofs.channel.Stepped.{Plays, plays}
use Rattle.metroid_format.proofs.channel.ReadSteps.{ByCommand}
use Rattle.metroid_format.specs.declared.command.Command.{Command}
use Rattle.engine_base.specs.declared.time.Frames.{Frames}
use Rattle.metroid_format.specs.declared.channel.Cursor.{Cursor}
use Rattle.metroid_format.specs.declared.channel.Played.{Played}
use Rattle.metroid_format.specs.declared.channel.Step.{Step}
use Rattle.metroid_format.specs.declared.channel.Stop.{Stop}
use Rattle.metroid_format.specs.declared.channel.Until.{Until}
use Rattle.metroid_format.specs.declared.timeline.Pass.{Pass}

-- what a walk is after its first command
abbrev pub WalkBy : Source → Step → ℕ → Finish → Type 0
WalkBy source (Step.Again after) frames finish = Walk source after frames finish
WalkBy source (Step.Note b after) frames finish =
    (left : ℕ) × (frames ≡ after.length.count + left) × Walk source after left finish
WalkBy source Step.End frames finish = (frames ≡ 0) × (finish ≡ Ok tt)
WalkBy source (Step.Refused refusal at address) frames finish = (frames ≡ 0) × (finish ≡ Err (refusal, at, address))

module _ {source : Source} where
  pub walked_by : {cursor : Cursor} {frames : ℕ} {finish : Finish} → Walk source cursor frames finish →
      WalkBy source (step_of source cursor) frames finish
  walked_by (again e w) = rw e w
  walked_by (note {frames = left} e w) = rw e (left, refl, w)
  walked_by (ended e) = rw e (refl, refl)
  walked_by (refused e) = rw e (refl, refl)

  pub walk_unique : {cursor : Cursor} {m n : ℕ} {f g : Finish} → Walk source cursor m f → Walk source cursor n g → (m ≡ n) × (f ≡ g)
  walk_unique (again e w) v = walk_unique w (rw e at (walked_by v))
  walk_unique {n = n} {g = g} (note {after} {b} {frames = left} {finish = f} e w) v =
      let (rest, h, u) : WalkBy source (Step.Note b after) n g = rw e at (walked_by v) in
      let (p, q) : (left ≡ rest) × (f ≡ g) = walk_unique w u in
      (omega arith, q)
  walk_unique {n = n} {g = g} (ended e) v =
      let (h, q) : WalkBy source Step.End n g = rw e at (walked_by v) in
      (sym h, sym q)
  walk_unique {n = n} {g = g} (refused {refusal} {at} {address} e) v =
      let (h, q) : WalkBy source (Step.Refused refusal at address) n g = rw e at (walked_by v) in
      (sym h, sym q)

-- what is left of a walk where reading stops
abbrev pub WalkAfter : Source → Cursor → Stop → ℕ → Finish → Type 0
WalkAfter source cursor (Stop.Note b) frames finish = (left : ℕ) × (frames ≡ cursor.length.count + left) × Walk source cursor left finish
WalkAfter source cursor Stop.End frames finish = (frames ≡ 0) × (finish ≡ Ok tt)
WalkAfter source cursor (Stop.Refused refusal at address) frames finish = (frames ≡ 0) × (finish ≡ Err (refusal, at, address))

pub read_walk : {source : Source} {cursor : Cursor} {count frames : ℕ} {until : Until} {finish : Finish} →
    ByCommand source cursor count until → Walk source cursor frames finish →
    WalkAfter source until.cursor until.stop frames finish
read_walk (ByCommand.again e r) w = read_walk r (rw e at (walked_by w))
read_walk (ByCommand.note e) w = rw e at (walked_by w)
read_walk (ByCommand.end e) w = rw e at (walked_by w)
read_walk (ByCommand.refused e) w = rw e at (walked_by w)

-- a part of a walk, from one cursor to another
data Goes (source : Source) : Cursor → ℕ → Cursor → Type 0 where
  stay : {cursor : Cursor} → Goes source cursor 0 cursor
  on_again : {cursor after to : Cursor} {frames : ℕ} → step_of source cursor ≡ Step.Again after →
      Goes source after frames to → Goes source cursor frames to
  on_note : {cursor after to : Cursor} {b frames : ℕ} → step_of source cursor ≡ Step.Note b after →
      Goes source after frames to → Goes source cursor (after.length.count + frames) to

module _ {source : Source} where
  join : {from mid to : Cursor} {m n : ℕ} → Goes source from m mid → Goes source mid n to → Goes source from (m + n) to
  join {n = n} stay h = rw (zero-add n) h
  join (on_again e g) h = on_again e (join g h)
  join (on_note e g) h = rw add_assoc (on_note e (join g h))

  then_note : {from mid after : Cursor} {m b : ℕ} → Goes source from m mid → step_of source mid ≡ Step.Note b after →
      Goes source from (m + after.length.count) after
  then_note {after = after} g e = rw (add-zero after.length.count) at (join g (on_note e stay))

  finish_by : {from mid : Cursor} {m n : ℕ} {finish : Finish} → Goes source from m mid → Walk source mid n finish → Walk source from (m + n) finish
  finish_by {n = n} stay w = rw (zero-add n) w
  finish_by (on_again e g) w = again e (finish_by g w)
  finish_by (on_note e g) w = rw add_assoc (note e (finish_by g w))

-- what is played does not turn on the current length, but for a lone note that has none
abbrev Replays : Frames → Played → Type 0
Replays length Played.End = Unit {0}
Replays length (Played.EndLoop next) = Unit {0}
Replays length (Played.BeginLoop counter next) = Unit {0}
Replays length (Played.Length b after next) = Unit {0}
Replays length (Played.Note b next) = 0 < length.count
Replays length (Played.Refused refusal place address) = ⊥

replays : (source : Source) (at : ℕ) (m n : Frames) (p : Played) → Replays n p → played_at source at m ≡ p → played_at source at n ≡ p
unfolding played_at
replays source at m n p r e =
    go (length_fault source.lengths source.window (get_or source.bytes at 0)) (command_at source.kind source.bytes at) e
  where
    play : Frames → Decoded → Played
    play length d = played_by source.start (played_of source.lengths source.window source.start at length) d

    lone : (t : Bool) (b next : ℕ) → pick t (Played.Refused NoLength at (address_at source.start at)) (Played.Note b next) ≡ p →
        pick (eqb n.count 0) (Played.Refused NoLength at (address_at source.start at)) (Played.Note b next) ≡ p
    lone true b next e = absurd (subst (Replays n) (sym e) r)
    lone false b next e =
        let long : 0 < n.count = subst (Replays n) (sym e) r in
        let some : n.count ≡ 0 → ⊥ = omega arith in
        rw (ne_eqb _ _ some) e

    go : (f : Result (Unit {0}) Refusal) (d : Decoded) → played_unless source.start at f (play m d) ≡ p →
        played_unless source.start at f (play n d) ≡ p
    go (Err refusal) d e = e
    go (Ok passed) (Ok (Command.End, next)) e = e
    go (Ok passed) (Ok (Command.EndLoop, next)) e = e
    go (Ok passed) (Ok (Command.BeginLoop k, next)) e = e
    go (Ok passed) (Ok (Command.Length l b, next)) e = e
    go (Ok passed) (Ok (Command.Note b, next)) e = lone (eqb m.count 0) b next e
    go (Ok passed) (Err (refusal, place)) e = e

abbrev cursor_at : ℕ → ℕ → ℕ → Frames → Cursor
cursor_at next start counter length = record { next = next; loop_start = start; counter = counter; length = length }

-- the walk so far, and of a loop with plays left that a later play from its start, with any counter and length, gets here as well
record Passing (source : Source) (origin : Cursor) (start : ℕ) (pass : Pass) : Type 0 where
  came : Goes source origin pass.frames (cursor_at pass.next start pass.counter pass.length)
  lengthened : 0 < pass.lead → 0 < pass.length.count
  replay : 0 < pass.counter → (counter : ℕ) (length : Frames) → (0 < pass.lead → 0 < length.count) →
      Goes source (cursor_at start start counter length) (pass.lead * length.count + pass.rest)
      (cursor_at pass.next start counter (pick (eqb pass.rest 0) length pass.length))

abbrev PassingBy : Source → Cursor → Pass → Passed → Type 0
PassingBy source origin pass (Ok after) =
    (start : ℕ) × (pass.next < after.next) × (after.next ≤ length source.bytes) × Passing source origin start after
PassingBy source origin pass (Err finish) = Walk source origin pass.frames finish

step_at_lem : (source : Source) (cursor : Cursor) (p : Played) → played_at source cursor.next cursor.length ≡ p →
    step_of source cursor ≡ step_by cursor p
unfolding step_of
step_at_lem source cursor p e = ap (step_by cursor) e

pick_same : {A : Type 0} (b : Bool) (x : A) → pick b x x ≡ x
pick_same true x = refl
pick_same false x = refl

goes_back : (source : Source) (next start counter after : ℕ) (length : Frames) → played_at source next length ≡ Played.EndLoop after →
    step_of source (cursor_at next start (suc counter) length) ≡ Step.Again (cursor_at start start counter length)
goes_back source next start counter after length e =
    let some : suc counter ≡ 0 → ⊥ = omega arith in
    let less : suc counter - 1 ≡ counter = omega arith in
    step_at_lem source (cursor_at next start (suc counter) length) _ e ∙ rw (ne_eqb _ _ some, less)

module _ (source : Source) (origin : Cursor) where
  -- an end of loop plays the body as often as the counter says, and goes on
  plays_out : (start : ℕ) (pass : Pass) → played_at source pass.next pass.length ≡ Played.EndLoop (pass.next + 1) → (counter : ℕ) →
      (0 < counter → (k : ℕ) →
      Goes source (cursor_at start start k pass.length) (pass.lead * pass.length.count + pass.rest)
      (cursor_at pass.next start k pass.length)) →
      Goes source (cursor_at pass.next start counter pass.length) (counter * (pass.lead * pass.length.count + pass.rest))
      (cursor_at (pass.next + 1) start 0 pass.length)
  plays_out start pass e zero body = rw zero-mul (on_again (step_at_lem source _ _ e) stay)
  plays_out start pass e (suc k) body =
      rw (suc-mul, add_comm (k * (pass.lead * pass.length.count + pass.rest)))
      (on_again (goes_back source pass.next start k _ pass.length e)
      (join (body (omega arith) k) (plays_out start pass e k λ _. body (omega arith))))

  module _ (start : ℕ) (pass : Pass) (now : Passing source origin start pass) where
    abbrev here : Cursor
    here = cursor_at pass.next start pass.counter pass.length

    stops : {finish : Finish} → Walk source here 0 finish → Walk source origin pass.frames finish
    stops w = rw add-zero at (finish_by now.came w)

    lone : (b : ℕ) → pass.next < length source.bytes → 0 < pass.length.count →
        played_at source pass.next pass.length ≡ Played.Note b (pass.next + 1) →
        (t : Bool) → eqb pass.rest 0 ≡ t → PassingBy source origin pass (Ok (after_lone t pass (pass.next + 1)))
    lone b h l e true t = (
      start,
      omega arith,
      omega arith,
      record {
        came = then_note now.came (step_at_lem source here _ e);
        lengthened = λ _. l;
        replay = λ c k length m.
            let long : 0 < length.count = m (omega arith) in
            let g : Goes source (cursor_at start start k length) (pass.lead * length.count + pass.rest) (cursor_at pass.next start k length) =
            rw t at (now.replay c k length λ _. long)
            in
            let e' : pass.lead * length.count + pass.rest + length.count ≡ (pass.lead + 1) * length.count + pass.rest =
            simp (add-mul, one-mul) (omega arith)
            in
            rw (t, ← e') (then_note g (step_at_lem source _ _ (replays source pass.next pass.length length _ long e)));
      },
    )
    lone b h l e false t = (
      start,
      omega arith,
      omega arith,
      record {
        came = then_note now.came (step_at_lem source here _ e);
        lengthened = λ _. l;
        replay = λ c k length m.
            let some : pass.rest + pass.length.count ≡ 0 → ⊥ = omega arith in
            let g : Goes source (cursor_at start start k length) (pass.lead * length.count + pass.rest) (cursor_at pass.next start k pass.length) =
            rw t at (now.replay c k length m)
            in
            rw (ne_eqb _ _ some, ← add_assoc) (then_note g (step_at_lem source _ _ e));
      },
    )

    passes : (p : Played) → played_at source pass.next pass.length ≡ p → Plays source pass.next pass.length p →
        PassingBy source origin pass (passed_by pass p)
    passes _ e (Plays.end h) = stops (ended (step_at_lem source here _ e))
    passes _ e (Plays.end_loop h f) = (
      start,
      omega arith,
      omega arith,
      record {
        came =
            join now.came
            (plays_out start pass e pass.counter
            λ c k. rw pick_same at (now.replay c k pass.length now.lengthened));
        lengthened = now.lengthened;
        replay = λ c. absurd (omega arith);
      },
    )
    passes _ e (Plays.begin_loop counter h f m) = (
      pass.next + 1,
      omega arith,
      omega arith,
      record {
        came = rw add-zero at (join now.came (on_again (step_at_lem source here _ e) stay));
        lengthened = λ l. absurd (omega arith);
        replay = λ c k length l. rw (zero-mul, add-zero) stay;
      },
    )
    passes _ e (Plays.long b entry h l n) = (
      start,
      omega arith,
      omega arith,
      record {
        came = then_note now.came (step_at_lem source here _ e);
        lengthened = λ _. l;
        replay = λ c k length m.
            let some : pass.rest + get_or source.lengths entry 0 ≡ 0 → ⊥ = omega arith in
            rw (ne_eqb _ _ some, ← add_assoc)
            (then_note (now.replay c k length m)
            (step_at_lem source _ _ (replays source pass.next pass.length _ _ tt e)));
      },
    )
    passes _ e (Plays.lone b h l n) = lone b h l e (eqb pass.rest 0) refl
    passes _ e (Plays.refused refusal place h w) = stops (refused (step_at_lem source here _ e))

  -- a command passes a byte, so that the fuel is never used up
  pass_walks : (fuel start : ℕ) (pass : Pass) → length source.bytes - pass.next < fuel → Passing source origin start pass →
      Walk source origin (pass_from source fuel pass).frames (pass_from source fuel pass).finish
  unfolding pass_from passed_of
  pass_walks zero start pass h now = absurd (omega arith)
  pass_walks (suc fuel) start pass h now =
      from (pass_walks fuel) (passed_by pass (played_at source pass.next pass.length))
      (passes start pass now (played_at source pass.next pass.length) refl (plays source pass.next pass.length))
    where
      from : ((start : ℕ) (after : Pass) → length source.bytes - after.next < fuel → Passing source origin start after →
          Walk source origin (pass_from source fuel after).frames (pass_from source fuel after).finish) →
          (r : Passed) → PassingBy source origin pass r →
          Walk source origin (pass_by (pass_from source fuel) pass r).frames (pass_by (pass_from source fuel) pass r).finish
      from further (Ok after) (start', l, w, then) = further start' after (omega arith) then
      from further (Err finish) w = w

pub timeline_walk : (source : Source) → Walk source fresh_cursor (timeline_of source).frames (timeline_of source).finish
unfolding timeline_of
timeline_walk source =
    pass_walks source fresh_cursor (length source.bytes + 1) 0 fresh_pass (omega arith)
    (record { came = stay; lengthened = λ l. absurd (omega arith); replay = λ c. absurd (omega arith) })
