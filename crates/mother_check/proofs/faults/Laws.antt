-- The search for the first fault of a block, as the code goes.
use Prim.Native.Nat.{ℕ, ◌+◌, ◌≤◌, ◌<◌}
use mathlib.Core.Bool.{Bool, true, false}
use mathlib.Core.List.{List, [], ◌∷◌}
use mathlib.Core.Path.{◌≡◌, refl, sym, ap, ◌∙◌}
use native.Mathlib.Nat.{sub-zero}
use native.Mathlib.Omega.{arith}
use mir.Syntax.{w16}
use mir.Val.{Fits}
use lib.ListN.{length}
use Rattle.std.specs.Prelude.{Option, Some, None, Result, Ok, Err}
use Rattle.engine_base.specs.declared.refusal.Refusal.{Refusal}
use Rattle.mother_format.specs.Bank.{block_of}
use Rattle.mother_format.specs.Command.{command_at, bytes_of}
use Rattle.mother_format.specs.Channel.{Source, block_source}
use Rattle.mother_format.specs.Straight.{Placed, Straight, is_end, before}
use Rattle.mother_format.proofs.bank.Joined.{block_within}
use Rattle.mother_format.proofs.command.Laws.{stands}
use Rattle.mother_format.specs.declared.bank.Places.{Places}
use Rattle.mother_format.specs.declared.command.Kind.{Kind}
use Rattle.mother_format.specs.declared.command.Command.{Command}
use Rattle.mother_format.specs.Command.{Decoded}
use Rattle.mother_format.specs.Straight.{Finish}
use Rattle.mother_check.specs.Reading.{passed, passed_all}
use Rattle.mother_check.specs.Faults.{end_fault, finish_faults, entering, sized_after, first_of}
use Rattle.mother_check.specs.First.{then_first, first_tried, read_first, block_first, read_of, unless_found}
use Rattle.mother_check.proofs.reading.Straight.{rest_from, rest_is, rest_none}
use Rattle.mother_check.specs.declared.reading.Progress.{Progress}
use Rattle.mother_check.specs.declared.settings.Extremes.{Extremes}
use Rattle.mother_check.specs.declared.faults.Site.{Site}
use Rattle.mother_check.specs.declared.faults.Fault.{Fault}

-- what is answered alike was found alike
pub same_found : (a b : Option Fault) → unless_found a ≡ unless_found b → a ≡ b
same_found None None e = refl
same_found None (Some g) e = let z : ◌≡◌ {A = ℕ} 0 1 = cc in absurd (omega arith)
same_found (Some f) None e = let z : ◌≡◌ {A = ℕ} 0 1 = cc in absurd (omega arith)
same_found (Some f) (Some g) e = let same : f ≡ g = cc in ap Some same

then_nothing : (a : Option Fault) → then_first a None ≡ a
then_nothing None = refl
then_nothing (Some f) = refl

module _ (source : Source) (site : Site) (e : Extremes) where
  read_found : (p : Progress) (at : ℕ) (cs : List Placed) (finish : Finish) (f : Fault) → first_tried source site e p.sized at ≡ Some f →
      read_first source site e p at cs finish ≡ Some f
  unfolding read_first
  read_found p at [] finish f q = rw q
  read_found p at (c ∷ cs) finish f q = rw q

  read_stopped : (p : Progress) (at : ℕ) (finish : Finish) → first_tried source site e p.sized at ≡ None →
      read_first source site e p at [] finish ≡ first_of (finish_faults site p.noted finish)
  unfolding read_first
  read_stopped p at finish q = rw q

  read_unended : (p : Progress) (at : ℕ) (refusal : Refusal) (offset : ℕ) → read_first source site e p at [] (Err (refusal, offset)) ≡ first_tried source site e p.sized at
  unfolding read_first first_of
  read_unended p at refusal offset = then_nothing (first_tried source site e p.sized at)

  read_on : (p : Progress) (at : ℕ) (c : Placed) (cs : List Placed) (finish : Finish) → first_tried source site e p.sized at ≡ None →
      read_first source site e p at (c ∷ cs) finish ≡ read_first source site e (passed p c.command) (at + length (bytes_of c.command)) cs finish
  unfolding read_first
  read_on p at c cs finish q = rw q

module _ (bank8 banka : List ℕ) (places : Places) (kind : Kind) (start : ℕ) (site : Site) (e : Extremes) (given : Bool) where
  abbrev bytes : List ℕ
  bytes = block_of bank8 banka start

  abbrev source : Source
  source = block_source bank8 banka places kind start

  abbrev whole : Result Bool Fault
  whole = read_of (block_first bank8 banka places kind start site e given) (sized_after bank8 banka kind start given)

  abbrev from_here : Straight → Progress → ℕ → Result Bool Fault
  from_here rest p at = read_of (read_first source site e p at rest.commands rest.finish) (passed_all p rest.commands).sized

  -- after n commands, before the one at an offset
  pub record Midblock (p : Progress) (at n : ℕ) : Type 0 where
    pub within : n ≤ length bytes
    pub near : at ≤ length bytes
    pub rest : whole ≡ from_here (rest_from kind bytes n at) p at

  pub midblock_none : Midblock (entering given) 0 0
  unfolding block_first sized_after
  midblock_none = record { within = omega arith; near = omega arith; rest = rw (sub-zero (length bytes)) }

  module _ (p : Progress) (at n : ℕ) (m : Midblock p at n) where
    pub offset_fits : Fits w16 at
    offset_fits = let small = block_within bank8 banka start in record { fits = omega (arith, m.near) }

    -- tried is what `first_tried` answers
    module _ (tried : Result (Unit {0}) Fault) (q : tried ≡ unless_found (first_tried source site e p.sized at)) where
      found_is : (x : Option Fault) → tried ≡ unless_found x → first_tried source site e p.sized at ≡ x
      found_is x t = same_found _ x (sym q ∙ t)

      pub block_found : (f : Fault) → tried ≡ Err f → Err f ≡ whole
      block_found f t = sym (m.rest ∙ ap (λ r. read_of r (passed_all p (rest_from kind bytes n at).commands).sized) (read_found source site e p at _ _ f (found_is (Some f) t)))

      pub block_past : length bytes ≤ n → tried ≡ Ok tt → Ok p.sized ≡ whole
      block_past h t =
          sym
          (m.rest ∙ ap (λ s. from_here s p at) (rest_none kind bytes n at h)
          ∙ ap (λ r. read_of r p.sized) (read_unended source site e p at _ at ∙ found_is None t))

      module _ (t : tried ≡ Ok tt) (h : n < length bytes) (d : Decoded) (g : d ≡ command_at kind bytes at) where
        pub block_stopped : (refusal : Refusal) (offset : ℕ) → d ≡ Err (refusal, offset) → Ok p.sized ≡ whole
        unfolding first_of
        block_stopped refusal offset k =
            sym
            (m.rest ∙ ap (λ s. from_here s p at) (rest_is kind bytes n at h _ (sym g ∙ k))
            ∙ ap (λ r. read_of r p.sized) (read_stopped source site e p at _ (found_is None t)))

        module _ (c : Command) (next : ℕ) (k : d ≡ Ok (c, next)) where
          pub block_ended : is_end c ≡ true → (r : Result (Unit {0}) Fault) → r ≡ unless_found (first_of (end_fault site p.noted at)) → (x : Option Fault) → r ≡ unless_found x →
              read_of x p.sized ≡ whole
          block_ended i r w x v =
              let s : rest_from kind bytes n at ≡ record { commands = []; finish = Ok at } = rest_is kind bytes n at h _ (sym g ∙ k) ∙ rw i in
              sym
              (m.rest ∙ ap (λ s. from_here s p at) s
              ∙ ap (λ r. read_of r p.sized) (read_stopped source site e p at _ (found_is None t) ∙ same_found _ x (sym w ∙ v)))

          pub block_more : is_end c ≡ false → (p' : Progress) → p' ≡ passed p c → Midblock p' next (n + 1)
          block_more i p' w =
              let (size, close, small) = stands kind bytes at (sym g ∙ k) in
              let rest : Straight = rest_from kind bytes (n + 1) next in
              let s : rest_from kind bytes n at ≡ before at c rest = rest_is kind bytes n at h _ (sym g ∙ k) ∙ rw i in
              record {
                within = omega arith;
                near = close;
                rest =
                    m.rest ∙ ap (λ s. from_here s p at) s
                    ∙ ap (λ r. read_of r (passed_all (passed p c) rest.commands).sized) (read_on source site e p at _ rest.commands rest.finish (found_is None t))
                    ∙ rw (w, size);
              }
