-- Laws of the pass's loop.
use Prim.Native.Nat.{ℕ, ◌+◌, ◌-◌, ◌*◌, ◌≤◌, ◌<◌}
use mathlib.Core.Path.{◌≡◌, refl, sym, subst, ◌∙◌}
use lib.ListN.{length}
use Rattle.std.specs.Prelude.{Err}
use Rattle.engine_base.specs.declared.refusal.Refusal.TheVariants.{PastData}
use Rattle.metroid_format.specs.Channel.{Source, address_at}
use Rattle.metroid_format.specs.Timeline.{frames_a_byte, passed_of, pass_by, pass_from, timeline_of, Timed, Passed}
use Rattle.engine_base.proofs.Picks.{answers}
use Rattle.engine_base.proofs.Fuel.{turn}
use Rattle.metroid_format.proofs.timeline.PassBound.{Bounded, BoundedBy, ByteLength, bounded}
use Rattle.metroid_format.proofs.timeline.Walked.{timeline_walk}
use Rattle.metroid_format.specs.declared.timeline.Timeline.{Timeline}
use Rattle.metroid_format.specs.declared.timeline.Pass.{Pass}

module _ (source : Source) (pass : Pass) where
  -- a turn of the loop
  pub pass_turn : (n fuel : ℕ) (r passed : Passed) (whole : Timeline) →
      r ≡ passed_of source pass → r ≡ passed → n < fuel → pass_from source (fuel - n) pass ≡ whole →
      pass_by (pass_from source (fuel - (n + 1))) pass passed ≡ whole
  unfolding pass_from
  pass_turn = turn (pass_from source) pass_by (passed_of source) (λ fuel s. refl) pass

  pub pass_none : (fuel : ℕ) (whole : Timeline) → fuel ≡ 0 → pass_from source fuel pass ≡ whole →
      record { frames = pass.frames; finish = Err (PastData, pass.next, (address_at source.start pass.next)) } ≡ whole
  unfolding pass_from
  pass_none fuel whole e w = rw e at w

  pub pass_bounded : Bounded source pass → (r passed : Passed) →
      r ≡ passed_of source pass → r ≡ passed → ByteLength passed → BoundedBy source passed
  pass_bounded b r passed e g byte =
      let same : passed_of source pass ≡ passed = sym e ∙ g in
      subst (BoundedBy source) same (bounded source pass b (subst ByteLength (sym same) byte))

pub timed : (source : Source) (timeline : Timeline) → timeline ≡ timeline_of source → timeline.frames ≤ frames_a_byte * length source.bytes →
    Timed source timeline
timed source timeline e b = record { answer = answers _ _ _ e; walk = rw e (timeline_walk source); bound = b }
