-- What demand 3 comes to, in the paper's words.
use Prim.Native.Nat.{ℕ, ◌+◌, ◌≤◌, ◌<◌}
use mathlib.Core.List.{List}
use mathlib.Core.Path.{◌≡◌, refl, sym, ap, ◌∙◌}
use native.Mathlib.Omega.{arith}
use borrow.Author.Tests.{lt-ltb, le-ltb}
use lib.Dec.{ltb}
use Rattle.engine_base.specs.declared.refusal.Refusal.{Refusal}
use Rattle.engine_base.specs.Bytes.{AllBytes}
use Rattle.engine_base.proofs.Picks.{by-test}
use Rattle.metroid_format.specs.declared.bank.Places.{Places}
use Rattle.metroid_check.specs.Run.{nothing, shown, End, of_start, of_frame, of_data, run_of, first_end, first_refusal}
use Rattle.metroid_check.specs.Verdict.{verdict_of}
use Rattle.metroid_check.specs.Demand3.{if_reached, end_foreseen, refusal_foreseen}
use Rattle.metroid_check.specs.declared.verdict.Verdict.{Verdict}
use Rattle.metroid_check.proofs.Demand3.{demand3}

shown_not : {A : Type 0} (x : A) → nothing ≡ shown x → ⊥
shown_not x e = let z : ◌≡◌ {A = ℕ} 0 1 = cc in omega arith

module _ {A : Type 0} (n frame : ℕ) (x : A) where
  reached : frame < n → if_reached n frame x ≡ shown x
  reached h = rw (lt-ltb _ _ h)

  unreached : n ≤ frame → if_reached n frame x ≡ nothing
  unreached h = rw (le-ltb _ _ h)

module _ (bank : List ℕ) (bytes : AllBytes bank) (places : Places) (track : ℕ) where
  abbrev pub Passes : Type 0
  Passes = (frame : ℕ) × (channel : ℕ) × (verdict_of bank places track ≡ Verdict.Pass frame channel)

  -- no run of any length is refused
  abbrev pub NeverRefused : Type 0
  NeverRefused = (n : ℕ) → first_refusal (run_of bank places track n) ≡ nothing

  shows_end_lem : {verdict : Verdict} → verdict_of bank places track ≡ verdict → (n : ℕ) →
      first_end (run_of bank places track n) ≡ end_foreseen n verdict
  shows_end_lem e n = (demand3 bank places track bytes n).end ∙ ap (end_foreseen n) e

  shows_refusal : {verdict : Verdict} → verdict_of bank places track ≡ verdict → (n : ℕ) →
      first_refusal (run_of bank places track n) ≡ refusal_foreseen n verdict
  shows_refusal e n = (demand3 bank places track bytes n).refusal ∙ ap (refusal_foreseen n) e

  -- a track that does not pass is refused, whatever the length or in every run that reaches the fault's frame
  pub start_refused : {refusal : Refusal} → verdict_of bank places track ≡ Verdict.Refused refusal → (n : ℕ) →
      first_refusal (run_of bank places track n) ≡ shown (of_start refusal)
  start_refused e n = shows_refusal e n

  pub fault_reached : {refusal : Refusal} {channel at frame address : ℕ} → verdict_of bank places track ≡ Verdict.Fault refusal channel at frame address →
      (n : ℕ) → frame < n → first_refusal (run_of bank places track n) ≡ shown (of_data refusal channel at frame address)
  fault_reached {frame} e n h = shows_refusal e n ∙ reached n frame _ h

  -- a track that passes shows its end in every run that reaches the frame, so that some frame answers End
  pub end_reached : {frame channel : ℕ} → verdict_of bank places track ≡ Verdict.Pass frame channel →
      (n : ℕ) → frame < n → first_end (run_of bank places track n) ≡ shown (record { frame = frame; channel = channel })
  end_reached {frame} e n h = shows_end_lem e n ∙ reached n frame _ h

  pub some_end : Passes → (n : ℕ) × (end : End) × (first_end (run_of bank places track n) ≡ shown end)
  some_end (frame, channel, e) = (frame + 1, _, end_reached e (frame + 1) (omega arith))

  -- a list that stops before shows neither
  pub before_end : {frame channel : ℕ} → verdict_of bank places track ≡ Verdict.Pass frame channel → (n : ℕ) → n ≤ frame →
      (first_end (run_of bank places track n) ≡ nothing) × (first_refusal (run_of bank places track n) ≡ nothing)
  before_end {frame} e n h = (shows_end_lem e n ∙ unreached n frame _ h, shows_refusal e n)

  pub before_fault : {refusal : Refusal} {channel at frame address : ℕ} → verdict_of bank places track ≡ Verdict.Fault refusal channel at frame address →
      (n : ℕ) → n ≤ frame →
      (first_end (run_of bank places track n) ≡ nothing) × (first_refusal (run_of bank places track n) ≡ nothing)
  before_fault {frame} e n h = (shows_end_lem e n, shows_refusal e n ∙ unreached n frame _ h)

  never_passes : NeverRefused → (verdict : Verdict) → verdict_of bank places track ≡ verdict → Passes
  never_passes never (Verdict.Pass frame channel) e = (frame, channel, e)
  never_passes never (Verdict.Refused refusal) e = absurd (shown_not _ (sym (never 0) ∙ start_refused e 0))
  never_passes never (Verdict.Fault refusal channel at frame address) e =
      absurd (shown_not _ (sym (never (frame + 1)) ∙ fault_reached e (frame + 1) (omega arith)))

  -- the check passes a track exactly when no run of any length is refused
  pub passes_exactly : (Passes → NeverRefused) × (NeverRefused → Passes)
  passes_exactly = ((λ p n. shows_refusal p.2 n), (λ never. never_passes never _ refl))

  -- a run's first refusal in a frame is one of 10 to 15: 1 to 9 are start's, and the records of a run pass 16
  pub frames_fault_only : (n : ℕ) (refusal : Refusal) (frame : ℕ) → first_refusal (run_of bank places track n) ≡ shown (of_frame refusal frame) → ⊥
  frames_fault_only n refusal frame e = by (verdict_of bank places track) (sym e ∙ (demand3 bank places track bytes n).refusal)
    where
      by : (verdict : Verdict) → shown (of_frame refusal frame) ≡ refusal_foreseen n verdict → ⊥
      by (Verdict.Pass at channel) e = shown_not _ (sym e)
      by (Verdict.Refused other) e = let z : ◌≡◌ {A = ℕ} 0 1 = cc in omega arith
      by (Verdict.Fault other channel at reached address) e =
          by-test (λ s. shown (of_frame refusal frame) ≡ s → ⊥) (ltb reached n)
          (λ _ e. let z : ◌≡◌ {A = ℕ} 0 1 = cc in omega arith) (λ _ e. shown_not _ (sym e)) e
