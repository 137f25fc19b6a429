-- The check's verdict is the definition's, and holds of every run.
use Prim.Native.Nat.{ℕ}
use mathlib.Core.List.{List}
use mathlib.Core.Path.{◌≡◌, sym, ap, ◌∙◌}
use Rattle.std.specs.Prelude.{Option, Result, Ok, Err}
use Rattle.engine_base.specs.Bytes.{AllBytes}
use Rattle.engine_base.proofs.Picks.{answers}
use Rattle.engine_base.specs.declared.refusal.Refusal.{Refusal}
use Rattle.mother_format.specs.Header.{open_track}
use Rattle.mother_format.specs.declared.bank.Places.{Places}
use Rattle.mother_format.specs.declared.header.Track.{Track}
use Rattle.mother_check.specs.Extremes.{extremes_of}
use Rattle.mother_check.specs.Settings.{transposes_of, windows_of, settings_of}
use Rattle.mother_check.specs.Faults.{track_faults, first_of}
use Rattle.mother_check.specs.First.{unless_found, voices_first}
use Rattle.mother_check.specs.Verdict.{verdict_by, verdict_on, verdict_of}
use Rattle.mother_check.specs.Run.{Judged}
use Rattle.mother_check.proofs.settings.Spanned.{extremes_span, transposes_bytes}
use Rattle.mother_check.proofs.faults.Laws.{same_found}
use Rattle.mother_check.proofs.first.Tried.{tried_is_first}
use Rattle.mother_check.proofs.first.InOrder.{first_in_order}
use Rattle.mother_check.proofs.run.Never.{never_refused}
use Rattle.mother_check.specs.declared.faults.Fault.{Fault}
use Rattle.mother_check.specs.declared.settings.Extremes.{Extremes}
use Rattle.mother_check.specs.declared.verdict.Verdict.{Verdict}

module _ (bank8 banka : List ℕ) (places : Places) (track : ℕ) where
  pub judged : (v : Verdict) → v ≡ verdict_of bank8 banka places track → Judged bank8 banka places track v
  judged v e = record { answer = answers _ _ _ e; runs = λ p n. never_refused bank8 banka places track (sym e ∙ p) n }

  -- what is looked for in order, under the extremes, is the first of all faults
  search_is_first : AllBytes bank8 → AllBytes banka → (found : Track) → open_track bank8 banka places track ≡ Ok found →
      voices_first bank8 banka places 0 (extremes_of bank8 banka places found) found.voices ≡ first_of (track_faults bank8 banka places found)
  unfolding track_faults settings_of
  search_is_first low high found o =
      first_in_order bank8 banka places (extremes_of bank8 banka places found) (settings_of bank8 banka found)
      (tried_is_first bank8 banka places (transposes_of bank8 banka found) (windows_of bank8 banka found) (extremes_of bank8 banka places found)
      (extremes_span bank8 banka places found) (transposes_bytes bank8 banka places track found low high o))
      0 found.voices

  -- opened is what `open` answers
  module _ (opened : Result Track Refusal) (o : opened ≡ open_track bank8 banka places track) where
    pub opened_verdict : AllBytes bank8 → AllBytes banka → (found : Track) → opened ≡ Ok found →
        (e : Extremes) → e ≡ extremes_of bank8 banka places found →
        (first : Result (Unit {0}) Fault) → first ≡ unless_found (voices_first bank8 banka places 0 e found.voices) →
        (x : Option Fault) → first ≡ unless_found x → verdict_by x ≡ verdict_of bank8 banka places track
    unfolding verdict_of
    opened_verdict low high found z e q first f x w =
        let is : x ≡ voices_first bank8 banka places 0 (extremes_of bank8 banka places found) found.voices =
        same_found x _ (sym w ∙ f) ∙ ap (λ x. voices_first bank8 banka places 0 x found.voices) q in
        ap verdict_by (is ∙ search_is_first low high found (sym o ∙ z)) ∙ ap (verdict_on bank8 banka places) (sym z ∙ o)

    pub unopened_verdict : (refusal : Refusal) → opened ≡ Err refusal → Verdict.Refused refusal ≡ verdict_of bank8 banka places track
    unfolding verdict_of
    unopened_verdict refusal z = ap (verdict_on bank8 banka places) (sym z ∙ o)
