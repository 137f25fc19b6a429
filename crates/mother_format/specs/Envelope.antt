-- Document 003, 'Volume Envelope Table': the envelope that a timbre command names.
use Rattle.std.specs.Prelude.{ℕ, List, leb, Result, Ok}
use Rattle.engine_base.specs.Pick.{unless}
use Rattle.engine_base.specs.declared.refusal.Refusal.{Refusal}
use Rattle.engine_base.specs.declared.refusal.Refusal.TheVariants.{EnvelopeTooHigh, NoEnvelopeEnd}
use Rattle.engine_base.specs.Envelope.{envelope_ends}

abbrev pub last_envelope : ℕ
last_envelope = 0x1b

-- 6, then 7; envelope x is word x - 1 of the table, and 0 is none
unfoldable pub envelope_fault : List ℕ → ℕ → ℕ → Result (Unit {0}) Refusal
envelope_fault bank table x =
    unless (leb x last_envelope) EnvelopeTooHigh
    (unless (envelope_ends bank table x) NoEnvelopeEnd (Ok tt))
