use Rattle.std.proofs.Common.{◌≡◌, length}
use Rattle.metroid_text.specs.Answer.{event_text, event_most}
use Rattle.metroid_text.proofs.line.Laws.{Putting}
use Rattle.metroid_text.proofs.answer.put_events.Given as goal

abbrev pub invariant-loop-event : goal.invariant-loop-event
invariant-loop-event l = (length l.fn.events ≡ 4) × Putting event_most event_text l.fn.events l.initial.line l.line l.event-index
