-- The lines of trace: a frame's answer.
use Rattle.std.specs.Prelude.{ℕ, ◌+◌, ◌*◌, List, [], ◌∷◌, ◌++◌}
use Rattle.metroid_player.specs.Event.{told_event}
use Rattle.engine_base.specs.Answer.{answer_number, answer_kind, answer_place}
use Rattle.metroid_player.specs.declared.event.Event.{Event}
use Rattle.engine_base.specs.declared.answer.Answer.{Answer}
use Rattle.metroid_player.specs.declared.frame.Framed.{Framed}
use Rattle.metroid_text.specs.Decimal.{decimal, digits_most}
use Rattle.metroid_text.specs.Line.{newline, each, spaced, spaced_most}

-- ` |`
abbrev pub bar : List ℕ
bar = 0x20 ∷ 0x7c ∷ []

abbrev pub after_bar : List ℕ → List ℕ
after_bar values = bar ++ spaced values

abbrev pub refusal_and_kind : Answer → List ℕ
refusal_and_kind answer = decimal (answer_number answer) ++ spaced (answer_kind answer ∷ [])

abbrev pub place_and_left : Answer → ℕ → List ℕ
place_and_left answer left = after_bar (answer_place answer) ++ after_bar (left ∷ [])

abbrev pub event_text : Event → List ℕ
event_text event = after_bar (told_event event)

-- refusal or 0 and kind, commands read, place, frames left, then five numbers a channel, with bars between
unfoldable pub answer_line : Framed → List ℕ
answer_line f =
    refusal_and_kind f.answer
    ++ after_bar f.counts
    ++ place_and_left f.answer f.frames_left
    ++ each event_text f.events
    ++ newline

-- Below: only private contracts and laws use these.
-- the most bytes of refusal and kind
abbrev pub kind_most : ℕ
kind_most = digits_most + spaced_most

-- of so many numbers after a bar
abbrev pub group_most : ℕ → ℕ
group_most n = 2 + spaced_most * n

abbrev pub place_most : ℕ
place_most = group_most 3 + group_most 1

abbrev pub event_most : ℕ
event_most = group_most 5

abbrev pub events_most : ℕ
events_most = 4 * event_most
