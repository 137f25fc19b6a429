-- The lines of mothercheck.
use Rattle.std.specs.Prelude.{ℕ, ◌+◌, Bool, false, List, [], ◌∷◌, ◌++◌, leb}
use Rattle.engine_base.specs.Pick.{pick}
use Rattle.engine_base.specs.Refusal.{number_of}
use Rattle.engine_base.specs.declared.refusal.Refusal.{Refusal}
use Rattle.engine_base.specs.declared.refusal.Refusal.TheVariants.{InvalidCommand, PastData}
use Rattle.metroid_text.specs.Line.{space, newline}
use Rattle.metroid_text.specs.Hex.{hex_digits, hex}
use Rattle.metroid_text.specs.Verdict.{pass_word, refuse_word, sentence, sentence_most}
use Rattle.mother_format.specs.declared.bank.Tracks.{Tracks}
use Rattle.mother_check.specs.declared.faults.Fault.{Fault}
use Rattle.mother_check.specs.declared.verdict.Verdict.{Verdict}

-- `low`
abbrev pub low_word : List ℕ
low_word = 0x6c ∷ 0x6f ∷ 0x77 ∷ []

-- `high`
abbrev pub high_word : List ℕ
high_word = 0x68 ∷ 0x69 ∷ 0x67 ∷ 0x68 ∷ []

-- `low N` or `high N`
abbrev pub track_words : Tracks → ℕ → List ℕ
track_words Tracks.Low track = sentence low_word (track ∷ [])
track_words Tracks.High track = sentence high_word (track ∷ [])

-- 10 to 15 do
unfoldable pub names_address : Refusal → Bool
names_address refusal =
    pick (leb (number_of InvalidCommand) (number_of refusal)) (leb (number_of refusal) (number_of PastData)) false

-- `refuse NO CHANNEL OFFSET PLACE`
abbrev pub place_words : Fault → List ℕ
place_words f = sentence refuse_word (number_of f.refusal ∷ f.channel ∷ f.at ∷ f.place ∷ [])

-- and the address, in hex, where the refusal names one
unfoldable pub fault_words : Fault → List ℕ
fault_words f = pick (names_address f.refusal) (place_words f ++ space ++ hex f.address) (place_words f)

-- `pass`, `refuse NO`, or a fault's
abbrev pub mother_words : Verdict → List ℕ
mother_words Verdict.Pass = pass_word
mother_words (Verdict.Refused refusal) = sentence refuse_word (number_of refusal ∷ [])
mother_words (Verdict.Fault f) = fault_words f

abbrev pub mother_text : Verdict → List ℕ
mother_text verdict = mother_words verdict ++ newline

-- behind the track
abbrev pub mother_line : Tracks → ℕ → Verdict → List ℕ
mother_line tracks track verdict = track_words tracks track ++ space ++ mother_text verdict

-- Below: only private contracts and laws use these.
abbrev pub track_most : ℕ
track_most = sentence_most high_word 1

abbrev pub mother_words_most : ℕ
mother_words_most = sentence_most refuse_word 4 + 1 + hex_digits

abbrev pub mother_text_most : ℕ
mother_text_most = mother_words_most + 1
