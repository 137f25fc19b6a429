-- The lines of cuecheck.
use Rattle.std.specs.Prelude.{ℕ, ◌+◌, ◌*◌, List, [], ◌∷◌, ◌++◌, length}
use Rattle.engine_base.specs.Refusal.{number_of}
use Rattle.metroid_check.specs.declared.verdict.Verdict.{Verdict}
use Rattle.metroid_text.specs.Decimal.{decimal}
use Rattle.metroid_text.specs.Line.{space, newline, spaced, spaced_most}
use Rattle.metroid_text.specs.Hex.{hex_digits, hex}

-- `pass`
abbrev pub pass_word : List ℕ
pass_word = 0x70 ∷ 0x61 ∷ 0x73 ∷ 0x73 ∷ []

-- `refuse`
abbrev pub refuse_word : List ℕ
refuse_word = 0x72 ∷ 0x65 ∷ 0x66 ∷ 0x75 ∷ 0x73 ∷ 0x65 ∷ []

-- a word and numbers
abbrev pub sentence : List ℕ → List ℕ → List ℕ
sentence word values = word ++ spaced values

-- `pass FRAME CHANNEL`, `refuse NO` or `refuse NO CHANNEL OFFSET FRAME ADDRESS`, the address in hex
abbrev pub verdict_words : Verdict → List ℕ
verdict_words (Verdict.Pass frame channel) = sentence pass_word (frame ∷ channel ∷ [])
verdict_words (Verdict.Refused refusal) = sentence refuse_word (number_of refusal ∷ [])
verdict_words (Verdict.Fault refusal channel at frame address) =
    sentence refuse_word (number_of refusal ∷ channel ∷ at ∷ frame ∷ []) ++ space ++ hex address

abbrev pub verdict_text : Verdict → List ℕ
verdict_text verdict = verdict_words verdict ++ newline

-- behind the track
abbrev pub verdict_line : ℕ → Verdict → List ℕ
verdict_line track verdict = decimal track ++ space ++ verdict_text verdict

-- Below: only private contracts and laws use these.
-- the most bytes of a word and so many numbers
abbrev pub sentence_most : List ℕ → ℕ → ℕ
sentence_most word n = length word + spaced_most * n

abbrev pub words_most : ℕ
words_most = sentence_most refuse_word 4 + 1 + hex_digits

abbrev pub text_most : ℕ
text_most = words_most + 1
