-- Document 01, 'Commands as words'.
use Rattle.std.specs.Prelude.{ℕ, zero, suc, ◌/◌, ◌%◌, ◌≤◌, Bool, true, false, List, [], ◌∷◌, ◌++◌, ◌≡◌, Result, Ok, Err, leb, eqb, length, take, drop}
use Rattle.std.proofs.lemmas.List.Edits.{sets}
use Rattle.engine_base.specs.Pick.{pick}
use Rattle.engine_base.specs.Told.{Told, Answers}
use Rattle.engine_base.specs.Refusal.{number_of}
use Rattle.engine_base.specs.declared.refusal.Refusal.{Refusal}
use Rattle.engine_base.specs.declared.refusal.Refusal.TheVariants.{InvalidCommand, InvalidNote, PastData, InvalidWord, NoRoom}
use Rattle.metroid_format.specs.Command.{Decoded, Finish, command_at, word_of, is_end}
use Rattle.metroid_format.specs.declared.command.Kind.{Kind}
use Rattle.metroid_format.specs.declared.words.ReadError.{ReadError}

-- how many words were written, or what reading refuses
abbrev pub Reading : Type 0
Reading = Result ℕ ReadError

-- how many bytes were written, or the refusal
abbrev pub Writing : Type 0
Writing = Result ℕ Refusal

-- the words of the commands up to the first end or refusal, the offset after them, and which of the two it was
pub record Straight : Type 0 where
  pub words : List ℕ
  pub reach : ℕ
  pub finish : Finish

abbrev pub after_command : Bool → ℕ → ℕ → Straight → Straight
after_command true w next rest = record { words = w ∷ []; reach = next; finish = Ok tt }
after_command false w next rest = record { words = w ∷ rest.words; reach = rest.reach; finish = rest.finish }

abbrev pub straight_by : ℕ → (ℕ → Straight) → Decoded → Straight
straight_by at go (Ok (c, next)) = after_command (is_end c) (word_of c) next (go next)
straight_by at go (Err (refusal, offset)) = record { words = []; reach = at; finish = Err (refusal, offset) }

-- from an offset on, with at most so many bytes left
unfoldable pub straight_from : Kind → List ℕ → ℕ → ℕ → Straight
straight_from kind bytes zero at = record { words = []; reach = at; finish = Err (PastData, at) }
straight_from kind bytes (suc left) at = straight_by at (λ next. straight_from kind bytes left next) (command_at kind bytes at)

abbrev pub straight : Kind → List ℕ → Straight
straight kind bytes = straight_from kind bytes (length bytes) 0

abbrev pub finished : ℕ → Finish → Reading
finished count (Ok passed) = Ok count
finished count (Err (refusal, at)) = Err (ReadError.Byte refusal at)

-- no room where the words before the refusal or up to the end exceed it
abbrev pub reading_of : Straight → ℕ → Reading
reading_of s room = pick (leb (length s.words) room) (finished (length s.words) s.finish) (Err ReadError.NoRoom)

unfoldable pub read_words : ℕ → Kind → List ℕ → ℕ → Reading
read_words limit kind bytes room = reading_of (straight kind (take limit bytes)) room

abbrev pub told_reading : Reading → Told
told_reading (Ok count) = record { number = 0; values = count ∷ [] }
told_reading (Err (ReadError.Byte refusal at)) = record { number = number_of refusal; values = at ∷ [] }
told_reading (Err ReadError.NoRoom) = record { number = number_of NoRoom; values = [] }

-- a buffer after an answer: the values and what stood behind them where it tells 0, else as it was
abbrev pub left_by : Told → List ℕ → List ℕ → List ℕ
left_by answer values out = pick (eqb answer.number 0) (values ++ drop (length values) out) out

-- the buffer after a reading
unfoldable pub words_left : ℕ → Kind → List ℕ → List ℕ → List ℕ
words_left limit kind bytes out =
    left_by (told_reading (read_words limit kind bytes (length out))) (straight kind (take limit bytes)).words out

-- the bytes of the words before the first that is refused, and whether none is
pub record Encoded : Type 0 where
  pub bytes : List ℕ
  pub valid : Bool

-- the two bytes of a word, the low one first
abbrev pub pair : ℕ → List ℕ
pair w = w % 256 ∷ w / 256 ∷ []

abbrev pub before_rest : Bool → List ℕ → List ℕ → Encoded → Encoded
before_rest true bytes ws rest = record { bytes = bytes; valid = eqb (length ws) 0 }
before_rest false bytes ws rest = record { bytes = bytes ++ rest.bytes; valid = rest.valid }

abbrev pub given_back : ℕ → Decoded → Decoded
given_back w (Ok (c, next)) = pick (eqb (word_of c) w) (Ok (c, next)) (Err (InvalidWord, 0))
given_back w (Err refused) = Err (InvalidWord, 0)

-- the command of a word: what reading its bytes finds, if that gives the word back
unfoldable pub command_of_word : Kind → ℕ → Decoded
command_of_word kind w = given_back w (command_at kind (pair w) 0)

abbrev pub encoded_by : ℕ → List ℕ → Encoded → Decoded → Encoded
encoded_by w ws rest (Ok (c, next)) = before_rest (is_end c) (take next (pair w)) ws rest
encoded_by w ws rest (Err refused) = record { bytes = []; valid = false }

-- a list whose only end command is its last word
unfoldable pub encoded : Kind → List ℕ → Encoded
encoded kind [] = record { bytes = []; valid = false }
encoded kind (w ∷ ws) = encoded_by w ws (encoded kind ws) (command_of_word kind w)

abbrev pub writing_of : ℕ → Encoded → ℕ → Writing
writing_of limit e room =
    pick e.valid
    (pick (leb (length e.bytes) room) (pick (leb (length e.bytes) limit) (Ok (length e.bytes)) (Err NoRoom)) (Err NoRoom))
    (Err InvalidWord)

unfoldable pub write_words : ℕ → Kind → List ℕ → ℕ → Writing
write_words limit kind words room = writing_of limit (encoded kind words) room

abbrev pub told_writing : Writing → Told
told_writing (Ok count) = record { number = 0; values = count ∷ [] }
told_writing (Err refusal) = record { number = number_of refusal; values = [] }

-- the buffer after a writing
unfoldable pub bytes_left : ℕ → Kind → List ℕ → List ℕ → List ℕ
bytes_left limit kind words out =
    left_by (told_writing (write_words limit kind words (length out))) (encoded kind words).bytes out

-- the bytes up to and including the first end command, of data that have one
unfoldable pub up_to_end : Kind → List ℕ → List ℕ
up_to_end kind bytes = take (straight kind bytes).reach bytes

-- writing the words into a buffer answers the count of these bytes, and they stand at its start
pub record WrittenAs (limit : ℕ) (kind : Kind) (words bytes out : List ℕ) : Type 0 where
  pub answer : write_words limit kind words (length out) ≡ Ok (length bytes)
  pub start : take (length bytes) (bytes_left limit kind words out) ≡ bytes

-- reading the bytes into a buffer answers the count of these words, and they stand at its start
pub record ReadAs (limit : ℕ) (kind : Kind) (bytes words out : List ℕ) : Type 0 where
  pub answer : read_words limit kind bytes (length out) ≡ Ok (length words)
  pub start : take (length words) (words_left limit kind bytes out) ≡ words

-- demand 2, after a reading: its words, written into any buffer with room, give the same bytes, up to and including the first end command
abbrev pub WritesBack : ℕ → Kind → List ℕ → Reading → List ℕ → Type 0
WritesBack limit kind bytes answer after =
    (count : ℕ) → answer ≡ Ok count → (out : List ℕ) → length (up_to_end kind (take limit bytes)) ≤ length out
    → WrittenAs limit kind (take count after) (up_to_end kind (take limit bytes)) out

-- demand 2, after a writing: its bytes, read into any buffer with room, give the same words, whatever stands behind them, and are those up to and including the first end command
abbrev pub ReadsBack : ℕ → Kind → List ℕ → Writing → List ℕ → Type 0
ReadsBack limit kind words answer after =
    (count : ℕ) → answer ≡ Ok count → (bytes : List ℕ) → take count bytes ≡ take count after
    → (up_to_end kind (take limit bytes) ≡ take count after)
    × ((out : List ℕ) → length words ≤ length out → ReadAs limit kind bytes words out)

pub record Reads (limit : ℕ) (kind : Kind) (bytes before : List ℕ) (answer : Reading) (after : List ℕ) : Type 0 where
  pub answered : Answers told_reading answer (read_words limit kind bytes (length before))
  pub buffer : after ≡ words_left limit kind bytes before
  pub back : WritesBack limit kind bytes answer after

pub record Writes (limit : ℕ) (kind : Kind) (words before : List ℕ) (answer : Writing) (after : List ℕ) : Type 0 where
  pub answered : Answers told_writing answer (write_words limit kind words (length before))
  pub buffer : after ≡ bytes_left limit kind words before
  pub back : ReadsBack limit kind words answer after

-- Below: only private contracts and laws use these.

-- how many words there are, the finish, and the buffer with the words as far as they fit
pub record Decodes (s : Straight) (before : List ℕ) (count : ℕ) (finish : Finish) (after : List ℕ) : Type 0 where
  pub counted : count ≡ length s.words
  pub stopped : finish ≡ s.finish
  pub filled : after ≡ sets before 0 s.words

-- how many bytes there are, whether all words are valid, and the buffer with the bytes as far as they fit
pub record Encodes (e : Encoded) (before : List ℕ) (count : ℕ) (valid : Bool) (after : List ℕ) : Type 0 where
  pub counted : count ≡ length e.bytes
  pub judged : valid ≡ e.valid
  pub filled : after ≡ sets before 0 e.bytes

-- 10, 11 and 15: the refusals that a command's bytes can show
pub data Unreadable : Refusal → Type 0 where
  is_10 : Unreadable InvalidCommand
  is_11 : Unreadable InvalidNote
  is_15 : Unreadable PastData

-- a count is within a limit, and a refusal 10, 11 or 15 at an offset within it
abbrev pub ReadWithin : ℕ → Reading → Type 0
ReadWithin limit (Ok count) = count ≤ limit
ReadWithin limit (Err (ReadError.Byte refusal at)) = Unreadable refusal × (at ≤ limit)
ReadWithin limit (Err ReadError.NoRoom) = Unit {0}

-- 17 and 18: the refusals of writing
pub data Unwritable : Refusal → Type 0 where
  is_17 : Unwritable InvalidWord
  is_18 : Unwritable NoRoom

-- a count is within a limit, and a refusal 17 or 18
abbrev pub WroteWithin : ℕ → Writing → Type 0
WroteWithin limit (Ok count) = count ≤ limit
WroteWithin limit (Err refusal) = Unwritable refusal
