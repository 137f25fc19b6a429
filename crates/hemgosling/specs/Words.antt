-- What reading and writing of words owe a host.
use Rattle.std.specs.Prelude.{ℕ, List, ◌≡◌, eqb, length}
use Rattle.engine_base.specs.Pick.{pick}
use Rattle.metroid_format.specs.Command.{data_limit}
use Rattle.metroid_format.specs.Words.{read_words, words_left, told_reading, WritesBack, write_words, bytes_left, told_writing, ReadsBack}
use Rattle.metroid_format.specs.declared.command.Kind.{Kind}
use Rattle.metroid_format.specs.declared.command.Kind.TheVariants.{Melodic, Noise}
use Rattle.hemgosling.specs.Tell.{Tells}

abbrev pub kind_of : ℕ → Kind
kind_of noise = pick (eqb noise 0) Melodic Noise

-- the answer told, the buffer of words, and the way back
pub record ReadsInto (kind : Kind) (bytes words before : List ℕ) (number : ℕ) (words' after : List ℕ) : Type 0 where
  pub told : Tells (told_reading (read_words data_limit kind bytes (length words))) before number after
  pub buffer : words' ≡ words_left data_limit kind bytes words
  pub back : WritesBack data_limit kind bytes (read_words data_limit kind bytes (length words)) words'

-- the answer told, the buffer of bytes, and the way back
pub record WritesInto (kind : Kind) (words bytes before : List ℕ) (number : ℕ) (bytes' after : List ℕ) : Type 0 where
  pub told : Tells (told_writing (write_words data_limit kind words (length bytes))) before number after
  pub buffer : bytes' ≡ bytes_left data_limit kind words bytes
  pub back : ReadsBack data_limit kind words (write_words data_limit kind words (length bytes)) bytes'
