use Rattle.metroid_format.proofs.words.Owed.{reads_short, reads_refused, reads_all}
use Rattle.metroid_format.proofs.words.read_words.Goals as goal

pub returns-then-out-found : goal.returns-then-out-found
returns-then-out-found c = search reads_short depth 10

pub returns-in-Err : goal.returns-in-Err
returns-in-Err c = search reads_refused depth 10

pub returns-in-Ok : goal.returns-in-Ok
returns-in-Ok c = search reads_all depth 10
