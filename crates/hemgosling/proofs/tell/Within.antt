-- What is told is within what telling asks: a count fits a word, a place is in one of four channels.
use Prim.Native.Nat.{ℕ, ◌≤◌}
use mathlib.Core.List.{List}
use Rattle.std.specs.Result.{IfOk}
use Rattle.std.specs.declared.result.Result.{Result}
use Rattle.std.specs.declared.result.Result.TheVariants.{Ok, Err}
use Rattle.engine_base.specs.declared.answer.Answer.{Answer}
use Rattle.engine_base.specs.declared.refusal.Refusal.{Refusal}
use Rattle.metroid_format.specs.Command.{data_limit}
use Rattle.metroid_format.specs.Words.{WroteWithin, write_words}
use Rattle.metroid_format.specs.Mend.{MendedWithin, mending}
use Rattle.metroid_format.specs.declared.bank.Places.{Places}
use Rattle.metroid_format.specs.declared.command.Kind.{Kind}
use Rattle.metroid_format.proofs.words.Within.{wrote_within}
use Rattle.metroid_format.proofs.mend.Owed.{mended_within}
use Rattle.metroid_player.specs.Frame.{AnswerWithin, frame_of}
use Rattle.metroid_player.specs.declared.record.Player.{Player}
use Rattle.metroid_player.proofs.frame.Place.{frame_within}
use Rattle.mother_format.specs.declared.bank.Places.{Places as MotherPlaces}
use Rattle.mother_player.specs.Frame.{frame_of as mother_frame_of}
use Rattle.mother_player.specs.declared.record.Player.{Player as MotherPlayer}
use Rattle.mother_player.proofs.frame.Place.{AnswerWithin as MotherAnswerWithin, frame_within as mother_frame_within}
use Rattle.hemgosling.specs.Tell.{Placed}

-- counts of bytes and of changes
few_if_mended : (limit : ℕ) (x : Result ℕ Refusal) → MendedWithin limit x → IfOk x (λ count. count ≤ limit)
few_if_mended limit (Ok count) h = h
few_if_mended limit (Err refusal) h = tt

pub few_mended : (kind : Kind) (bytes : List ℕ) (room : ℕ) → IfOk (mending data_limit kind bytes room) (λ count. count ≤ data_limit)
few_mended kind bytes room = few_if_mended _ _ (mended_within _ _ _ _)

few_if_written : (limit : ℕ) (x : Result ℕ Refusal) → WroteWithin limit x → IfOk x (λ count. count ≤ limit)
few_if_written limit (Ok count) h = h
few_if_written limit (Err refusal) h = tt

pub few_written : (kind : Kind) (words : List ℕ) (room : ℕ) → IfOk (write_words data_limit kind words room) (λ count. count ≤ data_limit)
few_written kind words room = few_if_written _ _ (wrote_within _ _ _ _)

-- places of a frame's refusal
placed : (start : ℕ → ℕ) (a : Answer) → AnswerWithin start 4 a → Placed a
placed start Answer.Events p = tt
placed start Answer.End p = tt
placed start Answer.Stopped p = tt
placed start (Answer.Refused refusal) p = tt
placed start (Answer.Fault refusal i at address) p = p.0

pub frame_placed : (bank : List ℕ) (places : Places) (track : ℕ) (player : Player) → Placed (frame_of bank places track player).answer
frame_placed bank places track player = placed _ _ (frame_within _ _ _ _)

mother_placed : (a : Answer) → MotherAnswerWithin 4 a → Placed a
mother_placed Answer.Events p = tt
mother_placed Answer.End p = tt
mother_placed Answer.Stopped p = tt
mother_placed (Answer.Refused refusal) p = tt
mother_placed (Answer.Fault refusal i at address) p = p.0

pub mother_frame_placed : (bank8 banka : List ℕ) (places : MotherPlaces) (track : ℕ) (player : MotherPlayer) →
    Placed (mother_frame_of bank8 banka places track player).answer
mother_frame_placed bank8 banka places track player = mother_placed _ (mother_frame_within _ _ _ _ _)
