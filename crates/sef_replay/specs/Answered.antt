-- The answer to a question in words, of the bytes of a trail's files.
use Rattle.std.specs.Prelude.{ℕ, List, Option, Some}
use Rattle.std.specs.Io.KnownBytes.{Keeps}
use Rattle.trail_questions.specs.Words.{IsMisspelt, Spells}
use Rattle.trail_questions.specs.declared.question.Question.{Question}
use Rattle.trail_questions.specs.declared.words.AskedWords.{AskedWords}
use Rattle.sef_replay.specs.declared.answering.WordsFailure.{WordsFailure}
use Rattle.sef_replay.specs.declared.answering.WordsFailure.TheVariants.{Failed, Misspelt}
use Rattle.sef_replay.specs.declared.copied.Copied.{Copied}
use Rattle.sef_replay.specs.declared.failure.Failure.{Failure}
use Rattle.sef_replay.specs.Copied.{EmitsOver, FailsOver}
use Rattle.sef_replay.specs.Day.{UnlessPrinting}

-- the output is the answer to the question that the words ask
pub record AnswersWords (words : AskedWords) (copied : Copied) (before after : Option (List ℕ)) : Type 0 where
  pub question : Question
  pub spelled : Spells words question
  pub emits : EmitsOver (Some question) copied.log.items copied.db.items before after

-- it is not answered, for a reason that the bytes have
pub record RefusesWords (words : AskedWords) (copied : Copied) (before after : Option (List ℕ)) (failure : Failure) : Type 0 where
  pub question : Question
  pub spelled : Spells words question
  pub fails : FailsOver (Some question) copied.log.items copied.db.items before after failure
  pub unwritten : UnlessPrinting failure (Keeps before after)

-- or the words ask none, since one has not its form
abbrev pub FailsToAnswer : AskedWords → Copied → (before after : Option (List ℕ)) → WordsFailure → Type 0
FailsToAnswer words copied before after (Misspelt what) = IsMisspelt words what × Keeps before after
FailsToAnswer words copied before after (Failed failure) = RefusesWords words copied before after failure
