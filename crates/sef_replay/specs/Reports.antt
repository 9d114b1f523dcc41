-- The output of a report on a trail, and why it is refused.
use Rattle.std.specs.Prelude.{ℕ, List, Option, None, Some}
use Rattle.sqlite.specs.Effect.{Database}
use Rattle.sef_replay.specs.declared.failure.Failure.{Failure}
use Rattle.trail_questions.specs.declared.question.Question.{Question}
use Rattle.sef_replay.specs.declared.form.Form.TheVariants.{Lines}
use Rattle.sef_replay.specs.Asked.{BeginsAskedOf, EmitsAskedOf, IsAskedFailureOf}
use Rattle.sef_replay.specs.Day.{BeginsDay, EmitsDay, IsFailureOf}

-- the output is the answer to the question, and the trades of the day where there is none
abbrev pub EmitsWanted : Option Question → Database → (before after : Option (List ℕ)) → Type 0
EmitsWanted None db before after = EmitsDay Lines db before after
EmitsWanted (Some question) db before after = EmitsAskedOf question db before after

-- where an allocation fails it may be a first part
abbrev pub BeginsWanted : Option Question → Database → (before after : Option (List ℕ)) → Type 0
BeginsWanted None db before after = BeginsDay Lines db before after
BeginsWanted (Some question) db before after = BeginsAskedOf question db before after

-- the program ends so for a reason
abbrev pub IsWantedFailure : Option Question → (before after : Option (List ℕ)) → Database → Failure → Type 0
IsWantedFailure None before after db failure = IsFailureOf db failure
IsWantedFailure (Some question) before after db failure = IsAskedFailureOf question before after db failure
