use Rattle.std.specs.Prelude.{◌≡◌, ℕ, ◌+◌, ◌&&◌, List, [], ◌∷◌, ◌++◌, length, map}
use Rattle.std.specs.List.{enumerate_from}
use Rattle.venue_rules.specs.declared.replies.Reply.{Reply}
use Rattle.fix_dictionary.specs.declared.messages.App.{App}
use Rattle.venue_rules.specs.Market.{Market}
use Rattle.venue_rules.specs.Answer.{Answer}
use Rattle.venue_rules.specs.Messages.{message}
use Rattle.venue_rules.specs.Run.{Input, after, answer_input, is_timely, is_timely_from, is_timely_input, owed, replies_to, row, rows, run, run_from}

-- The effect of one further input, and of several.

-- the answer to an input after these
abbrev pub answer_after : Market → List Input → Input → Answer
answer_after m is i = answer_input m (run m is).history i

-- the messages of the replies to one participant
abbrev pub said_to : ℕ → List Reply → List App
said_to who rs = map (λ r. message r.what) (replies_to who rs)

-- the history is that after the answer
abbrev pub HistoryGoesOn : Type 0
HistoryGoesOn = (m : Market) (is : List Input) (i : Input) → (run m (is ++ i ∷ [])).history ≡ after (run m is).history (answer_after m is i)

-- the answer's replies are appended
abbrev pub RepliesGoOn : Type 0
RepliesGoOn = (m : Market) (is : List Input) (i : Input) → (run m (is ++ i ∷ [])).replies ≡ (run m is).replies ++ (answer_after m is i).replies

-- and so are their messages to what each participant is owed
abbrev pub OwedGoesOn : Type 0
OwedGoesOn = (m : Market) (is : List Input) (i : Input) (who : ℕ) → owed m who (is ++ i ∷ []) ≡ owed m who is ++ said_to who (answer_after m is i).replies

-- the list is timely where the earlier one was, and the input is timely in their history
abbrev pub TimelyGoesOn : Type 0
TimelyGoesOn = (m : Market) (is : List Input) (i : Input) → is_timely m (is ++ i ∷ []) ≡ (is_timely m is && is_timely_input (run m is).history i)

-- the input's row is appended, with the next number
abbrev pub RowsGoOn : Type 0
RowsGoOn = (is : List Input) (i : Input) → rows (is ++ i ∷ []) ≡ rows is ++ row (length is + 1) i ∷ []

-- of any further inputs: the venue goes on from the history so far
abbrev pub HistoriesJoin : Type 0
HistoriesJoin = (m : Market) (is js : List Input) → (run m (is ++ js)).history ≡ (run_from m (run m is).history js).history

abbrev pub RepliesJoin : Type 0
RepliesJoin = (m : Market) (is js : List Input) → (run m (is ++ js)).replies ≡ (run m is).replies ++ (run_from m (run m is).history js).replies

abbrev pub OwedJoins : Type 0
OwedJoins = (m : Market) (is js : List Input) (who : ℕ) → owed m who (is ++ js) ≡ owed m who is ++ said_to who (run_from m (run m is).history js).replies

abbrev pub TimelyJoins : Type 0
TimelyJoins = (m : Market) (is js : List Input) → is_timely m (is ++ js) ≡ (is_timely m is && is_timely_from m (run m is).history js)

abbrev pub RowsJoin : Type 0
RowsJoin = (is js : List Input) → rows (is ++ js) ≡ rows is ++ map (λ p. row p.0 p.1) (enumerate_from (length is + 1) js)
