use Rattle.std.specs.Prelude.{ℕ, ◌+◌, Bool, true, false, ◌&&◌, ◌==◌, List, [], ◌∷◌, ◌++◌, map, filter, Some, None, is_some, is_none, Option}
use Rattle.std.specs.List.{count_by, enumerate_from}
use Rattle.fix_dictionary.specs.declared.messages.App.{App}
use Rattle.fix_dictionary.specs.Text.{app_text}
use Rattle.venue_rules.specs.declared.replies.Reply.{Reply}
use Rattle.venue_rules.specs.declared.replies.ReplyBody.{ReplyBody}
use Rattle.venue_rules.specs.declared.replies.ReplyBody.TheVariants.{OrderRefused, CrossRefused, OrderEntered, OrderFilled, OrderUnfilled, OrderCancelled, OrderReplaced, RoomTraded}
use Rattle.venue_rules.specs.declared.trail.Taken.{Taken}
use Rattle.venue_rules.specs.declared.trail.TrailRow.{TrailRow}
use Rattle.venue_rules.specs.Market.{Market}
use Rattle.venue_rules.specs.declared.facts.HeldSide.{HeldSide}
use Rattle.venue_rules.specs.Facts.{History, no_history}
use Rattle.venue_rules.specs.Delay.{due}
use Rattle.venue_rules.specs.Answer.{Answer, no_answer}
use Rattle.venue_rules.specs.Answers.{answer}
use Rattle.venue_rules.specs.Crosses.{answer_due}
use Rattle.venue_rules.specs.Messages.{message}

-- one input of the venue: a message taken at a moment, or a tick at a moment
pub data Input : Type 0 where
  Message : Taken → ℕ → Input
  Tick : ℕ → Input

-- an execution report (message 8)
abbrev pub is_report : ReplyBody → Bool
is_report (OrderRefused r) = true
is_report (CrossRefused r) = true
is_report (OrderEntered r) = true
is_report (OrderFilled r) = true
is_report (OrderUnfilled r) = true
is_report (OrderCancelled r) = true
is_report (OrderReplaced r) = true
is_report (RoomTraded r) = true
is_report _ = false

-- the answer to a tick, by the first held side due, if any
abbrev pub answer_due_of : Market → History → Option HeldSide → Answer
answer_due_of m h None = no_answer
answer_due_of m h (Some k) = answer_due m h k

-- the answer to an input
abbrev pub answer_input : Market → History → Input → Answer
answer_input m h (Message taken t) = answer m h taken t
answer_input m h (Tick t) = answer_due_of m h (due h.facts t)

-- the history after an answer
abbrev pub after : History → Answer → History
after h a = record { facts = h.facts ++ a.facts; reports = h.reports + count_by (λ (r : Reply). is_report r.what) a.replies }

-- the result of a list of inputs: the history, and all replies in order
pub record Outcome : Type 0 where
  pub history : History
  pub replies : List Reply

-- the venue from a history on
abbrev pub run_from : Market → History → List Input → Outcome
run_from m h [] = record { history = h; replies = [] }
run_from m h (i ∷ is) =
    let a = answer_input m h i in
    let rest = run_from m (after h a) is in
    record { history = rest.history; replies = a.replies ++ rest.replies }

-- the venue from its opening on
abbrev pub run : Market → List Input → Outcome
run m is = run_from m no_history is

-- a tick finds a side due, a message finds none
abbrev pub is_timely_input : History → Input → Bool
is_timely_input h (Message taken t) = is_none (due h.facts t)
is_timely_input h (Tick t) = is_some (due h.facts t)

abbrev pub is_timely_from : Market → History → List Input → Bool
is_timely_from m h [] = true
is_timely_from m h (i ∷ is) = is_timely_input h i && is_timely_from m (after h (answer_input m h i)) is

abbrev pub is_timely : Market → List Input → Bool
is_timely m is = is_timely_from m no_history is

-- the replies to one participant
abbrev pub replies_to : ℕ → List Reply → List Reply
replies_to who rs = filter (λ r. r.to == who) rs

-- the messages owed to a participant; their texts are what its session sends
abbrev pub owed : Market → ℕ → List Input → List App
owed m who is = map (λ r. message r.what) (replies_to who (run m is).replies)

-- the row of an input; `who` is the participant's place plus 1, and a tick has who 0, era 0, number 0, no text
abbrev pub row : ℕ → Input → TrailRow
row n (Message taken t) = record { n = n; who = taken.from + 1; era = taken.item.era; number = taken.item.number; moment = t; text = app_text taken.item.app }
row n (Tick t) = record { n = n; who = 0; era = 0; number = 0; moment = t; text = [] }

-- the k-th row has number k, from 1
abbrev pub rows : List Input → List TrailRow
rows is = map (λ p. row p.0 p.1) (enumerate_from 1 is)
