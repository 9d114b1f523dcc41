-- A day as one participant has it: what it sent, and what it was owed at each answer.
use Rattle.std.specs.Prelude.{ℕ, ◌==◌, List, [], ◌∷◌, ◌++◌, map, Option, Some, None, if◌then◌else◌}
use Rattle.std.specs.List.{cons_option, flat_map}
use Rattle.fix_dictionary.specs.declared.messages.App.{App}
use Rattle.venue_rules.specs.declared.replies.Reply.{Reply}
use Rattle.venue_rules.specs.Facts.{History, no_history}
use Rattle.venue_rules.specs.Market.{Market}
use Rattle.venue_rules.specs.Messages.{message}
use Rattle.venue_rules.specs.Run.{Input, Message, Tick, after, answer_input, replies_to}

-- A row at which a participant sent a message or was owed one: the moment, what it sent (nothing where another's
-- message or the clock is answered), and what it was owed at the answer, in order.
pub record Turn : Type 0 where
  pub moment : ℕ
  pub sent : Option App
  pub owed : List App

abbrev pub moment_of : Input → ℕ
moment_of (Message taken t) = t
moment_of (Tick t) = t

-- what a participant sends by an input
abbrev pub sent_by : ℕ → Input → Option App
sent_by who (Message taken t) = if taken.from == who then Some taken.item.app else None
sent_by who (Tick t) = None

abbrev pub to_messages : List Reply → List App
to_messages rs = map (λ (r : Reply). message r.what) rs

-- what it is owed at an answer
abbrev pub owed_at : ℕ → List Reply → List App
owed_at who replies = to_messages (replies_to who replies)

-- a row at which it neither sent nor was owed anything is no turn
abbrev pub turns_at : ℕ → Option App → List App → List Turn
turns_at t None [] = []
turns_at t None (x ∷ xs) = record { moment = t; sent = None; owed = x ∷ xs } ∷ []
turns_at t (Some sent) owed = record { moment = t; sent = Some sent; owed = owed } ∷ []

abbrev pub turns_by : ℕ → Input → List Reply → List Turn
turns_by who i replies = turns_at (moment_of i) (sent_by who i) (owed_at who replies)

-- the turns of a participant by inputs, one after another, from a history on
abbrev pub turns_from : Market → ℕ → History → List Input → List Turn
turns_from m who h [] = []
turns_from m who h (i ∷ is) = turns_by who i (answer_input m h i).replies ++ turns_from m who (after h (answer_input m h i)) is

-- and on a day
abbrev pub turns_of : Market → ℕ → List Input → List Turn
turns_of m who is = turns_from m who no_history is

-- its own messages of a day, each with its moment
abbrev pub sent_with : ℕ → Option App → List (ℕ × App)
sent_with t None = []
sent_with t (Some a) = (t, a) ∷ []

abbrev pub sent : ℕ → List Input → List (ℕ × App)
sent who is = flat_map (λ i. sent_with (moment_of i) (sent_by who i)) is

-- what was sent, and what was owed, by turns
abbrev pub messages_sent : List Turn → List (ℕ × App)
messages_sent ts = flat_map (λ t. sent_with t.moment t.sent) ts

abbrev pub messages_owed : List Turn → List App
messages_owed ts = flat_map (λ t. t.owed) ts
