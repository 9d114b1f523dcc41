-- What every day keeps, whatever its inputs are.
use Rattle.std.specs.Prelude.{◌≡◌, ℕ, Bool, true, false, ◌==◌, List, ◌∷◌, Some}
use Rattle.std.specs.List.{list_any}
use Rattle.venue_rules.specs.declared.facts.Entry.{Entry}
use Rattle.venue_rules.specs.declared.facts.Fact.{Fact}
use Rattle.venue_rules.specs.declared.facts.Fact.TheVariants.{Entered, Traded, Removed}
use Rattle.venue_rules.specs.declared.facts.Removal.{Removal}
use Rattle.venue_rules.specs.declared.trail.TrailRow.{TrailRow}
use Rattle.venue_rules.specs.Book.{takes_part}
use Rattle.venue_rules.specs.Market.{Market}
use Rattle.venue_rules.specs.MoreInputs.{answer_after}
use Rattle.venue_rules.specs.Run.{Input, owed}
use Rattle.venue_core.specs.Replay.{AreEmitted}
use Rattle.message_words.specs.declared.form.Form.{Form}
use Rattle.trail_answers.specs.Owed.{owed_messages_of, owed_messages_text, messages, owed_to}
use Rattle.trail_answers.specs.declared.scope.Scope.{Scope}
use Rattle.trail_answers.specs.Emitted.{answers, seen_on}
use Rattle.trail_answers.specs.Life.{Life, is_numbered}
use Rattle.trail_answers.specs.Sought.{Seen, seen_after}

-- the messages of a participant are what it is owed, each once, in order
abbrev pub MessagesAreOwed : Type 0
MessagesAreOwed = (m : Market) (who : ℕ) (rs : List TrailRow) (is : List Input) → AreEmitted rs is → messages (owed_messages_of m who rs is) ≡ owed m who is

-- what is printed of one participant are these messages
abbrev pub MessagesAreEmitted : Type 0
MessagesAreEmitted = (form : Form) (m : Market) (who : ℕ) (rs : List TrailRow) (is : List Input) → answers form m (owed_to who) rs is ≡ owed_messages_text form m.participants (owed_messages_of m who rs is)

-- What the facts say of an order.

-- a fact is about the order with a number: it entered, traded, or left the book
abbrev pub is_of : ℕ → Fact → Bool
is_of number (Entered e) = e.number == number
is_of number (Traded t) = takes_part number t.place
is_of number (Removed r) = r.order == number
is_of number _ = false

-- a fact is about the order that is sought, or about one that replaced it
abbrev pub is_of_life : Life → Fact → Bool
is_of_life l f = list_any (λ number. is_of number f) l.numbers

-- a scope that seeks an order
abbrev pub seeks : Scope → ℕ → Scope
seeks scope number = record scope { order = Some number }

-- what is known after a further input
abbrev pub known_after : Market → Scope → List Input → Input → Seen
known_after m scope is i = seen_after scope (seen_on m scope is) i (answer_after m is i).replies

-- No row of an order is left out, on any day. The order that is sought is followed by its number. Each further input
-- keeps the numbers; where it replaces one of these orders, the new order's number comes to them. And where a fact of
-- the answer is about one of them, the row is one of the order's.
pub record OrderIsWhole (m : Market) (scope : Scope) (number : ℕ) (is : List Input) (i : Input) : Type 0 where
  pub sought : is_numbered (seen_on m (seeks scope number) is).life number ≡ true
  pub kept : (n : ℕ) → is_numbered (seen_on m (seeks scope number) is).life n ≡ true → is_numbered (known_after m (seeks scope number) is i).life n ≡ true
  pub followed : (r : Removal) (e : Entry) (facts : List Fact) → (answer_after m is i).facts ≡ Removed r ∷ Entered e ∷ facts
      → is_numbered (seen_on m (seeks scope number) is).life r.order ≡ true → is_numbered (known_after m (seeks scope number) is i).life e.number ≡ true
  pub shown : list_any (is_of_life (known_after m (seeks scope number) is i).life) (answer_after m is i).facts ≡ true → (known_after m (seeks scope number) is i).life.here ≡ true

abbrev pub OrdersAreWhole : Type 0
OrdersAreWhole = (m : Market) (scope : Scope) (number : ℕ) (is : List Input) (i : Input) → OrderIsWhole m scope number is i
