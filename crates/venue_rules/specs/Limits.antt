use Rattle.std.specs.Prelude.{◌≡◌, ℕ, ◌+◌, ◌≤◌, List, [], ◌∷◌, length}
use Rattle.fix_dictionary.specs.declared.values.Side.{Side}
use Rattle.venue_rules.specs.declared.trail.TrailRow.{TrailRow}
use Rattle.venue_rules.specs.Market.{Market}
use Rattle.venue_rules.specs.Book.{resting, side_capacity}
use Rattle.venue_rules.specs.Requests.{open_room}
use Rattle.venue_rules.specs.Rooms.{live_quotes, open_rooms}
use Rattle.venue_rules.specs.Run.{Input, Message, Tick, replies_to, rows, run}
use Rattle.venue_rules.specs.MoreInputs.{answer_after}
use Rattle.venue_rules.specs.Answer.{Sender}
use Rattle.venue_rules.specs.Withdrawals.{answer_withdrawal}
use Rattle.fix_dictionary.specs.declared.messages.QuoteCancel.{QuoteCancel}

-- Limits over a list of inputs; those of rooms and quotes where the moments do not fall.

-- at most 200 orders rest on a side of an instrument
abbrev pub SidesAreShort : Market → List Input → Type 0
SidesAreShort m is = (x : ℕ) (side : Side) → length (resting (run m is).history.facts x side) ≤ side_capacity

abbrev pub moment_of : Input → ℕ
moment_of (Message taken t) = t
moment_of (Tick t) = t

-- the inputs' moments do not fall, from one moment to another
abbrev pub IsRising : ℕ → List Input → ℕ → Type 0
IsRising from [] to = from ≤ to
IsRising from (i ∷ is) to = (from ≤ moment_of i) × IsRising (moment_of i) is to

-- rows as a trail requires them: numbered on from the last, at moments that do not fall
abbrev pub AreInOrder : ℕ → ℕ → List TrailRow → Type 0
AreInOrder before last [] = Unit {0}
AreInOrder before last (r ∷ rs) = ((r.n ≡ before + 1) × (last ≤ r.moment)) × AreInOrder (before + 1) r.moment rs

abbrev pub RowsAreInOrder : Type 0
RowsAreInOrder = (is : List Input) (to : ℕ) → IsRising 0 is to → AreInOrder 0 0 (rows is)

-- at a moment no earlier than the last input's, at most 1,000 rooms are open
abbrev pub OpenRoomsAreFew : Market → List Input → Type 0
OpenRoomsAreFew m is = (t : ℕ) → IsRising 0 is t → length (open_rooms (run m is).history.facts t) ≤ open_room

-- and at most as many quotes of one participant are live, all withdrawn by one message at most
abbrev pub LiveQuotesAreFew : Market → List Input → Type 0
LiveQuotesAreFew m is = (t maker : ℕ) → IsRising 0 is t → length (live_quotes (run m is).history.facts maker t) ≤ open_room

-- a withdrawal sends nobody more replies than that
abbrev pub WithdrawalsAreFew : Market → List Input → Type 0
WithdrawalsAreFew m is = (t j : ℕ) (s : Sender) (d : QuoteCancel) → IsRising 0 is t → length (replies_to j (answer_withdrawal m (run m is).history s d t).replies) ≤ open_room

-- the most replies that one input adds for one participant
abbrev pub reply_room : ℕ
reply_room = 1536

abbrev pub RepliesAreFew : Market → Type 0
RepliesAreFew m = (is : List Input) (i : Input) (j : ℕ) → IsRising 0 is (moment_of i) → length (replies_to j (answer_after m is i).replies) ≤ reply_room
