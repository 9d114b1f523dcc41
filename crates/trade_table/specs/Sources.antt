-- How each trade that the replies at a row report was made.
use Rattle.std.specs.Prelude.{ℕ, Bool, true, false, ◌&&◌, ◌==◌, List, [], ◌∷◌, ◌++◌, Option, Some, None, bytes_eq, is_none, if◌then◌else◌}
use Rattle.std.specs.List.{flat_map}
use Rattle.fix_dictionary.specs.declared.messages.App.{App}
use Rattle.fix_dictionary.specs.declared.messages.App.TheVariants.{NewOrderCross, Quote, QuoteResponse}
use Rattle.fix_dictionary.specs.declared.messages.NewOrderCross.{NewOrderCross as CrossMessage}
use Rattle.venue_rules.specs.declared.replies.FilledReport.{FilledReport}
use Rattle.venue_rules.specs.declared.replies.Reply.{Reply}
use Rattle.venue_rules.specs.declared.replies.ReplyBody.{ReplyBody}
use Rattle.venue_rules.specs.declared.replies.ReplyBody.TheVariants as what
use Rattle.venue_rules.specs.declared.replies.RoomReport.{RoomReport}
use Rattle.venue_rules.specs.declared.trail.Taken.{Taken}
use Rattle.venue_rules.specs.declared.trail.TrailRow.{TrailRow}
use Rattle.venue_rules.specs.Rooms.{printed}
use Rattle.trade_table.specs.declared.execution.CrossEntered.{CrossEntered}
use Rattle.trade_table.specs.declared.execution.Execution.{Execution}
use Rattle.trade_table.specs.declared.execution.Known.{Known}
use Rattle.trade_table.specs.declared.execution.Known.TheVariants as known
use Rattle.trade_table.specs.declared.execution.Source.{Source}
use Rattle.trade_table.specs.declared.execution.Source.TheVariants as source
use Rattle.trade_table.specs.declared.execution.SideFilled.{SideFilled}

-- What is looked up later: each quote that the requester was sent, with its maker's own identifier (117), and the first
-- side of each cross as it entered, with the identifier of the other.

abbrev pub quoted_in : App → Option (List ℕ)
quoted_in (Quote d) = Some d.quote_id
quoted_in _ = None

abbrev pub crossed_in : App → Option CrossMessage
crossed_in (NewOrderCross d) = Some d
crossed_in _ = None

abbrev pub quote_sent : List ℕ → ReplyBody → List Known
quote_sent id (what.QuoteSent q) = known.Quote (record { number = q.quote; id = id }) ∷ []
quote_sent id _ = []

abbrev pub quote_known : Option (List ℕ) → ReplyBody → List Known
quote_known None x = []
quote_known (Some id) x = quote_sent id x

-- the identifier of the other side of a cross
abbrev pub other_side : CrossMessage → List ℕ → List ℕ
other_side d id = if bytes_eq id d.first.order_id then d.second.order_id else d.first.order_id

abbrev pub side_entered : CrossMessage → ℕ → List ℕ → Option ℕ → List Known
side_entered d who id None = []
side_entered d who id (Some order) = known.Cross (record { order = order; who = who; second = other_side d id; cross = d.cross_id }) ∷ []

abbrev pub side_what : CrossMessage → ℕ → ReplyBody → List Known
side_what d who (what.OrderEntered r) = side_entered d who r.id r.order
side_what d who _ = []

abbrev pub cross_known : Option CrossMessage → ℕ → ReplyBody → List Known
cross_known None who x = []
cross_known (Some d) who x = side_what d who x

abbrev pub known_by : App → Reply → List Known
known_by a r = quote_known (quoted_in a) r.what ++ cross_known (crossed_in a) r.to r.what

-- by the replies to a message
abbrev pub known_at : Option Taken → List Reply → List Known
known_at None replies = []
known_at (Some taken) replies = flat_map (known_by taken.item.app) replies

-- Look-up, of the newest first.

abbrev pub or : {A : Type 0} → Option A → Option A → Option A
or None other = other
or (Some x) other = Some x

abbrev pub newest : {A B : Type 0} → (A → Option B) → List A → Option B
newest pick [] = None
newest pick (x ∷ xs) = or (newest pick xs) (pick x)

abbrev pub id_of : List ℕ → Known → Option (List ℕ)
id_of quote (known.Quote q) = if bytes_eq (printed 81 q.number) quote then Some q.id else None
id_of quote (known.Cross x) = None

-- the maker's own identifier of the quote that a message names
abbrev pub own_id : List Known → List ℕ → Option (List ℕ)
own_id ks quote = newest (id_of quote) ks

abbrev pub joins : CrossEntered → SideFilled → SideFilled → Bool
joins x entering resting = x.order == resting.order && (x.who == entering.who && bytes_eq x.second entering.id)

abbrev pub cross_of : SideFilled → SideFilled → Known → Option (List ℕ)
cross_of entering resting (known.Cross x) = if joins x entering resting then Some x.cross else None
cross_of entering resting (known.Quote q) = None

-- the cross whose second side and first side these are; a second side enters at a tick alone
abbrev pub cross_joined : List Known → Bool → SideFilled → SideFilled → Option (List ℕ)
cross_joined ks true entering resting = newest (cross_of entering resting) ks
cross_joined ks false entering resting = None

-- A trade in the book: two reports of a fill, one behind the other, that on the entering order first.

abbrev pub side_filled : ℕ → FilledReport → Option ℕ → Option SideFilled
side_filled to f None = None
side_filled to f (Some order) = Some (record { trade = f.trade; who = to; order = order; id = f.order.id; side = f.order.side })

abbrev pub filled_what : ℕ → ReplyBody → Option SideFilled
filled_what to (what.OrderFilled f) = side_filled to f f.order.order
filled_what to _ = None

abbrev pub filled_by : Reply → Option SideFilled
filled_by r = filled_what r.to r.what

abbrev pub executed : TrailRow → ℕ → Source → Execution
executed r trade from = record { trade = trade; row = r.n; moment = r.moment; source = from }

abbrev pub matched : TrailRow → Option Taken → List Known → SideFilled → SideFilled → Execution
matched r taken ks entering resting = executed r resting.trade (source.Book (record { entering = entering; resting = resting; at_tick = is_none taken; cross = cross_joined ks (is_none taken) entering resting }))

abbrev pub if_matched : TrailRow → Option Taken → List Known → SideFilled → SideFilled → List Execution
if_matched r taken ks entering resting = if entering.trade == resting.trade then matched r taken ks entering resting ∷ [] else []

abbrev pub book_made : TrailRow → Option Taken → List Known → Option SideFilled → Option SideFilled → List Execution
book_made r taken ks None now = []
book_made r taken ks (Some entering) None = []
book_made r taken ks (Some entering) (Some resting) = if_matched r taken ks entering resting

-- A trade in a room: the report to the requester, which has the identifier of its response, to a message that names the
-- quote.

abbrev pub responded : App → Option (List ℕ)
responded (QuoteResponse d) = Some d.quote_id
responded _ = None

abbrev pub responded_in : Option Taken → Option (List ℕ)
responded_in None = None
responded_in (Some taken) = responded taken.item.app

abbrev pub hit : TrailRow → List Known → RoomReport → Option (List ℕ) → Option (List ℕ) → List Execution
hit r ks t None quote = []
hit r ks t (Some response) None = []
hit r ks t (Some response) (Some quote) = executed r t.trade (source.Room (record { quote = quote; side = t.side; id = own_id ks quote })) ∷ []

abbrev pub room_made : TrailRow → Option Taken → List Known → ReplyBody → List Execution
room_made r taken ks (what.RoomTraded t) = hit r ks t t.response_id (responded_in taken)
room_made r taken ks _ = []

-- the trades that a reply reports, behind a report of a fill
abbrev pub made_by : TrailRow → Option Taken → List Known → Option SideFilled → Reply → List Execution
made_by r taken ks before x = book_made r taken ks before (filled_by x) ++ room_made r taken ks x.what

abbrev pub made_after : TrailRow → Option Taken → List Known → Option SideFilled → List Reply → List Execution
made_after r taken ks before [] = []
made_after r taken ks before (x ∷ xs) = made_by r taken ks before x ++ made_after r taken ks (filled_by x) xs

-- those of a row
abbrev pub made_at : TrailRow → Option Taken → List Known → List Reply → List Execution
made_at r taken ks replies = made_after r taken ks None replies
