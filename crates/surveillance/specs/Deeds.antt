-- What is counted of each participant.
use Rattle.std.specs.Prelude.{ℕ, zero, suc, ◌+◌, ◌-◌, ◌==◌, ◌&&◌, ◌||◌, Bool, true, false, List, [], ◌∷◌, ◌++◌, count_by, filter, is_none, Option, Some, None}
use Rattle.std.specs.BTreeMap.{insert_entry, is_at}
use Rattle.std.specs.List.{list_any}
use Rattle.std.specs.Map.{lookup}
use Rattle.venue_rules.specs.declared.trail.TradeFact.{TradeFact}
use Rattle.day_events.specs.declared.event.Event.{Event}
use Rattle.day_events.specs.declared.event.NewQuote.{NewQuote}
use Rattle.day_events.specs.declared.event.What.{What}
use Rattle.day_events.specs.declared.event.What.TheVariants as what
use Rattle.surveillance.specs.declared.deeds.Act.{Act}
use Rattle.surveillance.specs.declared.deeds.Act.TheVariants as act
use Rattle.surveillance.specs.declared.deeds.Deed.{Deed}
use Rattle.surveillance.specs.declared.own_name.OwnName.{OwnName}
use Rattle.surveillance.specs.Names.{own, own_cmp}

abbrev pub deed : Act → ℕ → ℕ → Deed
deed a who other = record { act = a; who = who; other = other }

-- the sender of a row, by its place
abbrev pub sender : Event → ℕ
sender e = e.at.from - 1

-- The quotes of each maker, by the identifier (131) of their room: one that replaces an earlier quote counts no more.

abbrev pub Quotes : Type 0
Quotes = List (OwnName × ℕ)

abbrev pub put_quote_in : Quotes → ℕ → Option (List ℕ) → NewQuote → Quotes
put_quote_in qs who None x = qs
put_quote_in qs who (Some room) x = insert_entry own_cmp qs (own who room) x.quote

abbrev pub put_quote : Quotes → Event → What → Quotes
put_quote qs e (what.Quoted x) = put_quote_in qs (sender e) e.at.named x
put_quote qs e _ = qs

abbrev pub quote_at : Quotes → ℕ → List ℕ → Option ℕ
quote_at qs who room = lookup (is_at (own_cmp (own who room))) qs

abbrev pub is_first_in : Quotes → ℕ → Option (List ℕ) → Bool
is_first_in qs who None = true
is_first_in qs who (Some room) = is_none (quote_at qs who room)

abbrev pub quote_deed : Bool → ℕ → ℕ → List Deed
quote_deed true who other = deed act.Quoted who other ∷ []
quote_deed false who other = []

-- a room trades: the maker is answered without the identifier of a response (693)
abbrev pub hit_in : Option (List ℕ) → ℕ → List Deed
hit_in None who = deed act.Hit who who ∷ []
hit_in (Some response) who = []

abbrev pub cancel_in : Option ℕ → ℕ → List Deed
cancel_in None who = []
cancel_in (Some order) who = deed act.Cancelled who who ∷ []

-- an order enters, is replaced or is cancelled; a request asks; a maker's first quote in a room goes to its requester,
-- and one of its quotes there is hit
abbrev pub deeds_by : Quotes → Event → What → List Deed
deeds_by qs e (what.Entered x) = deed act.Entered e.to e.to ∷ []
deeds_by qs e (what.Replaced x) = deed act.Replaced e.to e.to ∷ []
deeds_by qs e (what.Cancelled order) = cancel_in order e.to
deeds_by qs e (what.Asked x) = deed act.Asked (sender e) e.to ∷ []
deeds_by qs e (what.Quoted x) = quote_deed (is_first_in qs (sender e) e.at.named) (sender e) e.to
deeds_by qs e (what.Traded x) = hit_in x.response e.to
deeds_by qs e _ = []

abbrev pub deeds_from : Quotes → List Event → List Deed
deeds_from qs [] = []
deeds_from qs (e ∷ es) = deeds_by qs e e.what ++ deeds_from (put_quote qs e e.what) es

abbrev pub deeds : List Event → List Deed
deeds es = deeds_from [] es

abbrev pub is_same : Act → Act → Bool
is_same act.Entered act.Entered = true
is_same act.Replaced act.Replaced = true
is_same act.Cancelled act.Cancelled = true
is_same act.Asked act.Asked = true
is_same act.Quoted act.Quoted = true
is_same act.Hit act.Hit = true
is_same _ _ = false

abbrev pub is_deed : Act → ℕ → Deed → Bool
is_deed a who d = is_same a d.act && d.who == who

-- how often a participant did this
abbrev pub times : Act → ℕ → List Deed → ℕ
times a who ds = count_by (is_deed a who) ds

-- orders and replacements
abbrev pub is_order : ℕ → Deed → Bool
is_order who d = (is_same act.Entered d.act || is_same act.Replaced d.act) && d.who == who

abbrev pub orders_times : ℕ → List Deed → ℕ
orders_times who ds = count_by (is_order who) ds

-- a trade of its in the book
abbrev pub is_book_trade : ℕ → TradeFact → Bool
is_book_trade who t = is_none t.room && (t.buyer == who || t.seller == who)

abbrev pub book_trades : ℕ → List TradeFact → ℕ
book_trades who ts = count_by (is_book_trade who) ts

-- whom it asked

abbrev pub asked_by : ℕ → List Deed → List Deed
asked_by who ds = filter (is_deed act.Asked who) ds

abbrev pub was_asked : List Deed → ℕ → Bool
was_asked ds other = list_any (λ d. d.other == other) ds

-- how many of these went to this one
abbrev pub asked_times : List Deed → ℕ → ℕ
asked_times ds other = count_by (λ d. d.other == other) ds

-- participants, by their places
abbrev pub places_from : ℕ → ℕ → List ℕ
places_from k zero = []
places_from k (suc n) = k ∷ places_from (k + 1) n

-- those of these who were asked
abbrev pub recipients : List ℕ → List Deed → List ℕ
recipients everybody ds = filter (was_asked ds) everybody
