-- What is looked up of a day's events, by number: where orders entered and trades were reported, and the orders of each
-- trade.
use Rattle.std.specs.Prelude.{ℕ, ◌==◌, List, [], ◌∷◌, Option, Some, None, unwrap_or}
use Rattle.std.specs.BTreeMap.{insert_entry, is_at}
use Rattle.std.specs.Map.{lookup}
use Rattle.fix_dictionary.specs.declared.values.Side.{Side}
use Rattle.fix_dictionary.specs.declared.values.Side.TheVariants.{Buy, Sell}
use Rattle.day_events.specs.declared.event.Event.{Event}
use Rattle.day_events.specs.declared.event.What.{What}
use Rattle.day_events.specs.declared.event.What.TheVariants as what
use Rattle.surveillance.specs.declared.alarm.Place.{Place}
use Rattle.surveillance.specs.declared.index.Entry.{Entry}
use Rattle.surveillance.specs.declared.index.Pair.{Pair}
use Rattle.surveillance.specs.declared.own_name.OwnName.{OwnName}
use Rattle.surveillance.specs.Names.{own, own_cmp}
use Rattle.surveillance.specs.Numbers.{no_number, with_number}

abbrev pub place : Event → Place
place e = record { row = e.at.row; moment = e.at.moment }

-- by number

abbrev pub Places : Type 0
Places = ℕ → Option Place

abbrev pub put_place : Places → Option ℕ → Place → Places
put_place ps None p = ps
put_place ps (Some n) p = with_number ps n p

abbrev pub place_at : Places → ℕ → Option Place
place_at ps n = ps n

-- The links (583) of orders that have one, by the order's identifier (11): an order has the link of the message that it
-- enters with, and one that replaces another has that one's. A participant uses an identifier once.

abbrev pub Links : Type 0
Links = List (OwnName × List ℕ)

abbrev pub link_at : Links → ℕ → List ℕ → Option (List ℕ)
link_at ls who id = lookup (is_at (own_cmp (own who id))) ls

-- of the order that enters
abbrev pub link_of : Links → Event → What → Option (List ℕ)
link_of ls e (what.Replaced x) = link_at ls e.to x.original_id
link_of ls e _ = e.at.named

abbrev pub entered_id : What → Option (List ℕ)
entered_id (what.Entered x) = Some x.id
entered_id (what.Replaced x) = Some x.id
entered_id _ = None

abbrev pub put_link_of : Links → ℕ → List ℕ → Option (List ℕ) → Links
put_link_of ls who id None = ls
put_link_of ls who id (Some link) = insert_entry own_cmp ls (own who id) link

abbrev pub put_link : Links → ℕ → Option (List ℕ) → Option (List ℕ) → Links
put_link ls who None link = ls
put_link ls who (Some id) link = put_link_of ls who id link

-- Where each order of a day entered, whether at a row of the clock, as a held side of a cross does, and its link.

abbrev pub Entries : Type 0
Entries = ℕ → Option Entry

abbrev pub entered_at : Event → Option (List ℕ) → Entry
entered_at e link = record { at = place e; by_clock = e.at.from == 0; link = link }

abbrev pub put_entry : Entries → Option ℕ → Entry → Entries
put_entry ns None x = ns
put_entry ns (Some n) x = with_number ns n x

abbrev pub entry_at : Entries → ℕ → Option Entry
entry_at ns n = ns n

-- the order that enters, new or in the place of another
abbrev pub entered_order : What → Option ℕ
entered_order (what.Entered x) = x.order
entered_order (what.Replaced x) = x.order
entered_order _ = None

abbrev pub entries_from : Entries → Links → List Event → Entries
entries_from ns ls [] = ns
entries_from ns ls (e ∷ es) =
    entries_from (put_entry ns (entered_order e.what) (entered_at e (link_of ls e e.what))) (put_link ls e.to (entered_id e.what) (link_of ls e e.what)) es

abbrev pub entries : List Event → Entries
entries es = entries_from no_number [] es

-- The orders of each trade in the book.

abbrev pub Orders : Type 0
Orders = ℕ → Option Pair

abbrev pub no_orders : Pair
no_orders = record { buy = None; sell = None }

abbrev pub orders_at : Orders → ℕ → Pair
orders_at os trade = unwrap_or (os trade) no_orders

abbrev pub with_order : Pair → Side → Option ℕ → Pair
with_order p Buy order = record { buy = order; sell = p.sell }
with_order p Sell order = record { buy = p.buy; sell = order }

abbrev pub put_order : Orders → What → Orders
put_order os (what.Filled x) = with_number os x.trade (with_order (orders_at os x.trade) x.side x.order)
put_order os _ = os

abbrev pub orders_from : Orders → List Event → Orders
orders_from os [] = os
orders_from os (e ∷ es) = orders_from (put_order os e.what) es

abbrev pub orders : List Event → Orders
orders es = orders_from no_number es

abbrev pub reported_trade : What → Option ℕ
reported_trade (what.Filled x) = Some x.trade
reported_trade (what.Traded x) = Some x.trade
reported_trade _ = None

abbrev pub reports_from : Places → List Event → Places
reports_from ps [] = ps
reports_from ps (e ∷ es) = reports_from (put_place ps (reported_trade e.what) (place e)) es

-- where each trade of a day was reported
abbrev pub reports : List Event → Places
reports es = reports_from no_number es
