use Rattle.std.proofs.Common.{◌≡◌, refl, ap, ap₂, ◌∙◌, ℕ, ◌+◌, ◌-◌, Bool, true, false, not, ◌&&◌, ◌||◌, ◌==◌, nat_lt, nat_le, if◌then◌else◌, List, [], ◌∷◌, ◌++◌, map, reverse, length, filter, find, Option, Some, None, is_some, option_map, bytes_eq, eq-eqb, ne_eqb, eqb-true}
use Rattle.std.specs.List.{list_any, sum_by}
use Rattle.std.proofs.lemmas.Bool.{eqb-false}
use Rattle.fix_dictionary.specs.declared.values.Side.{Side}
use Rattle.fix_dictionary.specs.declared.values.Side.TheVariants.{Buy, Sell}
use Rattle.participants.specs.ParticipantFile.{ParticipantFile}
use Rattle.instruments.specs.Listing.{delay_of}
use Rattle.venue_rules.specs.declared.facts.Fact.{Fact}
use Rattle.venue_rules.specs.declared.facts.Fact.TheVariants.{Entered, Traded, Removed, Held, Unheld, Asked, Quoted, Withdrawn, Closed}
use Rattle.venue_rules.specs.declared.facts.Entry.{Entry}
use Rattle.venue_rules.specs.declared.facts.OrderFact.{OrderFact}
use Rattle.venue_rules.specs.declared.facts.HeldSide.{HeldSide}
use Rattle.venue_rules.specs.declared.facts.Room.{Room}
use Rattle.venue_rules.specs.declared.facts.RoomQuote.{RoomQuote}
use Rattle.venue_rules.specs.declared.facts.Trade.{Trade}
use Rattle.venue_rules.specs.Market.{Market}
use Rattle.venue_rules.specs.Facts.{entries, entry_in, held_in, held_sides, is_cross_id_used, is_name, is_bytes, is_order_id_used, is_quote_id_used, is_request_id_used, next_order, next_quote, next_room, next_trade, quote_in, quotes, room_in, rooms, trade_in, trades, uses_order_id}
use Rattle.venue_rules.specs.Book.{Fill, Resting, accepts, against, fills, fills_with, filled_by, find_order, is_better, is_day, is_killed, is_linked, is_same_link, is_side_full, is_too_soon, left, opposite, paired, picture, rank, ranked, removes, resting, rests, shares, shown, side_capacity, takes_part, too_soon, traded, with_left}
use Rattle.venue_rules.specs.Rooms.{closes, find_quote, find_room, first_quote, is_closed, is_last, is_live, is_open, is_replaced, is_withdrawn, last_quote, live_quotes, open_rooms, printed, room_by_number, withdraws}
use Rattle.venue_rules.specs.Delay.{due, earlier, earliest, find_held, held, releases}
use Rattle.market_laws.specs.Renaming.{IsRenamed, Renaming, renamed_entry, renamed_fact, renamed_held, renamed_order, renamed_quote, renamed_room, renamed_trade}
use Rattle.market_laws.proofs.RenamedLists.{any_mapped, filter_mapped, find_mapped, length_mapped, picked_mapped, reverse_mapped, same_mapped, some_mapped, sum_mapped}

-- What is read off the facts, with renamed participants.

-- the facts with their participants renamed
abbrev pub facts_r : Renaming → List Fact → List Fact
facts_r r facts = map (renamed_fact r) facts

-- different participants stay different
pub same_who : (r : Renaming) (old new_file : ParticipantFile) → IsRenamed r old new_file → (a b : ℕ) → (r.place a == r.place b) ≡ (a == b)
same_who r old new_file k a b = by (a == b) refl
  where
    by : (c : Bool) → (a == b) ≡ c → (r.place a == r.place b) ≡ c
    by true e = eq-eqb (r.place a) (r.place b) (ap r.place (eqb-true a b e))
    by false e = ne_eqb (r.place a) (r.place b) (λ same. eqb-false a b e (k.apart a b same))

-- facts of one kind
entry_in_r : (r : Renaming) (f : Fact) → entry_in (renamed_fact r f) ≡ option_map (renamed_entry r) (entry_in f)
entry_in_r r (Entered e) = refl
entry_in_r r (Traded t) = refl
entry_in_r r (Removed x) = refl
entry_in_r r (Held h) = refl
entry_in_r r (Unheld u) = refl
entry_in_r r (Asked y) = refl
entry_in_r r (Quoted q) = refl
entry_in_r r (Withdrawn w) = refl
entry_in_r r (Closed c) = refl

trade_in_r : (r : Renaming) (f : Fact) → trade_in (renamed_fact r f) ≡ option_map (renamed_trade r) (trade_in f)
trade_in_r r (Entered e) = refl
trade_in_r r (Traded t) = refl
trade_in_r r (Removed x) = refl
trade_in_r r (Held h) = refl
trade_in_r r (Unheld u) = refl
trade_in_r r (Asked y) = refl
trade_in_r r (Quoted q) = refl
trade_in_r r (Withdrawn w) = refl
trade_in_r r (Closed c) = refl

held_in_r : (r : Renaming) (f : Fact) → held_in (renamed_fact r f) ≡ option_map (renamed_held r) (held_in f)
held_in_r r (Entered e) = refl
held_in_r r (Traded t) = refl
held_in_r r (Removed x) = refl
held_in_r r (Held h) = refl
held_in_r r (Unheld u) = refl
held_in_r r (Asked y) = refl
held_in_r r (Quoted q) = refl
held_in_r r (Withdrawn w) = refl
held_in_r r (Closed c) = refl

room_in_r : (r : Renaming) (f : Fact) → room_in (renamed_fact r f) ≡ option_map (renamed_room r) (room_in f)
room_in_r r (Entered e) = refl
room_in_r r (Traded t) = refl
room_in_r r (Removed x) = refl
room_in_r r (Held h) = refl
room_in_r r (Unheld u) = refl
room_in_r r (Asked y) = refl
room_in_r r (Quoted q) = refl
room_in_r r (Withdrawn w) = refl
room_in_r r (Closed c) = refl

quote_in_r : (r : Renaming) (f : Fact) → quote_in (renamed_fact r f) ≡ option_map (renamed_quote r) (quote_in f)
quote_in_r r (Entered e) = refl
quote_in_r r (Traded t) = refl
quote_in_r r (Removed x) = refl
quote_in_r r (Held h) = refl
quote_in_r r (Unheld u) = refl
quote_in_r r (Asked y) = refl
quote_in_r r (Quoted q) = refl
quote_in_r r (Withdrawn w) = refl
quote_in_r r (Closed c) = refl

pub entries_r : (r : Renaming) (facts : List Fact) → entries (facts_r r facts) ≡ map (renamed_entry r) (entries facts)
entries_r r facts = picked_mapped entry_in (renamed_fact r) (renamed_entry r) (entry_in_r r) facts

pub trades_r : (r : Renaming) (facts : List Fact) → trades (facts_r r facts) ≡ map (renamed_trade r) (trades facts)
trades_r r facts = picked_mapped trade_in (renamed_fact r) (renamed_trade r) (trade_in_r r) facts

pub held_sides_r : (r : Renaming) (facts : List Fact) → held_sides (facts_r r facts) ≡ map (renamed_held r) (held_sides facts)
held_sides_r r facts = picked_mapped held_in (renamed_fact r) (renamed_held r) (held_in_r r) facts

pub rooms_r : (r : Renaming) (facts : List Fact) → rooms (facts_r r facts) ≡ map (renamed_room r) (rooms facts)
rooms_r r facts = picked_mapped room_in (renamed_fact r) (renamed_room r) (room_in_r r) facts

pub quotes_r : (r : Renaming) (facts : List Fact) → quotes (facts_r r facts) ≡ map (renamed_quote r) (quotes facts)
quotes_r r facts = picked_mapped quote_in (renamed_fact r) (renamed_quote r) (quote_in_r r) facts

pub next_order_r : (r : Renaming) (facts : List Fact) → next_order (facts_r r facts) ≡ next_order facts
next_order_r r facts = ap (λ n. n + 1) (ap (λ (xs : List Entry). length xs) (entries_r r facts) ∙ length_mapped (renamed_entry r) (entries facts))

pub next_trade_r : (r : Renaming) (facts : List Fact) → next_trade (facts_r r facts) ≡ next_trade facts
next_trade_r r facts = ap (λ n. n + 1) (ap (λ (xs : List Trade). length xs) (trades_r r facts) ∙ length_mapped (renamed_trade r) (trades facts))

pub next_room_r : (r : Renaming) (facts : List Fact) → next_room (facts_r r facts) ≡ next_room facts
next_room_r r facts = ap (λ n. n + 1) (ap (λ (xs : List Room). length xs) (rooms_r r facts) ∙ length_mapped (renamed_room r) (rooms facts))

pub next_quote_r : (r : Renaming) (facts : List Fact) → next_quote (facts_r r facts) ≡ next_quote facts
next_quote_r r facts = ap (λ n. n + 1) (ap (λ (xs : List RoomQuote). length xs) (quotes_r r facts) ∙ length_mapped (renamed_quote r) (quotes facts))

-- one fact

removes_r : (r : Renaming) (number : ℕ) (f : Fact) → removes number (renamed_fact r f) ≡ removes number f
removes_r r number (Entered e) = refl
removes_r r number (Traded t) = refl
removes_r r number (Removed x) = refl
removes_r r number (Held h) = refl
removes_r r number (Unheld u) = refl
removes_r r number (Asked y) = refl
removes_r r number (Quoted q) = refl
removes_r r number (Withdrawn w) = refl
removes_r r number (Closed c) = refl

closes_r : (r : Renaming) (number : ℕ) (f : Fact) → closes number (renamed_fact r f) ≡ closes number f
closes_r r number (Entered e) = refl
closes_r r number (Traded t) = refl
closes_r r number (Removed x) = refl
closes_r r number (Held h) = refl
closes_r r number (Unheld u) = refl
closes_r r number (Asked y) = refl
closes_r r number (Quoted q) = refl
closes_r r number (Withdrawn w) = refl
closes_r r number (Closed c) = refl

withdraws_r : (r : Renaming) (number : ℕ) (f : Fact) → withdraws number (renamed_fact r f) ≡ withdraws number f
withdraws_r r number (Entered e) = refl
withdraws_r r number (Traded t) = refl
withdraws_r r number (Removed x) = refl
withdraws_r r number (Held h) = refl
withdraws_r r number (Unheld u) = refl
withdraws_r r number (Asked y) = refl
withdraws_r r number (Quoted q) = refl
withdraws_r r number (Withdrawn w) = refl
withdraws_r r number (Closed c) = refl

uses_r : (r : Renaming) (old new_file : ParticipantFile) → IsRenamed r old new_file → (who : ℕ) (id : List ℕ) (f : Fact) → uses_order_id (r.place who) id (renamed_fact r f) ≡ uses_order_id who id f
uses_r r old new_file k who id (Entered e) = ap (λ b. b && bytes_eq id e.order.id) (same_who r old new_file k who e.order.who)
uses_r r old new_file k who id (Traded t) = refl
uses_r r old new_file k who id (Removed x) = ap (λ b. b && bytes_eq id x.id) (same_who r old new_file k who x.who)
uses_r r old new_file k who id (Held h) = ap (λ b. b && bytes_eq id h.order.id) (same_who r old new_file k who h.order.who)
uses_r r old new_file k who id (Unheld u) = ap (λ b. b && is_bytes id u.cancel) (same_who r old new_file k who u.who)
uses_r r old new_file k who id (Asked y) = refl
uses_r r old new_file k who id (Quoted q) = refl
uses_r r old new_file k who id (Withdrawn w) = refl
uses_r r old new_file k who id (Closed c) = refl

releases_r : (r : Renaming) (old new_file : ParticipantFile) → IsRenamed r old new_file → (s : HeldSide) (f : Fact) → releases (renamed_held r s) (renamed_fact r f) ≡ releases s f
releases_r r old new_file k s (Entered e) = refl
releases_r r old new_file k s (Traded t) = refl
releases_r r old new_file k s (Removed x) = refl
releases_r r old new_file k s (Held h) = refl
releases_r r old new_file k s (Unheld u) = ap (λ b. b && bytes_eq s.order.id u.id) (same_who r old new_file k s.order.who u.who)
releases_r r old new_file k s (Asked y) = refl
releases_r r old new_file k s (Quoted q) = refl
releases_r r old new_file k s (Withdrawn w) = refl
releases_r r old new_file k s (Closed c) = refl

-- the book

traded_r : (r : Renaming) (facts : List Fact) (number : ℕ) → traded (facts_r r facts) number ≡ traded facts number
traded_r r facts number = ap (sum_by (λ (t : Trade). if takes_part number t.place then t.quantity else 0)) (trades_r r facts) ∙ sum_mapped (λ (t : Trade). if takes_part number t.place then t.quantity else 0) (renamed_trade r) (λ t. refl) (trades facts)

pub left_r : (r : Renaming) (facts : List Fact) (e : Entry) → left (facts_r r facts) (renamed_entry r e) ≡ left facts e
left_r r facts e = ap₂ (λ b n. if b then 0 else e.order.quantity - n) (any_mapped (removes e.number) (renamed_fact r) (removes e.number) (removes_r r e.number) facts) (traded_r r facts e.number)

abbrev pub renamed_resting : Renaming → Resting → Resting
renamed_resting r x = record { entry = renamed_entry r x.entry; left = x.left }

with_left_r : (r : Renaming) (facts : List Fact) (es : List Entry) → map (with_left (left (facts_r r facts))) (map (renamed_entry r) es) ≡ map (renamed_resting r) (map (with_left (left facts)) es)
with_left_r r facts [] = refl
with_left_r r facts (e ∷ es) = ap₂ (λ (n : ℕ) (xs : List Resting). record { entry = renamed_entry r e; left = n } ∷ xs) (left_r r facts e) (with_left_r r facts es)

all_left_r : (r : Renaming) (facts : List Fact) → map (with_left (left (facts_r r facts))) (entries (facts_r r facts)) ≡ map (renamed_resting r) (map (with_left (left facts)) (entries facts))
all_left_r r facts = ap (map (with_left (left (facts_r r facts)))) (entries_r r facts) ∙ with_left_r r facts (entries facts)

rank_r : (r : Renaming) (side : Side) (x : Resting) (ss : List Resting) → rank side (renamed_resting r x) (map (renamed_resting r) ss) ≡ map (renamed_resting r) (rank side x ss)
rank_r r side x [] = refl
rank_r r side x (s ∷ ss) = by (is_better side s.entry.order.price x.entry.order.price) (rank_r r side x ss)
  where
    by : (b : Bool) → rank side (renamed_resting r x) (map (renamed_resting r) ss) ≡ map (renamed_resting r) (rank side x ss)
        → (if b then renamed_resting r s ∷ rank side (renamed_resting r x) (map (renamed_resting r) ss) else renamed_resting r x ∷ renamed_resting r s ∷ map (renamed_resting r) ss) ≡ map (renamed_resting r) (if b then s ∷ rank side x ss else x ∷ s ∷ ss)
    by true k = ap (λ ys. renamed_resting r s ∷ ys) k
    by false k = refl

ranked_r : (r : Renaming) (side : Side) (xs : List Resting) → ranked side (map (renamed_resting r) xs) ≡ map (renamed_resting r) (ranked side xs)
ranked_r r side [] = refl
ranked_r r side (x ∷ xs) = ap (rank side (renamed_resting r x)) (ranked_r r side xs) ∙ rank_r r side x (ranked side xs)

pub resting_r : (r : Renaming) (facts : List Fact) (x : ℕ) (side : Side) → resting (facts_r r facts) x side ≡ map (renamed_resting r) (resting facts x side)
resting_r r facts x side =
    ap (λ xs. ranked side (filter (rests x side) xs)) (all_left_r r facts)
    ∙ (ap (ranked side) (filter_mapped (rests x side) (renamed_resting r) (rests x side) (λ y. refl) (map (with_left (left facts)) (entries facts)))
    ∙ ranked_r r side (filter (rests x side) (map (with_left (left facts)) (entries facts))))

against_r : (r : Renaming) (facts : List Fact) (o : OrderFact) → against (facts_r r facts) (renamed_order r o) ≡ map (renamed_resting r) (against facts o)
against_r r facts o =
    ap (filter (λ (y : Resting). accepts o.side o.price y.entry.order.price)) (resting_r r facts o.instrument (opposite o.side))
    ∙ filter_mapped (λ (y : Resting). accepts o.side o.price y.entry.order.price) (renamed_resting r) (λ (y : Resting). accepts o.side o.price y.entry.order.price) (λ y. refl) (resting facts o.instrument (opposite o.side))

abbrev pub renamed_fill : Renaming → Fill → Fill
renamed_fill r f = record { resting = renamed_resting r f.resting; quantity = f.quantity }

paired_r : (r : Renaming) (xs : List Resting) (qs : List ℕ) → paired (map (renamed_resting r) xs) qs ≡ map (renamed_fill r) (paired xs qs)
paired_r r [] qs = refl
paired_r r (x ∷ xs) [] = refl
paired_r r (x ∷ xs) (q ∷ qs) = ap (λ fs. renamed_fill r (record { resting = x; quantity = q }) ∷ fs) (paired_r r xs qs)

killed_r : (r : Renaming) (b : Bool) (fs : List Fill) → (if b then [] else map (renamed_fill r) fs) ≡ map (renamed_fill r) (if b then [] else fs)
killed_r r true fs = refl
killed_r r false fs = refl

abbrev positive : Fill → Bool
positive f = nat_lt 0 f.quantity

abbrev left_of : Resting → ℕ
left_of x = x.left

fills_with_r : (r : Renaming) (o : OrderFact) (xs : List Resting) → fills_with (renamed_order r o) (map (renamed_resting r) xs) ≡ map (renamed_fill r) (fills_with o xs)
fills_with_r r o xs =
    ap₂ (λ s ls. if is_killed o.life o.quantity s then [] else filter positive (paired (map (renamed_resting r) xs) (shares o.quantity ls))) (sum_mapped left_of (renamed_resting r) (λ y. refl) xs) (same_mapped left_of (renamed_resting r) (λ y. refl) xs)
    ∙ (ap (λ fs. if is_killed o.life o.quantity (sum_by left_of xs) then [] else fs) (ap (filter positive) (paired_r r xs (shares o.quantity (map left_of xs))) ∙ filter_mapped positive (renamed_fill r) positive (λ f. refl) (paired xs (shares o.quantity (map left_of xs))))
    ∙ killed_r r (is_killed o.life o.quantity (sum_by left_of xs)) (filter positive (paired xs (shares o.quantity (map left_of xs)))))

pub fills_r : (r : Renaming) (facts : List Fact) (o : OrderFact) → fills (facts_r r facts) (renamed_order r o) ≡ map (renamed_fill r) (fills facts o)
fills_r r facts o = ap (fills_with (renamed_order r o)) (against_r r facts o) ∙ fills_with_r r o (against facts o)

pub filled_by_r : (r : Renaming) (fs : List Fill) → filled_by (map (renamed_fill r) fs) ≡ filled_by fs
filled_by_r r fs = sum_mapped (λ (f : Fill). f.quantity) (renamed_fill r) (λ f. refl) fs

-- the market with another participant file
abbrev pub with_file : Market → ParticipantFile → Market
with_file m file = record { participants = file; instruments = m.instruments }

is_linked_r : (m : Market) (r : Renaming) (file : ParticipantFile) → IsRenamed r m.participants file → (o p : OrderFact) → is_linked (with_file m file) (renamed_order r o) (renamed_order r p) ≡ is_linked m o p
is_linked_r m r file k o p = ap₂ (λ a b. a || (b || is_same_link o.link p.link)) (same_who r m.participants file k o.who p.who) (k.pairs o.who p.who)

pub too_soon_r : (m : Market) (r : Renaming) (file : ParticipantFile) → IsRenamed r m.participants file → (facts : List Fact) (o : OrderFact) (t : ℕ) → is_some (too_soon (with_file m file) (facts_r r facts) (renamed_order r o) t) ≡ is_some (too_soon m facts o t)
too_soon_r m r file k facts o t =
    ap (λ fs. is_some (find (is_too_soon (with_file m file) (renamed_order r o) t) fs)) (fills_r r facts o)
    ∙ (ap is_some (find_mapped (is_too_soon (with_file m file) (renamed_order r o) t) (renamed_fill r) (is_too_soon m o t) (λ f. ap (λ b. b && nat_lt t (f.resting.entry.moment + delay_of m.instruments o.instrument)) (is_linked_r m r file k o f.resting.entry.order)) (fills facts o))
    ∙ some_mapped (renamed_fill r) (too_soon m facts o t))

pub side_full_r : (r : Renaming) (facts : List Fact) (o : OrderFact) → is_side_full (facts_r r facts) (renamed_order r o) ≡ is_side_full facts o
side_full_r r facts o =
    ap₂ (λ n l. is_day o.life && (nat_lt n o.quantity && nat_le side_capacity l)) (ap filled_by (fills_r r facts o) ∙ filled_by_r r (fills facts o)) (ap (λ (xs : List Resting). length xs) (resting_r r facts o.instrument o.side) ∙ length_mapped (renamed_resting r) (resting facts o.instrument o.side))

shown_r : (r : Renaming) (facts : List Fact) (x : ℕ) (side : Side) → map shown (resting (facts_r r facts) x side) ≡ map shown (resting facts x side)
shown_r r facts x side = ap (map shown) (resting_r r facts x side) ∙ same_mapped shown (renamed_resting r) (λ y. refl) (resting facts x side)

pub picture_r : (r : Renaming) (facts : List Fact) (x : ℕ) → picture (facts_r r facts) x ≡ picture facts x
picture_r r facts x = ap₂ (λ xs ys. xs ++ ys) (shown_r r facts x Buy) (shown_r r facts x Sell)

pub find_order_r : (r : Renaming) (old new_file : ParticipantFile) → IsRenamed r old new_file → (facts : List Fact) (who : ℕ) (id : List ℕ) → find_order (facts_r r facts) (r.place who) id ≡ option_map (renamed_resting r) (find_order facts who id)
find_order_r r old new_file k facts who id =
    ap (find (λ (y : Resting). rests y.entry.order.instrument y.entry.order.side y && (y.entry.order.who == r.place who && bytes_eq y.entry.order.id id))) (all_left_r r facts)
    ∙ find_mapped (λ (y : Resting). rests y.entry.order.instrument y.entry.order.side y && (y.entry.order.who == r.place who && bytes_eq y.entry.order.id id)) (renamed_resting r) (λ (y : Resting). rests y.entry.order.instrument y.entry.order.side y && (y.entry.order.who == who && bytes_eq y.entry.order.id id))
    (λ y. ap (λ b. rests y.entry.order.instrument y.entry.order.side y && (b && bytes_eq y.entry.order.id id)) (same_who r old new_file k y.entry.order.who who)) (map (with_left (left facts)) (entries facts))

-- identifiers in use

pub order_used_r : (r : Renaming) (old new_file : ParticipantFile) → IsRenamed r old new_file → (facts : List Fact) (who : ℕ) (id : List ℕ) → is_order_id_used (facts_r r facts) (r.place who) id ≡ is_order_id_used facts who id
order_used_r r old new_file k facts who id = any_mapped (uses_order_id (r.place who) id) (renamed_fact r) (uses_order_id who id) (uses_r r old new_file k who id) facts

pub cross_used_r : (r : Renaming) (old new_file : ParticipantFile) → IsRenamed r old new_file → (facts : List Fact) (who : ℕ) (id : List ℕ) → is_cross_id_used (facts_r r facts) (r.place who) id ≡ is_cross_id_used facts who id
cross_used_r r old new_file k facts who id =
    ap (list_any (λ (y : HeldSide). is_name (r.place who) id y.order.who y.cross)) (held_sides_r r facts)
    ∙ any_mapped (λ (y : HeldSide). is_name (r.place who) id y.order.who y.cross) (renamed_held r) (λ (y : HeldSide). is_name who id y.order.who y.cross) (λ y. ap (λ b. b && bytes_eq id y.cross) (same_who r old new_file k who y.order.who)) (held_sides facts)

pub request_used_r : (r : Renaming) (old new_file : ParticipantFile) → IsRenamed r old new_file → (facts : List Fact) (who : ℕ) (id : List ℕ) → is_request_id_used (facts_r r facts) (r.place who) id ≡ is_request_id_used facts who id
request_used_r r old new_file k facts who id =
    ap (list_any (λ (y : Room). is_name (r.place who) id y.requester y.id)) (rooms_r r facts)
    ∙ any_mapped (λ (y : Room). is_name (r.place who) id y.requester y.id) (renamed_room r) (λ (y : Room). is_name who id y.requester y.id) (λ y. ap (λ b. b && bytes_eq id y.id) (same_who r old new_file k who y.requester)) (rooms facts)

pub quote_used_r : (r : Renaming) (old new_file : ParticipantFile) → IsRenamed r old new_file → (facts : List Fact) (who : ℕ) (id : List ℕ) → is_quote_id_used (facts_r r facts) (r.place who) id ≡ is_quote_id_used facts who id
quote_used_r r old new_file k facts who id =
    ap (list_any (λ (y : RoomQuote). is_name (r.place who) id y.maker y.id)) (quotes_r r facts)
    ∙ any_mapped (λ (y : RoomQuote). is_name (r.place who) id y.maker y.id) (renamed_quote r) (λ (y : RoomQuote). is_name who id y.maker y.id) (λ y. ap (λ b. b && bytes_eq id y.id) (same_who r old new_file k who y.maker)) (quotes facts)

-- rooms and quotes

pub find_room_r : (r : Renaming) (facts : List Fact) (id : List ℕ) → find_room (facts_r r facts) id ≡ option_map (renamed_room r) (find_room facts id)
find_room_r r facts id = ap (find (λ (y : Room). bytes_eq (printed 82 y.number) id)) (rooms_r r facts) ∙ find_mapped (λ (y : Room). bytes_eq (printed 82 y.number) id) (renamed_room r) (λ (y : Room). bytes_eq (printed 82 y.number) id) (λ y. refl) (rooms facts)

pub find_quote_r : (r : Renaming) (facts : List Fact) (id : List ℕ) → find_quote (facts_r r facts) id ≡ option_map (renamed_quote r) (find_quote facts id)
find_quote_r r facts id = ap (find (λ (y : RoomQuote). bytes_eq (printed 81 y.number) id)) (quotes_r r facts) ∙ find_mapped (λ (y : RoomQuote). bytes_eq (printed 81 y.number) id) (renamed_quote r) (λ (y : RoomQuote). bytes_eq (printed 81 y.number) id) (λ y. refl) (quotes facts)

pub room_by_number_r : (r : Renaming) (facts : List Fact) (number : ℕ) → room_by_number (facts_r r facts) number ≡ option_map (renamed_room r) (room_by_number facts number)
room_by_number_r r facts number = ap (find (λ (y : Room). y.number == number)) (rooms_r r facts) ∙ find_mapped (λ (y : Room). y.number == number) (renamed_room r) (λ (y : Room). y.number == number) (λ y. refl) (rooms facts)

pub first_quote_r : (r : Renaming) (facts : List Fact) (number : ℕ) → first_quote (facts_r r facts) number ≡ option_map (renamed_quote r) (first_quote facts number)
first_quote_r r facts number = ap (find (λ (y : RoomQuote). y.room == number)) (quotes_r r facts) ∙ find_mapped (λ (y : RoomQuote). y.room == number) (renamed_quote r) (λ (y : RoomQuote). y.room == number) (λ y. refl) (quotes facts)

pub closed_r : (r : Renaming) (facts : List Fact) (room : ℕ) → is_closed (facts_r r facts) room ≡ is_closed facts room
closed_r r facts room = any_mapped (closes room) (renamed_fact r) (closes room) (closes_r r room) facts

pub withdrawn_r : (r : Renaming) (facts : List Fact) (quote : ℕ) → is_withdrawn (facts_r r facts) quote ≡ is_withdrawn facts quote
withdrawn_r r facts quote = any_mapped (withdraws quote) (renamed_fact r) (withdraws quote) (withdraws_r r quote) facts

pub open_r : (r : Renaming) (facts : List Fact) (t : ℕ) (x : Room) → is_open (facts_r r facts) t (renamed_room r x) ≡ is_open facts t x
open_r r facts t x = ap (λ b. not b && nat_le t x.end) (closed_r r facts x.number)

pub open_rooms_r : (r : Renaming) (facts : List Fact) (t : ℕ) → length (open_rooms (facts_r r facts) t) ≡ length (open_rooms facts t)
open_rooms_r r facts t =
    ap (λ xs. length (filter (is_open (facts_r r facts) t) xs)) (rooms_r r facts)
    ∙ (ap (λ (xs : List Room). length xs) (filter_mapped (is_open (facts_r r facts) t) (renamed_room r) (is_open facts t) (open_r r facts t) (rooms facts)) ∙ length_mapped (renamed_room r) (open_rooms facts t))

last_quote_r : (r : Renaming) (old new_file : ParticipantFile) → IsRenamed r old new_file → (facts : List Fact) (room maker : ℕ) → last_quote (facts_r r facts) room (r.place maker) ≡ option_map (renamed_quote r) (last_quote facts room maker)
last_quote_r r old new_file k facts room maker =
    ap (λ qs. find (λ (q : RoomQuote). q.room == room && q.maker == r.place maker) (reverse qs)) (quotes_r r facts)
    ∙ (ap (find (λ (q : RoomQuote). q.room == room && q.maker == r.place maker)) (reverse_mapped (renamed_quote r) (quotes facts))
    ∙ find_mapped (λ (q : RoomQuote). q.room == room && q.maker == r.place maker) (renamed_quote r) (λ (q : RoomQuote). q.room == room && q.maker == maker) (λ q. ap (λ b. q.room == room && b) (same_who r old new_file k q.maker maker)) (reverse (quotes facts)))

is_last_r : (r : Renaming) (quote : ℕ) (o : Option RoomQuote) → is_last quote (option_map (renamed_quote r) o) ≡ is_last quote o
is_last_r r quote None = refl
is_last_r r quote (Some q) = refl

pub replaced_quote_r : (r : Renaming) (old new_file : ParticipantFile) → IsRenamed r old new_file → (facts : List Fact) (q : RoomQuote) → is_replaced (facts_r r facts) (renamed_quote r q) ≡ is_replaced facts q
replaced_quote_r r old new_file k facts q = ap not (ap (is_last q.number) (last_quote_r r old new_file k facts q.room q.maker) ∙ is_last_r r q.number (last_quote facts q.room q.maker))

live_r : (r : Renaming) (old new_file : ParticipantFile) → IsRenamed r old new_file → (facts : List Fact) (t : ℕ) (q : RoomQuote) → is_live (facts_r r facts) t (renamed_quote r q) ≡ is_live facts t q
live_r r old new_file k facts t q =
    ap₂ (λ a b. not a && b) (replaced_quote_r r old new_file k facts q) (ap₂ (λ a b. not a && (not b && nat_le t q.end)) (withdrawn_r r facts q.number) (closed_r r facts q.room))

pub live_quotes_r : (r : Renaming) (old new_file : ParticipantFile) → IsRenamed r old new_file → (facts : List Fact) (who t : ℕ) → live_quotes (facts_r r facts) (r.place who) t ≡ map (renamed_quote r) (live_quotes facts who t)
live_quotes_r r old new_file k facts who t =
    ap (filter (λ (q : RoomQuote). q.maker == r.place who && is_live (facts_r r facts) t q)) (quotes_r r facts)
    ∙ filter_mapped (λ (q : RoomQuote). q.maker == r.place who && is_live (facts_r r facts) t q) (renamed_quote r) (λ (q : RoomQuote). q.maker == who && is_live facts t q) (λ q. ap₂ (λ a b. a && b) (same_who r old new_file k q.maker who) (live_r r old new_file k facts t q)) (quotes facts)

-- held sides

pub held_r : (r : Renaming) (old new_file : ParticipantFile) → IsRenamed r old new_file → (facts : List Fact) → held (facts_r r facts) ≡ map (renamed_held r) (held facts)
held_r r old new_file k facts =
    ap (filter (λ (h : HeldSide). not (list_any (releases h) (facts_r r facts)))) (held_sides_r r facts)
    ∙ filter_mapped (λ (h : HeldSide). not (list_any (releases h) (facts_r r facts))) (renamed_held r) (λ (h : HeldSide). not (list_any (releases h) facts)) (λ h. ap not (any_mapped (releases (renamed_held r h)) (renamed_fact r) (releases h) (releases_r r old new_file k h) facts)) (held_sides facts)

earlier_r : (r : Renaming) (h : HeldSide) (o : Option HeldSide) → earlier (renamed_held r h) (option_map (renamed_held r) o) ≡ option_map (renamed_held r) (earlier h o)
earlier_r r h None = refl
earlier_r r h (Some k) = by (nat_lt k.due h.due)
  where
    by : (b : Bool) → (if b then Some (renamed_held r k) else Some (renamed_held r h)) ≡ option_map (renamed_held r) (if b then Some k else Some h)
    by true = refl
    by false = refl

earliest_r : (r : Renaming) (hs : List HeldSide) → earliest (map (renamed_held r) hs) ≡ option_map (renamed_held r) (earliest hs)
earliest_r r [] = refl
earliest_r r (h ∷ hs) = ap (earlier (renamed_held r h)) (earliest_r r hs) ∙ earlier_r r h (earliest hs)

pub due_r : (r : Renaming) (old new_file : ParticipantFile) → IsRenamed r old new_file → (facts : List Fact) (t : ℕ) → due (facts_r r facts) t ≡ option_map (renamed_held r) (due facts t)
due_r r old new_file k facts t =
    ap (λ hs. earliest (filter (λ (h : HeldSide). nat_le h.due t) hs)) (held_r r old new_file k facts)
    ∙ (ap earliest (filter_mapped (λ (h : HeldSide). nat_le h.due t) (renamed_held r) (λ (h : HeldSide). nat_le h.due t) (λ h. refl) (held facts))
    ∙ earliest_r r (filter (λ (h : HeldSide). nat_le h.due t) (held facts)))

pub find_held_r : (r : Renaming) (old new_file : ParticipantFile) → IsRenamed r old new_file → (facts : List Fact) (who : ℕ) (id : List ℕ) → find_held (facts_r r facts) (r.place who) id ≡ option_map (renamed_held r) (find_held facts who id)
find_held_r r old new_file k facts who id =
    ap (find (λ (h : HeldSide). is_name (r.place who) id h.order.who h.order.id)) (held_r r old new_file k facts)
    ∙ find_mapped (λ (h : HeldSide). is_name (r.place who) id h.order.who h.order.id) (renamed_held r) (λ (h : HeldSide). is_name who id h.order.who h.order.id) (λ h. ap (λ b. b && bytes_eq id h.order.id) (same_who r old new_file k who h.order.who)) (held facts)
