use Rattle.std.proofs.Common.{◌≡◌, refl, ap, ◌∙◌, ℕ, Bool, true, false, not, cond, ◌&&◌, ◌||◌, ◌==◌, nat_le, List, [], ◌∷◌, filter, Option, Some, None}
use Rattle.std.specs.List.{list_any}
use Rattle.fix_dictionary.specs.declared.messages.QuoteRequest.{QuoteRequest}
use Rattle.fix_dictionary.specs.declared.messages.Quote.{Quote}
use Rattle.fix_dictionary.specs.declared.messages.QuoteCancel.{QuoteCancel}
use Rattle.fix_dictionary.specs.declared.messages.QuoteResponse.{QuoteResponse}
use Rattle.venue_rules.specs.declared.facts.Fact.{Fact}
use Rattle.venue_rules.specs.declared.facts.Fact.TheVariants.{Entered, Traded, Removed, Held, Unheld, Asked, Quoted, Withdrawn, Closed}
use Rattle.venue_rules.specs.declared.facts.Room.{Room}
use Rattle.venue_rules.specs.declared.facts.RoomQuote.{RoomQuote}
use Rattle.venue_rules.specs.declared.facts.Trade.{Trade}
use Rattle.venue_rules.specs.Market.{Market}
use Rattle.venue_rules.specs.Facts.{quotes, rooms}
use Rattle.venue_rules.specs.Rooms.{closes, find_quote, find_room, first_quote, is_closed, is_live, is_open, is_replaced, is_withdrawn, live_quotes, open_rooms, room_by_number, withdraws}
use Rattle.rfq_room.specs.Causes.{decide, decide_in, is_supported, quote_cause, quote_cause_in, request_cause, withdrawal_cause, withdrawal_id}
use Rattle.rfq_room.specs.declared.decision.Decision.{Decision}
use Rattle.rfq_room.specs.declared.decision.Decision.TheVariants.{Refuse}
use Rattle.rfq_room.specs.declared.refusal.ResponseCause.TheVariants as response
use Rattle.rfq_room.specs.Named.{named_quotes, quote_room, room_with}
use Rattle.rfq_room.specs.Plans.{quote_made, room_asked}
use Rattle.rfq_room.specs.RoomFacts.{is_in_room, room_facts}

-- The rules read the same of rooms off all facts of a venue as off the facts of its rooms.

pub rooms-room : (fs : List Fact) → rooms (room_facts fs) ≡ rooms fs
rooms-room [] = refl
rooms-room (Entered e ∷ fs) = rooms-room fs
rooms-room (Traded t ∷ fs) = passed (is_in_room t.place) t (room_facts fs) fs (rooms-room fs)
  where
    passed : (b : Bool) (t : Trade) (gs fs : List Fact) → rooms gs ≡ rooms fs → rooms (cond b (Traded t ∷ gs) gs) ≡ rooms fs
    passed true t gs fs h = h
    passed false t gs fs h = h
rooms-room (Removed r ∷ fs) = rooms-room fs
rooms-room (Held h ∷ fs) = rooms-room fs
rooms-room (Unheld u ∷ fs) = rooms-room fs
rooms-room (Asked r ∷ fs) = ap (λ rs. r ∷ rs) (rooms-room fs)
rooms-room (Quoted q ∷ fs) = rooms-room fs
rooms-room (Withdrawn w ∷ fs) = rooms-room fs
rooms-room (Closed c ∷ fs) = rooms-room fs

pub quotes-room : (fs : List Fact) → quotes (room_facts fs) ≡ quotes fs
quotes-room [] = refl
quotes-room (Entered e ∷ fs) = quotes-room fs
quotes-room (Traded t ∷ fs) = passed (is_in_room t.place) t (room_facts fs) fs (quotes-room fs)
  where
    passed : (b : Bool) (t : Trade) (gs fs : List Fact) → quotes gs ≡ quotes fs → quotes (cond b (Traded t ∷ gs) gs) ≡ quotes fs
    passed true t gs fs h = h
    passed false t gs fs h = h
quotes-room (Removed r ∷ fs) = quotes-room fs
quotes-room (Held h ∷ fs) = quotes-room fs
quotes-room (Unheld u ∷ fs) = quotes-room fs
quotes-room (Asked r ∷ fs) = quotes-room fs
quotes-room (Quoted q ∷ fs) = ap (λ qs. q ∷ qs) (quotes-room fs)
quotes-room (Withdrawn w ∷ fs) = quotes-room fs
quotes-room (Closed c ∷ fs) = quotes-room fs

trade-passed : (p : Fact → Bool) (b : Bool) (t : Trade) (gs fs : List Fact) → p (Traded t) ≡ false → list_any p gs ≡ list_any p fs → list_any p (cond b (Traded t ∷ gs) gs) ≡ list_any p fs
trade-passed p true t gs fs e h = rw e h
trade-passed p false t gs fs e h = h

closed-room : (fs : List Fact) (n : ℕ) → is_closed (room_facts fs) n ≡ is_closed fs n
closed-room [] n = refl
closed-room (Entered e ∷ fs) n = closed-room fs n
closed-room (Traded t ∷ fs) n = trade-passed (closes n) (is_in_room t.place) t (room_facts fs) fs refl (closed-room fs n)
closed-room (Removed r ∷ fs) n = closed-room fs n
closed-room (Held h ∷ fs) n = closed-room fs n
closed-room (Unheld u ∷ fs) n = closed-room fs n
closed-room (Asked r ∷ fs) n = closed-room fs n
closed-room (Quoted q ∷ fs) n = closed-room fs n
closed-room (Withdrawn w ∷ fs) n = closed-room fs n
closed-room (Closed c ∷ fs) n = ap (λ b. (c.room == n) || b) (closed-room fs n)

withdrawn-room : (fs : List Fact) (n : ℕ) → is_withdrawn (room_facts fs) n ≡ is_withdrawn fs n
withdrawn-room [] n = refl
withdrawn-room (Entered e ∷ fs) n = withdrawn-room fs n
withdrawn-room (Traded t ∷ fs) n = trade-passed (withdraws n) (is_in_room t.place) t (room_facts fs) fs refl (withdrawn-room fs n)
withdrawn-room (Removed r ∷ fs) n = withdrawn-room fs n
withdrawn-room (Held h ∷ fs) n = withdrawn-room fs n
withdrawn-room (Unheld u ∷ fs) n = withdrawn-room fs n
withdrawn-room (Asked r ∷ fs) n = withdrawn-room fs n
withdrawn-room (Quoted q ∷ fs) n = withdrawn-room fs n
withdrawn-room (Withdrawn w ∷ fs) n = ap (λ b. (w.quote == n) || b) (withdrawn-room fs n)
withdrawn-room (Closed c ∷ fs) n = withdrawn-room fs n

replaced-room : (fs : List Fact) (q : RoomQuote) → is_replaced (room_facts fs) q ≡ is_replaced fs q
replaced-room fs q = rw (quotes-room fs) refl

pub open-room : (fs : List Fact) (t : ℕ) (r : Room) → is_open (room_facts fs) t r ≡ is_open fs t r
open-room fs t r = ap (λ b. not b && nat_le t r.end) (closed-room fs r.number)

pub live-room : (fs : List Fact) (t : ℕ) (q : RoomQuote) → is_live (room_facts fs) t q ≡ is_live fs t q
live-room fs t q = rw (quotes-room fs, withdrawn-room fs q.number, closed-room fs q.room) refl

-- two tests that agree filter alike
alike : {X : Type 0} (p q : X → Bool) (xs : List X) → ((x : X) → p x ≡ q x) → filter p xs ≡ filter q xs
alike p q [] h = refl
alike p q (x ∷ xs) h = rw (h x, alike p q xs h) refl

open_rooms-room : (fs : List Fact) (t : ℕ) → open_rooms (room_facts fs) t ≡ open_rooms fs t
open_rooms-room fs t =
    ap (filter (is_open (room_facts fs) t)) (rooms-room fs)
    ∙ alike (is_open (room_facts fs) t) (is_open fs t) (rooms fs) (open-room fs t)

live_quotes-room : (fs : List Fact) (maker t : ℕ) → live_quotes (room_facts fs) maker t ≡ live_quotes fs maker t
live_quotes-room fs maker t =
    ap (filter (λ q. q.maker == maker && is_live (room_facts fs) t q)) (quotes-room fs)
    ∙ alike (λ q. q.maker == maker && is_live (room_facts fs) t q) (λ q. q.maker == maker && is_live fs t q) (quotes fs) (λ q. ap (λ b. q.maker == maker && b) (live-room fs t q))

pub room_by_number-room : (fs : List Fact) (n : ℕ) → room_by_number (room_facts fs) n ≡ room_by_number fs n
room_by_number-room fs n = rw (rooms-room fs) refl

pub find_room-room : (fs : List Fact) (id : List ℕ) → find_room (room_facts fs) id ≡ find_room fs id
find_room-room fs id = rw (rooms-room fs) refl

pub find_quote-room : (fs : List Fact) (id : List ℕ) → find_quote (room_facts fs) id ≡ find_quote fs id
find_quote-room fs id = rw (quotes-room fs) refl

pub first_quote-room : (fs : List Fact) (n : ℕ) → first_quote (room_facts fs) n ≡ first_quote fs n
first_quote-room fs n = rw (quotes-room fs) refl

room_with-room : (fs : List Fact) (x : Option RoomQuote) → room_with (room_facts fs) x ≡ room_with fs x
room_with-room fs None = refl
room_with-room fs (Some q) = room_by_number-room fs q.room

pub quote_room-room : (fs : List Fact) (id : List ℕ) → quote_room (room_facts fs) id ≡ quote_room fs id
quote_room-room fs id = ap (room_with (room_facts fs)) (find_quote-room fs id) ∙ room_with-room fs (find_quote fs id)

pub named_quotes-room : (fs : List Fact) (maker t : ℕ) (id : Option (List ℕ)) → named_quotes (room_facts fs) maker t id ≡ named_quotes fs maker t id
named_quotes-room fs maker t None = live_quotes-room fs maker t
named_quotes-room fs maker t (Some id) = ap (filter _) (live_quotes-room fs maker t)

pub room_asked-room : (m : Market) (fs : List Fact) (who : ℕ) (d : QuoteRequest) (t : ℕ) → room_asked m (room_facts fs) who d t ≡ room_asked m fs who d t
room_asked-room m fs who d t = rw (rooms-room fs) refl

pub quote_made-room : (fs : List Fact) (who : ℕ) (r : Room) (d : Quote) → quote_made (room_facts fs) who r d ≡ quote_made fs who r d
quote_made-room fs who r d = rw (quotes-room fs) refl

-- so the causes and decisions are the same

pub request_cause-room : (m : Market) (fs : List Fact) (who : ℕ) (d : QuoteRequest) (t : ℕ) → request_cause m (room_facts fs) who d t ≡ request_cause m fs who d t
request_cause-room m fs who d t = rw (open_rooms-room fs t, rooms-room fs) refl

quote_cause_in-room : (m : Market) (fs : List Fact) (who : ℕ) (d : Quote) (t : ℕ) (x : Option Room) → quote_cause_in m (room_facts fs) who d t x ≡ quote_cause_in m fs who d t x
quote_cause_in-room m fs who d t None = refl
quote_cause_in-room m fs who d t (Some r) = rw (closed-room fs r.number, quotes-room fs) refl

pub quote_cause-room : (m : Market) (fs : List Fact) (who : ℕ) (d : Quote) (t : ℕ) → quote_cause m (room_facts fs) who d t ≡ quote_cause m fs who d t
quote_cause-room m fs who d t = ap (quote_cause_in m (room_facts fs) who d t) (find_room-room fs d.request_id) ∙ quote_cause_in-room m fs who d t (find_room fs d.request_id)

pub withdrawal_cause-room : (fs : List Fact) (who : ℕ) (d : QuoteCancel) (t : ℕ) → withdrawal_cause (room_facts fs) who d t ≡ withdrawal_cause fs who d t
withdrawal_cause-room fs who d t = rw (named_quotes-room fs who t (withdrawal_id d)) refl

decide_in-room : (fs : List Fact) (who : ℕ) (d : QuoteResponse) (t : ℕ) (x : Option RoomQuote) (y : Option Room) → decide_in (room_facts fs) who d t x y ≡ decide_in fs who d t x y
decide_in-room fs who d t None y = refl
decide_in-room fs who d t (Some q) None = refl
decide_in-room fs who d t (Some q) (Some r) = rw (closed-room fs r.number, replaced-room fs q, withdrawn-room fs q.number) refl

pub decide-room : (fs : List Fact) (who : ℕ) (d : QuoteResponse) (t : ℕ) → decide (room_facts fs) who d t ≡ decide fs who d t
decide-room fs who d t =
    ap (λ x. let y : Decision = elim (is_supported d) [ true ↦ x | false ↦ Refuse response.Unsupported ] in y)
    (ap (λ x. decide_in (room_facts fs) who d t x (quote_room (room_facts fs) d.quote_id)) (find_quote-room fs d.quote_id)
    ∙ ap (λ y. decide_in (room_facts fs) who d t (find_quote fs d.quote_id) y) (quote_room-room fs d.quote_id)
    ∙ decide_in-room fs who d t (find_quote fs d.quote_id) (quote_room fs d.quote_id))
