use Rattle.std.proofs.Common.{◌≡◌, refl, sym, ap, ◌∙◌, subst, ℕ, suc, ◌+◌, Bool, true, false, List, [], ◌∷◌, ◌++◌, filter, length, length-append, append-nil, if◌then◌else◌, Option, Some, None}
use Rattle.std.specs.List.{list_all}
use Rattle.std.proofs.lemmas.List.Elements.{filter-append, filter_map-append}
use Rattle.venue_rules.specs.declared.facts.Fact.{Fact}
use Rattle.venue_rules.specs.declared.facts.Fact.TheVariants.{Quoted}
use Rattle.venue_rules.specs.declared.facts.Room.{Room}
use Rattle.venue_rules.specs.declared.facts.RoomQuote.{RoomQuote}
use Rattle.venue_rules.specs.declared.facts.Trade.{Trade}
use Rattle.venue_rules.specs.declared.trail.RoomFact.{RoomFact}
use Rattle.venue_rules.specs.declared.trail.TradeFact.{TradeFact}
use Rattle.venue_rules.specs.Facts.{History, trade_in, trades}
use Rattle.venue_rules.specs.Book.{picture}
use Rattle.venue_rules.specs.Readings.{trade_facts}
use Rattle.venue_rules.specs.Rooms.{first_quote, room_by_number}
use Rattle.venue_rules.specs.Answer.{Answer}
use Rattle.venue_rules.specs.Run.{after}
use Rattle.price_book.specs.BookFacts.{is_book_fact}
use Rattle.rfq_room.specs.RoomFacts.{is_room_fact, room_facts}
use Rattle.cross_delay.specs.DelayFacts.{is_delay_fact}
use Rattle.rfq_handler.specs.Counting.{reports_in, trades_in}
use Rattle.order_handler.specs.Parts.{Parts}
use Rattle.trade_history.specs.Numbered.{AreNumbered}
use Rattle.trade_history.specs.Quoted.{room_shown}
use Rattle.trade_history.specs.ReadOf.{IsReadOf, are_later}
use Rattle.trade_history.specs.Traded.{read_from}
use Rattle.venue_core.specs.declared.plan.Part.TheVariants.{OfOrders, OfRooms}
use Rattle.venue_core.specs.State.{VenueFacts}
use Rattle.venue_core.specs.VenueFacts.{IsStanding}
use Rattle.venue_core.specs.Plan.{answer_of, trades_with, with_part}
use Rattle.venue_core.specs.Read.{IsReadWith, rooms_of}
use Rattle.venue_core.proofs.Parting.{all-stay, none-stay, book-not-room, book-not-delay, delay-not-book, delay-not-room, room-not-book, room-not-delay, delay-trades}

-- the trades among further facts are read after those before, with the next numbers
abbrev pub AreReadOn : Type 0
AreReadOn = (fs gs : List Fact) → trade_facts (fs ++ gs) ≡ trade_facts fs ++ read_from (length (trade_facts fs) + 1) (trades gs)

-- the readings of rooms stay where no first quote is added; a first quote adds its room's
abbrev pub AreReadAsBefore : Type 0
AreReadAsBefore = (rs : List RoomFact) (hs added : List Fact) → AreNumbered (room_facts hs) → are_later (room_facts hs) (room_facts added) ≡ true → IsReadOf rs hs → IsReadOf rs (hs ++ added)

abbrev pub IsFirstRead : Type 0
IsFirstRead = (rs : List RoomFact) (hs : List Fact) (r : Room) (q : RoomQuote) → AreNumbered (room_facts hs ++ Quoted q ∷ []) → room_by_number (room_facts hs) q.room ≡ Some r → first_quote (room_facts hs) q.room ≡ None → IsReadOf rs hs → IsReadOf (rs ++ room_shown r q.number (picture hs r.instrument) ∷ []) (hs ++ Quoted q ∷ [])

pub read-on : AreReadAsBefore → IsFirstRead → (rs : List RoomFact) (hs added : List Fact) (read : Option RoomFact) → AreNumbered (room_facts hs) → AreNumbered (room_facts hs ++ added) → IsReadWith hs added read → IsReadOf rs hs → IsReadOf (rs ++ rooms_of read) (hs ++ added)
read-on before first rs hs added None numbered next later s = subst (λ (xs : List RoomFact). IsReadOf xs (hs ++ added)) (sym (append-nil rs)) (before rs hs added numbered later s)
read-on before first rs hs added (Some read) numbered next f s =
    subst (λ (fs : List Fact). IsReadOf (rs ++ read ∷ []) (hs ++ fs)) (sym f.made)
    (subst (λ (x : RoomFact). IsReadOf (rs ++ x ∷ []) (hs ++ Quoted f.quote ∷ [])) (sym f.shown)
    (first rs hs f.asked f.quote (subst (λ (fs : List Fact). AreNumbered (room_facts hs ++ fs)) f.made next) f.room f.first s))

-- the division of an answer's facts, and the trades among them
record Divided (facts of_book of_rooms of_delay : List Fact) (traded : List Trade) : Type 0 where
  pub book : filter is_book_fact facts ≡ of_book
  pub rooms : filter is_room_fact facts ≡ of_rooms
  pub delay : filter is_delay_fact facts ≡ of_delay
  pub trades : trades facts ≡ traded

after-divided : AreReadOn → (p : VenueFacts) (h : History) (a : Answer) (book rooms delay : List Fact) (traded : List Trade) (quoted : List RoomFact) → IsStanding p h → Divided a.facts book rooms delay traded → IsReadOf quoted (h.facts ++ a.facts)
    → IsStanding (record { book = p.book ++ book; rooms = p.rooms ++ rooms; delay = p.delay ++ delay; reports = p.reports + reports_in a.replies; trades = p.trades ++ read_from (length p.trades + 1) traded; quoted = quoted }) (after h a)
after-divided read p h a book rooms delay traded quoted s d kept = record {
  book = filter-append is_book_fact h.facts a.facts ∙ ap (λ fs. fs ++ filter is_book_fact a.facts) s.book ∙ ap (λ fs. p.book ++ fs) d.book;
  rooms = filter-append is_room_fact h.facts a.facts ∙ ap (λ fs. fs ++ filter is_room_fact a.facts) s.rooms ∙ ap (λ fs. p.rooms ++ fs) d.rooms;
  delay = filter-append is_delay_fact h.facts a.facts ∙ ap (λ fs. fs ++ filter is_delay_fact a.facts) s.delay ∙ ap (λ fs. p.delay ++ fs) d.delay;
  reports = ap (λ n. n + reports_in a.replies) s.reports;
  trades = read h.facts a.facts ∙ ap (λ ts. ts ++ read_from (length ts + 1) (trades a.facts)) s.trades ∙ ap (λ ts. p.trades ++ read_from (length p.trades + 1) ts) d.trades;
  quoted = kept;
}

-- facts of the book and of held sides divide so, in either order

both-kept : (p : Fact → Bool) (book delay : List Fact) (kept more : List Fact) → filter p book ≡ kept → filter p delay ≡ more → filter p (book ++ delay) ≡ kept ++ more
both-kept p book delay kept more e f = filter-append p book delay ∙ ap (λ fs. fs ++ filter p delay) e ∙ ap (λ fs. kept ++ fs) f

orders-divide : (first : Bool) (book delay : List Fact) → list_all is_book_fact book ≡ true → list_all is_delay_fact delay ≡ true
    → Divided (if first then delay ++ book else book ++ delay) book [] delay (trades book)
orders-divide true book delay b d = record {
  book = both-kept is_book_fact delay book [] book (none-stay is_delay_fact is_book_fact delay delay-not-book d) (all-stay is_book_fact book b);
  rooms = both-kept is_room_fact delay book [] [] (none-stay is_delay_fact is_room_fact delay delay-not-room d) (none-stay is_book_fact is_room_fact book book-not-room b);
  delay = both-kept is_delay_fact delay book delay [] (all-stay is_delay_fact delay d) (none-stay is_book_fact is_delay_fact book book-not-delay b) ∙ append-nil delay;
  trades = filter_map-append trade_in delay book ∙ ap (λ ts. ts ++ trades book) (delay-trades delay d);
}
orders-divide false book delay b d = record {
  book = both-kept is_book_fact book delay book [] (all-stay is_book_fact book b) (none-stay is_delay_fact is_book_fact delay delay-not-book d) ∙ append-nil book;
  rooms = both-kept is_room_fact book delay [] [] (none-stay is_book_fact is_room_fact book book-not-room b) (none-stay is_delay_fact is_room_fact delay delay-not-room d);
  delay = both-kept is_delay_fact book delay [] delay (none-stay is_book_fact is_delay_fact book book-not-delay b) (all-stay is_delay_fact delay d);
  trades = filter_map-append trade_in book delay ∙ ap (λ ts. trades book ++ ts) (delay-trades delay d) ∙ append-nil (trades book);
}

rooms-divide : (facts : List Fact) → list_all is_room_fact facts ≡ true → Divided facts [] facts [] (trades facts)
rooms-divide facts r = record {
  book = none-stay is_room_fact is_book_fact facts room-not-book r;
  rooms = all-stay is_room_fact facts r;
  delay = none-stay is_room_fact is_delay_fact facts room-not-delay r;
  trades = refl;
}

-- the state after each kind of plan

pub orders-after : AreReadOn → AreReadAsBefore → (p : VenueFacts) (h : History) (a : Parts) → AreNumbered p.rooms → list_all is_book_fact a.book ≡ true → list_all is_delay_fact a.delay ≡ true → IsStanding p h → IsStanding (with_part p (OfOrders a)) (after h (answer_of (OfOrders a)))
orders-after read before p h a n b d s =
    let divided = orders-divide a.delay_first a.book a.delay b d in
    let later : are_later (room_facts h.facts) (room_facts (answer_of (OfOrders a)).facts) ≡ true = ap (λ fs. are_later (room_facts h.facts) fs) divided.rooms in
    let kept : IsReadOf p.quoted (h.facts ++ (answer_of (OfOrders a)).facts) = before p.quoted h.facts (answer_of (OfOrders a)).facts (subst AreNumbered (sym s.rooms) n) later s.quoted in
    rw (append-nil p.rooms) at (after-divided read p h (answer_of (OfOrders a)) a.book [] a.delay (trades a.book) p.quoted s divided kept)

pub rooms-after : AreReadOn → AreReadAsBefore → IsFirstRead → (p : VenueFacts) (h : History) (a : Answer) (read : Option RoomFact) → AreNumbered p.rooms → AreNumbered (p.rooms ++ a.facts) → IsReadWith h.facts a.facts read → list_all is_room_fact a.facts ≡ true → IsStanding p h → IsStanding (with_part p (OfRooms a read)) (after h (answer_of (OfRooms a read)))
rooms-after on before first p h a read n next with r s =
    let kept = read-on before first p.quoted h.facts a.facts read (subst AreNumbered (sym s.rooms) n) (subst (λ fs. AreNumbered (fs ++ a.facts)) (sym s.rooms) next) with s.quoted in
    rw (append-nil p.book, append-nil p.delay) at (after-divided on p h a [] a.facts [] (trades a.facts) (p.quoted ++ rooms_of read) s (rooms-divide a.facts r) kept)

-- as many trades are read as are among further facts
read-length : (n : ℕ) (ts : List Trade) → length (read_from n ts) ≡ length ts
read-length n [] = refl
read-length n (t ∷ ts) = ap (λ k. suc k) (read-length (n + 1) ts)

pub with-length : (read : List TradeFact) (facts : List Fact) → length (trades_with read facts) ≡ length read + trades_in facts
with-length read facts = length-append read (read_from (length read + 1) (trades facts)) ∙ ap (λ k. length read + k) (read-length (length read + 1) (trades facts))

-- equal parts make the same state
pub same-standing : (b b' r r' d d' : List Fact) (n n' : ℕ) (k k' : List TradeFact) (q q' : List RoomFact) → b ≡ b' → r ≡ r' → d ≡ d' → n ≡ n' → k ≡ k' → q ≡ q'
    → (let p : VenueFacts = record { book = b; rooms = r; delay = d; reports = n; trades = k; quoted = q } in p) ≡ (let p : VenueFacts = record { book = b'; rooms = r'; delay = d'; reports = n'; trades = k'; quoted = q' } in p)
same-standing b b' r r' d d' n n' k k' q q' e f g h i j = cc
