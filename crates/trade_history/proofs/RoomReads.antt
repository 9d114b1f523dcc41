use Rattle.std.proofs.Common.{◌≡◌, refl, sym, ap, ◌∙◌, subst, ℕ, ◌==◌, Bool, true, false, ◌||◌, cond, List, [], ◌∷◌, ◌++◌, filter_map, find, Option, Some, None, is_some, eq-eqb}
use Rattle.std.specs.List.{cons_option, list_all, list_any}
use Rattle.std.specs.Option.{option_or}
use Rattle.std.proofs.lemmas.Bool.{and_parts, eqb-true}
use Rattle.std.proofs.lemmas.List.Elements.{filter_map-append}
use Rattle.std.proofs.lemmas.List.Folds.{find-append}
use Rattle.venue_rules.specs.declared.facts.Fact.{Fact}
use Rattle.venue_rules.specs.declared.facts.Fact.TheVariants.{Entered, Traded, Removed, Held, Unheld, Asked, Quoted, Withdrawn, Closed}
use Rattle.venue_rules.specs.declared.facts.Room.{Room}
use Rattle.venue_rules.specs.declared.facts.RoomQuote.{RoomQuote}
use Rattle.venue_rules.specs.declared.trail.RoomFact.{RoomFact}
use Rattle.venue_rules.specs.Book.{picture}
use Rattle.venue_rules.specs.Facts.{quote_in, quotes, room_in, rooms}
use Rattle.venue_rules.specs.Readings.{before_quote, is_quote, room_fact, room_fact_of}
use Rattle.venue_rules.specs.Rooms.{first_quote, room_by_number}
use Rattle.rfq_room.specs.RoomFacts.{is_room_fact, room_facts}
use Rattle.trade_history.specs.Numbered.{AreNumbered}
use Rattle.trade_history.specs.Quoted.{found, room_shown}
use Rattle.trade_history.specs.ReadOf.{IsReadOf, are_later}
use Rattle.trade_history.proofs.Lists.{found-also, found-any, found-passes, while-all, while-stays}
use Rattle.trade_history.proofs.RoomNumbers.{have-rooms, is-new, next-first}

-- The rooms and quotes of a venue are those of its rooms' facts.

kept-room : {X : Type 0} (kind : Fact → Option X) → ((f : Fact) → is_room_fact f ≡ false → kind f ≡ None) → (fs : List Fact) → filter_map kind (room_facts fs) ≡ filter_map kind fs
kept-room kind other [] = refl
kept-room kind other (f ∷ fs) = step kind f (room_facts fs) fs (is_room_fact f) (other f) (kept-room kind other fs)
  where
    step : {X : Type 0} (kind : Fact → Option X) (f : Fact) (gs fs : List Fact) (b : Bool) → (b ≡ false → kind f ≡ None) → filter_map kind gs ≡ filter_map kind fs → filter_map kind (cond b (f ∷ gs) gs) ≡ cons_option (kind f) (filter_map kind fs)
    step kind f gs fs true other h = ap (cons_option (kind f)) h
    step kind f gs fs false other h = rw (other refl) h

no-room : (f : Fact) → is_room_fact f ≡ false → room_in f ≡ None
no-room (Asked r) h = cc
no-room (Entered e) h = refl
no-room (Traded t) h = refl
no-room (Removed r) h = refl
no-room (Held s) h = refl
no-room (Unheld u) h = refl
no-room (Quoted q) h = refl
no-room (Withdrawn w) h = refl
no-room (Closed c) h = refl

no-quote : (f : Fact) → is_room_fact f ≡ false → quote_in f ≡ None
no-quote (Quoted q) h = cc
no-quote (Entered e) h = refl
no-quote (Traded t) h = refl
no-quote (Removed r) h = refl
no-quote (Held s) h = refl
no-quote (Unheld u) h = refl
no-quote (Asked r) h = refl
no-quote (Withdrawn w) h = refl
no-quote (Closed c) h = refl

rooms-room : (fs : List Fact) → rooms (room_facts fs) ≡ rooms fs
rooms-room fs = kept-room room_in no-room fs

quotes-room : (fs : List Fact) → quotes (room_facts fs) ≡ quotes fs
quotes-room fs = kept-room quote_in no-quote fs

-- a room with a quote exists
has-room : (hs : List Fact) (n : ℕ) → AreNumbered (room_facts hs) → is_some (first_quote hs n) ≡ true → is_some (room_by_number hs n) ≡ true
has-room hs n a h =
    found-any (λ (r : Room). r.number == n) (rooms hs)
    ∙ ap (list_any (λ (r : Room). r.number == n)) (sym (rooms-room hs))
    ∙ have-rooms (room_facts hs) a n (ap (list_any (λ (q : RoomQuote). q.room == n)) (quotes-room hs) ∙ sym (found-any (λ (q : RoomQuote). q.room == n) (quotes hs)) ∙ h)

-- Further facts keep a room and its first quote.

first-both : (hs added : List Fact) (n : ℕ) → first_quote (hs ++ added) n ≡ option_or (first_quote hs n) (first_quote added n)
first-both hs added n = ap (find (λ (q : RoomQuote). q.room == n)) (filter_map-append quote_in hs added) ∙ find-append (λ (q : RoomQuote). q.room == n) (quotes hs) (quotes added)

room-both : (hs added : List Fact) (n : ℕ) → room_by_number (hs ++ added) n ≡ option_or (room_by_number hs n) (room_by_number added n)
room-both hs added n = ap (find (λ (r : Room). r.number == n)) (filter_map-append room_in hs added) ∙ find-append (λ (r : Room). r.number == n) (rooms hs) (rooms added)

-- a quote with this number is among the facts
quoted-any : (k : ℕ) (fs : List Fact) → list_any (is_quote k) fs ≡ list_any (λ (q : RoomQuote). q.number == k) (quotes fs)
quoted-any k [] = refl
quoted-any k (Quoted q ∷ fs) = ap (λ b. (q.number == k) || b) (quoted-any k fs)
quoted-any k (Entered e ∷ fs) = quoted-any k fs
quoted-any k (Traded t ∷ fs) = quoted-any k fs
quoted-any k (Removed r ∷ fs) = quoted-any k fs
quoted-any k (Held s ∷ fs) = quoted-any k fs
quoted-any k (Unheld u ∷ fs) = quoted-any k fs
quoted-any k (Asked r ∷ fs) = quoted-any k fs
quoted-any k (Withdrawn w ∷ fs) = quoted-any k fs
quoted-any k (Closed c ∷ fs) = quoted-any k fs

-- so what is before it stays too
before-stays : (hs added : List Fact) (n : ℕ) (q : RoomQuote) → first_quote hs n ≡ Some q → before_quote (hs ++ added) q.number ≡ before_quote hs q.number
before-stays hs added n q f = while-stays (is_quote q.number) hs added (quoted-any q.number hs ∙ found-also (λ (x : RoomQuote). x.room == n) (λ (x : RoomQuote). x.number == q.number) (quotes hs) q f (eq-eqb q.number q.number refl))

none-read : (facts : List Fact) (x : Option Room) → room_fact_of facts x None ≡ None
none-read facts None = refl
none-read facts (Some r) = refl

-- a room with its first quote is read with what comes before the quote
first-read : (hs added : List Fact) (n : ℕ) (r : Room) (q : RoomQuote) → room_by_number hs n ≡ Some r → first_quote (hs ++ added) n ≡ Some q → room_fact (hs ++ added) n ≡ Some (room_shown r q.number (picture (before_quote (hs ++ added) q.number) r.instrument))
first-read hs added n r q e f =
    ap (λ o. room_fact_of (hs ++ added) o (first_quote (hs ++ added) n)) (room-both hs added n ∙ ap (λ o. option_or o (room_by_number added n)) e)
    ∙ ap (λ o. room_fact_of (hs ++ added) (Some r) o) f

-- A room's reading stays where no first quote is added in it.
stays : (hs added : List Fact) (n : ℕ) (x : Option Room) (y : Option RoomQuote) → room_by_number hs n ≡ x → first_quote hs n ≡ y → (is_some y ≡ true → is_some x ≡ true) → (y ≡ None → first_quote added n ≡ None) → room_fact (hs ++ added) n ≡ room_fact_of hs x y
stays hs added n x None e f g k =
    ap (room_fact_of (hs ++ added) (room_by_number (hs ++ added) n)) (first-both hs added n ∙ ap (λ o. option_or o (first_quote added n)) f ∙ k refl)
    ∙ none-read (hs ++ added) (room_by_number (hs ++ added) n)
    ∙ sym (none-read hs x)
stays hs added n None (Some q) e f g k = let h : false ≡ true = g refl in cc
stays hs added n (Some r) (Some q) e f g k =
    first-read hs added n r q e (first-both hs added n ∙ ap (λ o. option_or o (first_quote added n)) f)
    ∙ ap (λ fs. Some (room_shown r q.number (picture fs r.instrument))) (before-stays hs added n q f)

-- quotes in rooms that have one are first in none without one
none-first : (us qs : List RoomQuote) (n : ℕ) → list_all (λ (q : RoomQuote). is_some (find (λ (x : RoomQuote). x.room == q.room) us)) qs ≡ true → find (λ (x : RoomQuote). x.room == n) us ≡ None → find (λ (x : RoomQuote). x.room == n) qs ≡ None
none-first us [] n l e = refl
none-first us (q ∷ qs) n l e =
    let parts = and_parts (is_some (find (λ (x : RoomQuote). x.room == q.room) us)) (list_all (λ (q : RoomQuote). is_some (find (λ (x : RoomQuote). x.room == q.room) us)) qs) l in
    step us q qs n (q.room == n) refl parts.0 e (none-first us qs n parts.1 e)
  where
    step : (us : List RoomQuote) (q : RoomQuote) (qs : List RoomQuote) (n : ℕ) (b : Bool) → q.room == n ≡ b → is_some (find (λ (x : RoomQuote). x.room == q.room) us) ≡ true → find (λ (x : RoomQuote). x.room == n) us ≡ None → find (λ (x : RoomQuote). x.room == n) qs ≡ None → cond b (Some q) (find (λ (x : RoomQuote). x.room == n) qs) ≡ None
    step us q qs n true h s e k =
        let there : is_some (find (λ (x : RoomQuote). x.room == n) us) ≡ true = subst (λ (m : ℕ). is_some (find (λ (x : RoomQuote). x.room == m) us) ≡ true) (eqb-true q.room n h) s in
        let none : false ≡ true = ap is_some (sym e) ∙ there in
        cc
    step us q qs n false h s e k = k

pub later-read : (rs : List RoomFact) (hs added : List Fact) → AreNumbered (room_facts hs) → are_later (room_facts hs) (room_facts added) ≡ true → IsReadOf rs hs → IsReadOf rs (hs ++ added)
later-read rs hs added a l h = λ n.
    h n ∙ sym (stays hs added n (room_by_number hs n) (first_quote hs n) refl refl (has-room hs n a)
    (λ e. ap (find (λ (x : RoomQuote). x.room == n)) (sym (quotes-room added)) ∙ none-first (quotes (room_facts hs)) (quotes (room_facts added)) n l (ap (find (λ (x : RoomQuote). x.room == n)) (quotes-room hs) ∙ e)))

option_or-none : {X : Type 0} (x : Option X) → option_or x None ≡ x
option_or-none None = refl
option_or-none (Some y) = refl

-- The room of a first quote is the added one.
here : (rs : List RoomFact) (hs : List Fact) (r : Room) (q : RoomQuote) → list_any (λ (x : RoomQuote). x.number == q.number) (quotes hs) ≡ false → room_by_number hs q.room ≡ Some r → first_quote hs q.room ≡ None → IsReadOf rs hs → found q.room (rs ++ room_shown r q.number (picture hs r.instrument) ∷ []) ≡ room_fact (hs ++ Quoted q ∷ []) q.room
here rs hs r q new e f h =
    let it : RoomFact = room_shown r q.number (picture hs r.instrument) in
    find-append (λ (x : RoomFact). x.number == q.room) rs (it ∷ [])
    ∙ ap (λ o. option_or o (found q.room (it ∷ []))) (h q.room ∙ ap (room_fact_of hs (room_by_number hs q.room)) f ∙ none-read hs (room_by_number hs q.room))
    ∙ ap (λ b. cond b (Some it) None) (found-passes (λ (x : Room). x.number == q.room) (rooms hs) r e)
    ∙ ap (λ fs. Some (room_shown r q.number (picture fs r.instrument))) (sym (while-all (is_quote q.number) hs (Quoted q) (quoted-any q.number hs ∙ new) (eq-eqb q.number q.number refl)))
    ∙ sym (first-read hs (Quoted q ∷ []) q.room r q e (first-both hs (Quoted q ∷ []) q.room ∙ ap (λ o. option_or o (first_quote (Quoted q ∷ []) q.room)) f ∙ ap (λ b. cond b (Some q) None) (eq-eqb q.room q.room refl)))

-- The readings of other rooms stay.
elsewhere : (rs : List RoomFact) (hs : List Fact) (r : Room) (q : RoomQuote) (n : ℕ) → q.room == n ≡ false → AreNumbered (room_facts hs) → room_by_number hs q.room ≡ Some r → IsReadOf rs hs → found n (rs ++ room_shown r q.number (picture hs r.instrument) ∷ []) ≡ room_fact (hs ++ Quoted q ∷ []) n
elsewhere rs hs r q n other a e h =
    let it : RoomFact = room_shown r q.number (picture hs r.instrument) in
    let same : r.number ≡ q.room = eqb-true r.number q.room (found-passes (λ (x : Room). x.number == q.room) (rooms hs) r e) in
    find-append (λ (x : RoomFact). x.number == n) rs (it ∷ [])
    ∙ ap (λ b. option_or (found n rs) (cond b (Some it) None)) (ap (λ m. m == n) same ∙ other)
    ∙ option_or-none (found n rs)
    ∙ h n
    ∙ sym (stays hs (Quoted q ∷ []) n (room_by_number hs n) (first_quote hs n) refl refl (has-room hs n a) (λ k. ap (λ b. cond b (Some q) None) other))

pub one-more-read : (rs : List RoomFact) (hs : List Fact) (r : Room) (q : RoomQuote) → AreNumbered (room_facts hs ++ Quoted q ∷ []) → room_by_number (room_facts hs) q.room ≡ Some r → first_quote (room_facts hs) q.room ≡ None → IsReadOf rs hs → IsReadOf (rs ++ room_shown r q.number (picture hs r.instrument) ∷ []) (hs ++ Quoted q ∷ [])
one-more-read rs hs r q a e f h = λ n. step n (q.room == n) refl
  where
    there : room_by_number hs q.room ≡ Some r
    there = ap (find (λ (x : Room). x.number == q.room)) (sym (rooms-room hs)) ∙ e

    none : first_quote hs q.room ≡ None
    none = ap (find (λ (x : RoomQuote). x.room == q.room)) (sym (quotes-room hs)) ∙ f

    new : list_any (λ (x : RoomQuote). x.number == q.number) (quotes hs) ≡ false
    new = ap (list_any (λ (x : RoomQuote). x.number == q.number)) (sym (quotes-room hs)) ∙ is-new (room_facts hs) q a

    step : (n : ℕ) (b : Bool) → q.room == n ≡ b → found n (rs ++ room_shown r q.number (picture hs r.instrument) ∷ []) ≡ room_fact (hs ++ Quoted q ∷ []) n
    step n true k = subst (λ (m : ℕ). found m (rs ++ room_shown r q.number (picture hs r.instrument) ∷ []) ≡ room_fact (hs ++ Quoted q ∷ []) m) (eqb-true q.room n k) (here rs hs r q new there none h)
    step n false k = elsewhere rs hs r q n k (next-first [] (room_facts hs) (Quoted q ∷ []) a) there h
