use Rattle.std.proofs.Common.{◌≡◌, refl, sym, ap, ◌∙◌, Bool, true, false, ◌&&◌, cond, List, [], ◌∷◌, ◌++◌, filter}
use Rattle.std.specs.List.{list_all}
use Rattle.std.proofs.lemmas.List.Folds.{list_all-append}
use Rattle.venue_rules.specs.declared.facts.Fact.{Fact}
use Rattle.venue_rules.specs.declared.facts.Fact.TheVariants.{Entered, Traded, Removed, Held, Unheld, Asked, Quoted, Withdrawn, Closed}
use Rattle.venue_rules.specs.declared.facts.TradeSource.{TradeSource}
use Rattle.venue_rules.specs.declared.facts.TradeSource.TheVariants.{Book as InBook, Room as InRoom}
use Rattle.venue_rules.specs.Facts.{trades}
use Rattle.price_book.specs.BookFacts.{is_book_fact, is_in_book}
use Rattle.rfq_room.specs.RoomFacts.{is_room_fact, is_in_room}
use Rattle.cross_delay.specs.DelayFacts.{is_delay_fact}

-- A filter keeps what all pass, and drops what none passes.

stays : {X : Type 0} (p : X → Bool) (x : X) (xs : List X) (b : Bool) → (list_all p xs ≡ true → filter p xs ≡ xs) → (b && list_all p xs) ≡ true → cond b (x ∷ filter p xs) (filter p xs) ≡ x ∷ xs
stays p x xs true rest h = ap (λ ys. x ∷ ys) (rest h)
stays p x xs false rest h = cc

pub all-stay : {X : Type 0} (p : X → Bool) (xs : List X) → list_all p xs ≡ true → filter p xs ≡ xs
all-stay p [] h = refl
all-stay p (x ∷ xs) h = stays p x xs (p x) (λ k. all-stay p xs k) h

goes : {X : Type 0} (p q : X → Bool) (x : X) (xs : List X) (b : Bool) → (b ≡ true → q x ≡ false) → (list_all p xs ≡ true → filter q xs ≡ []) → (b && list_all p xs) ≡ true → cond (q x) (x ∷ filter q xs) (filter q xs) ≡ []
goes p q x xs true other rest h = ap (λ c. cond c (x ∷ filter q xs) (filter q xs)) (other refl) ∙ rest h
goes p q x xs false other rest h = cc

pub none-stay : {X : Type 0} (p q : X → Bool) (xs : List X) → ((x : X) → p x ≡ true → q x ≡ false) → list_all p xs ≡ true → filter q xs ≡ []
none-stay p q [] other h = refl
none-stay p q (x ∷ xs) other h = goes p q x xs (p x) (other x) (λ k. none-stay p q xs other k) h

-- of two lists appended, what is left once the first is known
pub rest-all : {X : Type 0} (p : X → Bool) (xs ys : List X) → list_all p (xs ++ ys) ≡ true → list_all p ys ≡ true
rest-all p xs ys h = second (list_all p xs) (list_all p ys) (sym (list_all-append p xs ys) ∙ h)
  where
    second : (a b : Bool) → (a && b) ≡ true → b ≡ true
    second true b h = h
    second false b h = cc

pub both-all : {X : Type 0} (p : X → Bool) (xs ys : List X) → list_all p xs ≡ true → list_all p ys ≡ true → list_all p (xs ++ ys) ≡ true
both-all p xs ys h k = list_all-append p xs ys ∙ both (list_all p xs) (list_all p ys) h k
  where
    both : (a b : Bool) → a ≡ true → b ≡ true → (a && b) ≡ true
    both true true h k = refl
    both true false h k = cc
    both false b h k = cc

-- A fact is of the book, of the rooms or of the held sides alone.

place-not-room : (p : TradeSource) → is_in_book p ≡ true → is_in_room p ≡ false
place-not-room (InBook a b) h = refl
place-not-room (InRoom a b) h = cc

place-not-book : (p : TradeSource) → is_in_room p ≡ true → is_in_book p ≡ false
place-not-book (InBook a b) h = cc
place-not-book (InRoom a b) h = refl

pub book-not-room : (f : Fact) → is_book_fact f ≡ true → is_room_fact f ≡ false
book-not-room (Entered e) h = refl
book-not-room (Traded t) h = place-not-room t.place h
book-not-room (Removed r) h = refl
book-not-room (Held k) h = refl
book-not-room (Unheld u) h = refl
book-not-room (Asked r) h = cc
book-not-room (Quoted q) h = cc
book-not-room (Withdrawn w) h = cc
book-not-room (Closed c) h = cc

pub book-not-delay : (f : Fact) → is_book_fact f ≡ true → is_delay_fact f ≡ false
book-not-delay (Entered e) h = refl
book-not-delay (Traded t) h = refl
book-not-delay (Removed r) h = refl
book-not-delay (Held k) h = cc
book-not-delay (Unheld u) h = cc
book-not-delay (Asked r) h = refl
book-not-delay (Quoted q) h = refl
book-not-delay (Withdrawn w) h = refl
book-not-delay (Closed c) h = refl

pub delay-not-book : (f : Fact) → is_delay_fact f ≡ true → is_book_fact f ≡ false
delay-not-book (Entered e) h = cc
delay-not-book (Traded t) h = cc
delay-not-book (Removed r) h = cc
delay-not-book (Held k) h = refl
delay-not-book (Unheld u) h = refl
delay-not-book (Asked r) h = refl
delay-not-book (Quoted q) h = refl
delay-not-book (Withdrawn w) h = refl
delay-not-book (Closed c) h = refl

pub delay-not-room : (f : Fact) → is_delay_fact f ≡ true → is_room_fact f ≡ false
delay-not-room (Entered e) h = refl
delay-not-room (Traded t) h = cc
delay-not-room (Removed r) h = refl
delay-not-room (Held k) h = refl
delay-not-room (Unheld u) h = refl
delay-not-room (Asked r) h = cc
delay-not-room (Quoted q) h = cc
delay-not-room (Withdrawn w) h = cc
delay-not-room (Closed c) h = cc

pub room-not-book : (f : Fact) → is_room_fact f ≡ true → is_book_fact f ≡ false
room-not-book (Entered e) h = cc
room-not-book (Traded t) h = place-not-book t.place h
room-not-book (Removed r) h = cc
room-not-book (Held k) h = refl
room-not-book (Unheld u) h = refl
room-not-book (Asked r) h = refl
room-not-book (Quoted q) h = refl
room-not-book (Withdrawn w) h = refl
room-not-book (Closed c) h = refl

pub room-not-delay : (f : Fact) → is_room_fact f ≡ true → is_delay_fact f ≡ false
room-not-delay (Entered e) h = refl
room-not-delay (Traded t) h = refl
room-not-delay (Removed r) h = refl
room-not-delay (Held k) h = cc
room-not-delay (Unheld u) h = cc
room-not-delay (Asked r) h = refl
room-not-delay (Quoted q) h = refl
room-not-delay (Withdrawn w) h = refl
room-not-delay (Closed c) h = refl

-- facts of held sides are no trades
pub delay-trades : (fs : List Fact) → list_all is_delay_fact fs ≡ true → trades fs ≡ []
delay-trades [] h = refl
delay-trades (Entered e ∷ fs) h = cc
delay-trades (Traded t ∷ fs) h = cc
delay-trades (Removed r ∷ fs) h = cc
delay-trades (Held k ∷ fs) h = delay-trades fs h
delay-trades (Unheld u ∷ fs) h = delay-trades fs h
delay-trades (Asked r ∷ fs) h = cc
delay-trades (Quoted q ∷ fs) h = cc
delay-trades (Withdrawn w ∷ fs) h = cc
delay-trades (Closed c ∷ fs) h = cc
