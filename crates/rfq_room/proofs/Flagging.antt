use Rattle.std.proofs.Common.{◌≡◌, refl, sym, ap, ◌∙◌, ℕ, ◌+◌, ◌<◌, Bool, true, false, cond, ◌||◌, ◌&&◌, ◌==◌, nat_eq, List, [], ◌∷◌, ◌++◌, length, get_or, take, All, filter_map, option_map, find, reverse, Option, Some, None, is_some}
use Rattle.std.specs.List.{cons_option, list_any}
use Rattle.std.specs.Option.{option_or}
use Rattle.std.specs.Cmp.{nat_eq_equiv}
use Rattle.std.proofs.lemmas.List.{append-nil, reverse-append}
use Rattle.std.proofs.lemmas.List.Elements.{filter_map-append}
use Rattle.std.proofs.lemmas.List.Folds.{find-append, list_any-append}
use Rattle.std.proofs.lemmas.List.Sums.{count_by_more_no, count_by_more_yes, sum_by-append}
use Rattle.client_ids.specs.ClientIds.{is_of}
use Rattle.venue_rules.specs.declared.facts.Fact.{Fact}
use Rattle.venue_rules.specs.declared.facts.Fact.TheVariants.{Entered, Traded, Removed, Held, Unheld, Asked, Quoted, Withdrawn, Closed}
use Rattle.venue_rules.specs.declared.facts.RoomQuote.{RoomQuote}
use Rattle.venue_rules.specs.Facts.{is_name, is_quote_id_used, is_request_id_used, quote_in, quotes}
use Rattle.venue_rules.specs.Rooms.{first_quote, is_closed, is_last, is_withdrawn, last_quote}
use Rattle.rfq_room.specs.declared.room_index.FlagKind.{FlagKind}
use Rattle.rfq_room.specs.declared.room_index.FlagKind.TheVariants as flag
use Rattle.rfq_room.specs.declared.room_index.IdKind.TheVariants as named
use Rattle.rfq_room.specs.Flagged.{AreThere, IsThere, count_of, is_flagged, is_numbered, last_number, names_in}
use Rattle.rfq_room.proofs.Readings.{found-any, take-read}

-- A further added fact.

or-moved : (a b c : Bool) → (a || (b || c)) ≡ ((b || (a || false)) || c)
or-moved true true c = refl
or-moved true false c = refl
or-moved false true c = refl
or-moved false false c = refl

kind-more : {X : Type 0} (kind : Fact → Option X) (fs : List Fact) (i : ℕ) (f : Fact) → i < length fs → f ≡ get_or fs i f → filter_map kind (take (i + 1) fs) ≡ filter_map kind (take i fs) ++ cons_option (kind f) []
kind-more kind fs i f h e = ap (filter_map kind) (take-read fs i f h e) ∙ filter_map-append kind (take i fs) (f ∷ [])

pub any-some : {X : Type 0} (p : X → Bool) (kind : Fact → Option X) (fs : List Fact) (i : ℕ) (f : Fact) (x : X) (after before : Bool) → i < length fs → f ≡ get_or fs i f → kind f ≡ Some x → after ≡ (p x || (list_any p (filter_map kind (take i fs)) || before)) → after ≡ (list_any p (filter_map kind (take (i + 1) fs)) || before)
any-some p kind fs i f x after before h e some is =
    is ∙ or-moved (p x) (list_any p (filter_map kind (take i fs))) before
    ∙ sym (ap (λ xs. list_any p xs || before) (kind-more kind fs i f h e ∙ ap (λ o. filter_map kind (take i fs) ++ cons_option o []) some) ∙ ap (λ b. b || before) (list_any-append p (filter_map kind (take i fs)) (x ∷ [])))

pub any-none : {X : Type 0} (p : X → Bool) (kind : Fact → Option X) (fs : List Fact) (i : ℕ) (f : Fact) (after before : Bool) → i < length fs → f ≡ get_or fs i f → kind f ≡ None → after ≡ (list_any p (filter_map kind (take i fs)) || before) → after ≡ (list_any p (filter_map kind (take (i + 1) fs)) || before)
any-none p kind fs i f after before h e none is = is ∙ sym (ap (λ xs. list_any p xs || before) (kind-more kind fs i f h e ∙ ap (λ o. filter_map kind (take i fs) ++ cons_option o []) none ∙ append-nil (filter_map kind (take i fs))))

-- all added facts

or-turned : (a b : Bool) → (a || b) ≡ (b || a)
or-turned true true = refl
or-turned true false = refl
or-turned false true = refl
or-turned false false = refl

pub any-added : {X : Type 0} (p : X → Bool) (kind : Fact → Option X) (facts added : List Fact) → (list_any p (filter_map kind added) || list_any p (filter_map kind facts)) ≡ list_any p (filter_map kind (facts ++ added))
any-added p kind facts added = or-turned (list_any p (filter_map kind added)) (list_any p (filter_map kind facts)) ∙ sym (ap (list_any p) (filter_map-append kind facts added) ∙ list_any-append p (filter_map kind facts) (filter_map kind added))

-- the last quotes

last-step : (b : Bool) (q : RoomQuote) (x : Option RoomQuote) (old : Option ℕ) → cond b (Some q.number) (option_or (option_map (λ (y : RoomQuote). y.number) x) old) ≡ option_or (option_map (λ (y : RoomQuote). y.number) (cond b (Some q) x)) old
last-step true q x old = refl
last-step false q x old = refl

quotes-on : (fs : List Fact) (i : ℕ) (f : Fact) (q : RoomQuote) → i < length fs → f ≡ get_or fs i f → quote_in f ≡ Some q → reverse (quotes (take (i + 1) fs)) ≡ q ∷ reverse (quotes (take i fs))
quotes-on fs i f q h e some = ap reverse (kind-more quote_in fs i f h e ∙ ap (λ o. quotes (take i fs) ++ cons_option o []) some) ∙ reverse-append (quotes (take i fs)) (q ∷ [])

pub last-some : (fs : List Fact) (i : ℕ) (f : Fact) (q : RoomQuote) (room maker : ℕ) (after old : Option ℕ) → i < length fs → f ≡ get_or fs i f → quote_in f ≡ Some q → after ≡ cond (nat_eq q.room room && nat_eq q.maker maker) (Some q.number) (option_or (last_number (take i fs) room maker) old) → after ≡ option_or (last_number (take (i + 1) fs) room maker) old
last-some fs i f q room maker after old h e some is =
    is
    ∙ last-step (nat_eq q.room room && nat_eq q.maker maker) q (last_quote (take i fs) room maker) old
    ∙ ap (λ qs. option_or (option_map (λ (y : RoomQuote). y.number) (find (λ (x : RoomQuote). x.room == room && x.maker == maker) qs)) old) (sym (quotes-on fs i f q h e some))

pub last-none : (fs : List Fact) (i : ℕ) (f : Fact) (room maker : ℕ) (after old : Option ℕ) → i < length fs → f ≡ get_or fs i f → quote_in f ≡ None → after ≡ option_or (last_number (take i fs) room maker) old → after ≡ option_or (last_number (take (i + 1) fs) room maker) old
last-none fs i f room maker after old h e none is =
    is ∙ ap (λ qs. option_or (option_map (λ (y : RoomQuote). y.number) (find (λ (x : RoomQuote). x.room == room && x.maker == maker) (reverse qs))) old)
    (sym (kind-more quote_in fs i f h e ∙ ap (λ o. quotes (take i fs) ++ cons_option o []) none ∙ append-nil (quotes (take i fs))))

or-number : (x y : Option RoomQuote) → option_or (option_map (λ (q : RoomQuote). q.number) x) (option_map (λ (q : RoomQuote). q.number) y) ≡ option_map (λ (q : RoomQuote). q.number) (option_or x y)
or-number None y = refl
or-number (Some q) y = refl

pub last-both : (facts added : List Fact) (room maker : ℕ) → last_quote (facts ++ added) room maker ≡ option_or (last_quote added room maker) (last_quote facts room maker)
last-both facts added room maker =
    let p : RoomQuote → Bool = λ q. q.room == room && q.maker == maker in
    ap (λ qs. find p (reverse qs)) (filter_map-append quote_in facts added)
    ∙ ap (find p) (reverse-append (quotes facts) (quotes added))
    ∙ find-append p (reverse (quotes added)) (reverse (quotes facts))

pub last-added : (facts added : List Fact) (room maker : ℕ) → option_or (last_number added room maker) (last_number facts room maker) ≡ last_number (facts ++ added) room maker
last-added facts added room maker = or-number (last_quote added room maker) (last_quote facts room maker) ∙ ap (option_map (λ (q : RoomQuote). q.number)) (sym (last-both facts added room maker))

-- the numbers that facts flag

pub there-same : (m : FlagKind) (facts added same : List Fact) (count : ℕ) → count ≡ count_of m facts → same ≡ added → AreThere facts added → All (IsThere count m) same
there-same m facts added same count e f h = rw (e, f) (h m)

-- the numbers that facts give

pub number-given : (m : FlagKind) (fs : List Fact) (i : ℕ) (f : Fact) → i < length fs → f ≡ get_or fs i f → is_numbered m f ≡ true → count_of m (take (i + 1) fs) ≡ count_of m (take i fs) + 1
number-given m fs i f h e given = count_by_more_yes (is_numbered m) fs i f h (ap (is_numbered m) (sym e) ∙ given)

pub number-not_given : (m : FlagKind) (fs : List Fact) (i : ℕ) (f : Fact) → i < length fs → f ≡ get_or fs i f → is_numbered m f ≡ false → count_of m (take (i + 1) fs) ≡ count_of m (take i fs)
number-not_given m fs i f h e given = count_by_more_no (is_numbered m) fs i f h (ap (is_numbered m) (sym e) ∙ given)

pub count-added : (m : FlagKind) (facts added : List Fact) → count_of m (facts ++ added) ≡ count_of m facts + count_of m added
count-added m facts added = sum_by-append (λ f. cond (is_numbered m f) 1 0) facts added

-- The flags are what the rules read.

turned : (n m : ℕ) (b : Bool) → (nat_eq n m || b) ≡ (m == n || b)
turned n m b = ap (λ c. c || b) (nat_eq_equiv.symm n m)

pub traded-is : (fs : List Fact) (n : ℕ) → is_flagged flag.Traded fs n ≡ is_closed fs n
traded-is [] n = refl
traded-is (Closed c ∷ fs) n = turned n c.room (is_flagged flag.Traded fs n) ∙ ap (λ b. c.room == n || b) (traded-is fs n)
traded-is (Entered e ∷ fs) n = traded-is fs n
traded-is (Traded t ∷ fs) n = traded-is fs n
traded-is (Removed r ∷ fs) n = traded-is fs n
traded-is (Held s ∷ fs) n = traded-is fs n
traded-is (Unheld u ∷ fs) n = traded-is fs n
traded-is (Asked r ∷ fs) n = traded-is fs n
traded-is (Quoted q ∷ fs) n = traded-is fs n
traded-is (Withdrawn w ∷ fs) n = traded-is fs n

pub withdrawn-is : (fs : List Fact) (n : ℕ) → is_flagged flag.Withdrawn fs n ≡ is_withdrawn fs n
withdrawn-is [] n = refl
withdrawn-is (Withdrawn w ∷ fs) n = turned n w.quote (is_flagged flag.Withdrawn fs n) ∙ ap (λ b. w.quote == n || b) (withdrawn-is fs n)
withdrawn-is (Entered e ∷ fs) n = withdrawn-is fs n
withdrawn-is (Traded t ∷ fs) n = withdrawn-is fs n
withdrawn-is (Removed r ∷ fs) n = withdrawn-is fs n
withdrawn-is (Held s ∷ fs) n = withdrawn-is fs n
withdrawn-is (Unheld u ∷ fs) n = withdrawn-is fs n
withdrawn-is (Asked r ∷ fs) n = withdrawn-is fs n
withdrawn-is (Quoted q ∷ fs) n = withdrawn-is fs n
withdrawn-is (Closed c ∷ fs) n = withdrawn-is fs n

quoted-any : (fs : List Fact) (n : ℕ) → is_flagged flag.Quoted fs n ≡ list_any (λ (q : RoomQuote). q.room == n) (quotes fs)
quoted-any [] n = refl
quoted-any (Quoted q ∷ fs) n = turned n q.room (is_flagged flag.Quoted fs n) ∙ ap (λ b. q.room == n || b) (quoted-any fs n)
quoted-any (Entered e ∷ fs) n = quoted-any fs n
quoted-any (Traded t ∷ fs) n = quoted-any fs n
quoted-any (Removed r ∷ fs) n = quoted-any fs n
quoted-any (Held s ∷ fs) n = quoted-any fs n
quoted-any (Unheld u ∷ fs) n = quoted-any fs n
quoted-any (Asked r ∷ fs) n = quoted-any fs n
quoted-any (Withdrawn w ∷ fs) n = quoted-any fs n
quoted-any (Closed c ∷ fs) n = quoted-any fs n

pub quoted-is : (fs : List Fact) (n : ℕ) → is_flagged flag.Quoted fs n ≡ is_some (first_quote fs n)
quoted-is fs n = quoted-any fs n ∙ sym (found-any (λ (q : RoomQuote). q.room == n) (quotes fs))

pub requests-are : (fs : List Fact) (who : ℕ) (id : List ℕ) → list_any (is_of who id) (names_in named.Requests fs) ≡ is_request_id_used fs who id
requests-are [] who id = refl
requests-are (Asked r ∷ fs) who id = ap (λ b. is_name who id r.requester r.id || b) (requests-are fs who id)
requests-are (Entered e ∷ fs) who id = requests-are fs who id
requests-are (Traded t ∷ fs) who id = requests-are fs who id
requests-are (Removed r ∷ fs) who id = requests-are fs who id
requests-are (Held s ∷ fs) who id = requests-are fs who id
requests-are (Unheld u ∷ fs) who id = requests-are fs who id
requests-are (Quoted q ∷ fs) who id = requests-are fs who id
requests-are (Withdrawn w ∷ fs) who id = requests-are fs who id
requests-are (Closed c ∷ fs) who id = requests-are fs who id

pub quotes-are : (fs : List Fact) (who : ℕ) (id : List ℕ) → list_any (is_of who id) (names_in named.Quotes fs) ≡ is_quote_id_used fs who id
quotes-are [] who id = refl
quotes-are (Quoted q ∷ fs) who id = ap (λ b. is_name who id q.maker q.id || b) (quotes-are fs who id)
quotes-are (Entered e ∷ fs) who id = quotes-are fs who id
quotes-are (Traded t ∷ fs) who id = quotes-are fs who id
quotes-are (Removed r ∷ fs) who id = quotes-are fs who id
quotes-are (Held s ∷ fs) who id = quotes-are fs who id
quotes-are (Unheld u ∷ fs) who id = quotes-are fs who id
quotes-are (Asked r ∷ fs) who id = quotes-are fs who id
quotes-are (Withdrawn w ∷ fs) who id = quotes-are fs who id
quotes-are (Closed c ∷ fs) who id = quotes-are fs who id

-- whether a quote is its maker's last in its room
pub last-is : (number : ℕ) (x : Option RoomQuote) (last : ℕ) → Some last ≡ option_map (λ (q : RoomQuote). q.number) x → is_last number x ≡ (last == number)
last-is number None last e = cc
last-is number (Some q) last e = let same : q.number ≡ last = cc in ap (λ n. n == number) same

pub last-isnt : (number : ℕ) (x : Option RoomQuote) → None ≡ option_map (λ (q : RoomQuote). q.number) x → is_last number x ≡ false
last-isnt number None e = refl
last-isnt number (Some q) e = cc
