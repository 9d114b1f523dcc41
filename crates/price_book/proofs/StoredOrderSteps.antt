use Rattle.std.proofs.Common.{◌≡◌, refl, sym, ap, ◌∙◌, ℕ, zero, suc, ◌+◌, ◌<◌, Bool, true, false, ◌||◌, List, [], ◌∷◌, ◌++◌, map, length, take, get_or, Some, None, append-nil, length-append}
use Rattle.std.specs.List.{remove, cons_option, list_any}
use Rattle.std.proofs.lemmas.List.Folds.{list_any-append}
use Rattle.std.proofs.lemmas.List.Elements.{filter_map-append}
use Rattle.venue_rules.specs.declared.facts.Fact.{Fact}
use Rattle.client_ids.specs.declared.client_id.ClientId.{ClientId}
use Rattle.price_book.specs.declared.stored_order.StoredOrder.{StoredOrder}
use Rattle.price_book.specs.Live.{seen_slot}
use Rattle.price_book.specs.Used.{name_in, names_in}
use Rattle.price_book.proofs.Readings.{take-read}

pub mapped-read : (xs : List StoredOrder) (i : ℕ) (s : StoredOrder) → get_or (map seen_slot xs) i (seen_slot s) ≡ seen_slot (get_or xs i s)
mapped-read [] zero s = refl
mapped-read [] (suc i) s = refl
mapped-read (x ∷ xs) zero s = refl
mapped-read (x ∷ xs) (suc i) s = mapped-read xs i s

-- removal from a list

pub map-remove : {X Y : Type 0} (f : X → Y) (xs : List X) (i : ℕ) → remove (map f xs) i ≡ map f (remove xs i)
map-remove f [] zero = refl
map-remove f [] (suc i) = refl
map-remove f (x ∷ xs) zero = refl
map-remove f (x ∷ xs) (suc i) = ap (λ ys. f x ∷ ys) (map-remove f xs i)

-- names of a further fact

pub names-more : (fs : List Fact) (i : ℕ) (f : Fact) → i < length fs → f ≡ get_or fs i f → names_in (take (i + 1) fs) ≡ names_in (take i fs) ++ cons_option (name_in f) []
names-more fs i f h e = ap names_in (take-read fs i f h e) ∙ filter_map-append name_in (take i fs) (f ∷ [])

pub names-some : (fs : List Fact) (i : ℕ) (f : Fact) (n : ClientId) → i < length fs → f ≡ get_or fs i f → name_in f ≡ Some n → names_in (take (i + 1) fs) ≡ names_in (take i fs) ++ n ∷ []
names-some fs i f n h e some = names-more fs i f h e ∙ ap (λ o. names_in (take i fs) ++ cons_option o []) some

pub names-none : (fs : List Fact) (i : ℕ) (f : Fact) → i < length fs → f ≡ get_or fs i f → name_in f ≡ None → names_in (take (i + 1) fs) ≡ names_in (take i fs)
names-none fs i f h e none = names-more fs i f h e ∙ ap (λ o. names_in (take i fs) ++ cons_option o []) none ∙ append-nil (names_in (take i fs))

or-moved : (a b c : Bool) → (a || (b || c)) ≡ ((b || (a || false)) || c)
or-moved true true c = refl
or-moved true false c = refl
or-moved false true c = refl
or-moved false false c = refl

pub any-some : (p : ClientId → Bool) (fs : List Fact) (i : ℕ) (f : Fact) (n : ClientId) (after before : Bool) → i < length fs → f ≡ get_or fs i f → name_in f ≡ Some n → after ≡ (p n || (list_any p (names_in (take i fs)) || before)) → after ≡ (list_any p (names_in (take (i + 1) fs)) || before)
any-some p fs i f n after before h e some is =
    is ∙ or-moved (p n) (list_any p (names_in (take i fs))) before
    ∙ sym (ap (λ ns. list_any p ns || before) (names-some fs i f n h e some) ∙ ap (λ b. b || before) (list_any-append p (names_in (take i fs)) (n ∷ [])))

pub any-none : (p : ClientId → Bool) (fs : List Fact) (i : ℕ) (f : Fact) (after before : Bool) → i < length fs → f ≡ get_or fs i f → name_in f ≡ None → after ≡ (list_any p (names_in (take i fs)) || before) → after ≡ (list_any p (names_in (take (i + 1) fs)) || before)
any-none p fs i f after before h e none is = is ∙ sym (ap (λ ns. list_any p ns || before) (names-none fs i f h e none))

pub count-some : (fs : List Fact) (i : ℕ) (f : Fact) (n : ClientId) → i < length fs → f ≡ get_or fs i f → name_in f ≡ Some n → length (names_in (take (i + 1) fs)) ≡ length (names_in (take i fs)) + 1
count-some fs i f n h e some = ap length (names-some fs i f n h e some) ∙ length-append (names_in (take i fs)) (n ∷ [])
