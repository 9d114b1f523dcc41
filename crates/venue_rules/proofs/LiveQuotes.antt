use Rattle.std.proofs.Common.{◌≡◌, refl, sym, ap, ◌∙◌, subst, inl, inr, ◌⊎◌, ℕ, suc, ◌+◌, ◌<◌, ◌≤◌, Bool, true, false, cond, not, ◌&&◌, ◌==◌, nat_le, List, [], ◌∷◌, map, length, filter, Option, Some, None, arith, eqb-true, eq-eqb}
use Rattle.std.proofs.lemmas.Bool.{true≢false, and_parts}
use Rattle.std.proofs.lemmas.Bool.Decides.{nat_tests}
use Rattle.std.proofs.lemmas.List.{length-map}
use Rattle.venue_rules.specs.declared.facts.Fact.{Fact}
use Rattle.venue_rules.specs.declared.facts.Fact.TheVariants.{Quoted}
use Rattle.venue_rules.specs.declared.facts.Room.{Room}
use Rattle.venue_rules.specs.declared.facts.RoomQuote.{RoomQuote}
use Rattle.venue_rules.specs.declared.replies.Reply.{Reply}
use Rattle.venue_rules.specs.Market.{Market}
use Rattle.venue_rules.specs.Facts.{quotes, rooms}
use Rattle.venue_rules.specs.Rooms.{is_closed, is_last, is_live, is_open, is_replaced, is_withdrawn, last_quote, live_quotes, open_rooms}
use Rattle.venue_rules.specs.Requests.{open_room}
use Rattle.venue_rules.specs.Run.{Input, run}
use Rattle.venue_rules.specs.Limits.{LiveQuotesAreFew}
use Rattle.venue_rules.proofs.Members.{In, In-filter, Places}
use Rattle.venue_rules.proofs.Follows.{Follows, Each}
use Rattle.venue_rules.proofs.EveryRun.{member_follows, quotes_placed, quoted_in, rooms_more, run-Follows}
use Rattle.venue_rules.proofs.OpenRoomsEach.{open_rooms_few}

-- A participant has at most one live quote in each open room.

-- rising numbers

abbrev Rising : {X : Type 0} → (X → ℕ) → ℕ → List X → Type 0
Rising num n [] = Unit {0}
Rising num n (x ∷ xs) = (n < num x) × Rising num (num x) xs

rising_from : {X : Type 0} (num : X → ℕ) (n k : ℕ) (xs : List X) → n ≤ k → Rising num k xs → Rising num n xs
rising_from num n k [] le r = tt
rising_from num n k (x ∷ xs) le r = let lt : k < num x = r.0 in (omega (arith, le, lt), r.1)

Places-Rising : {X : Type 0} (num : X → ℕ) (n : ℕ) (xs : List X) → Places num n xs → Rising num n xs
Places-Rising num n [] p = tt
Places-Rising num n (x ∷ xs) p = let e : num x ≡ n + 1 = p.0 in (omega (arith, e), subst (λ k. Rising num k xs) (sym e) (Places-Rising num (n + 1) xs p.1))

rising_cons : {X : Type 0} (num : X → ℕ) (n : ℕ) (x : X) (xs : List X) (b : Bool) → n < num x → Rising num (num x) xs → Rising num n (cond b (x ∷ xs) xs)
rising_cons num n x xs true lt r = (lt, r)
rising_cons num n x xs false lt r = rising_from num n (num x) xs (omega (arith, lt)) r

rising_filter : {X : Type 0} (num : X → ℕ) (n : ℕ) (p : X → Bool) (xs : List X) → Rising num n xs → Rising num n (filter p xs)
rising_filter num n p [] r = tt
rising_filter num n p (x ∷ xs) r = rising_cons num n x (filter p xs) (p x) r.0 (rising_filter num (num x) p xs r.1)

rising_above : {X : Type 0} (num : X → ℕ) (n : ℕ) (xs : List X) (x : X) → Rising num n xs → In x xs → n < num x
rising_above num n [] x r i = absurd i
rising_above num n (y ∷ ys) x r (inl same) = let lt : n < num y = r.0 in let e : num y ≡ num x = ap num same in omega (arith, lt, e)
rising_above num n (y ∷ ys) x r (inr i) = let lt : n < num y = r.0 in let more : num y < num x = rising_above num (num y) ys x r.1 i in omega (arith, lt, more)

-- elements with distinct keys taken from a list are no more than the list

abbrev without : ℕ → List ℕ → List ℕ
without k [] = []
without k (y ∷ ys) = cond (y == k) ys (y ∷ without k ys)

one_less : (k y : ℕ) (ys : List ℕ) (b : Bool) → (y == k) ≡ b → (y ≡ k) ⊎ In k ys → (In k ys → suc (length (without k ys)) ≡ length ys) → suc (length (cond b ys (y ∷ without k ys))) ≡ suc (length ys)
one_less k y ys true e i rec = refl
one_less k y ys false e (inl same) rec = absurd (true≢false (sym (eq-eqb y k same) ∙ e))
one_less k y ys false e (inr i) rec = ap suc (rec i)

without_length : (k : ℕ) (ys : List ℕ) → In k ys → suc (length (without k ys)) ≡ length ys
without_length k [] i = absurd i
without_length k (y ∷ ys) i = one_less k y ys (y == k) refl i (without_length k ys)

still_in : (j k y : ℕ) (ys : List ℕ) (b : Bool) → (y == k) ≡ b → (j ≡ k → ⊥) → (y ≡ j) ⊎ In j ys → (In j ys → In j (without k ys)) → In j (cond b ys (y ∷ without k ys))
still_in j k y ys true e differs (inl same) rec = absurd (differs (sym same ∙ eqb-true y k e))
still_in j k y ys true e differs (inr i) rec = i
still_in j k y ys false e differs (inl same) rec = inl same
still_in j k y ys false e differs (inr i) rec = inr (rec i)

without_in : (j k : ℕ) (ys : List ℕ) → (j ≡ k → ⊥) → In j ys → In j (without k ys)
without_in j k [] differs i = i
without_in j k (y ∷ ys) differs i = still_in j k y ys (y == k) refl differs i (without_in j k ys differs)

fits : {X : Type 0} (key num : X → ℕ) (n : ℕ) (xs : List X) (ys : List ℕ) → Rising num n xs → ((x y : X) → In x xs → In y xs → key x ≡ key y → num x ≡ num y) → ((x : X) → In x xs → In (key x) ys) → length xs ≤ length ys
fits key num n [] ys r one there = omega arith
fits {X} key num n (x ∷ xs) ys r one there =
    let rest : length xs ≤ length (without (key x) ys) = fits key num (num x) xs (without (key x) ys) r.1 (λ a b i j. one a b (inr i) (inr j)) (λ y i. without_in (key y) (key x) ys (λ e. past (num y) (num x) (one y x (inr i) (inl refl) e) (rising_above num (num x) xs y r.1 i)) (there y (inr i))) in
    let less : suc (length (without (key x) ys)) ≡ length ys = without_length (key x) ys (there x (inl refl)) in
    omega (arith, rest, less)
  where
    past : (a b : ℕ) → a ≡ b → b < a → ⊥
    past a b e lt = omega (arith, e, lt)

-- members of filters and maps

kept : {X : Type 0} (y x : X) (fs : List X) (b : Bool) → y ≡ x → b ≡ true → In x (cond b (y ∷ fs) fs)
kept y x fs true same h = inl same
kept y x fs false same h = absurd (true≢false (sym h))

kept_behind : {X : Type 0} (y x : X) (fs : List X) (b : Bool) → In x fs → In x (cond b (y ∷ fs) fs)
kept_behind y x fs true i = inr i
kept_behind y x fs false i = i

in_filter : {X : Type 0} (p : X → Bool) (xs : List X) (x : X) → In x xs → p x ≡ true → In x (filter p xs)
in_filter p [] x i h = i
in_filter p (y ∷ ys) x (inl same) h = kept y x (filter p ys) (p y) same (ap p same ∙ h)
in_filter p (y ∷ ys) x (inr i) h = kept_behind y x (filter p ys) (p y) (in_filter p ys x i h)

in_map : {X Y : Type 0} (f : X → Y) (xs : List X) (x : X) → In x xs → In (f x) (map f xs)
in_map f [] x i = i
in_map f (y ∷ ys) x (inl same) = inl (ap f same)
in_map f (y ∷ ys) x (inr i) = inr (in_map f ys x i)

-- a live quote is in an open room

both : (a b : Bool) → a ≡ true → b ≡ true → (a && b) ≡ true
both true b h k = k
both false b h k = absurd (true≢false (sym h))

later_end : (t e f : ℕ) → nat_le t e ≡ true → e ≤ f → nat_le t f ≡ true
later_end t e f h le = grind (arith, nat_tests)

room_of_live : (m : Market) (rs : List Reply) (fs : List Fact) (t : ℕ) → Each (Follows m rs) [] fs → (q : RoomQuote) → In q (quotes fs) → is_live fs t q ≡ true → In q.room (map (λ (r : Room). r.number) (open_rooms fs t))
room_of_live m rs fs t p q i live =
    let k = member_follows (Follows m rs) fs (Quoted q) p (quoted_in fs q i) in
    let here : In k.3.0 (rooms fs) = rooms_more k.0 k.1 (Quoted q) fs k.3.0 k.2 k.3.2 in
    let l = and_parts (not (is_replaced fs q)) _ live in
    let w = and_parts (not (is_withdrawn fs q.number)) _ l.1 in
    let c = and_parts (not (is_closed fs q.room)) (nat_le t q.end) w.1 in
    let open_then : is_open fs t k.3.0 ≡ true = both (not (is_closed fs k.3.0.number)) (nat_le t k.3.0.end) (ap (λ n. not (is_closed fs n)) k.3.3 ∙ c.0) (later_end t q.end k.3.0.end c.1 k.3.6) in
    subst (λ n. In n (map (λ (r : Room). r.number) (open_rooms fs t))) k.3.3 (in_map (λ (r : Room). r.number) (open_rooms fs t) k.3.0 (in_filter (is_open fs t) (rooms fs) k.3.0 here open_then))

-- and is its maker's last there

not_not : (b : Bool) → not (not b) ≡ true → b ≡ true
not_not true h = refl
not_not false h = absurd (true≢false (sym h))

one_last : (a b : ℕ) (o : Option RoomQuote) → is_last a o ≡ true → is_last b o ≡ true → a ≡ b
one_last a b None h k = absurd (true≢false (sym h))
one_last a b (Some q) h k = sym (eqb-true q.number a h) ∙ eqb-true q.number b k

one_live : (fs : List Fact) (t maker : ℕ) (p q : RoomQuote) → ((p.maker == maker) && is_live fs t p) ≡ true → ((q.maker == maker) && is_live fs t q) ≡ true → p.room ≡ q.room → p.number ≡ q.number
one_live fs t maker p q h k same =
    let a = and_parts (p.maker == maker) (is_live fs t p) h in
    let b = and_parts (q.maker == maker) (is_live fs t q) k in
    let la : is_last p.number (last_quote fs p.room p.maker) ≡ true = not_not (is_last p.number (last_quote fs p.room p.maker)) (and_parts (not (is_replaced fs p)) _ a.1).0 in
    let lb : is_last q.number (last_quote fs q.room q.maker) ≡ true = not_not (is_last q.number (last_quote fs q.room q.maker)) (and_parts (not (is_replaced fs q)) _ b.1).0 in
    let makers : p.maker ≡ q.maker = eqb-true p.maker maker a.0 ∙ sym (eqb-true q.maker maker b.0) in
    let last : last_quote fs p.room p.maker ≡ last_quote fs q.room q.maker = ap (λ r. last_quote fs r p.maker) same ∙ ap (last_quote fs q.room) makers in
    one_last p.number q.number (last_quote fs q.room q.maker) (ap (is_last p.number) (sym last) ∙ la) lb

live_within : (m : Market) (rs : List Reply) (fs : List Fact) (t maker : ℕ) → Each (Follows m rs) [] fs → length (live_quotes fs maker t) ≤ length (open_rooms fs t)
live_within m rs fs t maker p =
    let test : RoomQuote → Bool = λ q. q.maker == maker && is_live fs t q in
    let few : length (live_quotes fs maker t) ≤ length (map (λ (r : Room). r.number) (open_rooms fs t)) =
    fits (λ (q : RoomQuote). q.room) (λ (q : RoomQuote). q.number) 0 (live_quotes fs maker t) (map (λ (r : Room). r.number) (open_rooms fs t))
    (rising_filter (λ (q : RoomQuote). q.number) 0 test (quotes fs) (Places-Rising (λ (q : RoomQuote). q.number) 0 (quotes fs) (quotes_placed m rs fs p)))
    (λ x y i j e. one_live fs t maker x y (In-filter test (quotes fs) x i).1 (In-filter test (quotes fs) y j).1 e)
    (λ x i. let k = In-filter test (quotes fs) x i in room_of_live m rs fs t p x k.0 (and_parts (x.maker == maker) (is_live fs t x) k.1).1) in
    let count : length (map (λ (r : Room). r.number) (open_rooms fs t)) ≡ length (open_rooms fs t) = length-map (open_rooms fs t) (λ (r : Room). r.number) in
    omega (arith, few, count)

pub live_quotes_few : (m : Market) (is : List Input) → LiveQuotesAreFew m is
live_quotes_few m is t maker rising =
    let within : length (live_quotes (run m is).history.facts maker t) ≤ length (open_rooms (run m is).history.facts t) = live_within m (run m is).replies (run m is).history.facts t maker (run-Follows m is) in
    let few : length (open_rooms (run m is).history.facts t) ≤ open_room = open_rooms_few m is t rising in
    omega (arith, within, few)
