use Rattle.std.proofs.Common.{◌≡◌, refl, ap, ◌∙◌, ℕ, Bool, true, false, not, cond, ◌||◌, nat_le, List, [], ◌∷◌, find, filter}
use Rattle.std.specs.List.{list_any}
use Rattle.venue_rules.specs.declared.facts.Entry.{Entry}
use Rattle.venue_rules.specs.declared.facts.Fact.{Fact}
use Rattle.venue_rules.specs.declared.facts.Fact.TheVariants.{Entered, Traded, Removed, Held, Unheld, Asked, Quoted, Withdrawn, Closed}
use Rattle.venue_rules.specs.declared.facts.HeldSide.{HeldSide}
use Rattle.venue_rules.specs.declared.facts.Removal.{Removal}
use Rattle.venue_rules.specs.Facts.{held_sides, is_cross_id_used, is_name, is_order_id_used, uses_order_id}
use Rattle.venue_rules.specs.Delay.{due, earliest, find_held, held, releases}
use Rattle.cross_delay.specs.DelayFacts.{delay_facts}
use Rattle.cross_delay.specs.Views.{stands}

-- The delay's rules read the same off all facts of a venue as off the facts of its delay.

sides-delay : (fs : List Fact) → held_sides (delay_facts fs) ≡ held_sides fs
sides-delay [] = refl
sides-delay (Entered e ∷ fs) = sides-delay fs
sides-delay (Traded t ∷ fs) = sides-delay fs
sides-delay (Removed r ∷ fs) = sides-delay fs
sides-delay (Held h ∷ fs) = ap (λ hs. h ∷ hs) (sides-delay fs)
sides-delay (Unheld u ∷ fs) = sides-delay fs
sides-delay (Asked r ∷ fs) = sides-delay fs
sides-delay (Quoted q ∷ fs) = sides-delay fs
sides-delay (Withdrawn w ∷ fs) = sides-delay fs
sides-delay (Closed c ∷ fs) = sides-delay fs

released-delay : (fs : List Fact) (h : HeldSide) → list_any (releases h) (delay_facts fs) ≡ list_any (releases h) fs
released-delay [] h = refl
released-delay (Entered e ∷ fs) h = released-delay fs h
released-delay (Traded t ∷ fs) h = released-delay fs h
released-delay (Removed r ∷ fs) h = released-delay fs h
released-delay (Held k ∷ fs) h = released-delay fs h
released-delay (Unheld u ∷ fs) h = ap (λ b. is_name h.order.who h.order.id u.who u.id || b) (released-delay fs h)
released-delay (Asked r ∷ fs) h = released-delay fs h
released-delay (Quoted q ∷ fs) h = released-delay fs h
released-delay (Withdrawn w ∷ fs) h = released-delay fs h
released-delay (Closed c ∷ fs) h = released-delay fs h

-- two tests that agree filter alike
alike : {X : Type 0} (p q : X → Bool) (xs : List X) → ((x : X) → p x ≡ q x) → filter p xs ≡ filter q xs
alike p q [] h = refl
alike p q (x ∷ xs) h = rw (h x, alike p q xs h) refl

pub held-delay : (fs : List Fact) → held (delay_facts fs) ≡ held fs
held-delay fs =
    ap (filter (stands (delay_facts fs))) (sides-delay fs)
    ∙ alike (stands (delay_facts fs)) (stands fs) (held_sides fs) (λ h. ap not (released-delay fs h))

pub due-delay : (fs : List Fact) (t : ℕ) → due (delay_facts fs) t ≡ due fs t
due-delay fs t = ap (λ hs. earliest (filter (λ h. nat_le h.due t) hs)) (held-delay fs)

pub find_held-delay : (fs : List Fact) (who : ℕ) (id : List ℕ) → find_held (delay_facts fs) who id ≡ find_held fs who id
find_held-delay fs who id = ap (find (λ h. is_name who id h.order.who h.order.id)) (held-delay fs)

pub crossed-delay : (fs : List Fact) (who : ℕ) (id : List ℕ) → is_cross_id_used (delay_facts fs) who id ≡ is_cross_id_used fs who id
crossed-delay fs who id = ap (list_any (λ h. is_name who id h.order.who h.cross)) (sides-delay fs)

-- identifiers of orders

-- a further fact in front: of the first kind, of the second, of a kind that uses none

in_first : (a x y z : Bool) → x ≡ (y || z) → (a || x) ≡ ((a || y) || z)
in_first true x y z h = refl
in_first false x y z h = h

in_second : (a x y z : Bool) → x ≡ (y || z) → (a || x) ≡ (y || (a || z))
in_second true x true z h = refl
in_second true x false z h = refl
in_second false x y z h = h

in_both : (a x y z : Bool) → x ≡ (y || z) → (a || x) ≡ ((a || y) || (a || z))
in_both true x y z h = refl
in_both false x y z h = h

-- a fact of the delay, which may count among the others too
counted : (b : Bool) (who : ℕ) (id : List ℕ) (f : Fact) (fs gs : List Fact) (x z : Bool) → x ≡ (is_order_id_used gs who id || z) → (uses_order_id who id f || x) ≡ (is_order_id_used (cond b (f ∷ gs) gs) who id || (uses_order_id who id f || z))
counted true who id f fs gs x z h = in_both (uses_order_id who id f) x (is_order_id_used gs who id) z h
counted false who id f fs gs x z h = in_second (uses_order_id who id f) x (is_order_id_used gs who id) z h

-- a fact that uses none
unused : (b : Bool) (who : ℕ) (id : List ℕ) (f : Fact) (gs : List Fact) (x z : Bool) → uses_order_id who id f ≡ false → x ≡ (is_order_id_used gs who id || z) → x ≡ (is_order_id_used (cond b (f ∷ gs) gs) who id || z)
unused true who id f gs x z e h = rw e h
unused false who id f gs x z e h = h

entered : (b : Bool) (who : ℕ) (id : List ℕ) (f : Fact) (gs : List Fact) (x z : Bool) → b ≡ true → x ≡ (is_order_id_used gs who id || z) → (uses_order_id who id f || x) ≡ (is_order_id_used (cond b (f ∷ gs) gs) who id || z)
entered true who id f gs x z e h = in_first (uses_order_id who id f) x (is_order_id_used gs who id) z h
entered false who id f gs x z e h = cc

pub used-delay : (of_book : Fact → Bool) → ((e : Entry) → of_book (Entered e) ≡ true) → ((r : Removal) → of_book (Removed r) ≡ true) → (fs : List Fact) (who : ℕ) (id : List ℕ) → is_order_id_used fs who id ≡ (is_order_id_used (filter of_book fs) who id || is_order_id_used (delay_facts fs) who id)
used-delay p pe pr [] who id = refl
used-delay p pe pr (Entered e ∷ fs) who id = entered (p (Entered e)) who id (Entered e) (filter p fs) (is_order_id_used fs who id) (is_order_id_used (delay_facts fs) who id) (pe e) (used-delay p pe pr fs who id)
used-delay p pe pr (Removed r ∷ fs) who id = entered (p (Removed r)) who id (Removed r) (filter p fs) (is_order_id_used fs who id) (is_order_id_used (delay_facts fs) who id) (pr r) (used-delay p pe pr fs who id)
used-delay p pe pr (Held h ∷ fs) who id = counted (p (Held h)) who id (Held h) fs (filter p fs) (is_order_id_used fs who id) (is_order_id_used (delay_facts fs) who id) (used-delay p pe pr fs who id)
used-delay p pe pr (Unheld u ∷ fs) who id = counted (p (Unheld u)) who id (Unheld u) fs (filter p fs) (is_order_id_used fs who id) (is_order_id_used (delay_facts fs) who id) (used-delay p pe pr fs who id)
used-delay p pe pr (Traded t ∷ fs) who id = unused (p (Traded t)) who id (Traded t) (filter p fs) (is_order_id_used fs who id) (is_order_id_used (delay_facts fs) who id) refl (used-delay p pe pr fs who id)
used-delay p pe pr (Asked r ∷ fs) who id = unused (p (Asked r)) who id (Asked r) (filter p fs) (is_order_id_used fs who id) (is_order_id_used (delay_facts fs) who id) refl (used-delay p pe pr fs who id)
used-delay p pe pr (Quoted q ∷ fs) who id = unused (p (Quoted q)) who id (Quoted q) (filter p fs) (is_order_id_used fs who id) (is_order_id_used (delay_facts fs) who id) refl (used-delay p pe pr fs who id)
used-delay p pe pr (Withdrawn w ∷ fs) who id = unused (p (Withdrawn w)) who id (Withdrawn w) (filter p fs) (is_order_id_used fs who id) (is_order_id_used (delay_facts fs) who id) refl (used-delay p pe pr fs who id)
used-delay p pe pr (Closed c ∷ fs) who id = unused (p (Closed c)) who id (Closed c) (filter p fs) (is_order_id_used fs who id) (is_order_id_used (delay_facts fs) who id) refl (used-delay p pe pr fs who id)
