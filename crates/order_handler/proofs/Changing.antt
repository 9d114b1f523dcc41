use Rattle.std.proofs.Common.{◌≡◌, refl, sym, ap, ◌∙◌, subst, ℕ, ◌<◌, All, Bool, true, false, cond, ◌&&◌, ◌==◌, nat_lt, List, [], ◌∷◌, ◌++◌, length, map, filter, find, Option, Some, None, not, bytes_eq, arith}
use Rattle.std.specs.List.{list_any}
use Rattle.std.proofs.lemmas.Bool.Decides.{nat_tests}
use Rattle.std.proofs.lemmas.List.Elements.{All-nil, All-cons, All-head, All-tail, All-filter}
use Rattle.std.proofs.lemmas.Slice.Eq.{bytes_eq-Decides}
use Rattle.fix_dictionary.specs.declared.messages.OrderCancelRequest.{OrderCancelRequest}
use Rattle.venue_rules.specs.declared.facts.Fact.{Fact}
use Rattle.venue_rules.specs.declared.facts.Fact.TheVariants.{Entered, Traded, Removed, Held, Unheld, Asked, Quoted, Withdrawn, Closed}
use Rattle.venue_rules.specs.declared.facts.Entry.{Entry}
use Rattle.venue_rules.specs.declared.facts.HeldSide.{HeldSide}
use Rattle.venue_rules.specs.declared.refusals.ChangeRefusal.TheVariants.{UnknownOrder, DuplicateClOrdId}
use Rattle.venue_rules.specs.declared.replies.Reply.{Reply}
use Rattle.venue_rules.specs.Market.{Market}
use Rattle.venue_rules.specs.Facts.{History, entries, held_sides, is_name, is_order_id_used}
use Rattle.venue_rules.specs.Answer.{Answer, Sender}
use Rattle.venue_rules.specs.Book.{Resting, find_order, left, rests}
use Rattle.venue_rules.specs.Changes.{Named, IsResting, IsHeld, IsUnknown, named, answer_cancel, answer_cancel_of, cancel_refused, cancelled, held_cancelled, standing}
use Rattle.venue_rules.specs.Delay.{find_held, releases}
use Rattle.price_book.specs.Plan.{Plan}
use Rattle.price_book.specs.Plans.{cancel_plan}
use Rattle.cross_delay.specs.Plan.{Plan as DelayPlan}
use Rattle.cross_delay.specs.Plans.{drop_plan}
use Rattle.venue_request.specs.declared.counts.Counts.{Counts}
use Rattle.order_handler.specs.Made.{are_listed}
use Rattle.order_handler.specs.Parts.{Parts, answer_of}
use Rattle.order_handler.specs.Reads.{IsReadAlone, is_used}

never : false ≡ true → ⊥
never e = cc

after_one : (b c : Bool) → (b && c) ≡ true → c ≡ true
after_one true c h = h
after_one false c h = absurd (never h)

-- a found order is in a listed instrument

listed_one : (x count : ℕ) (rest : Bool) → (nat_lt x count && rest) ≡ true → x < count
listed_one x count rest h = below (nat_lt x count) rest x count refl h
  where
    below : (b rest : Bool) (x count : ℕ) → nat_lt x count ≡ b → (b && rest) ≡ true → x < count
    below true rest x count k h = grind (arith, nat_tests)
    below false rest x count k h = absurd (no_way h)
      where
        no_way : false ≡ true → ⊥
        no_way e = cc

found-listed : (p : Resting → Bool) (all facts : List Fact) (count : ℕ) (r : Resting) → are_listed count facts ≡ true → find p (map (λ (e : Entry). let q : Resting = record { entry = e; left = left all e } in q) (entries facts)) ≡ Some r → r.entry.order.instrument < count
found-listed p all [] count r listed found = absurd (nothing found)
  where
    nothing : {r : Resting} → None ≡ Some r → ⊥
    nothing e = cc
found-listed p all (Entered e ∷ fs) count r listed found =
    let q : Resting = record { entry = e; left = left all e } in
    step (p q) count q r (find p (map (λ (d : Entry). let s : Resting = record { entry = d; left = left all d } in s) (entries fs))) (listed_one e.order.instrument count (are_listed count fs) listed) found (found-listed p all fs count r (after_one (nat_lt e.order.instrument count) (are_listed count fs) listed))
  where
    step : (b : Bool) (count : ℕ) (q r : Resting) (rest : Option Resting) → q.entry.order.instrument < count → cond b (Some q) rest ≡ Some r → (rest ≡ Some r → r.entry.order.instrument < count) → r.entry.order.instrument < count
    step true count q r rest here found ih = let same : q ≡ r = cc in let P : Resting → Type 0 = λ s. s.entry.order.instrument < count in subst P same here
    step false count q r rest here found ih = ih found
found-listed p all (Traded t ∷ fs) count r listed found = found-listed p all fs count r listed found
found-listed p all (Removed x ∷ fs) count r listed found = found-listed p all fs count r listed found
found-listed p all (Held x ∷ fs) count r listed found = found-listed p all fs count r (after_one (nat_lt x.order.instrument count) (are_listed count fs) listed) found
found-listed p all (Unheld x ∷ fs) count r listed found = found-listed p all fs count r listed found
found-listed p all (Asked x ∷ fs) count r listed found = found-listed p all fs count r listed found
found-listed p all (Quoted x ∷ fs) count r listed found = found-listed p all fs count r listed found
found-listed p all (Withdrawn x ∷ fs) count r listed found = found-listed p all fs count r listed found
found-listed p all (Closed x ∷ fs) count r listed found = found-listed p all fs count r listed found

pub order-listed : (facts : List Fact) (count who : ℕ) (id : List ℕ) (r : Resting) → are_listed count facts ≡ true → find_order facts who id ≡ Some r → r.entry.order.instrument < count
order-listed facts count who id r listed found = found-listed (λ (s : Resting). rests s.entry.order.instrument s.entry.order.side s && (s.entry.order.who == who && bytes_eq s.entry.order.id id)) facts facts count r listed found

-- the order or side that a request names

named_as : Option Resting → Option HeldSide → Named
named_as x y = elim x [ Some r ↦ IsResting r | None ↦ elim y [ Some k ↦ IsHeld k | None ↦ IsUnknown ] ]

named-is : (h : History) (who : ℕ) (id : List ℕ) → named h who id ≡ named_as (find_order h.facts who id) (find_held h.facts who id)
unfolding named_as
named-is h who id = refl

pub named-unknown : (h : History) (who : ℕ) (id : List ℕ) → find_order h.facts who id ≡ None → find_held h.facts who id ≡ None → named h who id ≡ IsUnknown
unfolding named_as
named-unknown h who id none gone = named-is h who id ∙ ap (λ (x : Option Resting). named_as x (find_held h.facts who id)) none ∙ ap (named_as None) gone

pub named-held : (h : History) (who : ℕ) (id : List ℕ) (k : HeldSide) → find_order h.facts who id ≡ None → find_held h.facts who id ≡ Some k → named h who id ≡ IsHeld k
unfolding named_as
named-held h who id k none found = named-is h who id ∙ ap (λ (x : Option Resting). named_as x (find_held h.facts who id)) none ∙ ap (named_as None) found

pub named-resting : (h : History) (who : ℕ) (id : List ℕ) (r : Resting) → find_order h.facts who id ≡ Some r → named h who id ≡ IsResting r
unfolding named_as
named-resting h who id r found = named-is h who id ∙ ap (λ (x : Option Resting). named_as x (find_held h.facts who id)) found

-- the answer to a cancel, by what it names

resting-duplicate : (m : Market) (h : History) (s : Sender) (d : OrderCancelRequest) (r : Resting) → is_order_id_used h.facts s.who d.order_id ≡ true → answer_cancel_of m h s d (IsResting r) ≡ cancel_refused s d (Some (standing r)) DuplicateClOrdId
resting-duplicate m h s d r used = rw used refl

resting-cancelled : (m : Market) (h : History) (s : Sender) (d : OrderCancelRequest) (r : Resting) → is_order_id_used h.facts s.who d.order_id ≡ false → answer_cancel_of m h s d (IsResting r) ≡ cancelled m h s d r
resting-cancelled m h s d r used = rw used refl

held-duplicate : (m : Market) (h : History) (s : Sender) (d : OrderCancelRequest) (k : HeldSide) → is_order_id_used h.facts s.who d.order_id ≡ true → answer_cancel_of m h s d (IsHeld k) ≡ cancel_refused s d None DuplicateClOrdId
held-duplicate m h s d k used = rw used refl

held-dropped : (m : Market) (h : History) (s : Sender) (d : OrderCancelRequest) (k : HeldSide) → is_order_id_used h.facts s.who d.order_id ≡ false → answer_cancel_of m h s d (IsHeld k) ≡ held_cancelled m h s d k
held-dropped m h s d k used = rw used refl

pub cancel-unknown : (m : Market) (h : History) (book delay : List Fact) (c : Counts) (s : Sender) (d : OrderCancelRequest) → IsReadAlone h book delay c → find_order book s.who d.original_id ≡ None → find_held delay s.who d.original_id ≡ None → answer_cancel m h s d ≡ cancel_refused s d None UnknownOrder
cancel-unknown m h book delay c s d x none gone = ap (answer_cancel_of m h s d) (named-unknown h s.who d.original_id (x.order s.who d.original_id ∙ none) (x.side s.who d.original_id ∙ gone))

pub held-again : (m : Market) (h : History) (book delay : List Fact) (c : Counts) (s : Sender) (d : OrderCancelRequest) (k : HeldSide) → IsReadAlone h book delay c → find_order book s.who d.original_id ≡ None → find_held delay s.who d.original_id ≡ Some k → is_used book delay s.who d.order_id ≡ true → answer_cancel m h s d ≡ cancel_refused s d None DuplicateClOrdId
held-again m h book delay c s d k x none found used = ap (answer_cancel_of m h s d) (named-held h s.who d.original_id k (x.order s.who d.original_id ∙ none) (x.side s.who d.original_id ∙ found)) ∙ held-duplicate m h s d k (x.used s.who d.order_id ∙ used)

pub cancel-again : (m : Market) (h : History) (book delay : List Fact) (c : Counts) (s : Sender) (d : OrderCancelRequest) (r : Resting) → IsReadAlone h book delay c → find_order book s.who d.original_id ≡ Some r → is_used book delay s.who d.order_id ≡ true → answer_cancel m h s d ≡ cancel_refused s d (Some (standing r)) DuplicateClOrdId
cancel-again m h book delay c s d r x found used = ap (answer_cancel_of m h s d) (named-resting h s.who d.original_id r (x.order s.who d.original_id ∙ found)) ∙ resting-duplicate m h s d r (x.used s.who d.order_id ∙ used)

pub cancel-planned : (m : Market) (h : History) (book delay : List Fact) (c : Counts) (s : Sender) (d : OrderCancelRequest) (r : Resting) (plan : Plan) (replies : List Reply) (a : Parts)
    → IsReadAlone h book delay c → find_order book s.who d.original_id ≡ Some r → is_used book delay s.who d.order_id ≡ false
    → plan ≡ cancel_plan r s.who d.order_id
    → replies ≡ (cancelled m h s d r).replies
    → a ≡ record { delay_first = false; delay = []; book = plan.facts; replies = replies }
    → answer_of a ≡ answer_cancel m h s d
cancel-planned m h book delay c s d r plan replies a x found used made said is =
    ap answer_of is
    ∙ ap (λ (p : Plan). let y : Answer = record { facts = p.facts ++ []; replies = replies } in y) made
    ∙ ap (λ (rs : List Reply). let y : Answer = record { facts = (cancel_plan r s.who d.order_id).facts; replies = rs } in y) said
    ∙ sym (ap (answer_cancel_of m h s d) (named-resting h s.who d.original_id r (x.order s.who d.original_id ∙ found)) ∙ resting-cancelled m h s d r (x.used s.who d.order_id ∙ used))

-- a found held side has the identifier looked for, and is in a listed instrument

find-held-from : (P : HeldSide → Type 0) (p : HeldSide → Bool) (ks : List HeldSide) (k : HeldSide) → All P ks → find p ks ≡ Some k → P k × (p k ≡ true)
find-held-from P p [] k all found = absurd (nothing found)
  where
    nothing : {y : HeldSide} → None ≡ Some y → ⊥
    nothing e = cc
find-held-from P p (y ∷ ys) k all found = step (p y) P p y k (find p ys) refl (All-head P y ys all) found (find-held-from P p ys k (All-tail P y ys all))
  where
    step : (b : Bool) (P : HeldSide → Type 0) (p : HeldSide → Bool) (y k : HeldSide) (rest : Option HeldSide) → p y ≡ b → P y → cond b (Some y) rest ≡ Some k → (rest ≡ Some k → P k × (p k ≡ true)) → P k × (p k ≡ true)
    step true P p y k rest h py found ih = let same : y ≡ k = cc in (subst P same py, ap p (sym same) ∙ h)
    step false P p y k rest h py found ih = ih found

sides-listed : (count : ℕ) (facts : List Fact) → are_listed count facts ≡ true → All (λ (k : HeldSide). k.order.instrument < count) (held_sides facts)
sides-listed count [] h = All-nil (λ (k : HeldSide). k.order.instrument < count)
sides-listed count (Entered e ∷ fs) h = sides-listed count fs (after_one (nat_lt e.order.instrument count) (are_listed count fs) h)
sides-listed count (Held k ∷ fs) h = All-cons (λ (y : HeldSide). y.order.instrument < count) k (held_sides fs) (listed_one k.order.instrument count (are_listed count fs) h) (sides-listed count fs (after_one (nat_lt k.order.instrument count) (are_listed count fs) h))
sides-listed count (Traded t ∷ fs) h = sides-listed count fs h
sides-listed count (Removed r ∷ fs) h = sides-listed count fs h
sides-listed count (Unheld u ∷ fs) h = sides-listed count fs h
sides-listed count (Asked r ∷ fs) h = sides-listed count fs h
sides-listed count (Quoted q ∷ fs) h = sides-listed count fs h
sides-listed count (Withdrawn w ∷ fs) h = sides-listed count fs h
sides-listed count (Closed c ∷ fs) h = sides-listed count fs h

held-found : (facts : List Fact) (count who : ℕ) (id : List ℕ) (k : HeldSide) → are_listed count facts ≡ true → find_held facts who id ≡ Some k → (k.order.instrument < count) × (is_name who id k.order.who k.order.id ≡ true)
held-found facts count who id k listed found = find-held-from (λ (y : HeldSide). y.order.instrument < count) (λ (y : HeldSide). is_name who id y.order.who y.order.id) (filter (λ (y : HeldSide). not (list_any (releases y) facts)) (held_sides facts)) k (All-filter (λ (y : HeldSide). not (list_any (releases y) facts)) (λ (y : HeldSide). y.order.instrument < count) (held_sides facts) (sides-listed count facts listed)) found

pub held-listed : (facts : List Fact) (count who : ℕ) (id : List ℕ) (k : HeldSide) → are_listed count facts ≡ true → find_held facts who id ≡ Some k → k.order.instrument < count
held-listed facts count who id k listed found = (held-found facts count who id k listed found).0

held-named : (facts : List Fact) (count who : ℕ) (id : List ℕ) (k : HeldSide) → are_listed count facts ≡ true → find_held facts who id ≡ Some k → id ≡ k.order.id
held-named facts count who id k listed found = (bytes_eq-Decides id k.order.id).0 (after_one (who == k.order.who) (bytes_eq id k.order.id) ((held-found facts count who id k listed found).1))

pub drop-planned : (m : Market) (h : History) (book delay : List Fact) (c : Counts) (s : Sender) (d : OrderCancelRequest) (k : HeldSide) (plan : DelayPlan) (replies : List Reply) (a : Parts)
    → IsReadAlone h book delay c → are_listed (length m.instruments) delay ≡ true → find_order book s.who d.original_id ≡ None → find_held delay s.who d.original_id ≡ Some k → is_used book delay s.who d.order_id ≡ false
    → plan ≡ drop_plan s.who d.original_id (Some d.order_id)
    → replies ≡ (held_cancelled m h s d k).replies
    → a ≡ record { delay_first = false; delay = plan.facts; book = []; replies = replies }
    → answer_of a ≡ answer_cancel m h s d
drop-planned m h book delay c s d k plan replies a x listed none found used planned said is =
    ap answer_of is
    ∙ ap (λ (p : DelayPlan). let y : Answer = record { facts = p.facts; replies = replies } in y) planned
    ∙ ap (λ (id : List ℕ). let y : Answer = record { facts = (drop_plan s.who id (Some d.order_id)).facts; replies = replies } in y) (held-named delay (length m.instruments) s.who d.original_id k listed found)
    ∙ ap (λ (rs : List Reply). let y : Answer = record { facts = (drop_plan s.who k.order.id (Some d.order_id)).facts; replies = rs } in y) said
    ∙ sym (ap (answer_cancel_of m h s d) (named-held h s.who d.original_id k (x.order s.who d.original_id ∙ none) (x.side s.who d.original_id ∙ found)) ∙ held-dropped m h s d k (x.used s.who d.order_id ∙ used))
