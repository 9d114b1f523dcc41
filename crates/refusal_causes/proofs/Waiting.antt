-- A cause that ends by time, and holds at a moment, holds at each earlier one.
use Rattle.std.proofs.Common.{◌≡◌, ℕ, ◌+◌, ◌≤◌, ◌<◌, inl, inr, Bool, true, false, not, ◌&&◌, nat_lt, nat_le, List, [], ◌∷◌, map, filter, find, cond, take, length, min, Some, is_some, refl, sym, ◌∙◌, subst, arith}
use Rattle.std.proofs.Math.Nat.{le-min}
use Rattle.std.proofs.lemmas.Bool.{cases_lt}
use Rattle.std.proofs.lemmas.Bool.Decides.{nat_tests}
use Rattle.fix_dictionary.specs.declared.messages.App.{App}
use Rattle.fix_dictionary.specs.declared.messages.App.TheVariants as app
use Rattle.fix_dictionary.specs.declared.messages.OrderCancelReplaceRequest.{OrderCancelReplaceRequest as Replacement}
use Rattle.venue_rules.specs.declared.facts.OrderFact.{OrderFact}
use Rattle.venue_rules.specs.declared.facts.Room.{Room}
use Rattle.venue_rules.specs.Answer.{Answer, Sender, first_of}
use Rattle.venue_rules.specs.Answers.{answer_app}
use Rattle.venue_rules.specs.Book.{fills, is_linked, is_side_full, is_too_soon, too_soon}
use Rattle.venue_rules.specs.Changes.{Named, IsResting, IsHeld, IsUnknown, answer_replace_of, named, replace_refusals, replace_refused, replaced, replacement, standing}
use Rattle.venue_rules.specs.Crosses.{cross_accepted, cross_refusals, cross_refused, first_side, side_order}
use Rattle.venue_rules.specs.Delay.{held, held_capacity}
use Rattle.venue_rules.specs.declared.refusals.OrderRefusal.TheVariants as order
use Rattle.venue_rules.specs.declared.refusals.ChangeRefusal.TheVariants as change
use Rattle.venue_rules.specs.declared.refusals.CrossRefusal.TheVariants as cross
use Rattle.venue_rules.specs.declared.refusals.RequestRefusal.TheVariants as request
use Rattle.venue_rules.specs.declared.replies.Reply.{Reply}
use Rattle.venue_rules.specs.declared.replies.ReplyBody.{ReplyBody}
use Rattle.venue_rules.specs.declared.trail.Taken.{Taken}
use Rattle.venue_rules.specs.Facts.{History, rooms}
use Rattle.venue_rules.specs.Market.{Market}
use Rattle.venue_rules.specs.Orders.{accepted, order_asked, order_refusals, refused}
use Rattle.venue_rules.specs.Requests.{open_room, opened, request_accepted, request_refusals, request_refused, request_sent}
use Rattle.venue_rules.specs.Rooms.{is_closed, is_open, open_rooms}
use Rattle.instruments.specs.Listing.{delay_of}
use Rattle.refusal_causes.specs.Causes.{Causes}
use Rattle.refusal_causes.specs.Places.{cross_waits, first_waits, order_waits, replace_waits, request_waits, waits}
use Rattle.refusal_causes.specs.Why.{HoldsBefore, IsBetween, PassesFrom, sender_of}

abbrev pub IsOne : Bool → Type 0
IsOne true = Unit {0}
IsOne false = ⊥

pub not_one : {P : Type 0} → false ≡ true → P
not_one e = absurd (subst IsOne (sym e) tt)

-- what a test finds, a weaker one finds too
weaker_found : {A : Type 0} (p q : A → Bool) → ((x : A) → p x ≡ true → q x ≡ true) → (xs : List A) → is_some (find p xs) ≡ true → is_some (find q xs) ≡ true
weaker_found p q weaker [] some = not_one some
weaker_found p q weaker (x ∷ xs) some = by (weaker_found p q weaker xs) (p x) (q x) (weaker x) some
  where
    by : (is_some (find p xs) ≡ true → is_some (find q xs) ≡ true) → (a b : Bool) → (a ≡ true → b ≡ true) → is_some (cond a (Some x) (find p xs)) ≡ true → is_some (cond b (Some x) (find q xs)) ≡ true
    by rec a true w h = refl
    by rec true false w h = not_one (w refl)
    by rec false false w h = rec h

earlier : (u t due : ℕ) → u ≤ t → nat_lt t due ≡ true → nat_lt u due ≡ true
earlier u t due low h = grind (arith, nat_tests)

both_earlier : (linked : Bool) (u t due : ℕ) → u ≤ t → (linked && nat_lt t due) ≡ true → (linked && nat_lt u due) ≡ true
both_earlier true u t due low h = earlier u t due low h
both_earlier false u t due low h = not_one h

sooner : (m : Market) (h : History) (o : OrderFact) (u t : ℕ) → u ≤ t → is_some (too_soon m h.facts o t) ≡ true → is_some (too_soon m h.facts o u) ≡ true
sooner m h o u t low = weaker_found (is_too_soon m o t) (is_too_soon m o u) (λ f. both_earlier (is_linked m o f.resting.entry.order) u t (f.resting.entry.moment + delay_of m.instruments o.instrument) low) (fills h.facts o)

-- what is open at a moment was open at each earlier one
open_earlier : (u t end : ℕ) → u ≤ t → nat_le t end ≡ true → nat_le u end ≡ true
open_earlier u t end low h = grind (arith, nat_tests)

both_open : (closed : Bool) (u t end : ℕ) → u ≤ t → (not closed && nat_le t end) ≡ true → (not closed && nat_le u end) ≡ true
both_open true u t end low h = not_one h
both_open false u t end low h = open_earlier u t end low h

-- a weaker test keeps as many or more
weaker_kept : {A : Type 0} (p q : A → Bool) → ((x : A) → p x ≡ true → q x ≡ true) → (xs : List A) → length (filter p xs) ≤ length (filter q xs)
weaker_kept p q weaker [] = omega arith
weaker_kept p q weaker (x ∷ xs) = by (weaker_kept p q weaker xs) (p x) (q x) (weaker x)
  where
    by : length (filter p xs) ≤ length (filter q xs) → (a b : Bool) → (a ≡ true → b ≡ true) → length (cond a (x ∷ filter p xs) (filter p xs)) ≤ length (cond b (x ∷ filter q xs) (filter q xs))
    by rec true true w = omega (arith, rec)
    by rec true false w = not_one (w refl)
    by rec false true w = omega (arith, rec)
    by rec false false w = rec

more_full : (least few many : ℕ) → few ≤ many → nat_le least few ≡ true → nat_le least many ≡ true
more_full least few many low h = grind (arith, nat_tests)

fuller : (h : History) (u t : ℕ) → u ≤ t → nat_le open_room (length (open_rooms h.facts t)) ≡ true → nat_le open_room (length (open_rooms h.facts u)) ≡ true
fuller h u t low = more_full open_room (length (open_rooms h.facts t)) (length (open_rooms h.facts u)) (weaker_kept (is_open h.facts t) (is_open h.facts u) (λ r. both_open (is_closed h.facts r.number) u t r.end low) (rooms h.facts))

-- no cause of these is one that ends by time
abbrev pub Stays : (ReplyBody → Bool) → Causes → Type 0
Stays f [] = Unit {0}
Stays f (c ∷ cs) = (first_waits f c.1.replies ≡ false) × Stays f cs

abbrev pub or_else : Bool → Answer → Answer → Answer
or_else b x rest = elim b [ true ↦ x | false ↦ rest ]

-- causes that come before stay, and what comes behind them waits where it did
behind : (f : ReplyBody → Bool) (cs : Causes) (then now : Answer) → Stays f cs → (first_waits f then.replies ≡ true → first_waits f now.replies ≡ true) → first_waits f (first_of cs then).replies ≡ true
    → first_waits f (first_of cs now).replies ≡ true
behind f [] then now none step h = step h
behind f (c ∷ cs) then now none step h = by (behind f cs then now none.1 step) c.0 h
  where
    by : (first_waits f (first_of cs then).replies ≡ true → first_waits f (first_of cs now).replies ≡ true) → (b : Bool) → first_waits f (or_else b c.1 (first_of cs then)).replies ≡ true
        → first_waits f (or_else b c.1 (first_of cs now)).replies ≡ true
    by rec true g = g
    by rec false g = rec g

last : (f : ReplyBody → Bool) (b b' : Bool) (x rest rest' : Answer) → (b' ≡ true → b ≡ true) → first_waits f x.replies ≡ true → first_waits f rest'.replies ≡ false → first_waits f (or_else b' x rest').replies ≡ true
    → first_waits f (or_else b x rest).replies ≡ true
last f true b' x rest rest' w recent none h = recent
last f false true x rest rest' w recent none h = not_one (w refl)
last f false false x rest rest' w recent none h = not_one (sym none ∙ h)

pub neither : (f : ReplyBody → Bool) (b : Bool) (x rest : Answer) → first_waits f x.replies ≡ false → first_waits f rest.replies ≡ false → first_waits f (or_else b x rest).replies ≡ false
neither f true x rest one two = one
neither f false x rest one two = two

of_replace : (m : Market) (h : History) (s : Sender) (d : Replacement) (u t : ℕ) (n : Named) → u ≤ t → first_waits replace_waits (answer_replace_of m h s d t n).replies ≡ true → first_waits replace_waits (answer_replace_of m h s d u n).replies ≡ true
of_replace m h s d u t IsUnknown low g = g
of_replace m h s d u t (IsHeld k) low g = g
of_replace m h s d u t (IsResting r) low g =
    let o = replacement d r in
    let x = replace_refused s d (Some (standing r)) change.LinkedOrderTooRecent in
    let soon : ℕ → Bool = λ v. is_some (too_soon m h.facts o v) in
    let at : ℕ → Answer = λ v. or_else (soon v) x (replaced m h s d r v) in
    behind replace_waits (take 6 (replace_refusals m h s d r t)) (at t) (at u) (refl, (refl, (refl, (refl, (refl, (refl, tt))))))
    (last replace_waits (soon u) (soon t) x (replaced m h s d r u) (replaced m h s d r t) (sooner m h o u t low) refl refl) g

-- the requests that are sent
sent_stays : (m : Market) (r : Room) (rs : List ℕ) → first_waits request_waits (map (request_sent m r) rs) ≡ false
sent_stays m r [] = refl
sent_stays m r (x ∷ xs) = refl

-- no answer waits, of a type of which none does
never : {P : Type 0} (rs : List Reply) → first_waits (λ w. false) rs ≡ true → P
never [] g = not_one g
never (r ∷ rs) g = not_one g

stays : (m : Market) (h : History) (s : Sender) (a : App) (u t : ℕ) → u ≤ t → waits a (answer_app m h s a t).replies ≡ true → waits a (answer_app m h s a u).replies ≡ true
stays m h s (app.NewOrderSingle d) u t low g =
    let o = order_asked m s.who d in
    let x = refused h s d order.LinkedOrderTooRecent in
    let y = refused h s d order.BookSideFull in
    let full = is_side_full h.facts o in
    let soon : ℕ → Bool = λ v. is_some (too_soon m h.facts o v) in
    let rest : ℕ → Answer = λ v. or_else full y (accepted m h o v) in
    let at : ℕ → Answer = λ v. or_else (soon v) x (rest v) in
    behind order_waits (take 6 (order_refusals m h s d t)) (at t) (at u) (refl, (refl, (refl, (refl, (refl, (refl, tt))))))
    (last order_waits (soon u) (soon t) x (rest u) (rest t) (sooner m h o u t low) refl (neither order_waits full y (accepted m h o t) refl refl)) g
stays m h s (app.OrderCancelReplaceRequest d) u t low g = of_replace m h s d u t (named h s.who d.original_id) low g
stays m h s (app.NewOrderCross d) u t low g =
    let o = side_order m s.who d (first_side d) in
    let x = cross_refused h s d cross.LinkedOrderTooRecent in
    let y = cross_refused h s d cross.BookSideFull in
    let z = cross_refused h s d cross.TooManyHeld in
    let full = is_side_full h.facts o in
    let many = nat_le held_capacity (length (held h.facts)) in
    let soon : ℕ → Bool = λ v. is_some (too_soon m h.facts o v) in
    let last_one : ℕ → Answer = λ v. or_else many z (cross_accepted m h s d v) in
    let rest : ℕ → Answer = λ v. or_else full y (last_one v) in
    let at : ℕ → Answer = λ v. or_else (soon v) x (rest v) in
    behind cross_waits (take 8 (cross_refusals m h s d t)) (at t) (at u) (refl, (refl, (refl, (refl, (refl, (refl, (refl, (refl, tt))))))))
    (last cross_waits (soon u) (soon t) x (rest u) (rest t) (sooner m h o u t low) refl (neither cross_waits full y (last_one t) refl (neither cross_waits many z (cross_accepted m h s d t) refl refl))) g
stays m h s (app.QuoteRequest d) u t low g =
    let x = request_refused s d request.TooManyRequests in
    let full : ℕ → Bool = λ v. nat_le open_room (length (open_rooms h.facts v)) in
    let rest : ℕ → Answer = λ v. request_accepted m (opened m h s d v) in
    let at : ℕ → Answer = λ v. or_else (full v) x (rest v) in
    behind request_waits (take 9 (request_refusals m h s d t)) (at t) (at u) (refl, (refl, (refl, (refl, (refl, (refl, (refl, (refl, (refl, tt)))))))))
    (last request_waits (full u) (full t) x (rest u) (rest t) (fuller h u t low) refl (sent_stays m (opened m h s d t) (opened m h s d t).recipients)) g
stays m h s (app.OrderCancelRequest d) u t low g = never (answer_app m h s (app.OrderCancelRequest d) t).replies g
stays m h s (app.Quote d) u t low g = never (answer_app m h s (app.Quote d) t).replies g
stays m h s (app.QuoteCancel d) u t low g = never (answer_app m h s (app.QuoteCancel d) t).replies g
stays m h s (app.QuoteResponse d) u t low g = never (answer_app m h s (app.QuoteResponse d) t).replies g
stays m h s (app.MarketDataRequest d) u t low g = never (answer_app m h s (app.MarketDataRequest d) t).replies g
stays m h s (app.QuoteStatusReport d) u t low g = never (answer_app m h s (app.QuoteStatusReport d) t).replies g
stays m h s (app.QuoteRequestReject d) u t low g = never (answer_app m h s (app.QuoteRequestReject d) t).replies g
stays m h s (app.ExecutionReport d) u t low g = never (answer_app m h s (app.ExecutionReport d) t).replies g
stays m h s (app.OrderCancelReject d) u t low g = never (answer_app m h s (app.OrderCancelReject d) t).replies g
stays m h s (app.MarketDataSnapshot d) u t low g = never (answer_app m h s (app.MarketDataSnapshot d) t).replies g
stays m h s (app.MarketDataRequestReject d) u t low g = never (answer_app m h s (app.MarketDataRequestReject d) t).replies g
stays m h s (app.BusinessMessageReject d) u t low g = never (answer_app m h s (app.BusinessMessageReject d) t).replies g
stays m h s (app.Unsupported kind) u t low g = never (answer_app m h s (app.Unsupported kind) t).replies g

pub holds_before : HoldsBefore
holds_before m h taken u t low g = stays m h (sender_of taken) taken.item.app u t low g

-- between moments that are next to each other the later one is the first at which it passes
pub passes_next : HoldsBefore → (m : Market) (h : History) (taken : Taken) (t low high : ℕ) → IsBetween m h taken t low high → high ≤ low + 1 → PassesFrom m h taken t high
passes_next law m h taken t low high between near = record {
  later = later;
  before = λ u from until. law m h taken u low (omega (arith, until, near)) between.holds;
  then = between.passed;
}
  where
    apart : high ≤ low → ⊥
    apart le = not_one (sym between.passed ∙ law m h taken high low le between.holds)

    later : t < high
    later = elim (cases_lt low high) [ inl lt ↦ omega (arith, lt, between.from) | inr le ↦ absurd (apart le) ]

pub at_itself : (t : ℕ) → t ≤ t
at_itself t = omega arith

-- what is below both is below the least of them
pub below_least : (u a b least : ℕ) → u ≤ a → u ≤ b → least ≡ min a b → u ≤ least
below_least u a b least one two is = subst (λ (n : ℕ). u ≤ n) (sym is) (le-min one two)
