-- Where a message passes from a moment on, it would trade with a linked order that entered just the delay before.
use Rattle.std.proofs.Common.{◌≡◌, ℕ, ◌+◌, ◌-◌, ◌≤◌, ◌<◌, Bool, true, false, ◌&&◌, nat_lt, nat_le, List, [], ◌∷◌, find, cond, take, length, Option, Some, IfSome, Contains, is_some, refl, sym, ◌∙◌, subst, arith}
use Rattle.std.proofs.lemmas.Bool.Decides.{nat_tests}
use Rattle.std.proofs.lemmas.List.Elements.{Contains-append_left, Contains-append_right}
use Rattle.fix_dictionary.specs.declared.messages.App.{App}
use Rattle.fix_dictionary.specs.declared.messages.App.TheVariants as app
use Rattle.fix_dictionary.specs.declared.messages.NewOrderCross.{NewOrderCross}
use Rattle.fix_dictionary.specs.declared.messages.NewOrderSingle.{NewOrderSingle}
use Rattle.fix_dictionary.specs.declared.messages.OrderCancelReplaceRequest.{OrderCancelReplaceRequest as Replacement}
use Rattle.venue_rules.specs.declared.facts.OrderFact.{OrderFact}
use Rattle.venue_rules.specs.declared.refusals.OrderRefusal.TheVariants as order
use Rattle.venue_rules.specs.declared.refusals.ChangeRefusal.TheVariants as change
use Rattle.venue_rules.specs.declared.refusals.CrossRefusal.TheVariants as cross
use Rattle.venue_rules.specs.declared.replies.ReplyBody.{ReplyBody}
use Rattle.venue_rules.specs.Answer.{Answer, Sender, first_of}
use Rattle.venue_rules.specs.Answers.{answer_app}
use Rattle.venue_rules.specs.Book.{fills, is_linked, is_side_full, is_too_soon, too_soon}
use Rattle.venue_rules.specs.Changes.{Named, IsResting, IsHeld, IsUnknown, answer_replace_of, named, replace_refusals, replace_refused, replaced, replacement, standing}
use Rattle.venue_rules.specs.Crosses.{cross_accepted, cross_refusals, cross_refused, first_side, side_order}
use Rattle.venue_rules.specs.Delay.{held, held_capacity}
use Rattle.venue_rules.specs.Facts.{History}
use Rattle.venue_rules.specs.Market.{Market}
use Rattle.venue_rules.specs.Orders.{accepted, order_asked, order_refusals, refused}
use Rattle.instruments.specs.Listing.{delay_of}
use Rattle.refusal_causes.specs.Causes.{Causes}
use Rattle.refusal_causes.specs.Places.{cross_waits, first_waits, order_waits, replace_waits, waits}
use Rattle.refusal_causes.specs.Why.{EndsWithLinked, PassesAfterLinked, order_entering, replacing, sender_of}
use Rattle.refusal_causes.proofs.Waiting.{Stays, neither, not_one, or_else}

-- what one test finds and another does not
record Apart {A : Type 0} (p q : A → Bool) (xs : List A) : Type 0 where
  it : A
  within : Contains xs it
  found : p it ≡ true
  missed : q it ≡ false

found_apart : {A : Type 0} (p q : A → Bool) (xs : List A) → is_some (find p xs) ≡ true → is_some (find q xs) ≡ false → Apart p q xs
found_apart p q [] some none = not_one some
found_apart p q (x ∷ xs) some none = by (found_apart p q xs) (p x) (q x) refl refl some none
  where
    by : (is_some (find p xs) ≡ true → is_some (find q xs) ≡ false → Apart p q xs) → (a b : Bool) → p x ≡ a → q x ≡ b → is_some (cond a (Some x) (find p xs)) ≡ true → is_some (cond b (Some x) (find q xs)) ≡ false → Apart p q (x ∷ xs)
    by rec true true pe qe some none = not_one (sym none)
    by rec true false pe qe some none = record { it = x; within = Contains-append_left (x ∷ []) xs x (0, omega arith, refl); found = pe; missed = qe }
    by rec false true pe qe some none = not_one (sym none)
    by rec false false pe qe some none = let rest = rec some none in record { it = rest.it; within = Contains-append_right (x ∷ []) xs rest.it rest.within; found = rest.found; missed = rest.missed }

-- behind causes that do not end by time
split : (f : ReplyBody → Bool) (cs : Causes) (now then : Answer) → Stays f cs → first_waits f (first_of cs now).replies ≡ true → first_waits f (first_of cs then).replies ≡ false → (first_waits f now.replies ≡ true) × (first_waits f then.replies ≡ false)
split f [] now then none waiting passed = (waiting, passed)
split f (c ∷ cs) now then none waiting passed = by (split f cs now then none.1) c.0 waiting passed
  where
    by : (first_waits f (first_of cs now).replies ≡ true → first_waits f (first_of cs then).replies ≡ false → (first_waits f now.replies ≡ true) × (first_waits f then.replies ≡ false)) → (b : Bool)
        → first_waits f (or_else b c.1 (first_of cs now)).replies ≡ true → first_waits f (or_else b c.1 (first_of cs then)).replies ≡ false → (first_waits f now.replies ≡ true) × (first_waits f then.replies ≡ false)
    by rec true waiting passed = not_one (sym none.0 ∙ waiting)
    by rec false waiting passed = rec waiting passed

soon_holds : (f : ReplyBody → Bool) (b : Bool) (x rest : Answer) → first_waits f rest.replies ≡ false → first_waits f (or_else b x rest).replies ≡ true → b ≡ true
soon_holds f true x rest none waiting = refl
soon_holds f false x rest none waiting = not_one (sym none ∙ waiting)

soon_over : (f : ReplyBody → Bool) (b : Bool) (x rest : Answer) → first_waits f x.replies ≡ true → first_waits f (or_else b x rest).replies ≡ false → b ≡ false
soon_over f true x rest recent passed = not_one (sym passed ∙ recent)
soon_over f false x rest recent passed = refl

-- the moment at which what is too soon until the one before no longer is
due_then : (u passes due : ℕ) → u + 1 ≡ passes → nat_lt u due ≡ true → nat_lt passes due ≡ false → due ≡ passes
due_then u passes due next before over = grind (arith, nat_tests)

record Due (linked : Bool) (due passes : ℕ) : Type 0 where
  is_linked : linked ≡ true
  is_then : due ≡ passes

both_then : (linked : Bool) (u passes due : ℕ) → u + 1 ≡ passes → (linked && nat_lt u due) ≡ true → (linked && nat_lt passes due) ≡ false → Due linked due passes
both_then true u passes due next before over = record { is_linked = refl; is_then = due_then u passes due next before over }
both_then false u passes due next before over = not_one before

ends : (m : Market) (h : History) (o : OrderFact) (u passes : ℕ) → u + 1 ≡ passes → is_some (too_soon m h.facts o u) ≡ true → is_some (too_soon m h.facts o passes) ≡ false → EndsWithLinked m h o passes
ends m h o u passes next before over =
    let f = found_apart (is_too_soon m o u) (is_too_soon m o passes) (fills h.facts o) before over in
    let due = both_then (is_linked m o f.it.resting.entry.order) u passes (f.it.resting.entry.moment + delay_of m.instruments o.instrument) next f.found f.missed in
    record { fill = f.it; filled = f.within; linked = due.is_linked; apart = due.is_then }

of_order : (m : Market) (h : History) (s : Sender) (d : NewOrderSingle) (u passes : ℕ) → u + 1 ≡ passes → first_waits order_waits (answer_app m h s (app.NewOrderSingle d) u).replies ≡ true
    → first_waits order_waits (answer_app m h s (app.NewOrderSingle d) passes).replies ≡ false → EndsWithLinked m h (order_asked m s.who d) passes
of_order m h s d u passes next waiting passed =
    let o = order_asked m s.who d in
    let x = refused h s d order.LinkedOrderTooRecent in
    let y = refused h s d order.BookSideFull in
    let full = is_side_full h.facts o in
    let soon : ℕ → Bool = λ v. is_some (too_soon m h.facts o v) in
    let rest : ℕ → Answer = λ v. or_else full y (accepted m h o v) in
    let at : ℕ → Answer = λ v. or_else (soon v) x (rest v) in
    let two = split order_waits (take 6 (order_refusals m h s d u)) (at u) (at passes) (refl, (refl, (refl, (refl, (refl, (refl, tt)))))) waiting passed in
    ends m h o u passes next (soon_holds order_waits (soon u) x (rest u) (neither order_waits full y (accepted m h o u) refl refl) two.0) (soon_over order_waits (soon passes) x (rest passes) refl two.1)

of_cross : (m : Market) (h : History) (s : Sender) (d : NewOrderCross) (u passes : ℕ) → u + 1 ≡ passes → first_waits cross_waits (answer_app m h s (app.NewOrderCross d) u).replies ≡ true
    → first_waits cross_waits (answer_app m h s (app.NewOrderCross d) passes).replies ≡ false → EndsWithLinked m h (side_order m s.who d (first_side d)) passes
of_cross m h s d u passes next waiting passed =
    let o = side_order m s.who d (first_side d) in
    let x = cross_refused h s d cross.LinkedOrderTooRecent in
    let y = cross_refused h s d cross.BookSideFull in
    let z = cross_refused h s d cross.TooManyHeld in
    let full = is_side_full h.facts o in
    let many = nat_le held_capacity (length (held h.facts)) in
    let soon : ℕ → Bool = λ v. is_some (too_soon m h.facts o v) in
    let last_one : ℕ → Answer = λ v. or_else many z (cross_accepted m h s d v) in
    let rest : ℕ → Answer = λ v. or_else full y (last_one v) in
    let at : ℕ → Answer = λ v. or_else (soon v) x (rest v) in
    let two = split cross_waits (take 8 (cross_refusals m h s d u)) (at u) (at passes) (refl, (refl, (refl, (refl, (refl, (refl, (refl, (refl, tt)))))))) waiting passed in
    ends m h o u passes next (soon_holds cross_waits (soon u) x (rest u) (neither cross_waits full y (last_one u) refl (neither cross_waits many z (cross_accepted m h s d u) refl refl)) two.0)
    (soon_over cross_waits (soon passes) x (rest passes) refl two.1)

-- the order, where there is one
abbrev Ends : Market → History → ℕ → Option OrderFact → Type 0
Ends m h passes o = IfSome o (λ o. EndsWithLinked m h o passes)

of_replaced : (m : Market) (h : History) (s : Sender) (d : Replacement) (u passes : ℕ) (n : Named) → u + 1 ≡ passes → first_waits replace_waits (answer_replace_of m h s d u n).replies ≡ true
    → first_waits replace_waits (answer_replace_of m h s d passes n).replies ≡ false → Ends m h passes (replacing d n)
of_replaced m h s d u passes IsUnknown next waiting passed = tt
of_replaced m h s d u passes (IsHeld k) next waiting passed = tt
of_replaced m h s d u passes (IsResting r) next waiting passed =
    let o = replacement d r in
    let x = replace_refused s d (Some (standing r)) change.LinkedOrderTooRecent in
    let soon : ℕ → Bool = λ v. is_some (too_soon m h.facts o v) in
    let at : ℕ → Answer = λ v. or_else (soon v) x (replaced m h s d r v) in
    let two = split replace_waits (take 6 (replace_refusals m h s d r u)) (at u) (at passes) (refl, (refl, (refl, (refl, (refl, (refl, tt)))))) waiting passed in
    ends m h o u passes next (soon_holds replace_waits (soon u) x (replaced m h s d r u) refl two.0) (soon_over replace_waits (soon passes) x (replaced m h s d r passes) refl two.1)

of_app : (m : Market) (h : History) (s : Sender) (a : App) (u passes : ℕ) → u + 1 ≡ passes → waits a (answer_app m h s a u).replies ≡ true → waits a (answer_app m h s a passes).replies ≡ false → Ends m h passes (order_entering m h s.who a)
of_app m h s (app.NewOrderSingle d) u passes next waiting passed = of_order m h s d u passes next waiting passed
of_app m h s (app.NewOrderCross d) u passes next waiting passed = of_cross m h s d u passes next waiting passed
of_app m h s (app.OrderCancelReplaceRequest d) u passes next waiting passed = of_replaced m h s d u passes (named h s.who d.original_id) next waiting passed
of_app m h s (app.QuoteRequest d) u passes next waiting passed = tt
of_app m h s (app.OrderCancelRequest d) u passes next waiting passed = tt
of_app m h s (app.Quote d) u passes next waiting passed = tt
of_app m h s (app.QuoteCancel d) u passes next waiting passed = tt
of_app m h s (app.QuoteResponse d) u passes next waiting passed = tt
of_app m h s (app.MarketDataRequest d) u passes next waiting passed = tt
of_app m h s (app.QuoteStatusReport d) u passes next waiting passed = tt
of_app m h s (app.QuoteRequestReject d) u passes next waiting passed = tt
of_app m h s (app.ExecutionReport d) u passes next waiting passed = tt
of_app m h s (app.OrderCancelReject d) u passes next waiting passed = tt
of_app m h s (app.MarketDataSnapshot d) u passes next waiting passed = tt
of_app m h s (app.MarketDataRequestReject d) u passes next waiting passed = tt
of_app m h s (app.BusinessMessageReject d) u passes next waiting passed = tt
of_app m h s (app.Unsupported kind) u passes next waiting passed = tt

before_is : (t passes : ℕ) → t < passes → (passes - 1) + 1 ≡ passes
before_is t passes later = omega (arith, later)

still_from : (t passes : ℕ) → t < passes → t ≤ passes - 1
still_from t passes later = omega (arith, later)

is_before : (t passes : ℕ) → t < passes → passes - 1 < passes
is_before t passes later = omega (arith, later)

pub passes_after_linked : PassesAfterLinked
passes_after_linked m h taken o t passes is p =
    subst (Ends m h passes) is
    (of_app m h (sender_of taken) taken.item.app (passes - 1) passes (before_is t passes p.later) (p.before (passes - 1) (still_from t passes p.later) (is_before t passes p.later)) p.then)
