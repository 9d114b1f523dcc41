use Rattle.std.proofs.Common.{◌≡◌, refl, sym, ap, ◌∙◌, subst, ℕ, ◌+◌, ◌-◌, ◌<◌, ◌≤◌, ◌^◌, ℤ, All, true, false, nat_lt, nat_le, is_none, List, ◌∷◌, append-nil, map, length, Option, Some, None, is_some, option_map, MatchOption, slice_get, Bool, arith}
use Rattle.std.proofs.lemmas.Bool.Decides.{nat_tests}
use Rattle.fix_dictionary.specs.declared.messages.OrderCancelReplaceRequest.{OrderCancelReplaceRequest}
use Rattle.venue_rules.specs.declared.facts.Fact.{Fact}
use Rattle.venue_rules.specs.declared.facts.Entry.{Entry}
use Rattle.venue_rules.specs.declared.facts.OrderFact.{OrderFact}
use Rattle.venue_rules.specs.declared.refusals.ChangeRefusal.TheVariants as change
use Rattle.venue_rules.specs.declared.replies.Reply.{Reply}
use Rattle.venue_rules.specs.declared.replies.ReplyBody.TheVariants.{OrderReplaced}
use Rattle.instruments.specs.Listing.{is_off_tick, least_of, symbol_of}
use Rattle.venue_rules.specs.Market.{Market}
use Rattle.venue_rules.specs.declared.facts.HeldSide.{HeldSide}
use Rattle.venue_rules.specs.Delay.{find_held}
use Rattle.venue_rules.specs.Facts.{History, entries, is_order_id_used, next_order, next_trade, trades}
use Rattle.venue_rules.specs.Answer.{Answer, Sender, numbered, reply}
use Rattle.venue_rules.specs.Book.{Fill, Resting, filled, fills, find_order, too_soon}
use Rattle.venue_rules.specs.Changes.{IsHeld, IsResting, answer_replace, answer_replace_of, replace_refused, replaced, replacement, standing}
use Rattle.venue_rules.specs.Entering.{entering}
use Rattle.venue_rules.specs.Orders.{is_limit, price_or_zero}
use Rattle.price_book.specs.declared.book.Refusal.{Refusal as BookRefusal}
use Rattle.price_book.specs.declared.book.Refusal.TheVariants.{TooSoon, Full, NoMemory}
use Rattle.price_book.specs.declared.plan.FilledOrder.{FilledOrder}
use Rattle.price_book.specs.Contents.{Contents}
use Rattle.price_book.specs.Plan.{Plan}
use Rattle.price_book.specs.Plans.{IsReplacePlanned, IsReplaceRefused, printed, replace_plan, replacing}
use Rattle.price_book.specs.Steps.{IsPlanOf}
use Rattle.price_book.specs.Views.{number_of}
use Rattle.order_handler.specs.declared.replacing.ChangeCause.{ChangeCause}
use Rattle.order_handler.specs.declared.replacing.ChangeCause.TheVariants.{Refused, PriceMissing}
use Rattle.order_handler.specs.Changed.{IsBookRefusal, IsNotReplaced, IsReplacing, IsCapacityLeft, IsTakingPlace, MayReplace, change_turned_away, replaced_parts}
use Rattle.cross_delay.specs.Contents.{Contents as Delay}
use Rattle.venue_request.specs.declared.counts.Counts.{Counts}
use Rattle.order_handler.specs.Entered.{replaced_with, reports_from}
use Rattle.order_handler.specs.Made.{IsMade, are_listed}
use Rattle.order_handler.specs.Parts.{Parts, answer_of}
use Rattle.order_handler.specs.Reads.{IsReadAlone, is_used}
use Rattle.order_handler.specs.Reports.{entry_report, replaced_reports}
use Rattle.order_handler.proofs.Accepting.{entry_reports-walked, trades-entered}
use Rattle.order_handler.proofs.Changing.{named-held, named-resting, named-unknown, order-listed}
use Rattle.order_handler.proofs.Turning.{book-made, entry-listed, has_fill}

-- Each refusal of a replacement is the answer where it holds and none before it does.

replace-of : (m : Market) (h : History) (s : Sender) (d : OrderCancelReplaceRequest) (t : ℕ) (r : Resting) → find_order h.facts s.who d.original_id ≡ Some r → answer_replace m h s d t ≡ answer_replace_of m h s d t (IsResting r)
replace-of m h s d t r found = ap (answer_replace_of m h s d t) (named-resting h s.who d.original_id r found)

of-duplicate : (m : Market) (h : History) (s : Sender) (d : OrderCancelReplaceRequest) (t : ℕ) (r : Resting) → is_order_id_used h.facts s.who d.order_id ≡ true → answer_replace_of m h s d t (IsResting r) ≡ replace_refused s d (Some (standing r)) change.DuplicateClOrdId
of-duplicate m h s d t r h1 = rw h1 refl

of-unsupported : (m : Market) (h : History) (s : Sender) (d : OrderCancelReplaceRequest) (t : ℕ) (r : Resting) → is_order_id_used h.facts s.who d.order_id ≡ false → is_limit d.order_type ≡ false → answer_replace_of m h s d t (IsResting r) ≡ replace_refused s d (Some (standing r)) change.UnsupportedOrder
of-unsupported m h s d t r h1 h2 = rw h1 (rw h2 refl)

of-unpriced : (m : Market) (h : History) (s : Sender) (d : OrderCancelReplaceRequest) (t : ℕ) (r : Resting) → is_order_id_used h.facts s.who d.order_id ≡ false → is_limit d.order_type ≡ true → d.price ≡ None → answer_replace_of m h s d t (IsResting r) ≡ change_turned_away s d (standing r) PriceMissing
of-unpriced m h s d t r h1 h2 h3 = rw h1 (rw h2 (rw h3 refl))

of-off_tick : (m : Market) (h : History) (s : Sender) (d : OrderCancelReplaceRequest) (t : ℕ) (r : Resting) → is_order_id_used h.facts s.who d.order_id ≡ false → is_limit d.order_type ≡ true → is_none d.price ≡ false → is_off_tick m.instruments (replacement d r).instrument (replacement d r).price ≡ true → answer_replace_of m h s d t (IsResting r) ≡ replace_refused s d (Some (standing r)) change.PriceOffTick
of-off_tick m h s d t r h1 h2 h3 h4 = rw h1 (rw h2 (rw h3 (rw h4 refl)))

of-least : (m : Market) (h : History) (s : Sender) (d : OrderCancelReplaceRequest) (t : ℕ) (r : Resting) → is_order_id_used h.facts s.who d.order_id ≡ false → is_limit d.order_type ≡ true → is_none d.price ≡ false → is_off_tick m.instruments (replacement d r).instrument (replacement d r).price ≡ false → nat_lt d.quantity (least_of m.instruments (replacement d r).instrument) ≡ true → answer_replace_of m h s d t (IsResting r) ≡ replace_refused s d (Some (standing r)) change.QuantityBelowLeast
of-least m h s d t r h1 h2 h3 h4 h5 = rw h1 (rw h2 (rw h3 (rw h4 (rw h5 refl))))

of-filled : (m : Market) (h : History) (s : Sender) (d : OrderCancelReplaceRequest) (t : ℕ) (r : Resting) → is_order_id_used h.facts s.who d.order_id ≡ false → is_limit d.order_type ≡ true → is_none d.price ≡ false → is_off_tick m.instruments (replacement d r).instrument (replacement d r).price ≡ false → nat_lt d.quantity (least_of m.instruments (replacement d r).instrument) ≡ false → nat_le d.quantity (filled r) ≡ true → answer_replace_of m h s d t (IsResting r) ≡ replace_refused s d (Some (standing r)) change.QuantityAlreadyFilled
of-filled m h s d t r h1 h2 h3 h4 h5 h6 = rw h1 (rw h2 (rw h3 (rw h4 (rw h5 (rw h6 refl)))))

pub duplicate_id : (m : Market) (book delay : List Fact) (who : ℕ) (d : OrderCancelReplaceRequest) (r : Resting) → is_used book delay who d.order_id ≡ true → IsNotReplaced m book delay who d r (Refused change.DuplicateClOrdId)
duplicate_id m book delay who d r h1 = record { answers = λ h number kind t found k. let s : Sender = record { who = who; number = number; kind = kind } in replace-of m h s d t r found ∙ of-duplicate m h s d t r (k ∙ h1) }

pub unsupported_order : (m : Market) (book delay : List Fact) (who : ℕ) (d : OrderCancelReplaceRequest) (r : Resting) → is_used book delay who d.order_id ≡ false → is_limit d.order_type ≡ false → IsNotReplaced m book delay who d r (Refused change.UnsupportedOrder)
unsupported_order m book delay who d r h1 h2 = record { answers = λ h number kind t found k. let s : Sender = record { who = who; number = number; kind = kind } in replace-of m h s d t r found ∙ of-unsupported m h s d t r (k ∙ h1) h2 }

pub price_missing : (m : Market) (book delay : List Fact) (who : ℕ) (d : OrderCancelReplaceRequest) (r : Resting) → is_used book delay who d.order_id ≡ false → is_limit d.order_type ≡ true → d.price ≡ None → IsNotReplaced m book delay who d r PriceMissing
price_missing m book delay who d r h1 h2 h3 = record { answers = λ h number kind t found k. let s : Sender = record { who = who; number = number; kind = kind } in replace-of m h s d t r found ∙ of-unpriced m h s d t r (k ∙ h1) h2 h3 }

some_price : {price : ℤ} (x : Option ℤ) → x ≡ Some price → is_none x ≡ false
some_price (Some p) h = refl
some_price None h = cc

-- a statement about a price that is present is one about the replacing order's price
off_tick-of : (m : Market) (d : OrderCancelReplaceRequest) (r : Resting) (price : ℤ) (b : Bool) → d.price ≡ Some price → is_off_tick m.instruments r.entry.order.instrument price ≡ b → is_off_tick m.instruments (replacement d r).instrument (replacement d r).price ≡ b
off_tick-of m d r price b h k = ap (λ x. is_off_tick m.instruments r.entry.order.instrument (price_or_zero x)) h ∙ k

pub price_off_tick : (m : Market) (book delay : List Fact) (who : ℕ) (d : OrderCancelReplaceRequest) (r : Resting) (price : ℤ) → is_used book delay who d.order_id ≡ false → is_limit d.order_type ≡ true → d.price ≡ Some price → is_off_tick m.instruments r.entry.order.instrument price ≡ true → IsNotReplaced m book delay who d r (Refused change.PriceOffTick)
price_off_tick m book delay who d r price h1 h2 h3 h4 = record { answers = λ h number kind t found k. let s : Sender = record { who = who; number = number; kind = kind } in replace-of m h s d t r found ∙ of-off_tick m h s d t r (k ∙ h1) h2 (some_price d.price h3) (off_tick-of m d r price true h3 h4) }

pub quantity_below_least : (m : Market) (book delay : List Fact) (who : ℕ) (d : OrderCancelReplaceRequest) (r : Resting) (price : ℤ) → is_used book delay who d.order_id ≡ false → is_limit d.order_type ≡ true → d.price ≡ Some price → is_off_tick m.instruments r.entry.order.instrument price ≡ false → nat_lt d.quantity (least_of m.instruments r.entry.order.instrument) ≡ true → IsNotReplaced m book delay who d r (Refused change.QuantityBelowLeast)
quantity_below_least m book delay who d r price h1 h2 h3 h4 h5 = record { answers = λ h number kind t found k. let s : Sender = record { who = who; number = number; kind = kind } in replace-of m h s d t r found ∙ of-least m h s d t r (k ∙ h1) h2 (some_price d.price h3) (off_tick-of m d r price false h3 h4) h5 }

at_most : (a b : ℕ) → a ≤ b → nat_le a b ≡ true
at_most a b h = grind (arith, nat_tests)

above : (a b : ℕ) → b < a → nat_le a b ≡ false
above a b h = grind (arith, nat_tests)

pub quantity_filled : (m : Market) (book delay : List Fact) (who : ℕ) (d : OrderCancelReplaceRequest) (r : Resting) (price : ℤ) → is_used book delay who d.order_id ≡ false → is_limit d.order_type ≡ true → d.price ≡ Some price → is_off_tick m.instruments r.entry.order.instrument price ≡ false → nat_lt d.quantity (least_of m.instruments r.entry.order.instrument) ≡ false → d.quantity ≤ filled r → IsNotReplaced m book delay who d r (Refused change.QuantityAlreadyFilled)
quantity_filled m book delay who d r price h1 h2 h3 h4 h5 h6 = record { answers = λ h number kind t found k. let s : Sender = record { who = who; number = number; kind = kind } in replace-of m h s d t r found ∙ of-filled m h s d t r (k ∙ h1) h2 (some_price d.price h3) (off_tick-of m d r price false h3 h4) h5 (at_most d.quantity (filled r) h6) }

pub may_replace : (m : Market) (book delay : List Fact) (who : ℕ) (d : OrderCancelReplaceRequest) (r : Resting) (price : ℤ) → is_used book delay who d.order_id ≡ false → is_limit d.order_type ≡ true → d.price ≡ Some price → is_off_tick m.instruments r.entry.order.instrument price ≡ false → nat_lt d.quantity (least_of m.instruments r.entry.order.instrument) ≡ false → filled r < d.quantity → MayReplace m book delay who d r
may_replace m book delay who d r price h1 h2 h3 h4 h5 h6 = record { new = h1; limit = h2; priced = some_price d.price h3; on_tick = off_tick-of m d r price false h3 h4; enough = h5; more = above d.quantity (filled r) h6 }

pub ruleset turnings = (duplicate_id, unsupported_order, price_missing, price_off_tick, quantity_below_least, quantity_filled, may_replace)

-- no order rests under the identifier named

pub replace-unknown : (m : Market) (h : History) (book delay : List Fact) (c : Counts) (s : Sender) (d : OrderCancelReplaceRequest) (t : ℕ) → IsReadAlone h book delay c → find_order book s.who d.original_id ≡ None → is_some (find_held delay s.who d.original_id) ≡ false → answer_replace m h s d t ≡ replace_refused s d None change.UnknownOrder
replace-unknown m h book delay c s d t x none gone = ap (answer_replace_of m h s d t) (named-unknown h s.who d.original_id (x.order s.who d.original_id ∙ none) (x.side s.who d.original_id ∙ no_side (find_held delay s.who d.original_id) gone))
  where
    no_side : (y : Option HeldSide) → is_some y ≡ false → y ≡ None
    no_side None h = refl
    no_side (Some k) h = absurd (never h)
      where
        never : true ≡ false → ⊥
        never e = cc

held-duplicate : (m : Market) (h : History) (s : Sender) (d : OrderCancelReplaceRequest) (t : ℕ) (k : HeldSide) → is_order_id_used h.facts s.who d.order_id ≡ true → answer_replace_of m h s d t (IsHeld k) ≡ replace_refused s d None change.DuplicateClOrdId
held-duplicate m h s d t k h1 = rw h1 refl

held-refused : (m : Market) (h : History) (s : Sender) (d : OrderCancelReplaceRequest) (t : ℕ) (k : HeldSide) → is_order_id_used h.facts s.who d.order_id ≡ false → answer_replace_of m h s d t (IsHeld k) ≡ replace_refused s d None change.HeldSide
held-refused m h s d t k h1 = rw h1 refl

a_side : (y : Option HeldSide) → is_some y ≡ true → (k : HeldSide) × (y ≡ Some k)
a_side (Some k) h = (k, refl)
a_side None h = absurd (never h)
  where
    never : false ≡ true → ⊥
    never e = cc

pub held-again : (m : Market) (h : History) (book delay : List Fact) (c : Counts) (s : Sender) (d : OrderCancelReplaceRequest) (t : ℕ) → IsReadAlone h book delay c → find_order book s.who d.original_id ≡ None → is_some (find_held delay s.who d.original_id) ≡ true → is_used book delay s.who d.order_id ≡ true → answer_replace m h s d t ≡ replace_refused s d None change.DuplicateClOrdId
held-again m h book delay c s d t x none there used =
    let k = a_side (find_held delay s.who d.original_id) there in
    ap (answer_replace_of m h s d t) (named-held h s.who d.original_id k.0 (x.order s.who d.original_id ∙ none) (x.side s.who d.original_id ∙ k.1)) ∙ held-duplicate m h s d t k.0 (x.used s.who d.order_id ∙ used)

pub held-kept : (m : Market) (h : History) (book delay : List Fact) (c : Counts) (s : Sender) (d : OrderCancelReplaceRequest) (t : ℕ) → IsReadAlone h book delay c → find_order book s.who d.original_id ≡ None → is_some (find_held delay s.who d.original_id) ≡ true → is_used book delay s.who d.order_id ≡ false → answer_replace m h s d t ≡ replace_refused s d None change.HeldSide
held-kept m h book delay c s d t x none there used =
    let k = a_side (find_held delay s.who d.original_id) there in
    ap (answer_replace_of m h s d t) (named-held h s.who d.original_id k.0 (x.order s.who d.original_id ∙ none) (x.side s.who d.original_id ∙ k.1)) ∙ held-refused m h s d t k.0 (x.used s.who d.order_id ∙ used)

-- no refusal holds, or the last one

pub replacing-is : (d : OrderCancelReplaceRequest) (r : Resting) (price : ℤ) → d.price ≡ Some price → replacing r d.order_id d.quantity price ≡ replacement d r
replacing-is d r price h = ap (λ x. replacing r d.order_id d.quantity (price_or_zero x)) (sym h)

of-free : (m : Market) (h : History) (book delay : List Fact) (s : Sender) (d : OrderCancelReplaceRequest) (t : ℕ) (r : Resting) → MayReplace m book delay s.who d r → is_order_id_used h.facts s.who d.order_id ≡ false → too_soon m h.facts (replacement d r) t ≡ None → answer_replace_of m h s d t (IsResting r) ≡ replaced m h s d r t
of-free m h book delay s d t r may new free = rw new (rw may.limit (rw may.priced (rw may.on_tick (rw may.enough (rw may.more (rw free refl))))))

of-too_soon : (m : Market) (h : History) (book delay : List Fact) (s : Sender) (d : OrderCancelReplaceRequest) (t : ℕ) (r : Resting) → MayReplace m book delay s.who d r → is_order_id_used h.facts s.who d.order_id ≡ false → is_some (too_soon m h.facts (replacement d r) t) ≡ true → answer_replace_of m h s d t (IsResting r) ≡ replace_refused s d (Some (standing r)) change.LinkedOrderTooRecent
of-too_soon m h book delay s d t r may new soon = rw new (rw may.limit (rw may.priced (rw may.on_tick (rw may.enough (rw may.more (rw soon refl))))))

pub replace-turned : (m : Market) (h : History) (book delay : List Fact) (c : Counts) (s : Sender) (d : OrderCancelReplaceRequest) (t : ℕ) (r : Resting) (cause : ChangeCause) → IsReadAlone h book delay c → find_order book s.who d.original_id ≡ Some r → IsNotReplaced m book delay s.who d r cause → answer_replace m h s d t ≡ change_turned_away s d (standing r) cause
replace-turned m h book delay c s d t r cause x found away = away.answers h s.number s.kind t (x.order s.who d.original_id ∙ found) (x.used s.who d.order_id)

book_too_soon : (m : Market) (h : History) (book delay : List Fact) (c : Counts) (s : Sender) (d : OrderCancelReplaceRequest) (t : ℕ) (r : Resting) (price : ℤ) (n : ℕ) → IsReadAlone h book delay c → find_order book s.who d.original_id ≡ Some r → MayReplace m book delay s.who d r → d.price ≡ Some price → IsReplaceRefused m book (replacing r d.order_id d.quantity price) t (TooSoon n) → answer_replace m h s d t ≡ replace_refused s d (Some (standing r)) change.LinkedOrderTooRecent
book_too_soon m h book delay c s d t r price n x found may priced refused =
    replace-of m h s d t r (x.order s.who d.original_id ∙ found) ∙ of-too_soon m h book delay s d t r may (x.used s.who d.order_id ∙ may.new) (has_fill (too_soon m h.facts (replacement d r) t) n (ap (option_map number_of) (x.soon m (replacement d r) t) ∙ ap (λ o. option_map number_of (too_soon m book o t)) (sym (replacing-is d r price priced)) ∙ refused))

-- the entering order

-- the book's plan is of the order found, which may be replaced
pub replacing-by : (m : Market) (facts delay : List Fact) (who : ℕ) (d : OrderCancelReplaceRequest) (t : ℕ) (r : Resting) (price : ℤ) (plan : Plan) → find_order facts who d.original_id ≡ Some r → MayReplace m facts delay who d r → d.price ≡ Some price → IsReplacePlanned m facts who d.order_id d.quantity price t plan r → IsReplacing m facts delay who d t plan
replacing-by m facts delay who d t r price plan found may priced planned = record { named = r; price = price; found = found; may = may; priced = priced; planned = planned }

replace_plan-is : (m : Market) (facts delay : List Fact) (who : ℕ) (d : OrderCancelReplaceRequest) (t : ℕ) (plan : Plan) (x : IsReplacing m facts delay who d t plan) → plan ≡ replace_plan facts x.named who (replacement d x.named) t
replace_plan-is m facts delay who d t plan x = x.planned.plan ∙ ap (λ o. replace_plan facts x.named who o t) (replacing-is d x.named x.price x.priced)

entered-is : (m : Market) (facts delay : List Fact) (who : ℕ) (d : OrderCancelReplaceRequest) (t : ℕ) (plan : Plan) (x : IsReplacing m facts delay who d t plan) → slice_get (entries plan.facts) 0 ≡ Some (entering facts (replacement d x.named) (filled x.named) t)
entered-is m facts delay who d t plan x = ap (λ p. slice_get (entries p.facts) 0) (replace_plan-is m facts delay who d t plan x)

rest_of : (a b : ℕ) → nat_le a b ≡ false → a ≤ 10 ^ 15 → b + (a - b) ≤ 10 ^ 15
rest_of a b h k = grind (arith, nat_tests)

-- the entering order replaces another
pub taking-place : (m : Market) (facts delay : List Fact) (who : ℕ) (d : OrderCancelReplaceRequest) (t : ℕ) (plan : Plan) (x : IsReplacing m facts delay who d t plan) → are_listed (length m.instruments) facts ≡ true → d.quantity ≤ 10 ^ 15 → MatchOption (slice_get (entries plan.facts) 0) ⊥ (IsTakingPlace (length m.instruments) plan.fills)
taking-place m facts delay who d t plan x listed most =
    let P : Option Entry → Type 0 = λ y. MatchOption y ⊥ (IsTakingPlace (length m.instruments) plan.fills) in
    let e : Entry = entering facts (replacement d x.named) (filled x.named) t in
    let takes : IsTakingPlace (length m.instruments) plan.fills e = record { listed = order-listed facts (length m.instruments) who d.original_id x.named listed x.found; within = x.planned.within; whole = rest_of d.quantity (filled x.named) x.may.more most } in
    subst P (sym (entered-is m facts delay who d t plan x)) takes

-- the whole answer

replaced-plan : (m : Market) (who : ℕ) (original : List ℕ) (removed : ℕ) (e : Entry) (fs : List Fill) (trade reports : ℕ) (symbol : List ℕ)
    → symbol ≡ symbol_of m.instruments e.order.instrument → All (λ (g : FilledOrder). g.instrument ≡ e.order.instrument) (map printed fs)
    → numbered reports (replaced_reports who original symbol e trade (map printed fs)) ≡ (replaced_with m who original removed e fs trade reports).replies
unfolding replaced_with
replaced-plan m who original removed e fs trade reports symbol named here =
    ap (λ (rs : List (ℕ → Reply)). numbered reports ((λ n. reply who (OrderReplaced (record { order = entry_report symbol e e.order.quantity e.filled_before n; original_id = original }))) ∷ rs)) (entry_reports-walked m symbol e fs trade named here)
    ∙ ap (λ (z : List ℕ). numbered reports ((λ n. reply who (OrderReplaced (record { order = entry_report z e e.order.quantity e.filled_before n; original_id = original }))) ∷ reports_from m e fs trade)) named

replaced-facts : (m : Market) (book : List Fact) (r : Resting) (who : ℕ) (original : List ℕ) (o : OrderFact) (t trade reports : ℕ) → (replace_plan book r who o t).facts ≡ (replaced_with m who original r.entry.number (entering book o (filled r) t) (fills book o) trade reports).facts
unfolding replaced_with
replaced-facts m book r who original o t trade reports = refl

replaced-with : (m : Market) (h : History) (s : Sender) (d : OrderCancelReplaceRequest) (r : Resting) (t : ℕ) → replaced m h s d r t ≡ replaced_with m s.who d.original_id r.entry.number (record { number = next_order h.facts; order = replacement d r; filled_before = filled r; moment = t }) (fills h.facts (replacement d r)) (next_trade h.facts) h.reports
unfolding replaced_with
replaced-with m h s d r t = refl

replaced-read : (m : Market) (h : History) (book delay : List Fact) (c : Counts) (s : Sender) (d : OrderCancelReplaceRequest) (r : Resting) (t : ℕ) → IsReadAlone h book delay c → replaced m h s d r t ≡ replaced_with m s.who d.original_id r.entry.number (entering book (replacement d r) (filled r) t) (fills book (replacement d r)) (c.trades + 1) c.reports
replaced-read m h book delay c s d r t x =
    let o : OrderFact = replacement d r in
    let entry : ℕ → Entry = λ n. record { number = n; order = replacement d r; filled_before = filled r; moment = t } in
    let e : Entry = entering book o (filled r) t in
    replaced-with m h s d r t
    ∙ ap (λ n. replaced_with m s.who d.original_id r.entry.number (entry n) (fills h.facts o) (next_trade h.facts) h.reports) x.order_number
    ∙ ap (λ fs. replaced_with m s.who d.original_id r.entry.number e fs (next_trade h.facts) h.reports) (x.filled o)
    ∙ ap (λ n. replaced_with m s.who d.original_id r.entry.number e (fills book o) n h.reports) x.trade_number
    ∙ ap (λ n. replaced_with m s.who d.original_id r.entry.number e (fills book o) (c.trades + 1) n) x.reports

-- the reports of the plan, by the entering order
emitted-of : (m : Market) (facts delay : List Fact) (c : Counts) (who : ℕ) (d : OrderCancelReplaceRequest) (t : ℕ) (plan : Plan) (x : IsReplacing m facts delay who d t plan) (a : Parts) → MatchOption (slice_get (entries plan.facts) 0) ⊥ (λ e. a ≡ replaced_parts m.instruments c who d.original_id plan e) → a ≡ replaced_parts m.instruments c who d.original_id plan (entering facts (replacement d x.named) (filled x.named) t)
emitted-of m facts delay c who d t plan x a emitted =
    let P : Option Entry → Type 0 = λ y. MatchOption y ⊥ (λ e. a ≡ replaced_parts m.instruments c who d.original_id plan e) in
    subst P (entered-is m facts delay who d t plan x) emitted

pub replaced-emitted : (m : Market) (h : History) (book delay : List Fact) (c : Counts) (s : Sender) (d : OrderCancelReplaceRequest) (t : ℕ) (plan : Plan) (x : IsReplacing m book delay s.who d t plan) (a : Parts) → IsReadAlone h book delay c → MatchOption (slice_get (entries plan.facts) 0) ⊥ (λ e. a ≡ replaced_parts m.instruments c s.who d.original_id plan e) → answer_of a ≡ answer_replace m h s d t
replaced-emitted m h book delay c s d t plan x a alone emitted =
    let r : Resting = x.named in
    let o : OrderFact = replacement d r in
    let e : Entry = entering book o (filled r) t in
    let symbol : List ℕ = symbol_of m.instruments e.order.instrument in
    let planned : plan ≡ replace_plan book r s.who o t = replace_plan-is m book delay s.who d t plan x in
    let here : All (λ (g : FilledOrder). g.instrument ≡ r.entry.order.instrument) (map printed (fills book o)) = subst (λ (p : Plan). All (λ (g : FilledOrder). g.instrument ≡ r.entry.order.instrument) p.fills) planned x.planned.here in
    let answer : Answer = replaced_with m s.who d.original_id r.entry.number e (fills book o) (c.trades + 1) c.reports in
    let replies : List Reply = (replaced_parts m.instruments c s.who d.original_id plan e).replies in
    let all : replies ≡ answer.replies =
    ap (λ (p : Plan). numbered c.reports (replaced_reports s.who d.original_id symbol e (c.trades + 1) p.fills)) planned
    ∙ replaced-plan m s.who d.original_id r.entry.number e (fills book o) (c.trades + 1) c.reports symbol refl here in
    let free : too_soon m h.facts o t ≡ None = alone.soon m o t ∙ ap (λ (y : OrderFact). too_soon m book y t) (sym (replacing-is d r x.price x.priced)) ∙ x.planned.free in
    ap answer_of (emitted-of m book delay c s.who d t plan x a emitted)
    ∙ ap (λ (fs : List Fact). let y : Answer = record { facts = fs; replies = replies } in y) (append-nil plan.facts)
    ∙ ap (λ (p : Plan). let y : Answer = record { facts = p.facts; replies = replies } in y) planned
    ∙ ap (λ (fs : List Fact). let y : Answer = record { facts = fs; replies = replies } in y) (replaced-facts m book r s.who d.original_id o t (c.trades + 1) c.reports)
    ∙ ap (λ (rs : List Reply). let y : Answer = record { facts = answer.facts; replies = rs } in y) all
    ∙ sym (replaced-read m h book delay c s d r t alone)
    ∙ sym (replace-of m h s d t r (alone.order s.who d.original_id ∙ x.found) ∙ of-free m h book delay s d t r x.may (alone.used s.who d.order_id ∙ x.may.new) free)

-- the entering order is planned, in a listed instrument

pub emitted-made : (m : Market) (facts delay : List Fact) (c : Counts) (who : ℕ) (d : OrderCancelReplaceRequest) (t : ℕ) (plan : Plan) (x : IsReplacing m facts delay who d t plan) (book : Contents) (held : Delay) (a : Parts) → are_listed (length m.instruments) facts ≡ true → IsPlanOf book plan.facts → MatchOption (slice_get (entries plan.facts) 0) ⊥ (λ e. a ≡ replaced_parts m.instruments c who d.original_id plan e) → IsMade (length m.instruments) book held a
emitted-made m facts delay c who d t plan x book held a listed made emitted =
    let P : Parts → Type 0 = λ p. IsMade (length m.instruments) book held p in
    let o : OrderFact = replacement d x.named in
    let e : Entry = entering facts o (filled x.named) t in
    let here : are_listed (length m.instruments) plan.facts ≡ true = ap (λ (p : Plan). are_listed (length m.instruments) p.facts) (replace_plan-is m facts delay who d t plan x) ∙ entry-listed (length m.instruments) e (fills facts o) (order-listed facts (length m.instruments) who d.original_id x.named listed x.found) in
    subst P (sym (emitted-of m facts delay c who d t plan x a emitted)) (book-made (length m.instruments) book held (replaced_parts m.instruments c who d.original_id plan e) made here refl)

pub replace-trades : (m : Market) (facts delay : List Fact) (who : ℕ) (d : OrderCancelReplaceRequest) (t : ℕ) (plan : Plan) (x : IsReplacing m facts delay who d t plan) → length (trades plan.facts) ≡ length plan.fills
replace-trades m facts delay who d t plan x =
    let o : OrderFact = replacement d x.named in
    let is : plan ≡ replace_plan facts x.named who o t = replace_plan-is m facts delay who d t plan x in
    ap (λ (p : Plan). length (trades p.facts)) is ∙ trades-entered (entering facts o (filled x.named) t) (fills facts o) ∙ sym (ap (λ (p : Plan). length p.fills) is)

-- refusals of the book

pub headroom-left : (m : Market) (facts : List Fact) (d : OrderCancelReplaceRequest) (t : ℕ) (r : Resting) (price : ℤ) (refusal : BookRefusal) → IsReplaceRefused m facts (replacing r d.order_id d.quantity price) t refusal → IsCapacityLeft refusal
headroom-left m facts d t r price (TooSoon n) refused = tt
headroom-left m facts d t r price Full refused = absurd refused
headroom-left m facts d t r price NoMemory refused = tt

pub book-refused : (m : Market) (h : History) (book delay : List Fact) (c : Counts) (s : Sender) (d : OrderCancelReplaceRequest) (t : ℕ) (r : Resting) (price : ℤ) (refusal : BookRefusal) (a : Answer) → IsReadAlone h book delay c → find_order book s.who d.original_id ≡ Some r → MayReplace m book delay s.who d r → d.price ≡ Some price → IsReplaceRefused m book (replacing r d.order_id d.quantity price) t refusal → IsBookRefusal s d (standing r) refusal a → a ≡ answer_replace m h s d t
book-refused m h book delay c s d t r price (TooSoon n) a x found may priced refused is = is ∙ sym (book_too_soon m h book delay c s d t r price n x found may priced refused)
book-refused m h book delay c s d t r price Full a x found may priced refused is = absurd is
book-refused m h book delay c s d t r price NoMemory a x found may priced refused is = absurd is
