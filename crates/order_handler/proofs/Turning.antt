use Rattle.std.proofs.Common.{append-nil, ◌++◌, if◌then◌else◌, is_none, ℤ, ◌≡◌, refl, sym, ap, ◌∙◌, subst, ℕ, ◌<◌, Bool, ◌&&◌, ◌∷◌, map, true, false, not, ◌||◌, nat_lt, List, [], Option, Some, None, is_some, option_map, arith}
use Rattle.fix_dictionary.specs.declared.messages.NewOrderSingle.{NewOrderSingle}
use Rattle.venue_rules.specs.declared.facts.Fact.{Fact}
use Rattle.venue_rules.specs.declared.refusals.OrderRefusal.TheVariants as order
use Rattle.venue_rules.specs.Market.{Market}
use Rattle.venue_rules.specs.Facts.{History, is_order_id_used}
use Rattle.venue_rules.specs.Answer.{Answer, Sender}
use Rattle.venue_rules.specs.Book.{too_soon, is_side_full, Fill}
use Rattle.venue_rules.specs.Orders.{accepted, answer_order, is_limit, is_unsupported_life, duplicate, order_asked, order_under, price_or_zero, refused, refused_naming}
use Rattle.instruments.specs.Listing.{instrument_of, is_off_tick, is_unknown_instrument, least_of}
use Rattle.venue_rules.specs.declared.refusals.OrderRefusal.{OrderRefusal}
use Rattle.price_book.specs.declared.book.Refusal.{Refusal}
use Rattle.venue_rules.specs.declared.facts.OrderFact.{OrderFact}
use Rattle.price_book.specs.declared.book.Refusal.TheVariants.{TooSoon, Full, NoMemory}
use Rattle.price_book.specs.Views.{number_of}
use Rattle.price_book.specs.Plans.{IsEntryAccepted, IsEntryRefused}
use Rattle.order_handler.specs.declared.orders.Cause.{Cause}
use Rattle.price_book.specs.Contents.{Contents}
use Rattle.price_book.specs.Steps.{IsPlanOf, Nothing}
use Rattle.cross_delay.specs.Contents.{Contents as Delay}
use Rattle.cross_delay.specs.Steps.{IsPlanOf as IsDelayPlan, Nothing as NothingHeld}
use Rattle.order_handler.specs.declared.orders.Cause.TheVariants.{Refused, Duplicate, PriceMissing}
use Rattle.std.proofs.lemmas.Bool.Decides.{nat_tests}
use Rattle.venue_rules.specs.declared.facts.Fact.TheVariants.{Traded}
use Rattle.venue_rules.specs.declared.facts.Entry.{Entry}
use Rattle.venue_rules.specs.Entering.{entry_facts, trade_of}
use Rattle.venue_request.specs.declared.counts.Counts.{Counts}
use Rattle.order_handler.specs.Made.{IsMade, are_listed}
use Rattle.order_handler.specs.Parts.{Parts, answer_of, book_answer_of}
use Rattle.order_handler.specs.Reads.{IsReadAlone, is_used}
use Rattle.order_handler.specs.Asked.{IsSound, IsTurnedAway, rejection}

-- Each refusal of an order is the answer where it holds and none before it does.

pub unknown_instrument : (m : Market) (book delay : List Fact) (who : ℕ) (d : NewOrderSingle) → is_unknown_instrument m.instruments d.symbol ≡ true → IsTurnedAway m book delay who d (Refused order.UnknownInstrument)
unknown_instrument m book delay who d h1 = record { answers = λ h number kind t k o. rw h1 refl }

pub duplicate_id : (m : Market) (book delay : List Fact) (who : ℕ) (d : NewOrderSingle) (number : Option ℕ) → is_unknown_instrument m.instruments d.symbol ≡ false → is_used book delay who d.order_id ≡ true → number ≡ order_under book who d.order_id → IsTurnedAway m book delay who d (Duplicate number)
duplicate_id m book delay who d number h1 h2 same = record { answers = λ h n kind t k o. let h2' : is_order_id_used h.facts who d.order_id ≡ true = k ∙ h2 in let s : Sender = record { who = who; number = n; kind = kind } in let again : answer_order m h s d t ≡ duplicate h s d order.DuplicateClOrdId = rw h1 (rw h2' refl) in again ∙ ap (λ x. refused_naming x h s d order.DuplicateClOrdId) (ap (option_map (λ r. r.entry.number)) o ∙ sym same) }

pub unsupported_order : (m : Market) (book delay : List Fact) (who : ℕ) (d : NewOrderSingle) → is_unknown_instrument m.instruments d.symbol ≡ false → is_used book delay who d.order_id ≡ false → (not (is_limit d.order_type) || is_unsupported_life d.time_in_force) ≡ true → IsTurnedAway m book delay who d (Refused order.UnsupportedOrder)
unsupported_order m book delay who d h1 h2 h3 = record { answers = λ h number kind t k o. let h2' : is_order_id_used h.facts who d.order_id ≡ false = k ∙ h2 in rw h1 (rw h2' (rw h3 refl)) }

pub price_missing : (m : Market) (book delay : List Fact) (who : ℕ) (d : NewOrderSingle) → is_unknown_instrument m.instruments d.symbol ≡ false → is_used book delay who d.order_id ≡ false → (not (is_limit d.order_type) || is_unsupported_life d.time_in_force) ≡ false → d.price ≡ None → IsTurnedAway m book delay who d PriceMissing
price_missing m book delay who d h1 h2 h3 h4 = record { answers = λ h number kind t k o. let h2' : is_order_id_used h.facts who d.order_id ≡ false = k ∙ h2 in rw h1 (rw h2' (rw h3 (rw h4 refl))) }

-- a statement about a price and an instrument that are present is one about those of the order
off_tick-of : (m : Market) (who : ℕ) (d : NewOrderSingle) (x : ℕ) (price : ℤ) (b : Bool) → x ≡ instrument_of m.instruments d.symbol → d.price ≡ Some price → is_off_tick m.instruments x price ≡ b → is_off_tick m.instruments (order_asked m who d).instrument (order_asked m who d).price ≡ b
off_tick-of m who d x price b here h k = ap (λ p. is_off_tick m.instruments (instrument_of m.instruments d.symbol) (price_or_zero p)) h ∙ ap (λ y. is_off_tick m.instruments y price) (sym here) ∙ k

some_price : {price : ℤ} (p : Option ℤ) → p ≡ Some price → is_none p ≡ false
some_price (Some p) h = refl
some_price None h = cc

pub price_off_tick : (m : Market) (book delay : List Fact) (who : ℕ) (d : NewOrderSingle) (x : ℕ) (price : ℤ) → is_unknown_instrument m.instruments d.symbol ≡ false → is_used book delay who d.order_id ≡ false → (not (is_limit d.order_type) || is_unsupported_life d.time_in_force) ≡ false → d.price ≡ Some price → x ≡ instrument_of m.instruments d.symbol → is_off_tick m.instruments x price ≡ true → IsTurnedAway m book delay who d (Refused order.PriceOffTick)
price_off_tick m book delay who d x price h1 h2 h3 h4 here h5 = record { answers = λ h number kind t k o. let h2' : is_order_id_used h.facts who d.order_id ≡ false = k ∙ h2 in let h4' : is_none d.price ≡ false = some_price d.price h4 in let h5' : is_off_tick m.instruments (order_asked m who d).instrument (order_asked m who d).price ≡ true = off_tick-of m who d x price true here h4 h5 in rw h1 (rw h2' (rw h3 (rw h4' (rw h5' refl)))) }

pub quantity_below_least : (m : Market) (book delay : List Fact) (who : ℕ) (d : NewOrderSingle) (x : ℕ) (price : ℤ) → is_unknown_instrument m.instruments d.symbol ≡ false → is_used book delay who d.order_id ≡ false → (not (is_limit d.order_type) || is_unsupported_life d.time_in_force) ≡ false → d.price ≡ Some price → x ≡ instrument_of m.instruments d.symbol → is_off_tick m.instruments x price ≡ false → nat_lt d.quantity (least_of m.instruments x) ≡ true → IsTurnedAway m book delay who d (Refused order.QuantityBelowLeast)
quantity_below_least m book delay who d x price h1 h2 h3 h4 here h5 h6 = record { answers = λ h number kind t k o. let h2' : is_order_id_used h.facts who d.order_id ≡ false = k ∙ h2 in let h4' : is_none d.price ≡ false = some_price d.price h4 in let h5' : is_off_tick m.instruments (order_asked m who d).instrument (order_asked m who d).price ≡ false = off_tick-of m who d x price false here h4 h5 in let h6' : nat_lt d.quantity (least_of m.instruments (order_asked m who d).instrument) ≡ true = ap (λ y. nat_lt d.quantity (least_of m.instruments y)) (sym here) ∙ h6 in rw h1 (rw h2' (rw h3 (rw h4' (rw h5' (rw h6' refl))))) }

pub sound_order : (m : Market) (book delay : List Fact) (who : ℕ) (d : NewOrderSingle) (x : ℕ) (price : ℤ) → is_unknown_instrument m.instruments d.symbol ≡ false → is_used book delay who d.order_id ≡ false → (not (is_limit d.order_type) || is_unsupported_life d.time_in_force) ≡ false → d.price ≡ Some price → x ≡ instrument_of m.instruments d.symbol → is_off_tick m.instruments x price ≡ false → nat_lt d.quantity (least_of m.instruments x) ≡ false → IsSound m book delay who d
sound_order m book delay who d x price h1 h2 h3 h4 here h5 h6 = record { known = h1; new = h2; supported = h3; priced = some_price d.price h4; on_tick = off_tick-of m who d x price false here h4 h5; enough = ap (λ y. nat_lt d.quantity (least_of m.instruments y)) (sym here) ∙ h6 }

pub ruleset turnings = (unknown_instrument, duplicate_id, unsupported_order, price_missing, price_off_tick, quantity_below_least, sound_order)

-- the answer by the book's decision on the order

order_free : (m : Market) (h : History) (book delay : List Fact) (number : ℕ) (kind : List ℕ) (who : ℕ) (d : NewOrderSingle) (t : ℕ) → IsSound m book delay who d → is_order_id_used h.facts who d.order_id ≡ false → too_soon m h.facts (order_asked m who d) t ≡ None → is_side_full h.facts (order_asked m who d) ≡ false → answer_order m h (record { who = who; number = number; kind = kind }) d t ≡ accepted m h (order_asked m who d) t
order_free m h book delay number kind who d t s h2 h7 h8 = rw s.known (rw h2 (rw s.supported (rw s.priced (rw s.on_tick (rw s.enough (rw h7 (rw h8 refl)))))))

order_too_soon : (m : Market) (h : History) (book delay : List Fact) (number : ℕ) (kind : List ℕ) (who : ℕ) (d : NewOrderSingle) (t : ℕ) → IsSound m book delay who d → is_order_id_used h.facts who d.order_id ≡ false → is_some (too_soon m h.facts (order_asked m who d) t) ≡ true → answer_order m h (record { who = who; number = number; kind = kind }) d t ≡ refused h (record { who = who; number = number; kind = kind }) d order.LinkedOrderTooRecent
order_too_soon m h book delay number kind who d t s h2 h7 = rw s.known (rw h2 (rw s.supported (rw s.priced (rw s.on_tick (rw s.enough (rw h7 refl))))))

order_full : (m : Market) (h : History) (book delay : List Fact) (number : ℕ) (kind : List ℕ) (who : ℕ) (d : NewOrderSingle) (t : ℕ) → IsSound m book delay who d → is_order_id_used h.facts who d.order_id ≡ false → too_soon m h.facts (order_asked m who d) t ≡ None → is_side_full h.facts (order_asked m who d) ≡ true → answer_order m h (record { who = who; number = number; kind = kind }) d t ≡ refused h (record { who = who; number = number; kind = kind }) d order.BookSideFull
order_full m h book delay number kind who d t s h2 h7 h8 = rw s.known (rw h2 (rw s.supported (rw s.priced (rw s.on_tick (rw s.enough (rw h7 (rw h8 refl)))))))

pub has_fill : (x : Option Fill) (n : ℕ) → option_map number_of x ≡ Some n → is_some x ≡ true
has_fill (Some f) n h = refl
has_fill None n h = cc

-- a refusal reads no fact
refused-at : (h : History) (reports : ℕ) (s : Sender) (d : NewOrderSingle) (cause : OrderRefusal) → h.reports ≡ reports → refused (record { facts = h.facts; reports = reports }) s d cause ≡ refused h s d cause
refused-at h reports s d cause same = ap (λ n. refused (record { facts = h.facts; reports = n }) s d cause) (sym same)

turned-at : (h : History) (reports : ℕ) (s : Sender) (d : NewOrderSingle) (cause : Cause) → h.reports ≡ reports → rejection (record { facts = h.facts; reports = reports }) s d cause ≡ rejection h s d cause
turned-at h reports s d cause same = ap (λ n. rejection (record { facts = h.facts; reports = n }) s d cause) (sym same)

pub turned-planned : (m : Market) (h : History) (book delay : List Fact) (c : Counts) (s : Sender) (d : NewOrderSingle) (t : ℕ) (cause : Cause) (a : Answer) → IsReadAlone h book delay c → IsTurnedAway m book delay s.who d cause → ((facts : List Fact) → a ≡ rejection (record { facts = facts; reports = c.reports }) s d cause) → a ≡ answer_order m h s d t
turned-planned m h book delay c s d t cause a x away is = is h.facts ∙ turned-at h c.reports s d cause x.reports ∙ sym (away.answers h s.number s.kind t (x.used s.who d.order_id) (x.order s.who d.order_id))

pub soon-planned : (m : Market) (h : History) (book delay : List Fact) (c : Counts) (s : Sender) (d : NewOrderSingle) (t : ℕ) (o : OrderFact) (n : ℕ) (a : Answer) → IsReadAlone h book delay c → IsSound m book delay s.who d → o ≡ order_asked m s.who d → IsEntryRefused m h.facts o t (TooSoon n) → ((facts : List Fact) → a ≡ refused (record { facts = facts; reports = c.reports }) s d order.LinkedOrderTooRecent) → a ≡ answer_order m h s d t
soon-planned m h book delay c s d t o n a x sound same soon is =
    is h.facts ∙ refused-at h c.reports s d order.LinkedOrderTooRecent x.reports
    ∙ sym (order_too_soon m h book delay s.number s.kind s.who d t sound (x.used s.who d.order_id ∙ sound.new) (has_fill (too_soon m h.facts (order_asked m s.who d) t) n (ap (λ y. option_map number_of (too_soon m h.facts y t)) (sym same) ∙ soon)))

pub full-planned : (m : Market) (h : History) (book delay : List Fact) (c : Counts) (s : Sender) (d : NewOrderSingle) (t : ℕ) (o : OrderFact) (a : Answer) → IsReadAlone h book delay c → IsSound m book delay s.who d → o ≡ order_asked m s.who d → IsEntryRefused m h.facts o t Full → ((facts : List Fact) → a ≡ refused (record { facts = facts; reports = c.reports }) s d order.BookSideFull) → a ≡ answer_order m h s d t
full-planned m h book delay c s d t o a x sound same (free, full) is =
    is h.facts ∙ refused-at h c.reports s d order.BookSideFull x.reports
    ∙ sym (order_full m h book delay s.number s.kind s.who d t sound (x.used s.who d.order_id ∙ sound.new) (ap (λ y. too_soon m h.facts y t) (sym same) ∙ free) (ap (is_side_full h.facts) (sym same) ∙ full))

pub entered-planned : (m : Market) (h : History) (book delay : List Fact) (c : Counts) (s : Sender) (d : NewOrderSingle) (t : ℕ) (o : OrderFact) (a : Answer) → IsReadAlone h book delay c → IsSound m book delay s.who d → o ≡ order_asked m s.who d → IsEntryAccepted m h.facts o t → a ≡ accepted m h o t → a ≡ answer_order m h s d t
entered-planned m h book delay c s d t o a x sound same (free, headroom) is =
    is ∙ ap (λ y. accepted m h y t) same
    ∙ sym (order_free m h book delay s.number s.kind s.who d t sound (x.used s.who d.order_id ∙ sound.new) (ap (λ y. too_soon m h.facts y t) (sym same) ∙ free) (ap (is_side_full h.facts) (sym same) ∙ headroom))

-- the book's decision in a history with these readings

pub accepted-there : (m : Market) (h : History) (book delay : List Fact) (c : Counts) (o : OrderFact) (t : ℕ) → IsReadAlone h book delay c → IsEntryAccepted m book o t → IsEntryAccepted m h.facts o t
accepted-there m h book delay c o t x (free, headroom) = (x.soon m o t ∙ free, x.full o ∙ headroom)

pub refused-there : (m : Market) (h : History) (book delay : List Fact) (c : Counts) (o : OrderFact) (t : ℕ) (e : Refusal) → IsReadAlone h book delay c → IsEntryRefused m book o t e → IsEntryRefused m h.facts o t e
refused-there m h book delay c o t (TooSoon n) x soon = ap (option_map number_of) (x.soon m o t) ∙ soon
refused-there m h book delay c o t Full x (free, full) = (x.soon m o t ∙ free, x.full o ∙ full)
refused-there m h book delay c o t NoMemory x r = tt

-- plans

nothing-planned : (book : Contents) → IsPlanOf book []
nothing-planned book = record { step = Nothing; allowed = tt; made = refl; headroom = omega arith }

nothing-held : (delay : Delay) → IsDelayPlan delay []
nothing-held delay = record { step = NothingHeld; allowed = tt; made = refl; headroom = omega arith }

-- an answer that changes nothing
pub quiet-made : (count : ℕ) (book : Contents) (delay : Delay) (p : Parts) → p.book ≡ [] → p.delay ≡ [] → IsMade count book delay p
quiet-made count book delay p b k =
    let P : List Fact → Type 0 = λ fs. IsPlanOf book fs in
    let Q : List Fact → Type 0 = λ fs. IsDelayPlan delay fs in
    record { book_plan = subst P (sym b) (nothing-planned book); delay_plan = subst Q (sym k) (nothing-held delay); book_listed = ap (are_listed count) b; delay_listed = ap (are_listed count) k }

-- an answer that changes the book alone
pub book-made : (count : ℕ) (book : Contents) (delay : Delay) (p : Parts) → IsPlanOf book p.book → are_listed count p.book ≡ true → p.delay ≡ [] → IsMade count book delay p
book-made count book delay p is listed k =
    let Q : List Fact → Type 0 = λ fs. IsDelayPlan delay fs in
    record { book_plan = is; delay_plan = subst Q (sym k) (nothing-held delay); book_listed = listed; delay_listed = ap (are_listed count) k }

first_or_not : (first : Bool) (fs : List Fact) → (if first then [] ++ fs else fs ++ []) ≡ fs
first_or_not true fs = refl
first_or_not false fs = append-nil fs

-- with nothing of the held sides, the answer is that of the book
pub alone-answer : (p : Parts) → p.delay ≡ [] → answer_of p ≡ book_answer_of p
alone-answer p k =
    ap (λ (ks : List Fact). let a : Answer = record { facts = if p.delay_first then ks ++ p.book else p.book ++ ks; replies = p.replies } in a) k
    ∙ ap (λ (fs : List Fact). let a : Answer = record { facts = fs; replies = p.replies } in a) (first_or_not p.delay_first p.book)

-- the entering order is in a listed instrument

trades-listed : (count : ℕ) (e : Entry) (fs : List Fill) → are_listed count (map (λ f. Traded (trade_of e f)) fs) ≡ true
trades-listed count e [] = refl
trades-listed count e (f ∷ fs) = trades-listed count e fs

both : (b c : Bool) → b ≡ true → c ≡ true → (b && c) ≡ true
both true true h k = refl
both true false h k = k
both false c h k = h

below : (x count : ℕ) → x < count → nat_lt x count ≡ true
below x count h = grind (arith, nat_tests)

pub entry-listed : (count : ℕ) (e : Entry) (fs : List Fill) → e.order.instrument < count → are_listed count (entry_facts e fs) ≡ true
entry-listed count e fs h = both (nat_lt e.order.instrument count) (are_listed count (map (λ f. Traded (trade_of e f)) fs)) (below e.order.instrument count h) (trades-listed count e fs)
