use Rattle.std.proofs.Common.{◌≡◌, refl, sym, ap, ◌∙◌, ℕ, ◌+◌, true, false, nat_le, List, [], ◌∷◌, ◌++◌, length, Option, Some, None, is_some, option_map}
use Rattle.fix_dictionary.specs.declared.messages.CrossSide.{CrossSide}
use Rattle.fix_dictionary.specs.declared.messages.NewOrderCross.{NewOrderCross}
use Rattle.instruments.specs.declared.instruments.Instrument.{Instrument}
use Rattle.instruments.specs.Listing.{delay_of, instrument_of}
use Rattle.participants.specs.ParticipantFile.{ParticipantFile}
use Rattle.venue_rules.specs.declared.facts.Fact.{Fact}
use Rattle.venue_rules.specs.declared.facts.Fact.TheVariants.{Held}
use Rattle.venue_rules.specs.declared.facts.HeldSide.{HeldSide}
use Rattle.venue_rules.specs.declared.facts.OrderFact.{OrderFact}
use Rattle.venue_rules.specs.declared.refusals.CrossRefusal.{CrossRefusal}
use Rattle.venue_rules.specs.declared.refusals.CrossRefusal.TheVariants.{LinkedOrderTooRecent, BookSideFull, TooManyHeld}
use Rattle.venue_rules.specs.Market.{Market, market}
use Rattle.venue_rules.specs.Facts.{History}
use Rattle.venue_rules.specs.Answer.{Answer, Sender, answers, first_of, numbered}
use Rattle.venue_rules.specs.Book.{Fill, is_side_full, too_soon}
use Rattle.venue_rules.specs.Crosses.{answer_cross, cross_accepted, cross_refused, first_side, second_side, side_order, side_refused}
use Rattle.venue_rules.specs.Delay.{held, held_capacity}
use Rattle.venue_rules.specs.Orders.{accepted}
use Rattle.price_book.specs.declared.book.Refusal.TheVariants.{TooSoon, Full}
use Rattle.price_book.specs.Plans.{IsEntryAccepted, IsEntryRefused}
use Rattle.price_book.specs.Views.{number_of}
use Rattle.cross_delay.specs.Plans.{is_full}
use Rattle.venue_request.specs.declared.counts.Counts.{Counts}
use Rattle.order_handler.specs.Parts.{Parts, answer_of, book_answer_of}
use Rattle.order_handler.specs.Reads.{IsReadAlone}
use Rattle.cross_handler.specs.declared.terms.Cause.{Cause}
use Rattle.cross_handler.specs.declared.terms.Cause.TheVariants.{Refused, Duplicate, PriceMissing}
use Rattle.cross_handler.specs.declared.refusing.Named.{Named}
use Rattle.cross_handler.specs.declared.terms.Terms.{Terms}
use Rattle.cross_handler.specs.Crossing.{IsPassed, IsSound, IsTermsOf, IsTurnedAway, cross_order, cross_refused_naming, rejection}
use Rattle.cross_handler.proofs.Turning.{taken-alone}

-- The answer to a cross depends on the book and the held sides alone.

-- a refusal reads no facts

abbrev pub counted : ℕ → History
counted n = record { facts = []; reports = n }

refused-counted : (h : History) (n : ℕ) (s : Sender) (d : NewOrderCross) (cause : CrossRefusal) → h.reports ≡ n → cross_refused (counted n) s d cause ≡ cross_refused h s d cause
refused-counted h n s d cause e = ap (λ k. answers (numbered k (side_refused None s d cause d.first ∷ side_refused None s d cause d.second ∷ []))) (sym e)

naming-counted : (h : History) (n : ℕ) (s : Sender) (d : NewOrderCross) (named : Named) (cause : CrossRefusal) → h.reports ≡ n → cross_refused_naming named (counted n) s d cause ≡ cross_refused_naming named h s d cause
naming-counted h n s d named cause e = ap (λ k. answers (numbered k (side_refused named.first s d cause d.first ∷ side_refused named.second s d cause d.second ∷ []))) (sym e)

turned-counted : (h : History) (n : ℕ) (s : Sender) (d : NewOrderCross) (cause : Cause) → h.reports ≡ n → rejection (counted n) s d cause ≡ rejection h s d cause
turned-counted h n s d (Refused cause) e = refused-counted h n s d cause e
turned-counted h n s d (Duplicate named cause) e = naming-counted h n s d named cause e
turned-counted h n s d PriceMissing e = refl

pub turned-answers : (p : ParticipantFile) (file : List Instrument) (book delay : List Fact) (c : Counts) (h : History) (who number : ℕ) (kind : List ℕ) (d : NewOrderCross) (t : ℕ) (cause : Cause) → IsReadAlone h book delay c → IsTurnedAway file book delay who d cause → rejection (counted c.reports) (record { who = who; number = number; kind = kind }) d cause ≡ answer_cross (market p file) h (record { who = who; number = number; kind = kind }) d t
turned-answers p file book delay c h who number kind d t cause r is = turned-counted h c.reports (record { who = who; number = number; kind = kind }) d cause r.reports ∙ sym (is.answers h c r p number kind t)

-- a side as asked for

side-is : (p : ParticipantFile) (file : List Instrument) (who : ℕ) (d : NewOrderCross) (side : CrossSide) (terms : Terms) → IsTermsOf file d terms → cross_order terms who side ≡ side_order (market p file) who d side
side-is p file who d side terms n = rw (n.instrument, n.price) refl

-- the refusals that the book and the held sides decide

abbrev last : Market → History → Sender → NewOrderCross → OrderFact → ℕ → Answer
last m h s d o t = first_of ((is_some (too_soon m h.facts o t), cross_refused h s d LinkedOrderTooRecent) ∷ (is_side_full h.facts o, cross_refused h s d BookSideFull) ∷ (nat_le held_capacity (length (held h.facts)), cross_refused h s d TooManyHeld) ∷ []) (cross_accepted m h s d t)

reaches : (p : ParticipantFile) (file : List Instrument) (book delay : List Fact) (c : Counts) (h : History) (s : Sender) (d : NewOrderCross) (t : ℕ) → IsReadAlone h book delay c → IsSound file book delay s.who d → answer_cross (market p file) h s d t ≡ last (market p file) h s d (side_order (market p file) s.who d (first_side d)) t
reaches p file book delay c h s d t r is = rw is.known (rw (r.crossed s.who d.cross_id ∙ is.uncrossed) (rw (taken-alone h book delay c r s.who d ∙ is.unused) (rw is.supported (rw is.priced (rw is.opposed (rw is.on_tick (rw is.enough refl)))))))

passes : (p : ParticipantFile) (file : List Instrument) (book delay : List Fact) (c : Counts) (h : History) (s : Sender) (d : NewOrderCross) (t : ℕ) (terms : Terms) (first : OrderFact) → IsReadAlone h book delay c → IsPassed file book delay s.who d terms first → answer_cross (market p file) h s d t ≡ last (market p file) h s d first t
passes p file book delay c h s d t terms first r is = reaches p file book delay c h s d t r is.sound ∙ ap (λ o. last (market p file) h s d o t) (sym (is.asked ∙ side-is p file s.who d (first_side d) terms is.named))

has_fill : (x : Option Fill) (n : ℕ) → option_map number_of x ≡ Some n → is_some x ≡ true
has_fill (Some f) n h = refl
has_fill None n h = cc

last-soon : (m : Market) (h : History) (s : Sender) (d : NewOrderCross) (o : OrderFact) (t n : ℕ) → IsEntryRefused m h.facts o t (TooSoon n) → last m h s d o t ≡ cross_refused h s d LinkedOrderTooRecent
last-soon m h s d o t n e = rw (has_fill (too_soon m h.facts o t) n e) refl

last-full : (m : Market) (h : History) (s : Sender) (d : NewOrderCross) (o : OrderFact) (t : ℕ) → IsEntryRefused m h.facts o t Full → last m h s d o t ≡ cross_refused h s d BookSideFull
last-full m h s d o t (soon, full) = rw soon (rw full refl)

last-many : (m : Market) (h : History) (s : Sender) (d : NewOrderCross) (o : OrderFact) (t : ℕ) → IsEntryAccepted m h.facts o t → is_full h.facts ≡ true → last m h s d o t ≡ cross_refused h s d TooManyHeld
last-many m h s d o t (soon, full) many = rw soon (rw full (rw many refl))

last-none : (m : Market) (h : History) (s : Sender) (d : NewOrderCross) (o : OrderFact) (t : ℕ) → IsEntryAccepted m h.facts o t → is_full h.facts ≡ false → last m h s d o t ≡ cross_accepted m h s d t
last-none m h s d o t (soon, full) many = rw soon (rw full (rw many refl))

full-alone : (h : History) (book delay : List Fact) (c : Counts) → IsReadAlone h book delay c → is_full h.facts ≡ is_full delay
full-alone h book delay c r = ap (λ hs. nat_le held_capacity (length hs)) r.sides

pub soon-answers : (p : ParticipantFile) (file : List Instrument) (book delay : List Fact) (c : Counts) (h : History) (s : Sender) (d : NewOrderCross) (t : ℕ) (terms : Terms) (first : OrderFact) (n : ℕ) → IsReadAlone h book delay c → IsPassed file book delay s.who d terms first → IsEntryRefused (market p file) h.facts first t (TooSoon n) → cross_refused (counted c.reports) s d LinkedOrderTooRecent ≡ answer_cross (market p file) h s d t
soon-answers p file book delay c h s d t terms first n r is e = refused-counted h c.reports s d LinkedOrderTooRecent r.reports ∙ sym (passes p file book delay c h s d t terms first r is ∙ last-soon (market p file) h s d first t n e)

pub full-answers : (p : ParticipantFile) (file : List Instrument) (book delay : List Fact) (c : Counts) (h : History) (s : Sender) (d : NewOrderCross) (t : ℕ) (terms : Terms) (first : OrderFact) → IsReadAlone h book delay c → IsPassed file book delay s.who d terms first → IsEntryRefused (market p file) h.facts first t Full → cross_refused (counted c.reports) s d BookSideFull ≡ answer_cross (market p file) h s d t
full-answers p file book delay c h s d t terms first r is e = refused-counted h c.reports s d BookSideFull r.reports ∙ sym (passes p file book delay c h s d t terms first r is ∙ last-full (market p file) h s d first t e)

pub many-answers : (p : ParticipantFile) (file : List Instrument) (book delay : List Fact) (c : Counts) (h : History) (s : Sender) (d : NewOrderCross) (t : ℕ) (terms : Terms) (first : OrderFact) → IsReadAlone h book delay c → IsPassed file book delay s.who d terms first → IsEntryAccepted (market p file) h.facts first t → is_full delay ≡ true → cross_refused (counted c.reports) s d TooManyHeld ≡ answer_cross (market p file) h s d t
many-answers p file book delay c h s d t terms first r is e many = refused-counted h c.reports s d TooManyHeld r.reports ∙ sym (passes p file book delay c h s d t terms first r is ∙ last-many (market p file) h s d first t e (full-alone h book delay c r ∙ many))

-- the first side enters and the second is held

abbrev with_held : Answer → HeldSide → Answer
with_held a k = record { facts = a.facts ++ Held k ∷ []; replies = a.replies }

abbrev pub held_after : Terms → ℕ → NewOrderCross → ℕ → List Instrument → HeldSide
held_after terms who d t file = record { order = cross_order terms who (second_side d); cross = d.cross_id; due = t + delay_of file terms.instrument }

held-is : (p : ParticipantFile) (file : List Instrument) (s : Sender) (d : NewOrderCross) (t : ℕ) (terms : Terms) (h : History) → IsTermsOf file d terms → cross_accepted (market p file) h s d t ≡ with_held (accepted (market p file) h (cross_order terms s.who (first_side d)) t) (held_after terms s.who d t file)
held-is p file s d t terms h n =
    let entered : accepted (market p file) h (side_order (market p file) s.who d (first_side d)) t ≡ accepted (market p file) h (cross_order terms s.who (first_side d)) t = ap (λ o. accepted (market p file) h o t) (sym (side-is p file s.who d (first_side d) terms n)) in
    let side : OrderFact → ℕ → HeldSide = λ o x. let k : HeldSide = record { order = o; cross = d.cross_id; due = t + delay_of file x } in k in
    let kept : side (side_order (market p file) s.who d (second_side d)) (instrument_of file d.symbol) ≡ held_after terms s.who d t file = ap (λ o. side o (instrument_of file d.symbol)) (sym (side-is p file s.who d (second_side d) terms n)) ∙ ap (side (cross_order terms s.who (second_side d))) (sym n.instrument) in
    ap (λ a. with_held a (side (side_order (market p file) s.who d (second_side d)) (instrument_of file d.symbol))) entered
    ∙ ap (with_held (accepted (market p file) h (cross_order terms s.who (first_side d)) t)) kept

pub held-answers : (p : ParticipantFile) (file : List Instrument) (book delay : List Fact) (c : Counts) (h : History) (s : Sender) (d : NewOrderCross) (t : ℕ) (terms : Terms) (first : OrderFact) (a b : Parts) (k : HeldSide) (planned : List Fact) → IsReadAlone h book delay c → IsPassed file book delay s.who d terms first → IsEntryAccepted (market p file) h.facts first t → book_answer_of a ≡ accepted (market p file) h first t → is_full delay ≡ false → k ≡ held_after terms s.who d t file → planned ≡ Held k ∷ [] → b ≡ record { delay_first = false; delay = planned; book = a.book; replies = a.replies } → answer_of b ≡ answer_cross (market p file) h s d t
held-answers p file book delay c h s d t terms first a b k planned r is e entered many same plan made =
    ap answer_of made
    ∙ ap (λ fs. let x : Answer = record { facts = a.book ++ fs; replies = a.replies } in x) (plan ∙ ap (λ j. Held j ∷ []) same)
    ∙ ap (λ x. with_held x (held_after terms s.who d t file)) (entered ∙ ap (λ o. accepted (market p file) h o t) is.asked)
    ∙ sym (passes p file book delay c h s d t terms first r is ∙ last-none (market p file) h s d first t e (full-alone h book delay c r ∙ many) ∙ held-is p file s d t terms h is.named)
