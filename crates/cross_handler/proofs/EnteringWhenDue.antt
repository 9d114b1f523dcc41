use Rattle.std.proofs.Common.{◌≡◌, refl, sym, ap, ◌∙◌, ℕ, true, false, List, [], ◌∷◌, ◌++◌, Option, Some, None, is_some, option_map}
use Rattle.instruments.specs.declared.instruments.Instrument.{Instrument}
use Rattle.instruments.specs.Listing.{symbol_of}
use Rattle.participants.specs.ParticipantFile.{ParticipantFile}
use Rattle.venue_rules.specs.declared.facts.Fact.{Fact}
use Rattle.venue_rules.specs.declared.facts.Fact.TheVariants.{Unheld}
use Rattle.venue_rules.specs.declared.facts.HeldSide.{HeldSide}
use Rattle.venue_rules.specs.declared.refusals.OrderRefusal.{OrderRefusal}
use Rattle.venue_rules.specs.declared.refusals.OrderRefusal.TheVariants.{LinkedOrderTooRecent, BookSideFull}
use Rattle.venue_rules.specs.Facts.{History}
use Rattle.venue_rules.specs.Answer.{Answer, answers, numbered}
use Rattle.venue_rules.specs.Book.{Fill, is_side_full, too_soon}
use Rattle.venue_rules.specs.Delay.{due}
use Rattle.venue_rules.specs.Orders.{accepted, refusal_report}
use Rattle.venue_rules.specs.Run.{Tick, answer_due_of, answer_input}
use Rattle.price_book.specs.declared.book.Refusal.TheVariants.{TooSoon, Full}
use Rattle.price_book.specs.Plans.{IsEntryAccepted, IsEntryRefused}
use Rattle.price_book.specs.Views.{number_of}
use Rattle.venue_request.specs.declared.counts.Counts.{Counts}
use Rattle.venue_rules.specs.Market.{market}
use Rattle.order_handler.specs.Parts.{Parts, answer_of, book_answer_of}
use Rattle.order_handler.specs.Reads.{IsReadAlone}
use Rattle.cross_handler.specs.EnteringWhenDue.{entered_when_due, side_turned_away}
use Rattle.cross_handler.proofs.Answering.{counted}

-- The answer to a tick depends on the book and the held sides alone.

has_fill : (x : Option Fill) (n : ℕ) → option_map number_of x ≡ Some n → is_some x ≡ true
has_fill (Some f) n h = refl
has_fill None n h = cc

side-counted : (file : List Instrument) (h : History) (n : ℕ) (k : HeldSide) (cause : OrderRefusal) → h.reports ≡ n → side_turned_away file (counted n) k cause ≡ side_turned_away file h k cause
side-counted file h n k cause e = ap (λ i. answers (numbered i (refusal_report None (symbol_of file k.order.instrument) k.order.side k.order.id k.order.who cause ∷ []))) (sym e)

-- at its due moment

enters : (p : ParticipantFile) (file : List Instrument) (h : History) (k : HeldSide) (a : Answer) → too_soon (market p file) h.facts k.order k.due ≡ None → is_side_full h.facts k.order ≡ false → a ≡ accepted (market p file) h k.order k.due → a ≡ entered_when_due (market p file) h k
enters p file h k a free place same = same ∙ rw free (rw place refl)

pub entered_when_due-enters : (p : ParticipantFile) (file : List Instrument) (h : History) (k : HeldSide) (u : ℕ) (a : Answer) → u ≡ k.due → IsEntryAccepted (market p file) h.facts k.order u → a ≡ accepted (market p file) h k.order u → a ≡ entered_when_due (market p file) h k
entered_when_due-enters p file h k u a same (free, place) e = enters p file h k a (ap (too_soon (market p file) h.facts k.order) (sym same) ∙ free) place (e ∙ ap (accepted (market p file) h k.order) same)

pub entered_when_due-soon : (p : ParticipantFile) (file : List Instrument) (h : History) (k : HeldSide) (u n r : ℕ) → u ≡ k.due → h.reports ≡ r → IsEntryRefused (market p file) h.facts k.order u (TooSoon n) → side_turned_away file (counted r) k LinkedOrderTooRecent ≡ entered_when_due (market p file) h k
entered_when_due-soon p file h k u n r same e is =
    let soon : is_some (too_soon (market p file) h.facts k.order k.due) ≡ true = has_fill (too_soon (market p file) h.facts k.order k.due) n (ap (λ v. option_map number_of (too_soon (market p file) h.facts k.order v)) (sym same) ∙ is) in
    side-counted file h r k LinkedOrderTooRecent e ∙ rw soon refl

pub entered_when_due-full : (p : ParticipantFile) (file : List Instrument) (h : History) (k : HeldSide) (u r : ℕ) → u ≡ k.due → h.reports ≡ r → IsEntryRefused (market p file) h.facts k.order u Full → side_turned_away file (counted r) k BookSideFull ≡ entered_when_due (market p file) h k
entered_when_due-full p file h k u r same e is =
    let free : too_soon (market p file) h.facts k.order k.due ≡ None = ap (too_soon (market p file) h.facts k.order) (sym same) ∙ is.0 in
    side-counted file h r k BookSideFull e ∙ rw free (rw is.1 refl)

-- a tick with a side due, and one without

pub tick-answers : (p : ParticipantFile) (file : List Instrument) (book delay : List Fact) (c : Counts) (h : History) (t : ℕ) (k : HeldSide) (a b : Parts) (planned : List Fact) → IsReadAlone h book delay c → Some k ≡ due delay t → book_answer_of a ≡ entered_when_due (market p file) h k → planned ≡ Unheld (record { who = k.order.who; id = k.order.id; cancel = None }) ∷ [] → b ≡ record { delay_first = true; delay = planned; book = a.book; replies = a.replies } → answer_of b ≡ answer_input (market p file) h (Tick t)
tick-answers p file book delay c h t k a b planned r first entered plan made =
    ap answer_of made
    ∙ ap (λ fs. let x : Answer = record { facts = fs ++ a.book; replies = a.replies } in x) plan
    ∙ ap (λ (e : Answer). let x : Answer = record { facts = Unheld (record { who = k.order.who; id = k.order.id; cancel = None }) ∷ e.facts; replies = e.replies } in x) entered
    ∙ ap (answer_due_of (market p file) h) (first ∙ sym (r.first_due t))

pub quiet-tick : (p : ParticipantFile) (file : List Instrument) (book delay : List Fact) (c : Counts) (h : History) (t : ℕ) (b : Parts) → IsReadAlone h book delay c → None ≡ due delay t → b ≡ record { delay_first = false; delay = []; book = []; replies = [] } → answer_of b ≡ answer_input (market p file) h (Tick t)
quiet-tick p file book delay c h t b r none made = ap answer_of made ∙ ap (answer_due_of (market p file) h) (none ∙ sym (r.first_due t))
