use Rattle.std.proofs.Common.{◌≡◌, refl, sym, ap, ◌∙◌, subst, ℕ, Bool, true, false, List, [], ◌∷◌, ◌++◌, Option, Some, None, MatchOption, is_some, option_map}
use Rattle.fix_dictionary.specs.declared.messages.Quote.{Quote}
use Rattle.participants.specs.ParticipantFile.{ParticipantFile}
use Rattle.instruments.specs.declared.instruments.Instrument.{Instrument}
use Rattle.instruments.specs.Listing.{symbol_of}
use Rattle.venue_rules.specs.declared.facts.Fact.{Fact}
use Rattle.venue_rules.specs.declared.facts.Fact.TheVariants.{Quoted}
use Rattle.venue_rules.specs.declared.facts.Room.{Room}
use Rattle.venue_rules.specs.declared.facts.RoomQuote.{RoomQuote}
use Rattle.venue_rules.specs.declared.refusals.QuoteRefusal.{QuoteRefusal}
use Rattle.venue_rules.specs.declared.replies.QuoteState.TheVariants as state
use Rattle.venue_rules.specs.declared.replies.Reply.{Reply}
use Rattle.venue_rules.specs.Market.{Market}
use Rattle.venue_rules.specs.Facts.{History}
use Rattle.venue_rules.specs.Book.{picture}
use Rattle.venue_rules.specs.Rooms.{find_room, first_quote}
use Rattle.venue_rules.specs.Answer.{Answer, Sender, answers}
use Rattle.venue_rules.specs.Quotes.{answer_quote, quote_accepted, quote_status, quoted, shown_with}
use Rattle.price_book.specs.BookFacts.{book_facts}
use Rattle.rfq_room.specs.declared.refusal.Cause.{Cause}
use Rattle.rfq_room.specs.declared.refusal.Cause.TheVariants as cause
use Rattle.rfq_room.specs.declared.refusal.Refusal.{Refusal}
use Rattle.rfq_room.specs.Causes.{quote_cause}
use Rattle.rfq_room.specs.Plan.{Plan}
use Rattle.rfq_room.specs.Plans.{IsQuotePlanned, no_plan, quote_made, quote_plan}
use Rattle.rfq_room.specs.Refusals.{IsQuoteRefused, IsRefusalOf, cause_of}
use Rattle.rfq_room.specs.RoomFacts.{room_facts}
use Rattle.rfq_room.specs.Emitted.{quote_emitted}
use Rattle.rfq_handler.specs.Counting.{reports_in}
use Rattle.rfq_handler.specs.Quoted.{IsQuoteAnswer, quote_answer, quote_replies}
use Rattle.rfq_handler.specs.Read.{first_made}
use Rattle.rfq_handler.specs.Sent.{prices_sent, quote_sent, rests, shown_unless, symbol_in}
use Rattle.rfq_handler.proofs.Lists.{same_some}
use Rattle.rfq_handler.proofs.Makers.{planned-quote}

-- the rooms' decision gives the rules' answer
abbrev pub QuoteLaw : Type 0
QuoteLaw = (m : Market) (h : History) (s : Sender) (d : Quote) (t : ℕ) → answer_quote m h s d t ≡ quote_emitted m h s d (find_room (room_facts h.facts) d.request_id) (quote_cause m (room_facts h.facts) s.who d t)

abbrev pub QuotedLaw : Type 0
QuotedLaw = (h : History) (s : Sender) (r : Room) (d : Quote) → quoted h s r d ≡ quote_made (room_facts h.facts) s.who r d

abbrev pub FirstLaw : Type 0
FirstLaw = (fs : List Fact) (room : ℕ) → first_quote fs room ≡ first_quote (room_facts fs) room

abbrev pub PictureLaw : Type 0
PictureLaw = (fs : List Fact) (x : ℕ) → picture (book_facts fs) x ≡ picture fs x

pub quote-answer : QuoteLaw → (m : Market) (h : History) (s : Sender) (d : Quote) (t : ℕ) (facts : List Fact) (y : Option Room) (x : Option QuoteRefusal) → room_facts h.facts ≡ facts → find_room facts d.request_id ≡ y → quote_cause m facts s.who d t ≡ x → quote_emitted m h s d y x ≡ answer_quote m h s d t
quote-answer law m h s d t facts y x e f k =
    sym (law m h s d t
    ∙ ap (λ fs. quote_emitted m h s d (find_room fs d.request_id) (quote_cause m fs s.who d t)) e
    ∙ ap (λ z. quote_emitted m h s d z (quote_cause m facts s.who d t)) f
    ∙ ap (quote_emitted m h s d y) k)

-- the cause of a refusal is the one that holds
pub quote-holds : (holds : Option QuoteRefusal) (refusal : Refusal) (c : QuoteRefusal) → IsQuoteRefused holds refusal → cause_of refusal ≡ Some (cause.Quote c) → holds ≡ Some c
quote-holds holds refusal c h k =
    let P : Option Cause → Type 0 = λ x. IsRefusalOf (option_map (λ c. cause.Quote c) holds) refusal x in
    found holds c (subst P k h).0
  where
    found : (holds : Option QuoteRefusal) (c : QuoteRefusal) → option_map (λ c. cause.Quote c) holds ≡ Some (cause.Quote c) → holds ≡ Some c
    found None c e = cc
    found (Some x) c e = cc

-- the answer to a refused quote
pub refused-answer : (is : List Instrument) (s : Sender) (d : Quote) (c : QuoteRefusal) (room : Option Room) (symbol : Option (List ℕ)) (x : Reply) (p : Plan) (replies : List Reply) (a : Answer)
    → symbol ≡ symbol_in is room → x ≡ quote_status s d symbol (state.Refused c) → replies ≡ x ∷ [] → p ≡ no_plan → a ≡ record { facts = p.facts; replies = replies }
    → a ≡ answers (quote_status s d (symbol_in is room) (state.Refused c) ∷ [])
refused-answer is s d c room symbol x p replies a named said emitted planned is-answer =
    is-answer
    ∙ ap (λ (p : Plan). let y : Answer = record { facts = p.facts; replies = replies } in y) planned
    ∙ ap (λ (rs : List Reply). let y : Answer = record { facts = []; replies = rs } in y) (emitted ∙ ap (λ y. y ∷ []) (said ∙ ap (λ z. quote_status s d z (state.Refused c)) named))

-- no reply is a report
pub replies-quiet : (file : ParticipantFile) (book : List Fact) (s : Sender) (d : Quote) (quoted : Bool) (r : Room) (symbol : List ℕ) (q : RoomQuote) → 0 ≡ reports_in (quote_replies file book s d quoted r symbol q)
unfolding quote_replies
replies-quiet file book s d true r symbol q = refl
replies-quiet file book s d false r symbol q = refl

-- the answer of a plan, by its quote
pub planned-answer : (file : ParticipantFile) (is : List Instrument) (rooms book : List Fact) (s : Sender) (d : Quote) (r : Room) (q : RoomQuote) (p : Plan) (symbol : List ℕ) (replies : List Reply) (a : Answer)
    → find_room rooms d.request_id ≡ Some r → IsQuotePlanned rooms s.who d p → Some q ≡ first_made p.facts
    → symbol ≡ symbol_of is r.instrument → replies ≡ quote_replies file book s d (is_some (first_quote rooms r.number)) r symbol q
    → a ≡ record { facts = p.facts; replies = replies }
    → IsQuoteAnswer file is rooms book s d a
planned-answer file is rooms book s d r q p symbol replies a found planned first named emitted is-answer =
    let made : p ≡ quote_plan (quote_made rooms s.who r d) = planned-quote rooms s.who d p r planned found in
    let same : q ≡ quote_made rooms s.who r d = same_some q (quote_made rooms s.who r d) (first ∙ ap (λ (p : Plan). first_made p.facts) made) in
    let P : Option Room → Type 0 = λ x. MatchOption x ⊥ (λ r. a ≡ quote_answer file is rooms book s d r) in
    subst P (sym found)
    (is-answer
    ∙ ap (λ (p : Plan). let x : Answer = record { facts = p.facts; replies = replies } in x) made
    ∙ ap (λ (rs : List Reply). let x : Answer = record { facts = Quoted (quote_made rooms s.who r d) ∷ []; replies = rs } in x)
    (emitted
    ∙ ap (λ y. quote_replies file book s d (is_some (first_quote rooms r.number)) r y q) named
    ∙ ap (quote_replies file book s d (is_some (first_quote rooms r.number)) r (symbol_of is r.instrument)) same))

-- the book snapshot is the one of the rules
shown-rules : PictureLaw → (m : Market) (h : History) (r : Room) (book : List Fact) (x : Option RoomQuote) → book_facts h.facts ≡ book → shown_unless (is_some x) r (symbol_of m.instruments r.instrument) (rests book r.instrument) ≡ shown_with m h r x
unfolding rests
shown-rules law m h r book None b = ap (λ es. prices_sent r (symbol_of m.instruments r.instrument) es ∷ []) (ap (λ fs. picture fs r.instrument) (sym b) ∙ law h.facts r.instrument)
shown-rules law m h r book (Some q) b = refl

-- the replies are the rules'
replies-rules : PictureLaw → (m : Market) (h : History) (s : Sender) (d : Quote) (r : Room) (q : RoomQuote) (book : List Fact) (x : Option RoomQuote) → book_facts h.facts ≡ book
    → quote_replies m.participants book s d (is_some x) r (symbol_of m.instruments r.instrument) q ≡ quote_status s d (Some (symbol_of m.instruments r.instrument)) state.Accepted ∷ shown_with m h r x ++ quote_sent m.participants r (symbol_of m.instruments r.instrument) q ∷ []
unfolding quote_replies
replies-rules law m h s d r q book x b = ap (λ y. quote_status s d (Some (symbol_of m.instruments r.instrument)) state.Accepted ∷ y ++ quote_sent m.participants r (symbol_of m.instruments r.instrument) q ∷ []) (shown-rules law m h r book x b)

-- and so is the answer
answer-rules : QuotedLaw → FirstLaw → PictureLaw → (m : Market) (h : History) (s : Sender) (d : Quote) (r : Room) (facts book : List Fact) → room_facts h.facts ≡ facts → book_facts h.facts ≡ book
    → quote_answer m.participants m.instruments facts book s d r ≡ quote_accepted m h s r d
answer-rules quoted-law first-law picture-law m h s d r facts book e b =
    let made : quote_made facts s.who r d ≡ quoted h s r d = sym (quoted-law h s r d ∙ ap (λ fs. quote_made fs s.who r d) e) in
    let first : first_quote facts r.number ≡ first_quote h.facts r.number = sym (first-law h.facts r.number ∙ ap (λ fs. first_quote fs r.number) e) in
    ap (λ (q : RoomQuote). let x : Answer = record { facts = Quoted q ∷ []; replies = quote_replies m.participants book s d (is_some (first_quote facts r.number)) r (symbol_of m.instruments r.instrument) q } in x) made
    ∙ ap (λ (rs : List Reply). let x : Answer = record { facts = Quoted (quoted h s r d) ∷ []; replies = rs } in x)
    (ap (λ x. quote_replies m.participants book s d (is_some x) r (symbol_of m.instruments r.instrument) (quoted h s r d)) first
    ∙ replies-rules picture-law m h s d r (quoted h s r d) book (first_quote h.facts r.number) b)

pub accepted-answer : QuoteLaw → QuotedLaw → FirstLaw → PictureLaw → (m : Market) (h : History) (s : Sender) (d : Quote) (t : ℕ) (facts book : List Fact) (a : Answer)
    → room_facts h.facts ≡ facts → book_facts h.facts ≡ book → quote_cause m facts s.who d t ≡ None
    → IsQuoteAnswer m.participants m.instruments facts book s d a
    → a ≡ answer_quote m h s d t
accepted-answer law quoted-law first-law picture-law m h s d t facts book a e b free emitted = found (find_room facts d.request_id) refl emitted
  where
    found : (x : Option Room) → find_room facts d.request_id ≡ x → MatchOption x ⊥ (λ r. a ≡ quote_answer m.participants m.instruments facts book s d r) → a ≡ answer_quote m h s d t
    found None is k = absurd k
    found (Some r) is k = k ∙ answer-rules quoted-law first-law picture-law m h s d r facts book e b ∙ quote-answer law m h s d t facts (Some r) None e is free
