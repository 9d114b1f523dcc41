use Rattle.std.proofs.Common.{◌≡◌, refl, sym, ap, ◌∙◌, subst, inl, inr, ℕ, ℤ, ◌≤◌, Bool, true, false, not, ◌&&◌, ◌||◌, ◌==◌, nat_lt, int_lt, int_le, List, [], ◌∷◌, ◌++◌, length, Contains, Option, Some, None, is_none, unwrap_or, bytes_eq, eqb-true, eq-eqb, arith, le-ltb}
use Rattle.std.specs.List.{list_any}
use Rattle.std.proofs.Math.Nat.{min-le_right}
use Rattle.std.proofs.lemmas.Int.{ints}
use Rattle.std.proofs.lemmas.Bool.{true≢false, and_parts, or_from, not_from_true, not_from_false}
use Rattle.std.proofs.lemmas.Slice.Eq.{bytes_eq-Decides}
use Rattle.fix_dictionary.specs.declared.messages.App.TheVariants as app
use Rattle.fix_dictionary.specs.declared.messages.Quote.{Quote}
use Rattle.fix_dictionary.specs.declared.values.Side.{Side}
use Rattle.fix_dictionary.specs.declared.values.Side.TheVariants.{Buy, Sell}
use Rattle.instruments.specs.Listing.{symbol_of}
use Rattle.venue_rules.specs.declared.facts.Fact.{Fact}
use Rattle.venue_rules.specs.declared.facts.Fact.TheVariants.{Asked, Quoted}
use Rattle.venue_rules.specs.declared.facts.Room.{Room}
use Rattle.venue_rules.specs.declared.facts.RoomQuote.{RoomQuote}
use Rattle.venue_rules.specs.declared.trail.Taken.{Taken}
use Rattle.venue_rules.specs.Market.{Market}
use Rattle.venue_rules.specs.Facts.{History, is_name, is_quote_id_used, no_history, quotes}
use Rattle.venue_rules.specs.Rooms.{find_room, first_quote, is_open}
use Rattle.venue_rules.specs.Quotes.{answer_quote_of, is_absent_or, is_crossed, is_price_off_tick, lacks_price, quote_accepted, quote_refusals, quote_sent, quoted, shown_with}
use Rattle.venue_rules.specs.Answer.{Answer, Sender, first_of}
use Rattle.venue_rules.specs.Answers.{answer_app, type_of}
use Rattle.venue_rules.specs.MoreInputs.{answer_after}
use Rattle.venue_rules.specs.Run.{Input, Message, answer_input, run}
use Rattle.venue_rules.proofs.Members.{In, In-append_right, In-from_Contains, Contains-from_In}
use Rattle.venue_rules.proofs.OpenRooms.{NoneHolds}
use Rattle.venue_rules.proofs.EveryRun.{asked_in, quoted_in}
use Rattle.market_laws.specs.Quoting.{HasPriceFor, IsIfStated, IsNewQuote, IsOnTick, IsTaken, IsValidQuote, QuotesAreSentOn, RecipientsAreEqual, ValidQuotesAreTaken, sent_on}
use Rattle.market_laws.proofs.Sources.{QuoteFrom}
use Rattle.market_laws.proofs.Added.{AddedBy, added_from, added_in, all_facts}

-- Quotes of the recipients of a request.

-- tests

pub among_true : (rs : List ℕ) (w : ℕ) → In w rs → list_any (λ p. p == w) rs ≡ true
among_true [] w i = absurd i
among_true (r ∷ rs) w (inl e) = ap (λ b. b || list_any (λ p. p == w) rs) (eq-eqb r w e)
among_true (r ∷ rs) w (inr i) = ap (λ b. (r == w) || b) (among_true rs w i) ∙ any_or (r == w)
  where
    any_or : (b : Bool) → (b || true) ≡ true
    any_or true = refl
    any_or false = refl

-- no test of the list holds
none_found : {X : Type 0} (p : X → Bool) (xs : List X) → ((x : X) → In x xs → p x ≡ true → ⊥) → list_any p xs ≡ false
none_found p [] h = refl
none_found p (x ∷ xs) h = or_from (p x) (list_any p xs) (no (p x) (h x (inl refl))) (none_found p xs (λ y i. h y (inr i)))
  where
    no : (b : Bool) → (b ≡ true → ⊥) → b ≡ false
    no true k = absurd (k refl)
    no false k = refl

pub all_false : (rs : List (Bool × Answer)) (x : Answer) → NoneHolds rs → first_of rs x ≡ x
all_false [] x n = refl
all_false (r ∷ rs) x n = past r.0 n.0 ∙ all_false rs x n.1
  where
    past : (b : Bool) → b ≡ false → (elim b [ true ↦ r.1 | false ↦ first_of rs x ]) ≡ first_of rs x
    past true e = absurd (true≢false e)
    past false e = refl

-- a valid quote is refused for no cause

new_quote : (facts : List Fact) (maker : ℕ) (id : List ℕ) → IsNewQuote facts maker id → is_quote_id_used facts maker id ≡ false
new_quote facts maker id new = none_found (λ (q : RoomQuote). is_name maker id q.maker q.id) (quotes facts) used
  where
    used : (q : RoomQuote) → In q (quotes facts) → is_name maker id q.maker q.id ≡ true → ⊥
    used q i e =
        let k = and_parts (maker == q.maker) (bytes_eq id q.id) e in
        new q (Contains-from_In facts (Quoted q) (quoted_in facts q i)) (sym (eqb-true maker q.maker k.0)) (sym ((bytes_eq-Decides id q.id).0 k.1))

if_stated : (stated : Option ℕ) (n : ℕ) → IsIfStated stated n → is_absent_or (λ k. k == n) stated ≡ true
if_stated None n h = refl
if_stated (Some k) n h = eq-eqb k n (h k refl)

still : (stated : Option ℕ) (t : ℕ) → ((end : ℕ) → stated ≡ Some end → t ≤ end) → is_absent_or (λ u. not (nat_lt u t)) stated ≡ true
still None t h = refl
still (Some u) t h = not_from_false (nat_lt u t) (le-ltb u t (h u refl))

has_price : (side : Option Side) (d : Quote) → HasPriceFor side d → lacks_price side d.bid_price d.offer_price ≡ false
has_price (Some Buy) d h = ap is_none h.1
has_price (Some Sell) d h = ap is_none h.1
has_price None d (inl h) = ap (λ p. is_none p && is_none d.offer_price) h.1
has_price None d (inr h) = ap (λ p. is_none d.bid_price && is_none p) h.1 ∙ neither (is_none d.bid_price)
  where
    neither : (b : Bool) → (b && false) ≡ false
    neither true = refl
    neither false = refl

on_tick : (m : Market) (x : ℕ) (price : Option ℤ) → IsOnTick m x price → is_price_off_tick m x price ≡ false
on_tick m x None h = refl
on_tick m x (Some p) h = h p refl

not_crossed : (bid offer : Option ℤ) → ((b o : ℤ) → bid ≡ Some b → offer ≡ Some o → int_le b o ≡ true) → is_crossed bid offer ≡ false
not_crossed None None h = refl
not_crossed None (Some o) h = refl
not_crossed (Some b) None h = refl
not_crossed (Some b) (Some o) h = in_order b o (h b o refl refl)
  where
    in_order : (x y : ℤ) → int_le x y ≡ true → int_lt y x ≡ false
    in_order x y e = grind (arith, ints)

valid_passes : (m : Market) (h : History) (s : Sender) (d : Quote) (t : ℕ) (asked : Room) → IsValidQuote m h.facts s.who d t asked → NoneHolds (quote_refusals m h s asked d t)
valid_passes m h s d t asked v = (
  not_from_true (list_any (λ p. p == s.who) asked.recipients) (among_true asked.recipients s.who (In-from_Contains asked.recipients s.who v.recipient)),
  (
    not_from_true (is_open h.facts t asked) v.still_open,
    (
      not_from_true (bytes_eq d.symbol (symbol_of m.instruments asked.instrument)) ((bytes_eq-Decides d.symbol (symbol_of m.instruments asked.instrument)).1 v.symbol),
      (
        new_quote h.facts s.who d.quote_id v.new_id,
        (
          not_from_true (is_absent_or (λ c. c == 49) d.quote_type) (if_stated d.quote_type 49 v.tradeable),
          (
            or_from (lacks_price asked.side d.bid_price d.offer_price) _ (has_price asked.side d v.priced) (
                or_from (is_price_off_tick m asked.instrument d.bid_price) _ (on_tick m asked.instrument d.bid_price v.bid_on_tick) (
                or_from (is_price_off_tick m asked.instrument d.offer_price) (is_crossed d.bid_price d.offer_price) (on_tick m asked.instrument d.offer_price v.offer_on_tick) (not_crossed d.bid_price d.offer_price v.uncrossed))),
            (
              or_from (not (is_absent_or (λ q. q == asked.quantity) d.bid_size)) (not (is_absent_or (λ q. q == asked.quantity) d.offer_size)) (not_from_true _ (if_stated d.bid_size asked.quantity v.bid_size)) (not_from_true _ (if_stated d.offer_size asked.quantity v.offer_size)),
              (not_from_true (is_absent_or (λ u. not (nat_lt u t)) d.valid_until) (still d.valid_until t v.lasts), tt),
            ),
          ),
        ),
      ),
    ),
  ),
)

-- the answer to a quote, by the request that it names
abbrev pub sender_of : Taken → Quote → Sender
sender_of taken d = record { who = taken.from; number = taken.item.number; kind = type_of (app.Quote d) }

pub answer_is : (m : Market) (h : History) (taken : Taken) (d : Quote) (t : ℕ) (asked : Room) → taken.item.app ≡ app.Quote d → find_room h.facts d.request_id ≡ Some asked
    → answer_input m h (Message taken t) ≡ first_of (quote_refusals m h (sender_of taken d) asked d t) (quote_accepted m h (sender_of taken d) asked d)
answer_is m h taken d t asked e names = ap (λ a. answer_app m h (record { who = taken.from; number = taken.item.number; kind = type_of a }) a t) e ∙ ap (answer_quote_of m h (sender_of taken d) d t) names

accepted_is_taken : (m : Market) (h : History) (s : Sender) (d : Quote) (asked : Room) → IsTaken m s.who d asked (quote_accepted m h s asked d)
accepted_is_taken m h s d asked = record {
  quote = quoted h s asked d;
  facts = refl;
  room = refl;
  maker = refl;
  id = refl;
  bid = refl;
  offer = refl;
  end = refl;
  sent = Contains-from_In (quote_accepted m h s asked d).replies (sent_on m asked (quoted h s asked d)) (inr (In-append_right (shown_with m h asked (first_quote h.facts asked.number)) (quote_sent m asked (quoted h s asked d) ∷ []) (sent_on m asked (quoted h s asked d)) (inl refl)));
}

pub valid_quotes_are_taken : (m : Market) (is : List Input) → ValidQuotesAreTaken m is
valid_quotes_are_taken m is taken d t asked e v =
    let h : History = (run m is).history in
    let s : Sender = sender_of taken d in
    let accepted : answer_after m is (Message taken t) ≡ quote_accepted m h s asked d = answer_is m h taken d t asked e v.names ∙ all_false (quote_refusals m h s asked d t) (quote_accepted m h s asked d) (valid_passes m h s d t asked v) in
    subst (IsTaken m taken.from d asked) (sym accepted) (accepted_is_taken m h s d asked)

-- two recipients

-- the same tests, and answers with as many facts
abbrev pub SameTests : List (Bool × Answer) → List (Bool × Answer) → Type 0
SameTests [] [] = Unit {0}
SameTests [] (s ∷ ss) = ⊥
SameTests (r ∷ rs) [] = ⊥
SameTests (r ∷ rs) (s ∷ ss) = (r.0 ≡ s.0) × (length r.1.facts ≡ length s.1.facts) × SameTests rs ss

same_case : (b c : Bool) (x y u v : Answer) → b ≡ c → length x.facts ≡ length u.facts → length y.facts ≡ length v.facts → let k : Answer = elim b [ true ↦ x | false ↦ y ] in let l : Answer = elim c [ true ↦ u | false ↦ v ] in length k.facts ≡ length l.facts
same_case true true x y u v e p q = p
same_case true false x y u v e p q = absurd (true≢false e)
same_case false true x y u v e p q = absurd (true≢false (sym e))
same_case false false x y u v e p q = q

same_tests : (rs ss : List (Bool × Answer)) (x y : Answer) → SameTests rs ss → length x.facts ≡ length y.facts → length (first_of rs x).facts ≡ length (first_of ss y).facts
same_tests [] [] x y k e = e
same_tests [] (s ∷ ss) x y k e = absurd k
same_tests (r ∷ rs) [] x y k e = absurd k
same_tests (r ∷ rs) (s ∷ ss) x y k e = same_case r.0 s.0 r.1 (first_of rs x) s.1 (first_of ss y) k.0 k.1 (same_tests rs ss x y k.2 e)

equal_tests : (m : Market) (h : History) (one other : Sender) (d : Quote) (t : ℕ) (asked : Room) → Contains asked.recipients one.who → Contains asked.recipients other.who → IsNewQuote h.facts one.who d.quote_id → IsNewQuote h.facts other.who d.quote_id
    → SameTests (quote_refusals m h one asked d t) (quote_refusals m h other asked d t)
equal_tests m h one other d t asked a b new new_too = (
  ap not (among_true asked.recipients one.who (In-from_Contains asked.recipients one.who a) ∙ sym (among_true asked.recipients other.who (In-from_Contains asked.recipients other.who b))),
  refl,
  (
    refl,
    refl,
    (refl, refl, (new_quote h.facts one.who d.quote_id new ∙ sym (new_quote h.facts other.who d.quote_id new_too), refl, (refl, refl, (refl, refl, (refl, refl, (refl, refl, tt)))))),
  ),
)

pub recipients_are_equal : (m : Market) (is : List Input) → RecipientsAreEqual m is
recipients_are_equal m is one other d t asked e f names a b new new_too =
    let h : History = (run m is).history in
    ap (λ (x : Answer). length x.facts) (answer_is m h one d t asked e names)
    ∙ (same_tests (quote_refusals m h (sender_of one d) asked d t) (quote_refusals m h (sender_of other d) asked d t) (quote_accepted m h (sender_of one d) asked d) (quote_accepted m h (sender_of other d) asked d) (equal_tests m h (sender_of one d) (sender_of other d) d t asked a b new new_too) refl
    ∙ sym (ap (λ (x : Answer). length x.facts) (answer_is m h other d t asked f names)))

-- each recorded quote

pub quotes_are_sent_on : (m : Market) (is : List Input) → QuotesAreSentOn m is
quotes_are_sent_on m is q c =
    let facts : List Fact = (run m is).history.facts in
    let k : AddedBy m no_history is (Quoted q) = added_in m is (Quoted q) (In-from_Contains facts (Quoted q) c) in
    let h : History = (run m k.earlier).history in
    let from : QuoteFrom m h k.input (answer_input m h k.input).replies q = added_from m is (Quoted q) k in
    let there : In (quote_sent m from.asked q) (answer_input m h (Message from.taken from.moment)).replies = subst (λ i. In (quote_sent m from.asked q) (answer_input m h i).replies) from.input from.sent_on in
    record {
      asked = from.asked;
      known = Contains-from_In facts (Asked from.asked) (all_facts m is (Asked from.asked) (k.facts_before (Asked from.asked) (asked_in h.facts from.asked from.known)));
      room = ap (λ (x : RoomQuote). x.room) (sym from.same);
      recipient = Contains-from_In from.asked.recipients q.maker (subst (λ (x : RoomQuote). In x.maker from.asked.recipients) (sym from.same) from.recipient);
      within = subst (λ (x : RoomQuote). x.end ≤ from.asked.end) (sym from.same) (min-le_right (unwrap_or from.quotes.valid_until from.asked.end) from.asked.end);
      earlier = k.earlier;
      taken = from.taken;
      moment = from.moment;
      later = k.later;
      message = from.quotes;
      split = k.split ∙ ap (λ i. k.earlier ++ (i ∷ k.later)) from.input;
      quoted = from.message;
      maker = sym from.from ∙ ap (λ (x : RoomQuote). x.maker) (sym from.same);
      bid = ap (λ (x : RoomQuote). x.bid) from.same;
      offer = ap (λ (x : RoomQuote). x.offer) from.same;
      sent = Contains-from_In (answer_input m h (Message from.taken from.moment)).replies (sent_on m from.asked q) there;
    }
