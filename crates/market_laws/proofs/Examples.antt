use Rattle.std.proofs.Common.{◌≡◌, refl, sym, ap, ◌∙◌, inl, inr, ◌+◌, true, List, [], ◌∷◌, ◌++◌, Some, None, codes, arith}
use Rattle.std.specs.Fmt.{digits}
use Rattle.std.proofs.lemmas.Bool.{true≢false}
use Rattle.fix_dictionary.specs.declared.values.Side.TheVariants.{Buy, Sell}
use Rattle.fix_dictionary.specs.declared.messages.App.TheVariants as app
use Rattle.fix_dictionary.specs.declared.messages.NewOrderSingle.{NewOrderSingle as OrderMessage}
use Rattle.fix_dictionary.specs.declared.messages.Quote.{Quote as QuoteMessage}
use Rattle.instruments.specs.Listing.{is_off_tick}
use Rattle.venue_rules.specs.declared.facts.Fact.{Fact}
use Rattle.venue_rules.specs.declared.facts.Fact.TheVariants.{Quoted}
use Rattle.venue_rules.specs.declared.facts.Room.{Room}
use Rattle.venue_rules.specs.declared.facts.RoomQuote.{RoomQuote}
use Rattle.venue_rules.specs.declared.trail.Taken.{Taken}
use Rattle.venue_rules.specs.Book.{Resting, against, is_linked, picture}
use Rattle.venue_rules.specs.Facts.{is_order_id_used}
use Rattle.venue_rules.specs.Orders.{order_asked, order_under}
use Rattle.venue_rules.specs.MoreInputs.{answer_after}
use Rattle.venue_rules.specs.Run.{Input, run}
use Rattle.venue_rules.proofs.ExampleInputs.{alpha, basis, beta, cancel, delta, gamma, epsilon, order, replace, request, sends, start, swap, two_and_a_half, venue}
use Rattle.venue_rules.proofs.Members.{In, In-from_Contains}
use Rattle.market_laws.specs.Hitting.{AsksToTrade}
use Rattle.market_laws.specs.OneBook.{reported_symbol}
use Rattle.market_laws.specs.Quoting.{IsValidQuote}
use Rattle.market_laws.specs.TradeReports.{trade_reports}

-- Cases that meet the premises of the laws, by computation.

-- two offers at one price, 60 of them bought
abbrev pub day : List Input
day =
    sends beta 2 (order (codes "b1") swap Sell 60 two_and_a_half) start
    ∷ sends delta 2 (order (codes "d1") swap Sell 70 two_and_a_half) (start + 1)
    ∷ sends gamma 2 (order (codes "g1") swap Buy 60 two_and_a_half) (start + 20000)
    ∷ sends alpha 3 (request (codes "q1") swap (Some Buy) 100 (codes "BETA" ∷ codes "DELTA" ∷ codes "EPSILON" ∷ [])) (start + 20001) ∷ []

-- what everybody is shown: the second offer, and nothing else
pub one_offer_is_shown : picture (run venue day).history.facts 0 ≡ record { side = Sell; price = two_and_a_half; left = 70; order = 2 } ∷ []
one_offer_is_shown = refl

-- DELTA's offer rests under its identifier, and the order of BETA that is filled under none
pub rests_under_d1 : (is_order_id_used (run venue day).history.facts delta (codes "d1") ≡ true) × (order_under (run venue day).history.facts delta (codes "d1") ≡ Some 2)
rests_under_d1 = (refl, refl)

pub none_under_b1 : (is_order_id_used (run venue day).history.facts beta (codes "b1") ≡ true) × (order_under (run venue day).history.facts beta (codes "b1") ≡ None)
none_under_b1 = (refl, refl)

-- a quote of EPSILON for what was asked
abbrev quote_message : QuoteMessage
quote_message = record { quote_id = codes "e1"; request_id = codes "R1"; quote_type = None; parties = []; symbol = swap; bid_price = None; offer_price = Some two_and_a_half; bid_size = None; offer_size = None; valid_until = None }

abbrev asked_room : Room
asked_room = record { number = 1; requester = alpha; id = codes "q1"; instrument = 0; side = Some Buy; quantity = 100; recipients = beta ∷ delta ∷ epsilon ∷ []; end = start + 50001 }

no_quote_yet : (q : RoomQuote) → In (Quoted q) (run venue day).history.facts → ⊥
no_quote_yet q (inl e) = cc
no_quote_yet q (inr (inl e)) = cc
no_quote_yet q (inr (inr (inl e))) = cc
no_quote_yet q (inr (inr (inr (inl e)))) = cc
no_quote_yet q (inr (inr (inr (inr (inl e))))) = cc
no_quote_yet q (inr (inr (inr (inr (inr e))))) = e

some_is : {X : Type 0} (a b : X) → Some a ≡ Some b → a ≡ b
some_is a b e = cc

none_is : {X : Type 0} (a : X) → None ≡ Some a → ⊥
none_is a e = cc

pub quote_is_valid : IsValidQuote venue (run venue day).history.facts epsilon quote_message (start + 20002) asked_room
unfolding digits
quote_is_valid = record {
  names = refl;
  recipient = (2, omega arith, refl);
  still_open = refl;
  symbol = refl;
  new_id = λ q c maker id. no_quote_yet q (In-from_Contains (run venue day).history.facts (Quoted q) c);
  tradeable = λ k e. absurd (none_is k e);
  priced = (two_and_a_half, refl);
  bid_on_tick = λ p e. absurd (none_is p e);
  offer_on_tick = λ p e. ap (λ x. is_off_tick venue.instruments 0 x) (sym (some_is two_and_a_half p e));
  uncrossed = λ b o e f. absurd (none_is b e);
  bid_size = λ k e. absurd (none_is k e);
  offer_size = λ k e. absurd (none_is k e);
  lasts = λ k e. absurd (none_is k e);
}

-- an immediate order of ALPHA for a part of the offer that is shown
abbrev order_message : OrderMessage
order_message = record { order_id = codes "a1"; link_id = None; symbol = swap; side = Buy; quantity = 20; order_type = 50; price = Some two_and_a_half; time_in_force = Some 51; transact_time = None }

abbrev order_taken : Taken
order_taken = record { from = alpha; item = record { era = 1; number = 4; app = app.NewOrderSingle order_message } }

abbrev facts_then : List Fact
facts_then = (run venue day).history.facts

unlinked : (r : Resting) → In r (against facts_then (order_asked venue alpha order_message)) → is_linked venue (order_asked venue alpha order_message) r.entry.order ≡ true → ⊥
unlinked r (inl e) h = true≢false (sym h ∙ ap (λ (y : Resting). is_linked venue (order_asked venue alpha order_message) y.entry.order) (sym e))
unlinked r (inr i) h = i

pub order_asks : AsksToTrade venue facts_then order_taken order_message (order_asked venue alpha order_message) (start + 20002)
order_asks = record {
  message = refl;
  order = refl;
  valid = record { listed = refl; new_id = refl; limit = refl; life = refl; price = refl; on_tick = refl; least = omega arith };
  no_place = inl refl;
  waited = λ r c h. absurd (unlinked r (In-from_Contains (against facts_then (order_asked venue alpha order_message)) r c) h);
}

-- an order in the other instrument is reported under its symbol; so the offer that was shown stays
abbrev pub elsewhere : Input
elsewhere = sends alpha 4 (order (codes "a1") basis Sell 1 two_and_a_half) (start + 20002)

pub reported_elsewhere : reported_symbol (answer_after venue day elsewhere).replies ≡ Some basis
reported_elsewhere = refl

pub offer_stays : picture (run venue (day ++ elsewhere ∷ [])).history.facts 0 ≡ record { side = Sell; price = two_and_a_half; left = 70; order = 2 } ∷ []
offer_stays = refl

-- a replacement and a cancel are reported under the symbol of their order
pub replacement_reported : reported_symbol (answer_after venue day (sends delta 3 (replace (codes "d2") (codes "d1") 50 two_and_a_half) (start + 20002))).replies ≡ Some swap
replacement_reported = refl

pub cancel_reported : reported_symbol (answer_after venue day (sends delta 3 (cancel (codes "d2") (codes "d1")) (start + 20002))).replies ≡ Some swap
cancel_reported = refl

-- the trade of the day, reported to the buyer that entered, and then to the seller
pub trade_is_reported_twice : trade_reports (run venue day).replies ≡ record { to = gamma; trade = 1 } ∷ record { to = beta; trade = 1 } ∷ []
trade_is_reported_twice = refl
