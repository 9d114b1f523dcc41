use Rattle.std.proofs.Common.{◌≡◌, refl, sym, ap, ◌∙◌, ℕ, true, false, ◌||◌, List, Option, None, is_none, option_map, bytes_eq}
use Rattle.fix_dictionary.specs.declared.messages.NewOrderCross.{NewOrderCross}
use Rattle.instruments.specs.declared.instruments.Instrument.{Instrument}
use Rattle.instruments.specs.Listing.{instrument_of, is_off_tick, is_unknown_instrument}
use Rattle.venue_rules.specs.declared.facts.Fact.{Fact}
use Rattle.venue_rules.specs.declared.refusals.CrossRefusal.{CrossRefusal}
use Rattle.venue_rules.specs.declared.refusals.CrossRefusal.TheVariants as cross
use Rattle.venue_rules.specs.Market.{market}
use Rattle.venue_rules.specs.Answer.{Answer, Sender}
use Rattle.venue_rules.specs.Crosses.{answer_cross, cross_duplicate}
use Rattle.venue_rules.specs.Facts.{History, is_cross_id_used, is_order_id_used}
use Rattle.venue_rules.specs.Book.{Resting, is_side}
use Rattle.venue_rules.specs.Orders.{order_under, price_or_zero}
use Rattle.venue_request.specs.declared.counts.Counts.{Counts}
use Rattle.order_handler.specs.Reads.{IsReadAlone}
use Rattle.cross_handler.specs.declared.terms.Cause.TheVariants.{Refused, Duplicate, PriceMissing}
use Rattle.cross_handler.specs.declared.refusing.Named.{Named}
use Rattle.cross_handler.specs.Crossing.{IsTurnedAway, are_ids_taken, cross_refused_naming, is_quantity_wrong, is_unsupported}

-- Each refusal of a cross is the answer where it holds and none before it does.

-- readings of the whole history are those of the book and the held sides
pub taken-alone : (h : History) (book delay : List Fact) (c : Counts) → IsReadAlone h book delay c → (who : ℕ) (d : NewOrderCross) → (is_order_id_used h.facts who d.first.order_id || (is_order_id_used h.facts who d.second.order_id || bytes_eq d.first.order_id d.second.order_id)) ≡ are_ids_taken book delay who d
taken-alone h book delay c r who d = rw (r.used who d.first.order_id, r.used who d.second.order_id) refl

pub unknown_instrument : (file : List Instrument) (book delay : List Fact) (who : ℕ) (d : NewOrderCross) → is_unknown_instrument file d.symbol ≡ true → IsTurnedAway file book delay who d (Refused cross.UnknownInstrument)
unknown_instrument file book delay who d h1 = record { answers = λ h c r participants number kind t. rw h1 refl }

-- the orders that the reports of a duplicate name are those of the book
named-alone : (h : History) (book delay : List Fact) (c : Counts) → IsReadAlone h book delay c → (s : Sender) (d : NewOrderCross) (named : Named) (cause : CrossRefusal) → named ≡ record { first = order_under book s.who d.first.order_id; second = order_under book s.who d.second.order_id } → cross_duplicate h s d cause ≡ cross_refused_naming named h s d cause
named-alone h book delay c r s d named cause same =
    let number : Option Resting → Option ℕ = option_map (λ (x : Resting). x.entry.number) in
    let both : Option ℕ → Option ℕ → Answer = λ one two. cross_refused_naming (record { first = one; second = two }) h s d cause in
    ap (λ x. both (number x) (order_under h.facts s.who d.second.order_id)) (r.order s.who d.first.order_id)
    ∙ ap (λ x. both (order_under book s.who d.first.order_id) (number x)) (r.order s.who d.second.order_id)
    ∙ ap (λ n. cross_refused_naming n h s d cause) (sym same)

pub duplicate_cross : (file : List Instrument) (book delay : List Fact) (who : ℕ) (d : NewOrderCross) (named : Named) → is_unknown_instrument file d.symbol ≡ false → is_cross_id_used delay who d.cross_id ≡ true → named ≡ record { first = order_under book who d.first.order_id; second = order_under book who d.second.order_id } → IsTurnedAway file book delay who d (Duplicate named cross.DuplicateCrossId)
duplicate_cross file book delay who d named h1 h2 same = record {
  answers = λ h c r participants number kind t.
      let s : Sender = record { who = who; number = number; kind = kind } in
      let again : answer_cross (market participants file) h s d t ≡ cross_duplicate h s d cross.DuplicateCrossId = rw h1 (rw (r.crossed who d.cross_id ∙ h2) refl) in
      again ∙ named-alone h book delay c r s d named cross.DuplicateCrossId same;
}

pub duplicate_order : (file : List Instrument) (book delay : List Fact) (who : ℕ) (d : NewOrderCross) (named : Named) → is_unknown_instrument file d.symbol ≡ false → is_cross_id_used delay who d.cross_id ≡ false → are_ids_taken book delay who d ≡ true → named ≡ record { first = order_under book who d.first.order_id; second = order_under book who d.second.order_id } → IsTurnedAway file book delay who d (Duplicate named cross.DuplicateClOrdId)
duplicate_order file book delay who d named h1 h2 h3 same = record {
  answers = λ h c r participants number kind t.
      let s : Sender = record { who = who; number = number; kind = kind } in
      let again : answer_cross (market participants file) h s d t ≡ cross_duplicate h s d cross.DuplicateClOrdId = rw h1 (rw (r.crossed who d.cross_id ∙ h2) (rw (taken-alone h book delay c r who d ∙ h3) refl)) in
      again ∙ named-alone h book delay c r s d named cross.DuplicateClOrdId same;
}

pub unsupported_cross : (file : List Instrument) (book delay : List Fact) (who : ℕ) (d : NewOrderCross) → is_unknown_instrument file d.symbol ≡ false → is_cross_id_used delay who d.cross_id ≡ false → are_ids_taken book delay who d ≡ false → is_unsupported d ≡ true → IsTurnedAway file book delay who d (Refused cross.UnsupportedOrder)
unsupported_cross file book delay who d h1 h2 h3 h4 = record { answers = λ h c r participants number kind t. rw h1 (rw (r.crossed who d.cross_id ∙ h2) (rw (taken-alone h book delay c r who d ∙ h3) (rw h4 refl))) }

pub price_missing : (file : List Instrument) (book delay : List Fact) (who : ℕ) (d : NewOrderCross) → is_unknown_instrument file d.symbol ≡ false → is_cross_id_used delay who d.cross_id ≡ false → are_ids_taken book delay who d ≡ false → is_unsupported d ≡ false → d.price ≡ None → IsTurnedAway file book delay who d PriceMissing
price_missing file book delay who d h1 h2 h3 h4 h5 = record { answers = λ h c r participants number kind t. rw h1 (rw (r.crossed who d.cross_id ∙ h2) (rw (taken-alone h book delay c r who d ∙ h3) (rw h4 (rw h5 refl)))) }

pub same_side : (file : List Instrument) (book delay : List Fact) (who : ℕ) (d : NewOrderCross) → is_unknown_instrument file d.symbol ≡ false → is_cross_id_used delay who d.cross_id ≡ false → are_ids_taken book delay who d ≡ false → is_unsupported d ≡ false → is_none d.price ≡ false → is_side d.first.side d.second.side ≡ true → IsTurnedAway file book delay who d (Refused cross.OneBuyAndOneSell)
same_side file book delay who d h1 h2 h3 h4 h5 h6 = record { answers = λ h c r participants number kind t. rw h1 (rw (r.crossed who d.cross_id ∙ h2) (rw (taken-alone h book delay c r who d ∙ h3) (rw h4 (rw h5 (rw h6 refl))))) }

pub off_tick : (file : List Instrument) (book delay : List Fact) (who : ℕ) (d : NewOrderCross) → is_unknown_instrument file d.symbol ≡ false → is_cross_id_used delay who d.cross_id ≡ false → are_ids_taken book delay who d ≡ false → is_unsupported d ≡ false → is_none d.price ≡ false → is_side d.first.side d.second.side ≡ false → is_off_tick file (instrument_of file d.symbol) (price_or_zero d.price) ≡ true → IsTurnedAway file book delay who d (Refused cross.PriceOffTick)
off_tick file book delay who d h1 h2 h3 h4 h5 h6 h7 = record { answers = λ h c r participants number kind t. rw h1 (rw (r.crossed who d.cross_id ∙ h2) (rw (taken-alone h book delay c r who d ∙ h3) (rw h4 (rw h5 (rw h6 (rw h7 refl)))))) }

pub wrong_quantity : (file : List Instrument) (book delay : List Fact) (who : ℕ) (d : NewOrderCross) → is_unknown_instrument file d.symbol ≡ false → is_cross_id_used delay who d.cross_id ≡ false → are_ids_taken book delay who d ≡ false → is_unsupported d ≡ false → is_none d.price ≡ false → is_side d.first.side d.second.side ≡ false → is_off_tick file (instrument_of file d.symbol) (price_or_zero d.price) ≡ false → is_quantity_wrong file (instrument_of file d.symbol) d ≡ true → IsTurnedAway file book delay who d (Refused cross.Quantity)
wrong_quantity file book delay who d h1 h2 h3 h4 h5 h6 h7 h8 = record { answers = λ h c r participants number kind t. rw h1 (rw (r.crossed who d.cross_id ∙ h2) (rw (taken-alone h book delay c r who d ∙ h3) (rw h4 (rw h5 (rw h6 (rw h7 (rw h8 refl))))))) }

pub ruleset turnings = (unknown_instrument, duplicate_cross, duplicate_order, unsupported_cross, price_missing, same_side, off_tick, wrong_quantity)
