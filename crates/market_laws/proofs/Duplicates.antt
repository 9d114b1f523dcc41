use Rattle.std.proofs.Common.{◌≡◌, refl, sym, ap, ◌∙◌, subst, inl, inr, ◌⊎◌, ℕ, ◌+◌, ◌<◌, Bool, true, false, ◌&&◌, ◌||◌, ◌==◌, nat_lt, List, [], ◌∷◌, map, find, Option, Some, None, option_map, bytes_eq, eqb-true, eq-eqb, ltb-true, lt-ltb}
use Rattle.std.proofs.lemmas.Bool.{true≢false, and_from, and_parts}
use Rattle.std.proofs.lemmas.Slice.Eq.{bytes_eq-Decides}
use Rattle.fix_dictionary.specs.declared.messages.App.TheVariants as app
use Rattle.fix_dictionary.specs.declared.messages.NewOrderCross.{NewOrderCross}
use Rattle.fix_dictionary.specs.declared.messages.NewOrderSingle.{NewOrderSingle}
use Rattle.instruments.specs.Listing.{is_unknown_instrument}
use Rattle.venue_rules.specs.declared.facts.Fact.{Fact}
use Rattle.venue_rules.specs.declared.facts.Fact.TheVariants.{Entered}
use Rattle.venue_rules.specs.declared.facts.Entry.{Entry}
use Rattle.venue_rules.specs.declared.refusals.CrossRefusal.{CrossRefusal}
use Rattle.venue_rules.specs.declared.refusals.CrossRefusal.TheVariants as cross
use Rattle.venue_rules.specs.declared.refusals.OrderRefusal.TheVariants as order
use Rattle.venue_rules.specs.declared.trail.Taken.{Taken}
use Rattle.venue_rules.specs.Market.{Market}
use Rattle.venue_rules.specs.Facts.{History, entries, is_cross_id_used, is_order_id_used}
use Rattle.venue_rules.specs.Book.{Resting, find_order, is_day, is_side, left, rests, with_left}
use Rattle.venue_rules.specs.Answer.{Answer, Sender}
use Rattle.venue_rules.specs.Answers.{answer_app, type_of}
use Rattle.venue_rules.specs.Crosses.{answer_cross, cross_duplicate}
use Rattle.venue_rules.specs.Orders.{answer_order, duplicate, order_under}
use Rattle.venue_rules.specs.Run.{Input, run}
use Rattle.venue_rules.proofs.Members.{In, In-find, find-none, In-from_Contains, Contains-from_In}
use Rattle.market_laws.specs.Access.{IsFirm}
use Rattle.market_laws.specs.Duplicates.{CrossDuplicatesNameWhatRests, DuplicatesNameWhatRests, IsCrossDuplicate, IsDuplicate, NamesWhatRests, RestsUnder}
use Rattle.market_laws.proofs.Access.{firm_rests, map_has, mapped_from, rests_firm_entry}
use Rattle.market_laws.proofs.BookTrades.{entered_in, entry_of}

-- A report that refuses a duplicate names what rests under its identifier.

-- this participant's order that rests under this identifier
abbrev is_current : ℕ → List ℕ → Resting → Bool
is_current who id r = rests r.entry.order.instrument r.entry.order.side r && (r.entry.order.who == who && bytes_eq r.entry.order.id id)

entry_here : (facts : List Fact) (r : Resting) → In r (map (with_left (left facts)) (entries facts)) → In r.entry (entries facts) × (r ≡ with_left (left facts) r.entry)
entry_here facts r i =
    let k = mapped_from (with_left (left facts)) (entries facts) r i in
    let same : k.0 ≡ r.entry = ap (λ (y : Resting). y.entry) k.2 in
    (subst (λ e. In e (entries facts)) same k.1, sym k.2 ∙ ap (with_left (left facts)) same)

named : (facts : List Fact) (who : ℕ) (id : List ℕ) (r : Resting) → find_order facts who id ≡ Some r → RestsUnder facts who id r.entry
named facts who id r found =
    let all : List Resting = map (with_left (left facts)) (entries facts) in
    let i = In-find (is_current who id) all r found in
    let w = entry_here facts r i.0 in
    let parts = and_parts (rests r.entry.order.instrument r.entry.order.side r) _ i.1 in
    let own = and_parts (r.entry.order.who == who) _ parts.1 in
    record {
      firm = rests_firm_entry facts r.entry.order.instrument r.entry.order.side r w.0 w.1 parts.0;
      owner = eqb-true r.entry.order.who who own.0;
      under = (bytes_eq-Decides r.entry.order.id id).0 own.1;
    }

unnamed : (facts : List Fact) (who : ℕ) (id : List ℕ) → find_order facts who id ≡ None → (e : Entry) → RestsUnder facts who id e → ⊥
unnamed facts who id none e k =
    let r : Resting = with_left (left facts) e in
    let here : In r (map (with_left (left facts)) (entries facts)) = map_has (with_left (left facts)) (entries facts) e (entry_of facts e (In-from_Contains facts (Entered e) k.firm.entered)) in
    let current : is_current who id r ≡ true =
    and_from (rests e.order.instrument e.order.side r) _ (firm_rests facts e.order.instrument e k.firm)
    (and_from (e.order.who == who) _ (eq-eqb e.order.who who k.owner) ((bytes_eq-Decides e.order.id id).1 k.under)) in
    true≢false (sym current ∙ find-none (is_current who id) (map (with_left (left facts)) (entries facts)) none r here)

number_named : (facts : List Fact) (who : ℕ) (id : List ℕ) (found : Option Resting) → find_order facts who id ≡ found → NamesWhatRests facts who id (option_map (λ (r : Resting). r.entry.number) found)
number_named facts who id (Some r) is = record { rests = λ n e. (r.entry, named facts who id r is, some_is e); none = λ e. absurd (some_none e) }
  where
    some_is : {n k : ℕ} → Some n ≡ Some k → n ≡ k
    some_is e = cc

    some_none : {n : ℕ} → Some n ≡ None → ⊥
    some_none e = cc
number_named facts who id None is = record { rests = λ n e. absurd (none_some e); none = λ e. unnamed facts who id is }
  where
    none_some : {n : ℕ} → None ≡ Some n → ⊥
    none_some e = cc

under_named : (facts : List Fact) (who : ℕ) (id : List ℕ) → NamesWhatRests facts who id (order_under facts who id)
under_named facts who id = number_named facts who id (find_order facts who id) refl

-- orders

order_again : (m : Market) (h : History) (s : Sender) (d : NewOrderSingle) (t : ℕ) → is_unknown_instrument m.instruments d.symbol ≡ false → is_order_id_used h.facts s.who d.order_id ≡ true → answer_order m h s d t ≡ duplicate h s d order.DuplicateClOrdId
order_again m h s d t known used = rw known (rw used refl)

abbrev asked_by : Taken → Sender
asked_by taken = record { who = taken.from; number = taken.item.number; kind = type_of taken.item.app }

pub duplicates : (m : Market) (is : List Input) → DuplicatesNameWhatRests m is
duplicates m is taken d t message known used =
    let h : History = (run m is).history in
    let s : Sender = asked_by taken in
    record {
      named = order_under h.facts taken.from d.order_id;
      names = under_named h.facts taken.from d.order_id;
      answer = ap (λ a. answer_app m h s a t) message ∙ order_again m h s d t known used;
    }

-- crosses

cross_again : (m : Market) (h : History) (s : Sender) (d : NewOrderCross) (t : ℕ) → is_unknown_instrument m.instruments d.symbol ≡ false → is_cross_id_used h.facts s.who d.cross_id ≡ true → answer_cross m h s d t ≡ cross_duplicate h s d cross.DuplicateCrossId
cross_again m h s d t known used = rw known (rw used refl)

sides_again : (m : Market) (h : History) (s : Sender) (d : NewOrderCross) (t : ℕ) → is_unknown_instrument m.instruments d.symbol ≡ false → is_cross_id_used h.facts s.who d.cross_id ≡ false → (is_order_id_used h.facts s.who d.first.order_id || (is_order_id_used h.facts s.who d.second.order_id || bytes_eq d.first.order_id d.second.order_id)) ≡ true → answer_cross m h s d t ≡ cross_duplicate h s d cross.DuplicateClOrdId
sides_again m h s d t known new used = rw known (rw new (rw used refl))

abbrev Again : Market → History → Sender → NewOrderCross → ℕ → Type 0
Again m h s d t = (cause : CrossRefusal) × ((cause ≡ cross.DuplicateCrossId) ⊎ (cause ≡ cross.DuplicateClOrdId)) × (answer_cross m h s d t ≡ cross_duplicate h s d cause)

either_again : (m : Market) (h : History) (s : Sender) (d : NewOrderCross) (t : ℕ) → is_unknown_instrument m.instruments d.symbol ≡ false → (b : Bool) → is_cross_id_used h.facts s.who d.cross_id ≡ b → (b || (is_order_id_used h.facts s.who d.first.order_id || (is_order_id_used h.facts s.who d.second.order_id || bytes_eq d.first.order_id d.second.order_id))) ≡ true → Again m h s d t
either_again m h s d t known true is used = (cross.DuplicateCrossId, inl refl, cross_again m h s d t known is)
either_again m h s d t known false is used = (cross.DuplicateClOrdId, inr refl, sides_again m h s d t known is used)

pub cross_duplicates : (m : Market) (is : List Input) → CrossDuplicatesNameWhatRests m is
cross_duplicates m is taken d t message known used =
    let h : History = (run m is).history in
    let s : Sender = asked_by taken in
    let k : Again m h s d t = either_again m h s d t known (is_cross_id_used h.facts taken.from d.cross_id) refl used in
    record {
      first = order_under h.facts taken.from d.first.order_id;
      second = order_under h.facts taken.from d.second.order_id;
      cause = k.0;
      names_first = under_named h.facts taken.from d.first.order_id;
      names_second = under_named h.facts taken.from d.second.order_id;
      why = k.1;
      answer = ap (λ a. answer_app m h s a t) message ∙ k.2;
    }
