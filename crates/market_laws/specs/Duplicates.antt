use Rattle.std.specs.Prelude.{◌≡◌, ◌⊎◌, ◌||◌, ℕ, ◌+◌, Bool, true, false, List, [], ◌∷◌, Contains, Option, Some, None, bytes_eq}
use Rattle.fix_dictionary.specs.declared.messages.App.TheVariants as app
use Rattle.fix_dictionary.specs.declared.messages.NewOrderCross.{NewOrderCross}
use Rattle.fix_dictionary.specs.declared.messages.NewOrderSingle.{NewOrderSingle}
use Rattle.instruments.specs.Listing.{is_unknown_instrument}
use Rattle.venue_rules.specs.declared.facts.Fact.{Fact}
use Rattle.venue_rules.specs.declared.facts.Entry.{Entry}
use Rattle.venue_rules.specs.declared.refusals.CrossRefusal.{CrossRefusal}
use Rattle.venue_rules.specs.declared.refusals.CrossRefusal.TheVariants as cross
use Rattle.venue_rules.specs.declared.refusals.OrderRefusal.TheVariants.{DuplicateClOrdId}
use Rattle.venue_rules.specs.declared.trail.Taken.{Taken}
use Rattle.venue_rules.specs.Market.{Market}
use Rattle.venue_rules.specs.Answer.{answers, Sender}
use Rattle.venue_rules.specs.Answers.{type_of}
use Rattle.venue_rules.specs.Crosses.{side_refused}
use Rattle.venue_rules.specs.Facts.{is_cross_id_used, is_order_id_used}
use Rattle.venue_rules.specs.MoreInputs.{answer_after}
use Rattle.venue_rules.specs.Orders.{refusal_report}
use Rattle.venue_rules.specs.Run.{Input, Message, run}
use Rattle.market_laws.specs.Access.{IsFirm}

-- Orders and crosses under identifiers that their sender used.

-- a firm order of the participant under this identifier (11)
pub record RestsUnder (facts : List Fact) (who : ℕ) (id : List ℕ) (e : Entry) : Type 0 where
  pub firm : IsFirm facts e.order.instrument e
  pub owner : e.order.who ≡ who
  pub under : e.order.id ≡ id

-- a number names an order of the participant that rests under this identifier; none says that no order does
pub record NamesWhatRests (facts : List Fact) (who : ℕ) (id : List ℕ) (named : Option ℕ) : Type 0 where
  pub rests : (n : ℕ) → named ≡ Some n → (e : Entry) × RestsUnder facts who id e × (e.number ≡ n)
  pub none : named ≡ None → (e : Entry) → RestsUnder facts who id e → ⊥

-- one report refuses the order, and nothing else happens; the report names what rests under the order's identifier
pub record IsDuplicate (m : Market) (is : List Input) (taken : Taken) (d : NewOrderSingle) (t : ℕ) : Type 0 where
  pub named : Option ℕ
  pub names : NamesWhatRests (run m is).history.facts taken.from d.order_id named
  pub answer : answer_after m is (Message taken t) ≡ answers (refusal_report named d.symbol d.side d.order_id taken.from DuplicateClOrdId ((run m is).history.reports + 1) ∷ [])

-- so it is of each order (D) under an identifier that its sender used
abbrev pub DuplicatesNameWhatRests : Market → List Input → Type 0
DuplicatesNameWhatRests m is =
    (taken : Taken) (d : NewOrderSingle) (t : ℕ) → taken.item.app ≡ app.NewOrderSingle d → is_unknown_instrument m.instruments d.symbol ≡ false → is_order_id_used (run m is).history.facts taken.from d.order_id ≡ true → IsDuplicate m is taken d t

-- the participant used the cross's identifier (548) or one of its sides' (11), or both sides have the same
abbrev pub is_cross_used : List Fact → ℕ → NewOrderCross → Bool
is_cross_used facts who d = is_cross_id_used facts who d.cross_id || (is_order_id_used facts who d.first.order_id || (is_order_id_used facts who d.second.order_id || bytes_eq d.first.order_id d.second.order_id))

-- two reports refuse the cross, one for each side, and nothing else happens; each names what rests under its side's
-- identifier
pub record IsCrossDuplicate (m : Market) (is : List Input) (taken : Taken) (d : NewOrderCross) (t : ℕ) : Type 0 where
  pub first : Option ℕ
  pub second : Option ℕ
  pub cause : CrossRefusal
  pub names_first : NamesWhatRests (run m is).history.facts taken.from d.first.order_id first
  pub names_second : NamesWhatRests (run m is).history.facts taken.from d.second.order_id second
  pub why : (cause ≡ cross.DuplicateCrossId) ⊎ (cause ≡ cross.DuplicateClOrdId)
  pub answer : let s : Sender = record { who = taken.from; number = taken.item.number; kind = type_of taken.item.app } in let n = (run m is).history.reports in answer_after m is (Message taken t) ≡ answers (side_refused first s d cause d.first (n + 1) ∷ side_refused second s d cause d.second (n + 1 + 1) ∷ [])

-- so it is of each cross (s) under used identifiers
abbrev pub CrossDuplicatesNameWhatRests : Market → List Input → Type 0
CrossDuplicatesNameWhatRests m is =
    (taken : Taken) (d : NewOrderCross) (t : ℕ) → taken.item.app ≡ app.NewOrderCross d → is_unknown_instrument m.instruments d.symbol ≡ false → is_cross_used (run m is).history.facts taken.from d ≡ true → IsCrossDuplicate m is taken d t
