use Rattle.std.specs.Prelude.{◌≡◌, ℕ, ◌<◌, Bool, false, not, ◌||◌, ◌==◌, nat_lt, is_none, List, [], ◌∷◌, length, Option, Some, None, bytes_eq}
use Rattle.fix_dictionary.specs.declared.messages.CrossSide.{CrossSide}
use Rattle.fix_dictionary.specs.declared.messages.NewOrderCross.{NewOrderCross}
use Rattle.instruments.specs.declared.instruments.Instrument.{Instrument}
use Rattle.instruments.specs.Listing.{instrument_of, is_off_tick, is_unknown_instrument, least_of}
use Rattle.participants.specs.ParticipantFile.{ParticipantFile}
use Rattle.venue_rules.specs.declared.facts.Fact.{Fact}
use Rattle.venue_rules.specs.declared.facts.TimeInForce.TheVariants.{Day}
use Rattle.venue_rules.specs.declared.facts.OrderFact.{OrderFact}
use Rattle.venue_rules.specs.declared.refusals.BusinessRefusal.TheVariants as business
use Rattle.venue_rules.specs.declared.refusals.CrossRefusal.{CrossRefusal}
use Rattle.venue_rules.specs.Facts.{History, is_cross_id_used}
use Rattle.venue_rules.specs.Answer.{Answer, Sender, answers, business_reject, numbered}
use Rattle.venue_rules.specs.Book.{is_side}
use Rattle.venue_rules.specs.Crosses.{answer_cross, cross_refused, first_side, side_refused}
use Rattle.venue_rules.specs.Orders.{is_limit, price_or_zero}
use Rattle.venue_request.specs.declared.counts.Counts.{Counts}
use Rattle.venue_rules.specs.Market.{market}
use Rattle.order_handler.specs.Parts.{Parts}
use Rattle.order_handler.specs.Reads.{IsReadAlone, is_used}
use Rattle.cross_handler.specs.declared.terms.Cause.{Cause}
use Rattle.cross_handler.specs.declared.terms.Cause.TheVariants.{Refused, Duplicate, PriceMissing}
use Rattle.cross_handler.specs.declared.refusing.Named.{Named}
use Rattle.cross_handler.specs.declared.terms.Terms.{Terms}

-- a side's identifier is used, or both are the same
abbrev pub are_ids_taken : List Fact → List Fact → ℕ → NewOrderCross → Bool
are_ids_taken book delay who d = is_used book delay who d.first.order_id || (is_used book delay who d.second.order_id || bytes_eq d.first.order_id d.second.order_id)

-- CrossType (549) is not 4, CrossPrioritization (550) is neither 1 nor 2, or OrdType (40) is not 2
abbrev pub is_unsupported : NewOrderCross → Bool
is_unsupported d = not (d.cross_type == 4) || (not (d.prioritization == 1 || d.prioritization == 2) || not (is_limit d.order_type))

-- the quantities differ, or are below the instrument's least
abbrev pub is_quantity_wrong : List Instrument → ℕ → NewOrderCross → Bool
is_quantity_wrong file x d = not (d.first.quantity == d.second.quantity) || nat_lt d.first.quantity (least_of file x)

-- no refusal holds that is checked before the book is asked
pub record IsSound (file : List Instrument) (book delay : List Fact) (who : ℕ) (d : NewOrderCross) : Type 0 where
  pub known : is_unknown_instrument file d.symbol ≡ false
  pub uncrossed : is_cross_id_used delay who d.cross_id ≡ false
  pub unused : are_ids_taken book delay who d ≡ false
  pub supported : is_unsupported d ≡ false
  pub priced : is_none d.price ≡ false
  pub opposed : is_side d.first.side d.second.side ≡ false
  pub on_tick : is_off_tick file (instrument_of file d.symbol) (price_or_zero d.price) ≡ false
  pub enough : is_quantity_wrong file (instrument_of file d.symbol) d ≡ false

-- the terms of a cross that may enter
pub record IsTermsOf (file : List Instrument) (d : NewOrderCross) (terms : Terms) : Type 0 where
  pub instrument : terms.instrument ≡ instrument_of file d.symbol
  pub listed : terms.instrument < length file
  pub price : d.price ≡ Some terms.price

-- a side of a cross with these terms as a day order
abbrev pub cross_order : Terms → ℕ → CrossSide → OrderFact
cross_order terms who side = record { who = who; id = side.order_id; link = None; instrument = terms.instrument; side = side.side; quantity = side.quantity; price = terms.price; life = Day }

-- two reports refuse a cross; each names an order, or none
abbrev pub cross_refused_naming : Named → History → Sender → NewOrderCross → CrossRefusal → Answer
cross_refused_naming named h s d cause = answers (numbered h.reports (side_refused named.first s d cause d.first ∷ side_refused named.second s d cause d.second ∷ []))

-- the answer to a cross refused before the book is asked
abbrev pub rejection : History → Sender → NewOrderCross → Cause → Answer
rejection h s d (Refused cause) = cross_refused h s d cause
rejection h s d (Duplicate named cause) = cross_refused_naming named h s d cause
rejection h s d PriceMissing = business_reject s business.PriceMissing

-- a cross is refused for this cause in every history of this book and these held sides, in any market with these
-- instruments, whatever its number and moment
pub record IsTurnedAway (file : List Instrument) (book delay : List Fact) (who : ℕ) (d : NewOrderCross) (cause : Cause) : Type 0 where
  pub answers : (h : History) (c : Counts) → IsReadAlone h book delay c → (participants : ParticipantFile) (number : ℕ) (kind : List ℕ) (t : ℕ) → answer_cross (market participants file) h (record { who = who; number = number; kind = kind }) d t ≡ rejection h (record { who = who; number = number; kind = kind }) d cause

-- the book and the held sides are unchanged
abbrev pub IsQuiet : Parts → Type 0
IsQuiet a = (a.book ≡ []) × (a.delay ≡ [])

-- no refusal of a cross with these terms holds that is checked before the book is asked for this order, its first side
pub record IsPassed (file : List Instrument) (book delay : List Fact) (who : ℕ) (d : NewOrderCross) (terms : Terms) (first : OrderFact) : Type 0 where
  pub sound : IsSound file book delay who d
  pub named : IsTermsOf file d terms
  pub asked : first ≡ cross_order terms who (first_side d)
