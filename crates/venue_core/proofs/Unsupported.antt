use Rattle.std.proofs.Common.{inl, inr, ◌≡◌, ◌⊎◌, refl, ℕ, List}
use Rattle.fix_dictionary.specs.declared.messages.App.{App}
use Rattle.fix_dictionary.specs.declared.messages.App.TheVariants.{QuoteStatusReport, QuoteRequestReject, ExecutionReport, OrderCancelReject, MarketDataSnapshot, MarketDataRequestReject, Unsupported}
use Rattle.fix_dictionary.specs.declared.messages.QuoteStatusReport.{QuoteStatusReport as StatusReport}
use Rattle.fix_dictionary.specs.declared.messages.QuoteRequestReject.{QuoteRequestReject as RequestReject}
use Rattle.fix_dictionary.specs.declared.messages.ExecutionReport.{ExecutionReport as Report}
use Rattle.fix_dictionary.specs.declared.messages.OrderCancelReject.{OrderCancelReject as CancelReject}
use Rattle.fix_dictionary.specs.declared.messages.MarketDataSnapshot.{MarketDataSnapshot as Snapshot}
use Rattle.fix_dictionary.specs.declared.messages.MarketDataRequestReject.{MarketDataRequestReject as DataReject}
use Rattle.venue_rules.specs.declared.refusals.BusinessRefusal.TheVariants.{UnsupportedMessageType}
use Rattle.venue_rules.specs.declared.trail.Taken.{Taken}
use Rattle.venue_rules.specs.Answer.{business_reject}
use Rattle.venue_rules.specs.Answers.{answer}
use Rattle.venue_rules.specs.Facts.{History}
use Rattle.venue_rules.specs.Market.{Market}
use Rattle.venue_request.specs.Senders.{sender}

-- a message of an unknown type, or of one that only the venue sends
abbrev pub IsUnsupported : App → Type 0
IsUnsupported app =
    ((x : StatusReport) × (app ≡ QuoteStatusReport x))
    ⊎ (((x : RequestReject) × (app ≡ QuoteRequestReject x))
    ⊎ (((x : Report) × (app ≡ ExecutionReport x))
    ⊎ (((x : CancelReject) × (app ≡ OrderCancelReject x))
    ⊎ (((x : Snapshot) × (app ≡ MarketDataSnapshot x))
    ⊎ (((x : DataReject) × (app ≡ MarketDataRequestReject x))
    ⊎ ((x : List ℕ) × (app ≡ Unsupported x)))))))

pub unsupported-answer : (m : Market) (h : History) (taken : Taken) (t : ℕ) → IsUnsupported taken.item.app → business_reject (sender taken) UnsupportedMessageType ≡ answer m h taken t
unsupported-answer m h taken t (inl p) = rw p.1 refl
unsupported-answer m h taken t (inr (inl p)) = rw p.1 refl
unsupported-answer m h taken t (inr (inr (inl p))) = rw p.1 refl
unsupported-answer m h taken t (inr (inr (inr (inl p)))) = rw p.1 refl
unsupported-answer m h taken t (inr (inr (inr (inr (inl p))))) = rw p.1 refl
unsupported-answer m h taken t (inr (inr (inr (inr (inr (inl p)))))) = rw p.1 refl
unsupported-answer m h taken t (inr (inr (inr (inr (inr (inr p)))))) = rw p.1 refl
