-- Each kind of message is refused for a cause of its own kind.
use Rattle.std.proofs.Common.{◌≡◌, sym, subst, Option, Some, None, option_map}
use Rattle.venue_rules.specs.declared.refusals.QuoteRefusal.{QuoteRefusal}
use Rattle.venue_rules.specs.declared.refusals.RequestRefusal.{RequestRefusal}
use Rattle.rfq_room.specs.declared.refusal.Cause.{Cause}
use Rattle.rfq_room.specs.declared.refusal.Cause.TheVariants as cause
use Rattle.rfq_room.specs.declared.refusal.Refusal.{Refusal}
use Rattle.rfq_room.specs.declared.refusal.ResponseCause.{ResponseCause}
use Rattle.rfq_room.specs.declared.refusal.WithdrawalRefusal.{WithdrawalRefusal}
use Rattle.rfq_room.specs.Refusals.{IsQuoteRefused, IsRefusalOf, IsRequestRefused, IsResponseRefused, IsWithdrawalRefused, cause_of}
use Rattle.rfq_handler.specs.Refused.{IsOfQuote, IsOfRequest, IsOfResponse, IsOfWithdrawal}

-- what holds of no cause, and of the one that holds, holds of the one given
of-given : (P : Option Cause → Type 0) (holds x : Option Cause) (refusal : Refusal) → P None → P holds → IsRefusalOf holds refusal x → P x
of-given P holds None refusal none own h = none
of-given P holds (Some c) refusal none own h = subst P h.0 own

own-request : (holds : Option RequestRefusal) → IsOfRequest (option_map (λ c. cause.Request c) holds)
own-request None = tt
own-request (Some c) = tt

pub of-request : (holds : Option RequestRefusal) (refusal : Refusal) (x : Option Cause) → x ≡ cause_of refusal → IsRequestRefused holds refusal → IsOfRequest x
of-request holds refusal x e h = subst IsOfRequest (sym e) (of-given IsOfRequest (option_map (λ c. cause.Request c) holds) (cause_of refusal) refusal tt (own-request holds) h)

own-quote : (holds : Option QuoteRefusal) → IsOfQuote (option_map (λ c. cause.Quote c) holds)
own-quote None = tt
own-quote (Some c) = tt

pub of-quote : (holds : Option QuoteRefusal) (refusal : Refusal) (x : Option Cause) → x ≡ cause_of refusal → IsQuoteRefused holds refusal → IsOfQuote x
of-quote holds refusal x e h = subst IsOfQuote (sym e) (of-given IsOfQuote (option_map (λ c. cause.Quote c) holds) (cause_of refusal) refusal tt (own-quote holds) h)

own-withdrawal : (holds : Option WithdrawalRefusal) → IsOfWithdrawal (option_map (λ c. cause.Withdrawal c) holds)
own-withdrawal None = tt
own-withdrawal (Some c) = tt

pub of-withdrawal : (holds : Option WithdrawalRefusal) (refusal : Refusal) (x : Option Cause) → x ≡ cause_of refusal → IsWithdrawalRefused holds refusal → IsOfWithdrawal x
of-withdrawal holds refusal x e h = subst IsOfWithdrawal (sym e) (of-given IsOfWithdrawal (option_map (λ c. cause.Withdrawal c) holds) (cause_of refusal) refusal tt (own-withdrawal holds) h)

own-response : (holds : Option ResponseCause) → IsOfResponse (option_map (λ c. cause.Response c) holds)
own-response None = tt
own-response (Some c) = tt

pub of-response : (holds : Option ResponseCause) (refusal : Refusal) (x : Option Cause) → x ≡ cause_of refusal → IsResponseRefused holds refusal → IsOfResponse x
of-response holds refusal x e h = subst IsOfResponse (sym e) (of-given IsOfResponse (option_map (λ c. cause.Response c) holds) (cause_of refusal) refusal tt (own-response holds) h)
