use Rattle.std.specs.Prelude.{◌≡◌, Option, Some, None, option_map}
use Rattle.venue_rules.specs.declared.refusals.RequestRefusal.{RequestRefusal}
use Rattle.venue_rules.specs.declared.refusals.RequestRefusal.TheVariants as request
use Rattle.venue_rules.specs.declared.refusals.QuoteRefusal.{QuoteRefusal}
use Rattle.venue_rules.specs.declared.refusals.QuoteRefusal.TheVariants as quote
use Rattle.rfq_room.specs.declared.refusal.Cause.{Cause}
use Rattle.rfq_room.specs.declared.refusal.Cause.TheVariants as cause
use Rattle.rfq_room.specs.declared.refusal.WithdrawalRefusal.{WithdrawalRefusal}
use Rattle.rfq_room.specs.declared.refusal.WithdrawalRefusal.TheVariants as withdrawal
use Rattle.rfq_room.specs.declared.refusal.ResponseCause.{ResponseCause}
use Rattle.rfq_room.specs.declared.refusal.ResponseCause.TheVariants as response
use Rattle.rfq_room.specs.declared.refusal.Refusal.{Refusal}
use Rattle.rfq_room.specs.declared.refusal.Refusal.TheVariants.{TooFew, NotUnrelated, UnknownRoom, Late, NotAsked, UnknownQuote, NotYours, Full, BadPrice, Duplicate, Other, NoMemory}

-- the refusal of each cause

abbrev pub request_refusal : RequestRefusal → Refusal
request_refusal request.DuplicateRequest = Duplicate (cause.Request request.DuplicateRequest)
request_refusal request.UnknownInstrument = Other (cause.Request request.UnknownInstrument)
request_refusal request.QuantityBelowLeast = Other (cause.Request request.QuantityBelowLeast)
request_refusal request.UnknownParticipant = Other (cause.Request request.UnknownParticipant)
request_refusal request.RequesterAmongRecipients = Other (cause.Request request.RequesterAmongRecipients)
request_refusal request.RecipientTwice = Other (cause.Request request.RecipientTwice)
request_refusal request.TooManyRecipients = Other (cause.Request request.TooManyRecipients)
request_refusal request.TooFewRecipients = TooFew (cause.Request request.TooFewRecipients)
request_refusal request.RecipientsNotUnrelated = NotUnrelated (cause.Request request.RecipientsNotUnrelated)
request_refusal request.TooManyRequests = Full (cause.Request request.TooManyRequests)

abbrev pub quote_refusal : QuoteRefusal → Refusal
quote_refusal quote.UnknownRequest = UnknownRoom (cause.Quote quote.UnknownRequest)
quote_refusal quote.NotAsked = NotAsked (cause.Quote quote.NotAsked)
quote_refusal quote.RoomOver = Late (cause.Quote quote.RoomOver)
quote_refusal quote.UnknownInstrument = Other (cause.Quote quote.UnknownInstrument)
quote_refusal quote.DuplicateQuote = Duplicate (cause.Quote quote.DuplicateQuote)
quote_refusal quote.NotTradeable = Other (cause.Quote quote.NotTradeable)
quote_refusal quote.InvalidPrice = BadPrice (cause.Quote quote.InvalidPrice)
quote_refusal quote.Size = Other (cause.Quote quote.Size)
quote_refusal quote.EndPassed = Late (cause.Quote quote.EndPassed)

abbrev pub withdrawal_refusal : WithdrawalRefusal → Refusal
withdrawal_refusal withdrawal.QuoteMissing = Other (cause.Withdrawal withdrawal.QuoteMissing)
withdrawal_refusal withdrawal.NotFound = UnknownQuote (cause.Withdrawal withdrawal.NotFound)
withdrawal_refusal withdrawal.Unsupported = Other (cause.Withdrawal withdrawal.Unsupported)

abbrev pub response_refusal : ResponseCause → Refusal
response_refusal response.Unsupported = Other (cause.Response response.Unsupported)
response_refusal response.UnknownQuote = UnknownQuote (cause.Response response.UnknownQuote)
response_refusal response.NotYours = NotYours (cause.Response response.NotYours)
response_refusal response.Over = Late (cause.Response response.Over)
response_refusal response.Withdrawn = Late (cause.Response response.Withdrawn)
response_refusal response.Expired = Late (cause.Response response.Expired)
response_refusal response.OtherSide = Other (cause.Response response.OtherSide)
response_refusal response.SideMissing = Other (cause.Response response.SideMissing)
response_refusal response.NoPrice = BadPrice (cause.Response response.NoPrice)

abbrev pub refusal_of : Cause → Refusal
refusal_of (cause.Request c) = request_refusal c
refusal_of (cause.Quote c) = quote_refusal c
refusal_of (cause.Withdrawal c) = withdrawal_refusal c
refusal_of (cause.Response c) = response_refusal c

-- the cause that a refusal carries
abbrev pub cause_of : Refusal → Option Cause
cause_of (TooFew c) = Some c
cause_of (NotUnrelated c) = Some c
cause_of (UnknownRoom c) = Some c
cause_of (Late c) = Some c
cause_of (NotAsked c) = Some c
cause_of (UnknownQuote c) = Some c
cause_of (NotYours c) = Some c
cause_of (Full c) = Some c
cause_of (BadPrice c) = Some c
cause_of (Duplicate c) = Some c
cause_of (Other c) = Some c
cause_of NoMemory = None

-- the refusal is an allocation failure, or that of the cause that holds
abbrev pub IsRefusalOf : Option Cause → Refusal → Option Cause → Type 0
IsRefusalOf holds refusal None = Unit {0}
IsRefusalOf holds refusal (Some c) = (holds ≡ Some c) × (refusal ≡ refusal_of c)

abbrev pub IsRefusedFor : Option Cause → Refusal → Type 0
IsRefusedFor holds refusal = IsRefusalOf holds refusal (cause_of refusal)

-- the same, by kind of request

abbrev pub IsRequestRefused : Option RequestRefusal → Refusal → Type 0
IsRequestRefused holds refusal = IsRefusedFor (option_map (λ c. cause.Request c) holds) refusal

abbrev pub IsQuoteRefused : Option QuoteRefusal → Refusal → Type 0
IsQuoteRefused holds refusal = IsRefusedFor (option_map (λ c. cause.Quote c) holds) refusal

abbrev pub IsWithdrawalRefused : Option WithdrawalRefusal → Refusal → Type 0
IsWithdrawalRefused holds refusal = IsRefusedFor (option_map (λ c. cause.Withdrawal c) holds) refusal

abbrev pub IsResponseRefused : Option ResponseCause → Refusal → Type 0
IsResponseRefused holds refusal = IsRefusedFor (option_map (λ c. cause.Response c) holds) refusal
