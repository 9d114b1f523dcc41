use Rattle.std.specs.Prelude.{Option, Some, None}
use Rattle.rfq_room.specs.declared.refusal.Cause.{Cause}
use Rattle.rfq_room.specs.declared.refusal.Cause.TheVariants as cause

-- the cause, if any, refuses a request for quotes
abbrev pub IsOfRequest : Option Cause → Type 0
IsOfRequest None = Unit {0}
IsOfRequest (Some (cause.Request c)) = Unit {0}
IsOfRequest (Some (cause.Quote c)) = ⊥
IsOfRequest (Some (cause.Withdrawal c)) = ⊥
IsOfRequest (Some (cause.Response c)) = ⊥

-- the cause, if any, refuses a quote
abbrev pub IsOfQuote : Option Cause → Type 0
IsOfQuote None = Unit {0}
IsOfQuote (Some (cause.Request c)) = ⊥
IsOfQuote (Some (cause.Quote c)) = Unit {0}
IsOfQuote (Some (cause.Withdrawal c)) = ⊥
IsOfQuote (Some (cause.Response c)) = ⊥

-- the cause, if any, refuses a withdrawal
abbrev pub IsOfWithdrawal : Option Cause → Type 0
IsOfWithdrawal None = Unit {0}
IsOfWithdrawal (Some (cause.Request c)) = ⊥
IsOfWithdrawal (Some (cause.Quote c)) = ⊥
IsOfWithdrawal (Some (cause.Withdrawal c)) = Unit {0}
IsOfWithdrawal (Some (cause.Response c)) = ⊥

-- the cause, if any, refuses a quote response
abbrev pub IsOfResponse : Option Cause → Type 0
IsOfResponse None = Unit {0}
IsOfResponse (Some (cause.Request c)) = ⊥
IsOfResponse (Some (cause.Quote c)) = ⊥
IsOfResponse (Some (cause.Withdrawal c)) = ⊥
IsOfResponse (Some (cause.Response c)) = Unit {0}
