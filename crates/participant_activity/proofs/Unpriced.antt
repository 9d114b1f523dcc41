-- No price and no participant's name is in the figures.
use Rattle.std.proofs.Common.{◌≡◌, ℕ, List, [], ◌∷◌, map, Option, None, Some, option_map, refl, ap, ◌∙◌}
use Rattle.fix_dictionary.specs.declared.messages.App.{App}
use Rattle.fix_dictionary.specs.declared.messages.App.TheVariants.{QuoteRequest, Quote, QuoteCancel, QuoteResponse, QuoteStatusReport, QuoteRequestReject, NewOrderSingle, OrderCancelRequest, OrderCancelReplaceRequest, NewOrderCross, ExecutionReport, OrderCancelReject, MarketDataRequest, MarketDataSnapshot, MarketDataRequestReject, BusinessMessageReject, Unsupported}
use Rattle.participant_activity.specs.declared.occasion.Occasion.{Occasion}
use Rattle.participant_activity.specs.Figures.{activity_text}
use Rattle.participant_activity.specs.Kept.{Activity, no_activity}
use Rattle.participant_activity.specs.Laws.{ActivityHasNoPrices, unpriced, unpriced_turn}
use Rattle.participant_activity.specs.Noting.{activity_from, after_all, after_message, after_owed, after_sent, after_turn, occasion_by, occasion_of, seen, with_sent}
use Rattle.participant_activity.specs.Turns.{Turn}

occasion_same : (x : App) → occasion_by (unpriced x) ≡ occasion_by x
unfolding occasion_by
occasion_same (QuoteRequest d) = refl
occasion_same (Quote d) = refl
occasion_same (QuoteCancel d) = refl
occasion_same (QuoteResponse d) = refl
occasion_same (QuoteStatusReport d) = refl
occasion_same (QuoteRequestReject d) = refl
occasion_same (NewOrderSingle d) = refl
occasion_same (OrderCancelRequest d) = refl
occasion_same (OrderCancelReplaceRequest d) = refl
occasion_same (NewOrderCross d) = refl
occasion_same (ExecutionReport d) = refl
occasion_same (OrderCancelReject d) = refl
occasion_same (MarketDataRequest d) = refl
occasion_same (MarketDataSnapshot d) = refl
occasion_same (MarketDataRequestReject d) = refl
occasion_same (BusinessMessageReject d) = refl
occasion_same (Unsupported d) = refl

sent_same : (a : Activity) (x : App) → with_sent a (unpriced x) ≡ with_sent a x
unfolding with_sent
sent_same a (QuoteRequest d) = refl
sent_same a (Quote d) = refl
sent_same a (QuoteCancel d) = refl
sent_same a (QuoteResponse d) = refl
sent_same a (QuoteStatusReport d) = refl
sent_same a (QuoteRequestReject d) = refl
sent_same a (NewOrderSingle d) = refl
sent_same a (OrderCancelRequest d) = refl
sent_same a (OrderCancelReplaceRequest d) = refl
sent_same a (NewOrderCross d) = refl
sent_same a (ExecutionReport d) = refl
sent_same a (OrderCancelReject d) = refl
sent_same a (MarketDataRequest d) = refl
sent_same a (MarketDataSnapshot d) = refl
sent_same a (MarketDataRequestReject d) = refl
sent_same a (BusinessMessageReject d) = refl
sent_same a (Unsupported d) = refl

message_same : (a : Activity) (t : ℕ) (o : Occasion) (x : App) → after_message a t o (unpriced x) ≡ after_message a t o x
unfolding after_message
message_same a t o (QuoteRequest d) = refl
message_same a t o (Quote d) = refl
message_same a t o (QuoteCancel d) = refl
message_same a t o (QuoteResponse d) = refl
message_same a t o (QuoteStatusReport d) = refl
message_same a t o (QuoteRequestReject d) = refl
message_same a t o (NewOrderSingle d) = refl
message_same a t o (OrderCancelRequest d) = refl
message_same a t o (OrderCancelReplaceRequest d) = refl
message_same a t o (NewOrderCross d) = refl
message_same a t o (ExecutionReport d) = refl
message_same a t o (OrderCancelReject d) = refl
message_same a t o (MarketDataRequest d) = refl
message_same a t o (MarketDataSnapshot d) = refl
message_same a t o (MarketDataRequestReject d) = refl
message_same a t o (BusinessMessageReject d) = refl
message_same a t o (Unsupported d) = refl

all_same : (a : Activity) (t : ℕ) (o : Occasion) (xs : List App) → after_all a t o (map unpriced xs) ≡ after_all a t o xs
all_same a t o [] = refl
all_same a t o (x ∷ xs) = ap (λ (b : Activity). after_all b t o (map unpriced xs)) (message_same (seen a t) t o x) ∙ all_same (after_owed a t o x) t o xs

turn_same : (a : Activity) (t : ℕ) (s : Option App) (xs : List App) → after_all (after_sent a t (option_map unpriced s)) t (occasion_of (option_map unpriced s)) (map unpriced xs) ≡ after_all (after_sent a t s) t (occasion_of s) xs
turn_same a t None xs = all_same a t (occasion_of None) xs
turn_same a t (Some x) xs = (λ k. after_all (sent_same (seen a t) x k) t (occasion_same x k) (map unpriced xs)) ∙ all_same (with_sent (seen a t) x) t (occasion_by x) xs

from_same : (a : Activity) (ts : List Turn) → activity_from a (map unpriced_turn ts) ≡ activity_from a ts
from_same a [] = refl
from_same a (t ∷ ts) = ap (λ (b : Activity). activity_from b (map unpriced_turn ts)) (turn_same a t.moment t.sent t.owed) ∙ from_same (after_turn a t) ts

pub activity_has_no_prices : ActivityHasNoPrices
activity_has_no_prices form name ts = ap (activity_text form name) (from_same no_activity ts)
