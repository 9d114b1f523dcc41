use Rattle.std.proofs.Common.{◌≡◌, refl, sym, ap, ap₂, ◌∙◌, ℕ, suc, ◌+◌, cond, ◌==◌, List, [], ◌∷◌, ◌++◌, map, Option, Some, None, option_map}
use Rattle.std.proofs.lemmas.List.{map-append}
use Rattle.fix_dictionary.specs.declared.messages.App.{App}
use Rattle.fix_dictionary.specs.declared.messages.App.TheVariants.{QuoteRequest, Quote, QuoteCancel, QuoteResponse, QuoteStatusReport, QuoteRequestReject, NewOrderSingle, OrderCancelRequest, OrderCancelReplaceRequest, NewOrderCross, ExecutionReport, OrderCancelReject, MarketDataRequest, MarketDataSnapshot, MarketDataRequestReject, BusinessMessageReject, Unsupported}
use Rattle.participants.specs.ParticipantFile.{ParticipantFile}
use Rattle.venue_rules.specs.declared.facts.Fact.{Fact}
use Rattle.venue_rules.specs.declared.facts.HeldSide.{HeldSide}
use Rattle.venue_rules.specs.declared.replies.Reply.{Reply}
use Rattle.venue_rules.specs.declared.replies.ReplyBody.{ReplyBody}
use Rattle.venue_rules.specs.declared.replies.ReplyBody.TheVariants.{OrderRefused, CrossRefused, OrderEntered, OrderFilled, OrderUnfilled, OrderCancelled, OrderReplaced, ChangeRefused, RequestRefused, RequestSent, QuoteStatus, QuoteSent, RoomTraded, BookSnapshot, MarketDataReject, BusinessReject}
use Rattle.venue_rules.specs.Market.{Market}
use Rattle.venue_rules.specs.Facts.{History, no_history}
use Rattle.venue_rules.specs.Delay.{due}
use Rattle.venue_rules.specs.Answer.{Answer, Sender}
use Rattle.venue_rules.specs.Answers.{answer_app, type_of}
use Rattle.venue_rules.specs.Run.{Input, Message, Outcome, Tick, after, answer_due_of, answer_input, is_report, run_from}
use Rattle.venue_rules.proofs.Reports.{count_reports, reports_in}
use Rattle.market_laws.specs.Renaming.{IsRenamed, NobodyIsPreferred, Renaming, renamed_app, renamed_body, renamed_fact, renamed_held, renamed_input, renamed_outcome, renamed_reply}
use Rattle.market_laws.proofs.RenamedFacts.{due_r, with_file}
use Rattle.market_laws.proofs.RenamedAnswers.{answer_r, cancel_r, cross_r, due_side_r, history_r, market_data_r, order_r, quote_r, replace_r, request_r, response_r, sender_r, withdrawal_of_r}

-- Over every list of inputs, with renamed participants.

app_r : (m : Market) (r : Renaming) (file : ParticipantFile) → IsRenamed r m.participants file → (h : History) (s : Sender) (a : App) (t : ℕ) → answer_app (with_file m file) (history_r r h) (sender_r r s) (renamed_app r a) t ≡ answer_r r (answer_app m h s a t)
app_r m r file k h s (QuoteRequest d) t = request_r m r file k h s d t
app_r m r file k h s (Quote d) t = quote_r m r file k h s d t
app_r m r file k h s (QuoteCancel d) t = withdrawal_of_r m r file k h s d t (d.cancel_type == 5) (d.cancel_type == 4)
app_r m r file k h s (QuoteResponse d) t = response_r m r file k h s d t
app_r m r file k h s (NewOrderSingle d) t = order_r m r file k h s d t
app_r m r file k h s (OrderCancelRequest d) t = cancel_r m r file k h s d
app_r m r file k h s (OrderCancelReplaceRequest d) t = replace_r m r file k h s d t
app_r m r file k h s (NewOrderCross d) t = cross_r m r file k h s d t
app_r m r file k h s (MarketDataRequest d) t = market_data_r m r file h s d
app_r m r file k h s (BusinessMessageReject d) t = refl
app_r m r file k h s (QuoteStatusReport d) t = refl
app_r m r file k h s (QuoteRequestReject d) t = refl
app_r m r file k h s (ExecutionReport d) t = refl
app_r m r file k h s (OrderCancelReject d) t = refl
app_r m r file k h s (MarketDataSnapshot d) t = refl
app_r m r file k h s (MarketDataRequestReject d) t = refl
app_r m r file k h s (Unsupported kind) t = refl

-- a renamed message is of the same type
type_r : (r : Renaming) (a : App) → type_of (renamed_app r a) ≡ type_of a
type_r r (QuoteRequest d) = refl
type_r r (Quote d) = refl
type_r r (QuoteCancel d) = refl
type_r r (QuoteResponse d) = refl
type_r r (NewOrderSingle d) = refl
type_r r (OrderCancelRequest d) = refl
type_r r (OrderCancelReplaceRequest d) = refl
type_r r (NewOrderCross d) = refl
type_r r (MarketDataRequest d) = refl
type_r r (BusinessMessageReject d) = refl
type_r r (QuoteStatusReport d) = refl
type_r r (QuoteRequestReject d) = refl
type_r r (ExecutionReport d) = refl
type_r r (OrderCancelReject d) = refl
type_r r (MarketDataSnapshot d) = refl
type_r r (MarketDataRequestReject d) = refl
type_r r (Unsupported kind) = refl

due_of_r : (m : Market) (r : Renaming) (file : ParticipantFile) → IsRenamed r m.participants file → (h : History) (o : Option HeldSide) → answer_due_of (with_file m file) (history_r r h) (option_map (renamed_held r) o) ≡ answer_r r (answer_due_of m h o)
due_of_r m r file k h None = refl
due_of_r m r file k h (Some x) = due_side_r m r file k h x

input_r : (m : Market) (r : Renaming) (file : ParticipantFile) → IsRenamed r m.participants file → (h : History) (i : Input) → answer_input (with_file m file) (history_r r h) (renamed_input r i) ≡ answer_r r (answer_input m h i)
input_r m r file k h (Message taken t) =
    ap (λ kind. answer_app (with_file m file) (history_r r h) (record { who = r.place taken.from; number = taken.item.number; kind = kind }) (renamed_app r taken.item.app) t) (type_r r taken.item.app)
    ∙ app_r m r file k h (record { who = taken.from; number = taken.item.number; kind = type_of taken.item.app }) taken.item.app t
input_r m r file k h (Tick t) = ap (answer_due_of (with_file m file) (history_r r h)) (due_r r m.participants file k h.facts t) ∙ due_of_r m r file k h (due h.facts t)

-- the count of reports

report_r : (r : Renaming) (b : ReplyBody) → is_report (renamed_body r b) ≡ is_report b
report_r r (OrderRefused x) = refl
report_r r (CrossRefused x) = refl
report_r r (OrderEntered x) = refl
report_r r (OrderFilled x) = refl
report_r r (OrderUnfilled x) = refl
report_r r (OrderCancelled x) = refl
report_r r (OrderReplaced x) = refl
report_r r (ChangeRefused x) = refl
report_r r (RequestRefused x) = refl
report_r r (RequestSent x) = refl
report_r r (QuoteStatus x) = refl
report_r r (QuoteSent x) = refl
report_r r (RoomTraded x) = refl
report_r r (BookSnapshot x) = refl
report_r r (MarketDataReject x) = refl
report_r r (BusinessReject x) = refl

counted_r : (r : Renaming) (rs : List Reply) → reports_in (map (renamed_reply r) rs) ≡ reports_in rs
counted_r r [] = refl
counted_r r (x ∷ xs) = ap₂ (λ b n. cond b (suc n) n) (report_r r x.what) (counted_r r xs)

after_r : (r : Renaming) (h : History) (a : Answer) → after (history_r r h) (answer_r r a) ≡ history_r r (after h a)
after_r r h a =
    ap₂ (λ (fs : List Fact) (n : ℕ). let x : History = record { facts = fs; reports = h.reports + n } in x) (sym (map-append (renamed_fact r) h.facts a.facts))
    (count_reports (map (renamed_reply r) a.replies) ∙ (counted_r r a.replies ∙ sym (count_reports a.replies)))

-- the run

both_r : (fs gs : List Fact) (n k : ℕ) (rs ss : List Reply) → fs ≡ gs → n ≡ k → rs ≡ ss → let x : Outcome = record { history = record { facts = fs; reports = n }; replies = rs } in let y : Outcome = record { history = record { facts = gs; reports = k }; replies = ss } in x ≡ y
both_r fs gs n k rs ss e f g = ap₂ (λ (p : History) (qs : List Reply). let x : Outcome = record { history = p; replies = qs } in x) (ap₂ (λ (p : List Fact) (q : ℕ). let x : History = record { facts = p; reports = q } in x) e f) g

run_r : (m : Market) (r : Renaming) (file : ParticipantFile) → IsRenamed r m.participants file → (h : History) (is : List Input) → run_from (with_file m file) (history_r r h) (map (renamed_input r) is) ≡ renamed_outcome r (run_from m h is)
run_r m r file k h [] = refl
run_r m r file k h (i ∷ is) =
    let a : Answer = answer_input m h i in
    let rest : run_from (with_file m file) (after (history_r r h) (answer_r r a)) (map (renamed_input r) is) ≡ renamed_outcome r (run_from m (after h a) is) = ap (λ g. run_from (with_file m file) g (map (renamed_input r) is)) (after_r r h a) ∙ run_r m r file k (after h a) is in
    ap (λ (b : Answer). let x : Outcome = record { history = (run_from (with_file m file) (after (history_r r h) b) (map (renamed_input r) is)).history; replies = b.replies ++ (run_from (with_file m file) (after (history_r r h) b) (map (renamed_input r) is)).replies } in x) (input_r m r file k h i)
    ∙ (ap (λ (o : Outcome). let x : Outcome = record { history = o.history; replies = map (renamed_reply r) a.replies ++ o.replies } in x) rest
    ∙ both_r _ _ _ _ _ _ refl refl (sym (map-append (renamed_reply r) a.replies (run_from m (after h a) is).replies)))

pub nobody_is_preferred : NobodyIsPreferred
nobody_is_preferred m r new_file is k = run_r m r new_file k no_history is
