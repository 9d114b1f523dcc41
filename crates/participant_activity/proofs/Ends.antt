-- Each accepted quote has one end, or none that was reported.
use Rattle.std.proofs.Common.{◌≡◌, ℕ, ◌+◌, ◌-◌, ◌^◌, ◌<◌, ◌≤◌, ◌==◌, Bool, true, false, List, [], ◌∷◌, Option, None, Some, unwrap_or, option_map, if◌then◌else◌, refl, ap, subst, ◌∙◌, arith}
use Rattle.std.specs.BTreeMap.{insert_entry}
use Rattle.std.specs.Cmp.{IsTotalOrder}
use Rattle.std.specs.List.{AllByRecursion, sum_by}
use Rattle.std.specs.List.Sorted.{IsStrictlySortedBy}
use Rattle.std.specs.Map.{keys_of, values_of}
use Rattle.std.specs.Ordering.{match_ordering, nat_cmp, ordering_reverse}
use Rattle.std.specs.declared.cmp.Ordering.{Ordering}
use Rattle.std.specs.declared.cmp.Ordering.TheVariants.{Less, Equal, Greater}
use Rattle.std.specs.Cmp.Lexicographic.{slice_cmp}
use Rattle.std.proofs.lemmas.Cmp.{nat_list_cmp_total, on_total}
use Rattle.std.proofs.lemmas.List.Elements.{All-from_recursion, recursion_from_All}
use Rattle.std.proofs.lemmas.List.Sums.{sum_by-cons}
use Rattle.std.proofs.lemmas.Map.Entries.{sum_by-insert_entry}
use Rattle.std.proofs.lemmas.Map.Views.{All-keys-insert_entry}
use Rattle.fix_dictionary.specs.declared.messages.App.{App}
use Rattle.fix_dictionary.specs.declared.messages.App.TheVariants.{QuoteRequest, Quote, QuoteCancel, QuoteResponse, QuoteStatusReport, QuoteRequestReject, NewOrderSingle, OrderCancelRequest, OrderCancelReplaceRequest, NewOrderCross, ExecutionReport, OrderCancelReject, MarketDataRequest, MarketDataSnapshot, MarketDataRequestReject, BusinessMessageReject, Unsupported}
use Rattle.fix_dictionary.specs.declared.messages.ExecutionReport.{ExecutionReport as Report}
use Rattle.fix_dictionary.specs.declared.messages.QuoteStatusReport.{QuoteStatusReport as Status}
use Rattle.participant_activity.specs.declared.activity.OwnRequest.{OwnRequest}
use Rattle.participant_activity.specs.declared.activity.QuoteCounts.{QuoteCounts}
use Rattle.participant_activity.specs.declared.closing.QuoteEnds.{QuoteEnds}
use Rattle.participant_activity.specs.declared.key.Name.{Name}
use Rattle.participant_activity.specs.declared.occasion.Notice.{Notice}
use Rattle.participant_activity.specs.declared.occasion.Notice.TheVariants as notice
use Rattle.participant_activity.specs.declared.occasion.Occasion.{Occasion}
use Rattle.participant_activity.specs.Figures.{ends_at, ends_from, no_ends, with_live}
use Rattle.participant_activity.specs.Kept.{Activity, name_cmp, no_activity}
use Rattle.participant_activity.specs.Laws.{EndsAreWhole}
use Rattle.participant_activity.specs.Noting.{accepted, activity, activity_from, after_all, after_message, after_notice, after_owed, after_report, after_sent, after_turn, asked_at, asked_in, begins_with, cancelled, count_hit, count_pass, count_withdrawal, ended, ended_at, filled, followed_until, if_first, is_another, is_live, is_past, live_in, named, notice_of, occasion_of, order_traded, plus, put_request, quoted, quoted_in, refused, request_at, room_traded, seen, with_sent}
use Rattle.participant_activity.specs.Turns.{Turn}

-- counts that have not stopped

abbrev top : ℕ
top = 2 ^ 64 - 1

not_stopped : (a b : ℕ) → plus a b < top → plus a b ≡ a + b
not_stopped a b h = omega (arith, h)

within : (a b : ℕ) → a + b < top → plus a b ≡ a + b
within a b h = omega (arith, h)

-- requests in the order of their identifiers

abbrev Requests : Type 0
Requests = List (Name × OwnRequest)

abbrev IsInOrder : Requests → Type 0
IsInOrder rs = IsStrictlySortedBy name_cmp (keys_of rs)

name_total : IsTotalOrder name_cmp
name_total = on_total (λ (a : Name). a.id) nat_list_cmp_total

below_all : (x y : Name) (ys : List Name) → name_cmp x y ≡ Less → AllByRecursion (λ z. name_cmp y z ≡ Less) ys → AllByRecursion (λ z. name_cmp x z ≡ Less) ys
below_all x y [] p a = tt
below_all x y (z ∷ zs) p a = (name_total.trans x y z p a.0, below_all x y zs p a.1)

put_in_order : (rs : Requests) (k : Name) (r : OwnRequest) → IsInOrder rs → IsInOrder (insert_entry name_cmp rs k r)
unfolding IsStrictlySortedBy
put_in_order [] k r s = (tt, tt)
put_in_order (e ∷ es) k r s = by (name_cmp k e.0) refl (put_in_order es k r s.1)
  where
    by : (o : Ordering) → name_cmp k e.0 ≡ o → IsInOrder (insert_entry name_cmp es k r) → IsInOrder (match_ordering o ((k, r) ∷ e ∷ es) ((e.0, r) ∷ es) (e ∷ insert_entry name_cmp es k r))
    by Less p later = ((p, below_all k e.0 (keys_of es) p s.0), s)
    by Equal p later = s
    by Greater p later = let P : Name → Type 0 = λ y. name_cmp e.0 y ≡ Less in (
      recursion_from_All P _ (All-keys-insert_entry name_cmp k r P es (All-from_recursion P _ s.0) (name_total.antisymm e.0 k ∙ ap ordering_reverse p)),
      later,
    )

-- how many have a live quote

abbrev weight : OwnRequest → ℕ
weight r = if r.live then 1 else 0

abbrev alive : Requests → ℕ
alive rs = sum_by weight (values_of rs)

puts : (rs : Requests) (id : List ℕ) (r : OwnRequest) (o : Option OwnRequest) → request_at rs id ≡ o → IsInOrder rs → alive (put_request rs id r) + unwrap_or (option_map weight o) 0 ≡ alive rs + weight r
puts rs id r o e s = subst (λ (x : Option OwnRequest). alive (put_request rs id r) + unwrap_or (option_map weight x) 0 ≡ alive rs + weight r) e (sum_by-insert_entry weight name_total rs (named id) r s)

-- accepted quotes are those that ended and those that are live
record Balanced (q : QuoteCounts) (rs : Requests) : Type 0 where
  sorted : IsInOrder rs
  even : q.accepted < top → q.accepted ≡ q.hit + q.passed + q.withdrawn + q.replaced + q.lapsed + alive rs

abbrev IsBalanced : Activity → Type 0
IsBalanced a = Balanced a.quotes a.asked

-- a live quote ends

record Ends (rs rs' : Requests) (live : Bool) : Type 0 where
  sorted : IsInOrder rs'
  fewer : alive rs' + (if live then 1 else 0) ≡ alive rs

ends_in : (rs : Requests) (id : List ℕ) (o : Option OwnRequest) → request_at rs id ≡ o → IsInOrder rs → Ends rs (ended_at rs id o) (live_in o)
ends_in rs id None e s = record { sorted = s; fewer = omega arith }
ends_in rs id (Some r) e s =
    let gone : OwnRequest = record { moment = r.moment; quoted = r.quoted; live = false; end = r.end } in
    let put : alive (put_request rs id gone) + weight r ≡ alive rs + 0 = puts rs id gone (Some r) e s in
    record { sorted = put_in_order rs (named id) gone s; fewer = put ∙ omega arith }

ends : (rs : Requests) (id : Option (List ℕ)) → IsInOrder rs → Ends rs (ended rs id) (is_live rs id)
ends rs None s = record { sorted = s; fewer = omega arith }
ends rs (Some id) s = ends_in rs id (request_at rs id) refl s

passes : (q : QuoteCounts) (rs rs' : Requests) (live : Bool) → Ends rs rs' live → Balanced q rs → Balanced (count_pass q live) rs'
passes q rs rs' true e b = record { sorted = e.sorted; even = λ h. omega (arith, b.even h, e.fewer, within q.passed 1 (omega (arith, h, b.even h, e.fewer))) }
passes q rs rs' false e b = record { sorted = e.sorted; even = λ h. omega (arith, b.even h, e.fewer) }

withdraws : (q : QuoteCounts) (rs rs' : Requests) (live : Bool) → Ends rs rs' live → Balanced q rs → Balanced (count_withdrawal q live) rs'
withdraws q rs rs' true e b = record { sorted = e.sorted; even = λ h. omega (arith, b.even h, e.fewer, within q.withdrawn 1 (omega (arith, h, b.even h, e.fewer))) }
withdraws q rs rs' false e b = record { sorted = e.sorted; even = λ h. omega (arith, b.even h, e.fewer) }

hits : (q : QuoteCounts) (rs rs' : Requests) (live : Bool) → Ends rs rs' live → Balanced q rs → Balanced (count_hit q live) rs'
hits q rs rs' true e b = record { sorted = e.sorted; even = λ h. omega (arith, b.even h, e.fewer, within q.hit 1 (omega (arith, h, b.even h, e.fewer))) }
hits q rs rs' false e b = record { sorted = e.sorted; even = λ h. omega (arith, b.even h, e.fewer) }

-- a quote is accepted

firsts : (q : QuoteCounts) (rs : Requests) (quoted : Bool) → Balanced q rs → Balanced (if_first q quoted) rs
firsts q rs true b = b
firsts q rs false b = record { sorted = b.sorted; even = b.even }

follows : (q : QuoteCounts) (rs rs' : Requests) (live past : Bool) → IsInOrder rs' → alive rs' + (if live then 1 else 0) ≡ alive rs + 1 → Balanced q rs → Balanced (accepted (if live then followed_until q past else q)) rs'
follows q rs rs' true true s more b = record {
  sorted = s;
  even = λ h.
      let one = not_stopped q.accepted 1 h in
      let before = b.even (omega (arith, one, h)) in
      omega (arith, one, before, more, within q.lapsed 1 (omega (arith, one, before, h)));
}
follows q rs rs' true false s more b = record {
  sorted = s;
  even = λ h.
      let one = not_stopped q.accepted 1 h in
      let before = b.even (omega (arith, one, h)) in
      omega (arith, one, before, more, within q.replaced 1 (omega (arith, one, before, h)));
}
follows q rs rs' false past s more b = record {
  sorted = s;
  even = λ h.
      let one = not_stopped q.accepted 1 h in
      omega (arith, one, b.even (omega (arith, one, h)), more);
}

quotes_in : (a : Activity) (t : ℕ) (end : Option ℕ) (id : List ℕ) (o : Option OwnRequest) → request_at a.asked id ≡ o → IsBalanced a → IsBalanced (quoted_in a t end id o)
quotes_in a t end id None e b = b
quotes_in a t end id (Some r) e b =
    let next : OwnRequest = record { moment = r.moment; quoted = true; live = true; end = end } in
    follows (if_first a.quotes r.quoted) a.asked (put_request a.asked id next) r.live (is_past r.end t) (put_in_order a.asked (named id) next b.sorted) (puts a.asked id next (Some r) e b.sorted) (firsts a.quotes a.asked r.quoted b)

quotes : (a : Activity) (t : ℕ) (end : Option ℕ) (id : Option (List ℕ)) → IsBalanced a → IsBalanced (quoted a t end id)
quotes a t end None b = b
quotes a t end (Some id) b = quotes_in a t end id (request_at a.asked id) refl b

-- each message keeps this

notices : (a : Activity) (t : ℕ) (d : Status) (n : Notice) → IsBalanced a → IsBalanced (after_notice a t d n)
notices a t d (notice.Accepted end) b = quotes a t end d.request_id b
notices a t d notice.Refused b = b
notices a t d notice.Passed b = passes a.quotes a.asked (ended a.asked d.request_id) (is_live a.asked d.request_id) (ends a.asked d.request_id b.sorted) b
notices a t d notice.Withdrawn b = withdraws a.quotes a.asked (ended a.asked d.request_id) (is_live a.asked d.request_id) (ends a.asked d.request_id b.sorted) b
notices a t d notice.NotLive b = record { sorted = b.sorted; even = b.even }
notices a t d notice.Nothing b = b

rooms : (a : Activity) (d : Report) (another : Bool) → IsBalanced a → IsBalanced (room_traded a d another)
rooms a d true b = let id = Some d.venue_order_id in hits a.quotes a.asked (ended a.asked id) (is_live a.asked id) (ends a.asked id b.sorted) b
rooms a d false b = record { sorted = b.sorted; even = b.even }

fills : (a : Activity) (d : Report) (another room : Bool) → IsBalanced a → IsBalanced (if room then room_traded a d another else order_traded a d)
fills a d another true b = rooms a d another b
fills a d another false b = b

reports : (a : Activity) (o : Occasion) (d : Report) → IsBalanced a → IsBalanced (after_report a o d)
reports a o d b = by (d.execution_type == 70) (d.execution_type == 48) (d.execution_type == 52) (d.execution_type == 53) (d.execution_type == 56)
  where
    by : (fill entry cancel replaced refusal : Bool) → IsBalanced (if fill then filled a o d
        else (if entry then record a { orders = record a.orders { entered = plus a.orders.entered 1 } }
        else (if cancel then record a { orders = cancelled a.orders d }
        else (if replaced then record a { orders = record a.orders { replaced = plus a.orders.replaced 1 } }
        else (if refusal then refused a d.text else a)))))
    by true _ _ _ _ = fills _ d (is_another o) (begins_with 82 d.venue_order_id) b
    by false true _ _ _ = b
    by false false true _ _ = b
    by false false false true _ = b
    by false false false false true = b
    by false false false false false = b

asks : (rs : Requests) (t : ℕ) (id : List ℕ) (o : Option OwnRequest) → request_at rs id ≡ o → IsInOrder rs → Ends rs (asked_at rs t id o) false
asks rs t id None e s =
    let r : OwnRequest = record { moment = t; quoted = false; live = false; end = None } in
    record { sorted = put_in_order rs (named id) r s; fewer = puts rs id r None e s ∙ omega arith }
asks rs t id (Some r) e s = record { sorted = s; fewer = omega arith }

messages : (a : Activity) (t : ℕ) (o : Occasion) (x : App) → IsBalanced a → IsBalanced (after_message a t o x)
unfolding after_message
messages a t o (QuoteRequest d) b =
    let e = asks a.asked t d.request_id (request_at a.asked d.request_id) refl b.sorted in
    record { sorted = e.sorted; even = λ h. omega (arith, b.even h, e.fewer) }
messages a t o (Quote d) b = b
messages a t o (QuoteCancel d) b = b
messages a t o (QuoteResponse d) b = b
messages a t o (QuoteStatusReport d) b = notices a t d (notice_of o d.status) b
messages a t o (QuoteRequestReject d) b = b
messages a t o (NewOrderSingle d) b = b
messages a t o (OrderCancelRequest d) b = b
messages a t o (OrderCancelReplaceRequest d) b = b
messages a t o (NewOrderCross d) b = b
messages a t o (ExecutionReport d) b = reports a o d b
messages a t o (OrderCancelReject d) b = b
messages a t o (MarketDataRequest d) b = b
messages a t o (MarketDataSnapshot d) b = b
messages a t o (MarketDataRequestReject d) b = b
messages a t o (BusinessMessageReject d) b = b
messages a t o (Unsupported d) b = b

sends : (a : Activity) (x : App) → IsBalanced a → IsBalanced (with_sent a x)
unfolding with_sent
sends a (QuoteRequest d) b = record { sorted = b.sorted; even = b.even }
sends a (Quote d) b = record { sorted = b.sorted; even = b.even }
sends a (QuoteCancel d) b = b
sends a (QuoteResponse d) b = b
sends a (QuoteStatusReport d) b = b
sends a (QuoteRequestReject d) b = b
sends a (NewOrderSingle d) b = b
sends a (OrderCancelRequest d) b = b
sends a (OrderCancelReplaceRequest d) b = b
sends a (NewOrderCross d) b = b
sends a (ExecutionReport d) b = b
sends a (OrderCancelReject d) b = b
sends a (MarketDataRequest d) b = b
sends a (MarketDataSnapshot d) b = b
sends a (MarketDataRequestReject d) b = b
sends a (BusinessMessageReject d) b = b
sends a (Unsupported d) b = b

-- and so does each turn

all_of_turn : (a : Activity) (t : ℕ) (o : Occasion) (xs : List App) → IsBalanced a → IsBalanced (after_all a t o xs)
all_of_turn a t o [] b = b
all_of_turn a t o (x ∷ xs) b = all_of_turn (after_owed a t o x) t o xs (messages (seen a t) t o x b)

sent_of_turn : (a : Activity) (t : ℕ) (s : Option App) → IsBalanced a → IsBalanced (after_sent a t s)
sent_of_turn a t None b = b
sent_of_turn a t (Some x) b = sends (seen a t) x b

turns : (a : Activity) (ts : List Turn) → IsBalanced a → IsBalanced (activity_from a ts)
turns a [] b = b
turns a (t ∷ ts) b = turns (after_turn a t) ts (all_of_turn (after_sent a t.moment t.sent) t.moment (occasion_of t.sent) t.owed (sent_of_turn a t.moment t.sent b))

-- the quotes that no message ended

closes : (last : ℕ) (n : QuoteEnds) (rs : Requests) → n.lapsed + n.unreported + alive rs < top → (ends_from last n rs).lapsed + (ends_from last n rs).unreported ≡ n.lapsed + n.unreported + alive rs
closes last n [] h = omega arith
closes last n (r ∷ rs) h = by (λ m. closes last m rs) r.1.live (is_past r.1.end last) (sum_by-cons weight r.1 (values_of rs))
  where
    by : ((m : QuoteEnds) → m.lapsed + m.unreported + alive rs < top → (ends_from last m rs).lapsed + (ends_from last m rs).unreported ≡ m.lapsed + m.unreported + alive rs) → (live past : Bool) → alive (r ∷ rs) ≡ (if live then 1 else 0) + alive rs → let m = if live then with_live n past else n in (ends_from last m rs).lapsed + (ends_from last m rs).unreported ≡ n.lapsed + n.unreported + alive (r ∷ rs)
    by rest true true e =
        let one = within n.lapsed 1 (omega (arith, e, h)) in
        omega (arith, e, one, rest (with_live n true) (omega (arith, e, one, h)))
    by rest true false e =
        let one = within n.unreported 1 (omega (arith, e, h)) in
        omega (arith, e, one, rest (with_live n false) (omega (arith, e, one, h)))
    by rest false past e = omega (arith, e, rest n (omega (arith, e, h)))

none_in_order : IsInOrder []
unfolding IsStrictlySortedBy
none_in_order = tt

pub ends_are_whole : EndsAreWhole
ends_are_whole ts h =
    let a = activity ts in
    let whole = (turns no_activity ts (record { sorted = none_in_order; even = λ k. refl })).even h in
    let left = closes (unwrap_or a.last 0) no_ends a.asked (omega (arith, h, whole)) in
    omega (arith, whole, left, within a.quotes.lapsed (ends_at a.last a.asked).lapsed (omega (arith, h, whole, left)))
