-- The quotes that are kept are those of the facts, each as it was made, in its room; and those that are live are found.
use Rattle.std.proofs.Common.{◌≡◌, refl, sym, ap, subst, ◌∙◌, ◌⊎◌, inl, inr, ℕ, ℤ, ◌==◌, Bool, true, false, not, ◌&&◌, ◌||◌, nat_le, cond, if◌then◌else◌, List, [], ◌∷◌, ◌++◌, map, filter, find, Option, Some, None, Contains, append-nil, append_assoc, eqb-true, eq-eqb}
use Rattle.std.specs.Prelude.{bytes_eq}
use Rattle.std.specs.List.{cons_option, filter_map, flat_map, list_any}
use Rattle.std.proofs.lemmas.Bool.{true≢false}
use Rattle.std.proofs.lemmas.List.Elements.{filter_map-append}
use Rattle.std.proofs.lemmas.Slice.Eq.{bytes_eq-Decides}
use Rattle.fix_dictionary.specs.declared.messages.App.{App}
use Rattle.fix_dictionary.specs.declared.messages.App.TheVariants.{QuoteRequest, Quote, QuoteCancel, QuoteResponse, QuoteStatusReport, QuoteRequestReject, NewOrderSingle, OrderCancelRequest, OrderCancelReplaceRequest, NewOrderCross, ExecutionReport, OrderCancelReject, MarketDataRequest, MarketDataSnapshot, MarketDataRequestReject, BusinessMessageReject, Unsupported}
use Rattle.fix_dictionary.specs.declared.messages.QuoteRequest.{QuoteRequest as RequestMessage}
use Rattle.fix_dictionary.specs.declared.messages.Quote.{Quote as QuoteMessage}
use Rattle.fix_dictionary.specs.declared.messages.QuoteResponse.{QuoteResponse as ResponseMessage}
use Rattle.fix_dictionary.specs.declared.values.Side.{Side}
use Rattle.venue_rules.specs.declared.facts.Fact.{Fact}
use Rattle.venue_rules.specs.declared.facts.Room.{Room}
use Rattle.venue_rules.specs.declared.facts.RoomQuote.{RoomQuote}
use Rattle.instruments.specs.Listing.{symbol_of}
use Rattle.venue_rules.specs.declared.replies.QuoteState.TheVariants.{Accepted, Withdrawn}
use Rattle.venue_rules.specs.declared.replies.Reply.{Reply}
use Rattle.venue_rules.specs.Answer.{Answer, Sender}
use Rattle.venue_rules.specs.Answers.{answer_app, type_of}
use Rattle.venue_rules.specs.Changes.{named}
use Rattle.venue_rules.specs.Delay.{due}
use Rattle.venue_rules.specs.Facts.{History, is_name, is_quote_id_used, no_history, quote_in, quotes, room_in, rooms}
use Rattle.venue_rules.specs.Market.{Market}
use Rattle.venue_rules.specs.MoreInputs.{answer_after}
use Rattle.venue_rules.specs.Quotes.{answer_quote_of, quote_refusals, quote_accepted, quote_sent, quote_status, quoted, shown_with}
use Rattle.venue_rules.specs.Requests.{answer_request, request_accepted, request_refusals, opened}
use Rattle.venue_rules.specs.Responses.{answer_response, answer_response_to, answer_response_in, answer_hit, answer_hit_at, response_refusals, kind_refusals, taken_side, price_for}
use Rattle.venue_rules.specs.Rooms.{find_room, find_quote, first_quote, is_closed, is_live, is_replaced, is_withdrawn, live_quotes, printed, room_by_number}
use Rattle.venue_rules.specs.Run.{Input, Message, Tick, after, answer_due_of, answer_input, run, run_from}
use Rattle.venue_rules.specs.Withdrawals.{both_emitted, not_found, to_maker, to_requester, withdrawn_or}
use Rattle.resting_orders.specs.declared.quoting.OwnQuote.{OwnQuote}
use Rattle.resting_orders.specs.Laws.{AreOwn, IsOwn, QuotesAgree}
use Rattle.resting_orders.specs.Quoting.{first_withdraws, live_at, live_own, own_quote, quoted_as, quoted_at, quoted_by, quoted_from, quoted_in, quoted_on, still_live, still_live_at, withdrawal}
use Rattle.resting_orders.proofs.Entering.{NoneHolds, and_left, and_right, first_turns}
use Rattle.venue_rules.proofs.Members.{Contains-from_In, In, In-append_cases, In-append_left, In-find, In-from_Contains}
use Rattle.trade_blotter.proofs.Lists.{In-filtered, none_is_some, same_some}
use Rattle.resting_orders.proofs.Members.{In-filter_kept, filter_passes, some_found}
use Rattle.resting_orders.proofs.Requesting.{Lacks, Misses, cancel_lacks, cross_lacks, due_lacks, market_data_lacks, order_lacks, replace_lacks, withdrawal_lacks}

-- What an answer adds: no quote, or one, which is kept.

no_quotes : Misses quote_in
no_quotes = record { entered = λ e. refl; traded = λ t. refl; removed = λ r. refl; held = λ k. refl; unheld = λ u. refl; withdrawn = λ w. refl }

pub record OneQuote (m : Market) (h : History) (kept : List OwnQuote) (a : Answer) : Type 0 where
  pub quote : RoomQuote
  pub room : Room
  pub there : In room (rooms h.facts)
  pub number : room.number ≡ quote.room
  pub only : quotes a.facts ≡ quote ∷ []
  pub own : kept ≡ own_quote m room quote ∷ []
  pub fresh : is_quote_id_used h.facts quote.maker quote.id ≡ false

abbrev Turns : Market → History → List OwnQuote → Answer → Type 0
Turns m h kept a = (Lacks quote_in a × (kept ≡ [])) ⊎ OneQuote m h kept a

request_lacks : (m : Market) (g : History) (s : Sender) (d : RequestMessage) (t : ℕ) → Lacks quote_in (answer_request m g s d t)
request_lacks m g s d t = first_turns (Lacks quote_in) (request_refusals m g s d t) (request_accepted m (opened m g s d t)) (refl, (refl, (refl, (refl, (refl, (refl, (refl, (refl, (refl, (refl, tt)))))))))) (λ n. refl)

hit_lacks : (m : Market) (g : History) (s : Sender) (r : Room) (q : RoomQuote) (d : ResponseMessage) (t : ℕ) (side : Option Side) → Lacks quote_in (answer_hit m g s r q d t side)
hit_lacks m g s r q d t None = refl
hit_lacks m g s r q d t (Some side) = at (price_for side q)
  where
    at : (p : Option ℤ) → Lacks quote_in (answer_hit_at m g s r q d t side p)
    at None = refl
    at (Some p) = refl

response_lacks : (m : Market) (g : History) (s : Sender) (d : ResponseMessage) (t : ℕ) → Lacks quote_in (answer_response m g s d t)
response_lacks m g s d t = first_turns (Lacks quote_in) (kind_refusals s d) (answer_response_to m g s d t (find_quote g.facts d.quote_id)) (refl, tt) (λ n. to (find_quote g.facts d.quote_id))
  where
    inside : (q : RoomQuote) (r : Option Room) → Lacks quote_in (answer_response_in m g s q d t r)
    inside q None = refl
    inside q (Some r) =
        first_turns (Lacks quote_in) (response_refusals m g s r q d t) (answer_hit m g s r q d t (taken_side r.side d.side)) (refl, (refl, (refl, (refl, (refl, (refl, tt))))))
        (λ n. hit_lacks m g s r q d t (taken_side r.side d.side))

    to : (q : Option RoomQuote) → Lacks quote_in (answer_response_to m g s d t q)
    to None = refl
    to (Some q) = inside q (room_by_number g.facts q.room)

quote_accepted_turns : (m : Market) (h : History) (s : Sender) (d : QuoteMessage) (r : Room) → find_room h.facts d.request_id ≡ Some r → is_quote_id_used h.facts s.who d.quote_id ≡ false
    → OneQuote m h (quoted_as s.who (Some d) (quote_accepted m h s r d).replies) (quote_accepted m h s r d)
quote_accepted_turns m h s d r found fresh = record {
  quote = quoted h s r d;
  room = r;
  there = (In-find (λ (x : Room). bytes_eq (printed 82 x.number) d.request_id) (rooms h.facts) r found).0;
  number = refl;
  only = refl;
  own = by (first_quote h.facts r.number) ∙ ap (λ (id : List ℕ). record (own_quote m r (quoted h s r d)) { request = id } ∷ []) (sym named);
  fresh = fresh;
}
  where
    named : printed 82 r.number ≡ d.request_id
    named = (bytes_eq-Decides (printed 82 r.number) d.request_id).0 (In-find (λ (x : Room). bytes_eq (printed 82 x.number) d.request_id) (rooms h.facts) r found).1

    status : Reply
    status = quote_status s d (Some (symbol_of m.instruments r.instrument)) Accepted

    by : (o : Option RoomQuote) → quoted_as s.who (Some d) (status ∷ shown_with m h r o ++ quote_sent m r (quoted h s r d) ∷ []) ≡ record (own_quote m r (quoted h s r d)) { request = d.request_id } ∷ []
    by None = refl
    by (Some q) = refl

quote_turns : (m : Market) (h : History) (s : Sender) (d : QuoteMessage) (t : ℕ) (o : Option Room) → find_room h.facts d.request_id ≡ o → Turns m h (quoted_as s.who (Some d) (answer_quote_of m h s d t o).replies) (answer_quote_of m h s d t o)
quote_turns m h s d t None is = inl (refl, refl)
quote_turns m h s d t (Some r) is =
    first_turns (λ (a : Answer). Turns m h (quoted_as s.who (Some d) a.replies) a) (quote_refusals m h s r d t) (quote_accepted m h s r d)
    (inl (refl, refl), (inl (refl, refl), (inl (refl, refl), (inl (refl, refl), (inl (refl, refl), (inl (refl, refl), (inl (refl, refl), (inl (refl, refl), tt))))))))
    (λ n. inr (quote_accepted_turns m h s d r is n.1.1.1.0))

other_turns : (m : Market) (h : History) (s : Sender) (a : App) (x : Answer) → quoted_in a ≡ None → Lacks quote_in x → Turns m h (quoted_as s.who (quoted_in a) x.replies) x
other_turns m h s a x none lacks = inl (lacks, ap (λ (o : Option QuoteMessage). quoted_as s.who o x.replies) none)

app_turns : (m : Market) (h : History) (s : Sender) (a : App) (t : ℕ) → Turns m h (quoted_as s.who (quoted_in a) (answer_app m h s a t).replies) (answer_app m h s a t)
app_turns m h s (Quote d) t = quote_turns m h s d t (find_room h.facts d.request_id) refl
app_turns m h s (QuoteRequest d) t = other_turns m h s (QuoteRequest d) (answer_app m h s (QuoteRequest d) t) refl (request_lacks m h s d t)
app_turns m h s (QuoteCancel d) t = other_turns m h s (QuoteCancel d) (answer_app m h s (QuoteCancel d) t) refl (withdrawal_lacks quote_in no_quotes m h s d t (d.cancel_type == 5) (d.cancel_type == 4))
app_turns m h s (QuoteResponse d) t = other_turns m h s (QuoteResponse d) (answer_app m h s (QuoteResponse d) t) refl (response_lacks m h s d t)
app_turns m h s (NewOrderSingle d) t = other_turns m h s (NewOrderSingle d) (answer_app m h s (NewOrderSingle d) t) refl (order_lacks quote_in no_quotes m h s d t)
app_turns m h s (OrderCancelRequest d) t = other_turns m h s (OrderCancelRequest d) (answer_app m h s (OrderCancelRequest d) t) refl (cancel_lacks quote_in no_quotes m h s d (named h s.who d.original_id))
app_turns m h s (OrderCancelReplaceRequest d) t = other_turns m h s (OrderCancelReplaceRequest d) (answer_app m h s (OrderCancelReplaceRequest d) t) refl (replace_lacks quote_in no_quotes m h s d t (named h s.who d.original_id))
app_turns m h s (NewOrderCross d) t = other_turns m h s (NewOrderCross d) (answer_app m h s (NewOrderCross d) t) refl (cross_lacks quote_in no_quotes m h s d t)
app_turns m h s (MarketDataRequest d) t = other_turns m h s (MarketDataRequest d) (answer_app m h s (MarketDataRequest d) t) refl (market_data_lacks quote_in m h s d)
app_turns m h s (BusinessMessageReject d) t = inl (refl, refl)
app_turns m h s (QuoteStatusReport d) t = inl (refl, refl)
app_turns m h s (QuoteRequestReject d) t = inl (refl, refl)
app_turns m h s (ExecutionReport d) t = inl (refl, refl)
app_turns m h s (OrderCancelReject d) t = inl (refl, refl)
app_turns m h s (MarketDataSnapshot d) t = inl (refl, refl)
app_turns m h s (MarketDataRequestReject d) t = inl (refl, refl)
app_turns m h s (Unsupported kind) t = inl (refl, refl)

input_turns : (m : Market) (h : History) (i : Input) → Turns m h (quoted_at i (answer_input m h i).replies) (answer_input m h i)
input_turns m h (Message taken t) = app_turns m h (record { who = taken.from; number = taken.item.number; kind = type_of taken.item.app }) taken.item.app t
input_turns m h (Tick t) = inl (due_lacks quote_in no_quotes m h (due h.facts t), refl)

-- What is kept after inputs.

-- no two quotes of one maker have one identifier
abbrev Alone : List RoomQuote → Type 0
Alone qs = (p q : RoomQuote) → In p qs → In q qs → p.maker ≡ q.maker → p.id ≡ q.id → p ≡ q

own_more : (m : Market) (fs gs : List Fact) (qs : List RoomQuote) (ks : List OwnQuote) → AreOwn m fs qs ks → AreOwn m (fs ++ gs) qs ks
own_more m fs gs [] [] own = tt
own_more m fs gs [] (k ∷ ks) own = absurd own
own_more m fs gs (q ∷ qs) [] own = absurd own
own_more m fs gs (q ∷ qs) (k ∷ ks) own = ((own.0.0, in_more own.0.0 own.0.1, own.0.2, own.0.3), own_more m fs gs qs ks own.1)
  where
    in_more : (r : Room) → Contains (rooms fs) r → Contains (rooms (fs ++ gs)) r
    in_more r c = subst (λ (l : List Room). Contains l r) (sym (filter_map-append room_in fs gs)) (Contains-from_In (rooms fs ++ rooms gs) r (In-append_left (rooms fs) (rooms gs) r (In-from_Contains (rooms fs) r c)))

own_append : (m : Market) (fs : List Fact) (qs ps : List RoomQuote) (ks ls : List OwnQuote) → AreOwn m fs qs ks → AreOwn m fs ps ls → AreOwn m fs (qs ++ ps) (ks ++ ls)
own_append m fs [] ps [] ls a b = b
own_append m fs [] ps (k ∷ ks) ls a b = absurd a
own_append m fs (q ∷ qs) ps [] ls a b = absurd a
own_append m fs (q ∷ qs) ps (k ∷ ks) ls a b = (a.0, own_append m fs qs ps ks ls a.1 b)

-- an identifier of a quote is used

some_passes : {X : Type 0} (p : X → Bool) (xs : List X) (x : X) → In x xs → p x ≡ true → list_any p xs ≡ true
some_passes p [] x i e = absurd i
some_passes p (y ∷ ys) x (inl same) e = ap (λ (b : Bool). b || list_any p ys) (ap p same ∙ e)
some_passes p (y ∷ ys) x (inr i) e = by (p y) (some_passes p ys x i e)
  where
    by : (b : Bool) → list_any p ys ≡ true → (b || list_any p ys) ≡ true
    by true k = refl
    by false k = k

both_true : (a b : Bool) → a ≡ true → b ≡ true → (a && b) ≡ true
both_true true b e k = k
both_true false b e k = absurd (true≢false (sym e))

used : (fs : List Fact) (q : RoomQuote) → In q (quotes fs) → is_quote_id_used fs q.maker q.id ≡ true
used fs q i = some_passes (λ (x : RoomQuote). is_name q.maker q.id x.maker x.id) (quotes fs) q i (both_true (q.maker == q.maker) (bytes_eq q.id q.id) (eq-eqb q.maker q.maker refl) ((bytes_eq-Decides q.id q.id).1 refl))

alone_more : (fs : List Fact) (new : RoomQuote) → is_quote_id_used fs new.maker new.id ≡ false → Alone (quotes fs) → Alone (quotes fs ++ new ∷ [])
alone_more fs new fresh before p q a b maker id = by (In-append_cases (quotes fs) (new ∷ []) p a) (In-append_cases (quotes fs) (new ∷ []) q b)
  where
    taken : (x : RoomQuote) → In x (quotes fs) → x.maker ≡ new.maker → x.id ≡ new.id → ⊥
    taken x i maker id = true≢false (sym (used fs x i) ∙ ((λ n. is_quote_id_used fs (maker n) (id n)) ∙ fresh))

    by : In p (quotes fs) ⊎ In p (new ∷ []) → In q (quotes fs) ⊎ In q (new ∷ []) → p ≡ q
    by (inl x) (inl y) = before p q x y maker id
    by (inl x) (inr (inl e)) = absurd (taken p x (maker ∙ ap (λ (y : RoomQuote). y.maker) (sym e)) (id ∙ ap (λ (y : RoomQuote). y.id) (sym e)))
    by (inl x) (inr (inr y)) = absurd y
    by (inr (inl e)) (inl y) = absurd (taken q y (sym maker ∙ ap (λ (y : RoomQuote). y.maker) (sym e)) (sym id ∙ ap (λ (y : RoomQuote). y.id) (sym e)))
    by (inr (inl e)) (inr (inl f)) = sym e ∙ f
    by (inr (inl e)) (inr (inr y)) = absurd y
    by (inr (inr x)) y = absurd x

pub record AreKept (m : Market) (fs : List Fact) (ks : List OwnQuote) : Type 0 where
  pub own : AreOwn m fs (quotes fs) ks
  pub alone : (p q : RoomQuote) → In p (quotes fs) → In q (quotes fs) → p.maker ≡ q.maker → p.id ≡ q.id → p ≡ q

kept_more : (m : Market) (h : History) (a : Answer) (ks new : List OwnQuote) → Turns m h new a → AreKept m h.facts ks → AreKept m (h.facts ++ a.facts) (ks ++ new)
kept_more m h a ks new (inl p) before =
    let same : quotes (h.facts ++ a.facts) ≡ quotes h.facts = filter_map-append quote_in h.facts a.facts ∙ (ap (λ (l : List RoomQuote). quotes h.facts ++ l) p.0 ∙ append-nil (quotes h.facts)) in
    record {
      own = subst (λ (l : List RoomQuote). AreOwn m (h.facts ++ a.facts) l (ks ++ new)) (sym same)
          (subst (AreOwn m (h.facts ++ a.facts) (quotes h.facts)) (sym (ap (λ (l : List OwnQuote). ks ++ l) p.1 ∙ append-nil ks)) (own_more m h.facts a.facts (quotes h.facts) ks before.own));
      alone = subst (λ (l : List RoomQuote). Alone l) (sym same) before.alone;
    }
kept_more m h a ks new (inr o) before =
    let same : quotes (h.facts ++ a.facts) ≡ quotes h.facts ++ o.quote ∷ [] = filter_map-append quote_in h.facts a.facts ∙ ap (λ (l : List RoomQuote). quotes h.facts ++ l) o.only in
    let more : AreOwn m h.facts (quotes h.facts ++ o.quote ∷ []) (ks ++ own_quote m o.room o.quote ∷ []) =
    own_append m h.facts (quotes h.facts) (o.quote ∷ []) ks (own_quote m o.room o.quote ∷ []) before.own ((o.room, Contains-from_In (rooms h.facts) o.room o.there, o.number, refl), tt) in
    record {
      own = subst (λ (l : List RoomQuote). AreOwn m (h.facts ++ a.facts) l (ks ++ new)) (sym same)
          (subst (λ (l : List OwnQuote). AreOwn m (h.facts ++ a.facts) (quotes h.facts ++ o.quote ∷ []) (ks ++ l)) (sym o.own) (own_more m h.facts a.facts (quotes h.facts ++ o.quote ∷ []) (ks ++ own_quote m o.room o.quote ∷ []) more));
      alone = subst (λ (l : List RoomQuote). Alone l) (sym same) (alone_more h.facts o.quote o.fresh before.alone);
    }

kept_from : (m : Market) (h : History) (ks : List OwnQuote) (is : List Input) → AreKept m h.facts ks → AreKept m (run_from m h is).history.facts (ks ++ quoted_from m h is)
kept_from m h ks [] before = subst (AreKept m h.facts) (sym (append-nil ks)) before
kept_from m h ks (i ∷ is) before =
    let a = answer_input m h i in
    subst (AreKept m (run_from m (after h a) is).history.facts) (append_assoc ks (quoted_at i a.replies) (quoted_from m (after h a) is)) (kept_from m (after h a) (ks ++ quoted_at i a.replies) is (kept_more m h a ks (quoted_at i a.replies) (input_turns m h i) before))

kept_on : (m : Market) (is : List Input) → AreKept m (run m is).history.facts (quoted_on m is)
kept_on m is = kept_from m no_history [] is (record { own = tt; alone = λ p q i. absurd i })

pub quotes_agree : QuotesAgree
quotes_agree m is = (kept_on m is).own

-- A quote that the venue would withdraw for its maker is live, and a live one it would withdraw.

in_rooms : (m : Market) (fs : List Fact) (qs : List RoomQuote) (ks : List OwnQuote) (q : RoomQuote) → AreOwn m fs qs ks → In q qs → (r : Room) × (room_by_number fs q.room ≡ Some r)
in_rooms m fs [] ks q own i = absurd i
in_rooms m fs (p ∷ qs) [] q own i = absurd own
in_rooms m fs (p ∷ qs) (k ∷ ks) q own (inl same) =
    some_found (λ (x : Room). x.number == q.room) (rooms fs) own.0.0 (In-from_Contains (rooms fs) own.0.0 own.0.1) (eq-eqb own.0.0.number q.room (own.0.2 ∙ ap (λ (x : RoomQuote). x.room) same))
in_rooms m fs (p ∷ qs) (k ∷ ks) q own (inr i) = in_rooms m fs qs ks q own.1 i

abbrev is_empty : {X : Type 0} → List X → Bool
is_empty [] = true
is_empty (x ∷ xs) = false

-- the first of those that would be withdrawn has a room
withdrawn_first : (m : Market) (h : History) (none : Answer) (l : List RoomQuote) → ((q : RoomQuote) → In q l → (r : Room) × (room_by_number h.facts q.room ≡ Some r)) → first_withdraws none.replies ≡ false → first_withdraws (withdrawn_or m h none l).replies ≡ not (is_empty l)
withdrawn_first m h none [] found fails = fails
withdrawn_first m h none (q ∷ qs) found fails = by (room_by_number h.facts q.room) refl
  where
    by : (o : Option Room) → room_by_number h.facts q.room ≡ o → first_withdraws (flat_map (both_emitted m h) (q ∷ qs)) ≡ true
    by None is = absurd (none_is_some (found q (inl refl)).0 (sym is ∙ (found q (inl refl)).1))
    by (Some r) is = ap (λ (o : Option Room). first_withdraws (elim o [ None ↦ [] | Some x ↦ to_maker m x q Withdrawn ∷ to_requester m x q Withdrawn ∷ [] ] ++ flat_map (both_emitted m h) qs)) is

past_end : (a b c d : Bool) → d ≡ false → (a && (b && (c && d))) ≡ false
past_end true true true d e = e
past_end true true false d e = refl
past_end true false c d e = refl
past_end false b c d e = refl

one_live : (m : Market) (h : History) (ks : List OwnQuote) (t : ℕ) (q : RoomQuote) (k : OwnQuote) → AreKept m h.facts ks → In q (quotes h.facts) → k.maker ≡ q.maker → k.id ≡ q.id → k.end ≡ q.end → still_live m h t k ≡ is_live h.facts t q
one_live m h ks t q k kept there maker id end = by_end (nat_le t k.end) refl
  where
    live : List RoomQuote
    live = live_quotes h.facts k.maker t

    named : List RoomQuote
    named = filter (λ (x : RoomQuote). bytes_eq x.id k.id) live

    none : Answer
    none = not_found (record { who = k.maker; number = 1; kind = type_of (QuoteCancel (record { quote_id = Some k.id; cancel_type = 5 })) }) (Some k.id)

    from_quotes : (x : RoomQuote) → In x named → In x (quotes h.facts)
    from_quotes x i = In-filtered (λ (y : RoomQuote). y.maker == k.maker && is_live h.facts t y) (quotes h.facts) x (In-filtered (λ (y : RoomQuote). bytes_eq y.id k.id) live x i)

    itself : (x : RoomQuote) → In x named → is_live h.facts t q ≡ true
    itself x i =
        let passes = filter_passes (λ (y : RoomQuote). y.maker == k.maker && is_live h.facts t y) (quotes h.facts) x (In-filtered (λ (y : RoomQuote). bytes_eq y.id k.id) live x i) in
        let own_maker : x.maker ≡ q.maker = eqb-true x.maker k.maker (and_left (x.maker == k.maker) (is_live h.facts t x) passes) ∙ maker in
        let own_id : x.id ≡ q.id = (bytes_eq-Decides x.id k.id).0 (filter_passes (λ (y : RoomQuote). bytes_eq y.id k.id) live x i) ∙ id in
        ap (is_live h.facts t) (sym (kept.alone x q (from_quotes x i) there own_maker own_id)) ∙ and_right (x.maker == k.maker) (is_live h.facts t x) passes

    kept_named : is_live h.facts t q ≡ true → In q named
    kept_named e =
        In-filter_kept (λ (y : RoomQuote). bytes_eq y.id k.id) live q
        (In-filter_kept (λ (y : RoomQuote). y.maker == k.maker && is_live h.facts t y) (quotes h.facts) q there (both_true (q.maker == k.maker) (is_live h.facts t q) (eq-eqb q.maker k.maker (sym maker)) e))
        ((bytes_eq-Decides q.id k.id).1 (sym id))

    both : (l : List RoomQuote) → named ≡ l → (b : Bool) → is_live h.facts t q ≡ b → not (is_empty l) ≡ b
    both [] is true e = absurd (subst (λ (l : List RoomQuote). In q l) is (kept_named e))
    both [] is false e = refl
    both (x ∷ xs) is true e = refl
    both (x ∷ xs) is false e = absurd (true≢false (sym (itself x (subst (λ (l : List RoomQuote). In x l) (sym is) (inl refl))) ∙ e))

    by_end : (b : Bool) → nat_le t k.end ≡ b → (if b then first_withdraws (withdrawn_or m h none named).replies else false) ≡ is_live h.facts t q
    by_end true e = withdrawn_first m h none named (λ x i. in_rooms m h.facts (quotes h.facts) ks x kept.own (from_quotes x i)) refl ∙ (both named refl (is_live h.facts t q) refl)
    by_end false e = sym (past_end (not (is_replaced h.facts q)) (not (is_withdrawn h.facts q.number)) (not (is_closed h.facts q.room)) (nat_le t q.end) (ap (nat_le t) (sym end) ∙ e))

-- those that are found are those that are live
live_of : (m : Market) (h : History) (all : List OwnQuote) (t : ℕ) (qs : List RoomQuote) (ks : List OwnQuote) → AreKept m h.facts all → ((q : RoomQuote) → In q qs → In q (quotes h.facts)) → AreOwn m h.facts qs ks → filter (still_live m h t) ks ≡ live_own h.facts t qs ks
live_of m h all t [] [] kept within own = refl
live_of m h all t [] (k ∷ ks) kept within own = absurd own
live_of m h all t (q ∷ qs) [] kept within own = refl
live_of m h all t (q ∷ qs) (k ∷ ks) kept within own =
    let same : k ≡ own_quote m own.0.0 q = own.0.3 in
    (λ j.
    cond (one_live m h all t q k kept (within q (inl refl)) (ap (λ (x : OwnQuote). x.maker) same) (ap (λ (x : OwnQuote). x.id) same) (ap (λ (x : OwnQuote). x.end) same) j) (k ∷ live_of m h all t qs ks kept (λ p i. within p (inr i)) own.1 j)
    (live_of m h all t qs ks kept (λ p i. within p (inr i)) own.1 j))

pub live_are : (m : Market) (is : List Input) (t : Option ℕ) → still_live_at m (run m is).history t (quoted_on m is) ≡ live_at (run m is).history.facts t (quoted_on m is)
live_are m is None = refl
live_are m is (Some t) = let kept = kept_on m is in live_of m (run m is).history (quoted_on m is) t (quotes (run m is).history.facts) (quoted_on m is) kept (λ q i. i) kept.own
