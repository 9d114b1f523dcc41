-- With the first quote of a room its requester is shown every resting order.
use Rattle.std.proofs.Common.{◌≡◌, refl, sym, ap, subst, ◌∙◌, ◌⊎◌, inl, inr, ℕ, Bool, true, false, List, [], ◌∷◌, ◌++◌, find, length, slice_get, Option, Some, None, append-nil, append_assoc}
use Rattle.std.specs.List.{flat_map}
use Rattle.std.proofs.lemmas.List.Elements.{filter_map-append}
use Rattle.fix_dictionary.specs.declared.messages.App.{App}
use Rattle.fix_dictionary.specs.declared.messages.App.TheVariants.{QuoteRequest, Quote, QuoteCancel, QuoteResponse, QuoteStatusReport, QuoteRequestReject, NewOrderSingle, OrderCancelRequest, OrderCancelReplaceRequest, NewOrderCross, ExecutionReport, OrderCancelReject, MarketDataRequest, MarketDataSnapshot, MarketDataRequestReject, BusinessMessageReject, Unsupported}
use Rattle.fix_dictionary.specs.declared.messages.Quote.{Quote as QuoteMessage}
use Rattle.instruments.specs.Listing.{symbol_of}
use Rattle.venue_rules.specs.declared.facts.Fact.{Fact}
use Rattle.venue_rules.specs.declared.facts.Fact.TheVariants as fact
use Rattle.venue_rules.specs.declared.facts.Room.{Room}
use Rattle.venue_rules.specs.declared.facts.RoomQuote.{RoomQuote}
use Rattle.venue_rules.specs.declared.replies.Reply.{Reply}
use Rattle.venue_rules.specs.declared.replies.ReplyBody.TheVariants.{BookSnapshot}
use Rattle.venue_rules.specs.declared.trail.TrailRow.{TrailRow}
use Rattle.venue_rules.specs.Answer.{Answer, Sender, first_of, reply}
use Rattle.venue_rules.specs.Answers.{type_of}
use Rattle.venue_rules.specs.Book.{picture}
use Rattle.venue_rules.specs.Facts.{History, no_history, quote_in as quote_in_fact, quotes, rooms}
use Rattle.venue_rules.specs.Market.{Market}
use Rattle.venue_rules.specs.Quotes.{answer_quote_of, quote_accepted, quote_refusals, quote_sent, quoted, shown_with}
use Rattle.venue_rules.specs.Rooms.{find_room, first_quote, printed}
use Rattle.venue_rules.specs.Run.{Input, Message, Tick, after, answer_input, run, run_from}
use Rattle.std.specs.Prelude.{bytes_eq, ◌==◌}
use Rattle.venue_core.specs.Replay.{AreEmitted}
use Rattle.trade_reconstruction.specs.declared.evidence_event.EvidenceEvent.{EvidenceEvent}
use Rattle.trade_reconstruction.specs.declared.trigger.Trigger.{Trigger}
use Rattle.trade_reconstruction.specs.declared.trigger.Trigger.TheVariants as trigger
use Rattle.trade_reconstruction.specs.EventKinds.{trigger_in, words_in, words_of}
use Rattle.trade_reconstruction.specs.Emitted.{came_of, words_at, words_emitted, words_from}
use Rattle.trade_reconstruction.specs.Laws.{IsShown, RestingOrdersAreShown, shown_words}
use Rattle.trade_reconstruction.proofs.Holds.{run_grows}
use Rattle.venue_rules.proofs.Members.{Contains-from_In, In, In-append_cases, In-filter_map, In-find, In-from_Contains, picked_from}
use Rattle.trade_blotter.proofs.Lists.{none_is_some, same_some}
use Rattle.trade_reconstruction.proofs.Members.{found_longer}
use Rattle.trade_reconstruction.proofs.Quoting.{AllQuiet, Quiet, app_quiet, input_quiet, room_fact_in}

-- the reply that shows a requester what rests
abbrev shows : Market → History → Room → Reply
shows m h r = reply r.requester (BookSnapshot (record { request_id = r.id; symbol = symbol_of m.instruments r.instrument; entries = picture h.facts r.instrument }))

-- an answer that adds a quote answers a quote in a room, and shows what rests where it is the first there
abbrev Pictures : Market → History → Answer → Type 0
Pictures m h a = (q : RoomQuote) → In q (quotes a.facts) → first_quote h.facts q.room ≡ None → (r : Room) × In r (rooms h.facts) × (r.number ≡ q.room) × In (shows m h r) a.replies

pictures_first : (m : Market) (h : History) (rs : List (Bool × Answer)) (x : Answer) → AllQuiet rs → Pictures m h x → Pictures m h (first_of rs x)
pictures_first m h [] x all here = here
pictures_first m h (r ∷ rs) x all here = elim r.0 as (λ b. Pictures m h (elim b [ true ↦ r.1 | false ↦ first_of rs x ])) [ true ↦ λ q i. absurd (subst (In q) all.0 i) | false ↦ pictures_first m h rs x all.1 here ]

accepted_pictures : (m : Market) (h : History) (s : Sender) (r : Room) (d : QuoteMessage) → In r (rooms h.facts) → Pictures m h (quote_accepted m h s r d)
accepted_pictures m h s r d there q (inl same) none =
    let first : first_quote h.facts r.number ≡ None = ap (λ (x : RoomQuote). first_quote h.facts x.room) same ∙ none in
    let sent = quote_sent m r (quoted h s r d) in
    (r, there, ap (λ (x : RoomQuote). x.room) same, inr (subst (λ (o : Option RoomQuote). In (shows m h r) (shown_with m h r o ++ sent ∷ [])) (sym first) (inl refl)))
accepted_pictures m h s r d there q (inr nowhere) none = absurd nowhere

quote_pictures : (m : Market) (h : History) (s : Sender) (d : QuoteMessage) (t : ℕ) (o : Option Room) → ((r : Room) → o ≡ Some r → In r (rooms h.facts)) → Pictures m h (answer_quote_of m h s d t o)
quote_pictures m h s d t None known = λ q i. absurd i
quote_pictures m h s d t (Some r) known = pictures_first m h (quote_refusals m h s r d t) (quote_accepted m h s r d) (refl, (refl, (refl, (refl, (refl, (refl, (refl, (refl, tt)))))))) (accepted_pictures m h s r d (known r refl))

-- at a row whose answer adds a quote the trigger is one, and what is shown has its events
abbrev PicturesAt : Market → History → List EvidenceEvent → ℕ → Input → Type 0
PicturesAt m h words n i =
    (q : RoomQuote) → In q (quotes (answer_input m h i).facts) → first_quote h.facts q.room ≡ None
    → (r : Room) × In r (rooms h.facts) × (r.number ≡ q.room) × In (shows m h r) (answer_input m h i).replies × (id : List ℕ) × (came_of m words n i ≡ trigger.Quote id)

quiet_pictures : (m : Market) (h : History) (words : List EvidenceEvent) (n : ℕ) (i : Input) → Quiet (answer_input m h i) → PicturesAt m h words n i
quiet_pictures m h words n i quiet q there none = absurd (subst (In q) quiet there)

quote_at : (m : Market) (h : History) (words : List EvidenceEvent) (n who number era t : ℕ) (d : QuoteMessage) → PicturesAt m h words n (Message (record { from = who; item = record { era = era; number = number; app = Quote d } }) t)
unfolding trigger_in
quote_at m h words n who number era t d q there none =
    let s : Sender = record { who = who; number = number; kind = type_of (Quote d) } in
    let k = quote_pictures m h s d t (find_room h.facts d.request_id) (λ r e. (In-find (λ (x : Room). bytes_eq (printed 82 x.number) d.request_id) (rooms h.facts) r e).0) q there none in
    (k.0, k.1, k.2, k.3, d.quote_id, refl)

message_pictures : (m : Market) (h : History) (words : List EvidenceEvent) (n who number era t : ℕ) (a : App) → PicturesAt m h words n (Message (record { from = who; item = record { era = era; number = number; app = a } }) t)
message_pictures m h words n who number era t (Quote d) = quote_at m h words n who number era t d
message_pictures m h words n who number era t (QuoteRequest d) = λ q i. absurd (subst (In q) (app_quiet m h (record { who = who; number = number; kind = type_of (QuoteRequest d) }) (QuoteRequest d) t tt) i)
message_pictures m h words n who number era t (QuoteCancel d) = λ q i. absurd (subst (In q) (app_quiet m h (record { who = who; number = number; kind = type_of (QuoteCancel d) }) (QuoteCancel d) t tt) i)
message_pictures m h words n who number era t (QuoteResponse d) = λ q i. absurd (subst (In q) (app_quiet m h (record { who = who; number = number; kind = type_of (QuoteResponse d) }) (QuoteResponse d) t tt) i)
message_pictures m h words n who number era t (NewOrderSingle d) = λ q i. absurd (subst (In q) (app_quiet m h (record { who = who; number = number; kind = type_of (NewOrderSingle d) }) (NewOrderSingle d) t tt) i)
message_pictures m h words n who number era t (OrderCancelRequest d) = λ q i. absurd (subst (In q) (app_quiet m h (record { who = who; number = number; kind = type_of (OrderCancelRequest d) }) (OrderCancelRequest d) t tt) i)
message_pictures m h words n who number era t (OrderCancelReplaceRequest d) = λ q i. absurd (subst (In q) (app_quiet m h (record { who = who; number = number; kind = type_of (OrderCancelReplaceRequest d) }) (OrderCancelReplaceRequest d) t tt) i)
message_pictures m h words n who number era t (NewOrderCross d) = λ q i. absurd (subst (In q) (app_quiet m h (record { who = who; number = number; kind = type_of (NewOrderCross d) }) (NewOrderCross d) t tt) i)
message_pictures m h words n who number era t (MarketDataRequest d) = λ q i. absurd (subst (In q) (app_quiet m h (record { who = who; number = number; kind = type_of (MarketDataRequest d) }) (MarketDataRequest d) t tt) i)
message_pictures m h words n who number era t (BusinessMessageReject d) = λ q i. absurd i
message_pictures m h words n who number era t (QuoteStatusReport d) = λ q i. absurd i
message_pictures m h words n who number era t (QuoteRequestReject d) = λ q i. absurd i
message_pictures m h words n who number era t (ExecutionReport d) = λ q i. absurd i
message_pictures m h words n who number era t (OrderCancelReject d) = λ q i. absurd i
message_pictures m h words n who number era t (MarketDataSnapshot d) = λ q i. absurd i
message_pictures m h words n who number era t (MarketDataRequestReject d) = λ q i. absurd i
message_pictures m h words n who number era t (Unsupported kind) = λ q i. absurd i

input_pictures : (m : Market) (h : History) (words : List EvidenceEvent) (n : ℕ) (i : Input) → PicturesAt m h words n i
input_pictures m h words n (Message taken t) = message_pictures m h words n taken.from taken.item.number taken.item.era t taken.item.app
input_pictures m h words n (Tick t) = quiet_pictures m h words n (Tick t) (input_quiet m h t)

-- a part of a list of events
flat_part : {A B : Type 0} (f : A → List B) (xs : List A) (x : A) → In x xs → (before after : List B) × (flat_map f xs ≡ before ++ (f x ++ after))
flat_part f [] x i = absurd i
flat_part f (z ∷ zs) x (inl same) = ([], flat_map f zs, ap (λ y. f y ++ flat_map f zs) same)
flat_part f (z ∷ zs) x (inr i) = let k = flat_part f zs x i in (f z ++ k.0, k.1, ap (λ l. f z ++ l) k.2 ∙ sym (append_assoc (f z) k.0 (f x ++ k.1)))

shown_part : (row moment : ℕ) (m : Market) (h : History) (r : Room) (id : List ℕ) → words_in row moment (trigger.Quote id) (shows m h r) ≡ shown_words row moment r.requester r.id (picture h.facts r.instrument)
unfolding words_in
shown_part row moment m h r id = refl

words_more_than : (m : Market) (h : History) (words : List EvidenceEvent) (rs : List TrailRow) (is : List Input) → (more : List EvidenceEvent) × (words_from m h words rs is ≡ words ++ more)
words_more_than m h words [] is = ([], sym (append-nil words))
words_more_than m h words (r ∷ rs) [] = ([], sym (append-nil words))
words_more_than m h words (r ∷ rs) (j ∷ js) =
    let new = words_at m h words r j in
    let k = words_more_than m (after h (answer_input m h j)) (words ++ new) rs js in
    (new ++ k.0, k.1 ∙ append_assoc words new k.0)

-- where a quote came, from a history on
record ShownAt (m : Market) (h : History) (rs : List TrailRow) (is : List Input) (all : List EvidenceEvent) (q : RoomQuote) : Type 0 where
  pub earlier : List Input
  pub input : Input
  pub later : List Input
  pub taken : is ≡ earlier ++ input ∷ later
  pub row : TrailRow
  pub emitted : slice_get rs (length earlier) ≡ Some row
  pub quoted : In q (quotes (answer_input m (run_from m h earlier).history input).facts)
  pub asked : Room
  pub was_asked : In asked (rooms (run_from m h earlier).history.facts)
  pub here : asked.number ≡ q.room
  pub before : List EvidenceEvent
  pub after : List EvidenceEvent
  pub shown : all ≡ before ++ (shown_words row.n row.moment asked.requester asked.id (picture (run_from m h earlier).history.facts asked.instrument) ++ after)

abbrev Whole : Market → History → List EvidenceEvent → List TrailRow → List Input → RoomQuote → Type 0
Whole m h words rs is q = In q (quotes h.facts) ⊎ ShownAt m h rs is (words_from m h words rs is) q

shown_here : (m : Market) (h : History) (words : List EvidenceEvent) (r : TrailRow) (j : Input) (rs : List TrailRow) (js : List Input) (q : RoomQuote) → In q (quotes (answer_input m h j).facts) → first_quote h.facts q.room ≡ None
    → ShownAt m h (r ∷ rs) (j ∷ js) (words_from m h words (r ∷ rs) (j ∷ js)) q
shown_here m h words r j rs js q i none =
    let a = answer_input m h j in
    let k = input_pictures m h words r.n j q i none in
    let c = came_of m words r.n j in
    let f = words_in r.n r.moment c in
    let p = flat_part f a.replies (shows m h k.0) k.3 in
    let part = shown_words r.n r.moment k.0.requester k.0.id (picture h.facts k.0.instrument) in
    let is_part : f (shows m h k.0) ≡ part = ap (λ (y : Trigger). words_in r.n r.moment y (shows m h k.0)) k.5 ∙ shown_part r.n r.moment m h k.0 k.4 in
    let new = words_of r.n r.moment c a.replies in
    let more = words_more_than m (after h a) (words ++ new) rs js in
    record {
      earlier = [];
      input = j;
      later = js;
      taken = refl;
      row = r;
      emitted = refl;
      quoted = i;
      asked = k.0;
      was_asked = k.1;
      here = k.2;
      before = words ++ p.0;
      after = p.1 ++ more.0;
      shown = more.1
          ∙ (ap (λ l. (words ++ l) ++ more.0) (p.2 ∙ ap (λ l. p.0 ++ (l ++ p.1)) is_part)
          ∙ parted words p.0 part p.1 more.0);
    }
  where
    parted : (a c d e f : List EvidenceEvent) → (a ++ (c ++ (d ++ e))) ++ f ≡ (a ++ c) ++ (d ++ (e ++ f))
    parted a c d e f = simp (append_assoc)

shown_later : (m : Market) (h : History) (words : List EvidenceEvent) (r : TrailRow) (j : Input) (rs : List TrailRow) (js : List Input) (q : RoomQuote)
    → ShownAt m (after h (answer_input m h j)) rs js (words_from m h words (r ∷ rs) (j ∷ js)) q → ShownAt m h (r ∷ rs) (j ∷ js) (words_from m h words (r ∷ rs) (j ∷ js)) q
shown_later m h words r j rs js q s = record {
  earlier = j ∷ s.earlier;
  input = s.input;
  later = s.later;
  taken = ap (λ (l : List Input). j ∷ l) s.taken;
  row = s.row;
  emitted = s.emitted;
  quoted = s.quoted;
  asked = s.asked;
  was_asked = s.was_asked;
  here = s.here;
  before = s.before;
  after = s.after;
  shown = s.shown;
}

-- the first quote of a room stays the first
first_stays : (facts more : List Fact) (room : ℕ) (p q : RoomQuote) → first_quote facts room ≡ Some p → first_quote (facts ++ more) room ≡ Some q → In q (quotes facts)
first_stays facts more room p q here whole =
    let test : RoomQuote → Bool = λ x. x.room == room in
    let longer : first_quote (facts ++ more) room ≡ Some p = ap (λ qs. find test qs) (filter_map-append quote_in_fact facts more) ∙ found_longer test (quotes facts) (quotes more) p here in
    subst (λ (x : RoomQuote). In x (quotes facts)) (same_some p q (sym longer ∙ whole)) (In-find test (quotes facts) p here).0

by_first : (m : Market) (h : History) (words : List EvidenceEvent) (r : TrailRow) (j : Input) (rs : List TrailRow) (js : List Input) (q : RoomQuote) (o : Option RoomQuote) → first_quote h.facts q.room ≡ o
    → first_quote (run_from m h (j ∷ js)).history.facts q.room ≡ Some q → In q (quotes (answer_input m h j).facts) → Whole m h words (r ∷ rs) (j ∷ js) q
by_first m h words r j rs js q None e whole i = inr (shown_here m h words r j rs js q i e)
by_first m h words r j rs js q (Some p) e whole i = let grows = run_grows m h [] (j ∷ js) in inl (first_stays h.facts grows.0 q.room p q e (sym (ap (λ (fs : List Fact). first_quote fs q.room) grows.1) ∙ whole))

shown_among : (m : Market) (h : History) (words : List EvidenceEvent) (r : TrailRow) (j : Input) (rs : List TrailRow) (js : List Input) (q : RoomQuote) → first_quote (run_from m h (j ∷ js)).history.facts q.room ≡ Some q
    → In q (quotes h.facts) ⊎ In q (quotes (answer_input m h j).facts) → Whole m h words (r ∷ rs) (j ∷ js) q
shown_among m h words r j rs js q whole (inl old) = inl old
shown_among m h words r j rs js q whole (inr new) = by_first m h words r j rs js q (first_quote h.facts q.room) refl whole new

shown_step : (m : Market) (h : History) (words : List EvidenceEvent) (r : TrailRow) (j : Input) (rs : List TrailRow) (js : List Input) (q : RoomQuote) → first_quote (run_from m h (j ∷ js)).history.facts q.room ≡ Some q
    → Whole m (after h (answer_input m h j)) (words ++ words_at m h words r j) rs js q → Whole m h words (r ∷ rs) (j ∷ js) q
shown_step m h words r j rs js q whole (inl k) =
    shown_among m h words r j rs js q whole (In-append_cases (quotes h.facts) (quotes (answer_input m h j).facts) q (subst (In q) (filter_map-append quote_in_fact h.facts (answer_input m h j).facts) k))
shown_step m h words r j rs js q whole (inr k) = inr (shown_later m h words r j rs js q k)

day_shows : (m : Market) (h : History) (words : List EvidenceEvent) (rs : List TrailRow) (is : List Input) → AreEmitted rs is → (q : RoomQuote) → first_quote (run_from m h is).history.facts q.room ≡ Some q → In q (quotes (run_from m h is).history.facts)
    → Whole m h words rs is q
day_shows m h words [] [] emitted q whole i = inl i
day_shows m h words [] (j ∷ js) emitted q whole i = absurd emitted
day_shows m h words (r ∷ rs) [] emitted q whole i = absurd emitted
day_shows m h words (r ∷ rs) (j ∷ js) emitted q whole i =
    shown_step m h words r j rs js q whole (day_shows m (after h (answer_input m h j)) (words ++ words_at m h words r j) rs js emitted.1 q whole i)

quoted_in : (facts : List Fact) (q : RoomQuote) → In q (quotes facts) → In (fact.Quoted q) facts
quoted_in facts q i = let k = picked_from quote_in_fact facts q i in subst (λ (f : Fact). In f facts) (is_quoted k.0 k.2) k.1
  where
    is_quoted : (f : Fact) → quote_in_fact f ≡ Some q → f ≡ fact.Quoted q
    is_quoted (fact.Quoted y) h = ap (λ (z : RoomQuote). fact.Quoted z) (same_some y q h)
    is_quoted (fact.Asked y) h = absurd (none_is_some q h)
    is_quoted (fact.Traded y) h = absurd (none_is_some q h)
    is_quoted (fact.Held y) h = absurd (none_is_some q h)
    is_quoted (fact.Entered y) h = absurd (none_is_some q h)
    is_quoted (fact.Removed y) h = absurd (none_is_some q h)
    is_quoted (fact.Unheld y) h = absurd (none_is_some q h)
    is_quoted (fact.Withdrawn y) h = absurd (none_is_some q h)
    is_quoted (fact.Closed y) h = absurd (none_is_some q h)

pub resting_orders_are_shown : RestingOrdersAreShown
resting_orders_are_shown m rs is q emitted there first =
    by (day_shows m no_history [] rs is emitted q first (In-filter_map quote_in_fact (run m is).history.facts (fact.Quoted q) q (In-from_Contains (run m is).history.facts (fact.Quoted q) there) refl))
  where
    by : Whole m no_history [] rs is q → IsShown m rs is (words_emitted m rs is) q
    by (inl k) = absurd k
    by (inr k) = record {
      earlier = k.earlier;
      input = k.input;
      later = k.later;
      taken = k.taken;
      row = k.row;
      emitted = k.emitted;
      quoted = Contains-from_In (answer_input m (run m k.earlier).history k.input).facts (fact.Quoted q) (quoted_in (answer_input m (run m k.earlier).history k.input).facts q k.quoted);
      asked = k.asked;
      was_asked = Contains-from_In (run m k.earlier).history.facts (fact.Asked k.asked) (room_fact_in (run m k.earlier).history.facts k.asked k.was_asked);
      here = k.here;
      before = k.before;
      after = k.after;
      shown = k.shown;
    }
