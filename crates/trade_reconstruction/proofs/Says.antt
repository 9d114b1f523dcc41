-- The events of a day about orders as they enter, their fills, and held sides, reply by reply.
use Rattle.std.proofs.Common.{◌≡◌, refl, ap, ◌∙◌, ℕ, ℤ, ◌+◌, Bool, if◌then◌else◌, List, [], ◌∷◌, ◌++◌, map, filter_map, Option, Some, None}
use Rattle.std.specs.Prelude.{bytes_eq}
use Rattle.std.specs.List.{cons_option}
use Rattle.std.proofs.lemmas.List.Elements.{filter_map-append}
use Rattle.fix_dictionary.specs.declared.values.Side.{Side}
use Rattle.venue_rules.specs.declared.replies.FilledReport.{FilledReport}
use Rattle.venue_rules.specs.declared.replies.OrderReport.{OrderReport}
use Rattle.venue_rules.specs.declared.replies.SnapshotEntry.{SnapshotEntry}
use Rattle.venue_rules.specs.declared.replies.BookSnapshot.{BookSnapshot}
use Rattle.venue_rules.specs.declared.replies.Reply.{Reply}
use Rattle.venue_rules.specs.declared.replies.RequestSent.{RequestSent}
use Rattle.venue_rules.specs.declared.replies.RoomReport.{RoomReport}
use Rattle.venue_rules.specs.declared.replies.ReplyBody.{ReplyBody}
use Rattle.venue_rules.specs.declared.replies.ReplyBody.TheVariants as what
use Rattle.trade_reconstruction.specs.declared.trigger.Trigger.{Trigger}
use Rattle.trade_reconstruction.specs.declared.trigger.Trigger.TheVariants as trigger
use Rattle.trade_reconstruction.specs.declared.evidence_event.EventKind.{EventKind}
use Rattle.trade_reconstruction.specs.declared.evidence_event.EventKind.TheVariants as said
use Rattle.trade_reconstruction.specs.declared.evidence_event.Shown.{Shown}
use Rattle.trade_reconstruction.specs.declared.evidence_event.EvidenceEvent.{EvidenceEvent}
use Rattle.trade_reconstruction.specs.EventKinds.{asked_in, entered_of, filled_of, held_by, held_in, hit_in, is_tick, picture_of, pictured_in, price_in, prices_words, said_by, said_in, shown_word, word, words_in, words_of}

-- an order as it enters
pub record HeardEntry : Type 0 where
  pub row : ℕ
  pub moment : ℕ
  pub to : ℕ
  pub order : ℕ
  pub id : List ℕ
  pub symbol : List ℕ
  pub side : Side
  pub quantity : ℕ
  pub price : Option ℤ
  pub original : Option (List ℕ)
  pub at_tick : Bool

-- an order that is filled
pub record HeardFill : Type 0 where
  pub row : ℕ
  pub order : ℕ
  pub trade : ℕ

-- a side that is held
pub record HeardHold : Type 0 where
  pub who : ℕ
  pub id : List ℕ
  pub cross : List ℕ
  pub until : ℕ

-- a trade that was made by a hit
pub record HeardHit : Type 0 where
  pub row : ℕ
  pub room : ℕ
  pub trade : ℕ
  pub quote : List ℕ
  pub price : ℤ

-- a recipient who is asked
pub record HeardAsked : Type 0 where
  pub row : ℕ
  pub moment : ℕ
  pub to : ℕ
  pub requester : ℕ
  pub request : List ℕ
  pub room : ℕ
  pub symbol : List ℕ
  pub side : Option Side
  pub quantity : ℕ

-- in an event

abbrev pub entry_of_said : EvidenceEvent → EventKind → Option HeardEntry
entry_of_said w (said.Entered e) = Some (record { row = w.row; moment = w.moment; to = w.to; order = e.order; id = e.id; symbol = e.symbol; side = e.side; quantity = e.quantity; price = e.price; original = e.original; at_tick = e.at_tick })
entry_of_said w _ = None

abbrev pub entry_in : EvidenceEvent → Option HeardEntry
entry_in w = entry_of_said w w.said

abbrev pub fill_of_said : EvidenceEvent → EventKind → Option HeardFill
fill_of_said w (said.Filled f) = Some (record { row = w.row; order = f.order; trade = f.trade })
fill_of_said w _ = None

abbrev pub fill_in : EvidenceEvent → Option HeardFill
fill_in w = fill_of_said w w.said

abbrev pub hold_of_said : EvidenceEvent → EventKind → Option HeardHold
hold_of_said w (said.Held x) = Some (record { who = w.to; id = x.id; cross = x.cross; until = w.moment + x.delay })
hold_of_said w _ = None

abbrev pub hold_in : EvidenceEvent → Option HeardHold
hold_in w = hold_of_said w w.said

abbrev pub trade_of_said : EvidenceEvent → EventKind → Option HeardHit
trade_of_said w (said.Hit x) = Some (record { row = w.row; room = x.room; trade = x.trade; quote = x.quote; price = x.price })
trade_of_said w _ = None

abbrev pub traded_in : EvidenceEvent → Option HeardHit
traded_in w = trade_of_said w w.said

abbrev pub asking_of_said : EvidenceEvent → EventKind → Option HeardAsked
asking_of_said w (said.Asked a) = Some (record { row = w.row; moment = w.moment; to = w.to; requester = a.requester; request = a.request; room = a.room; symbol = a.symbol; side = a.side; quantity = a.quantity })
asking_of_said w _ = None

abbrev pub asking_in : EvidenceEvent → Option HeardAsked
asking_in w = asking_of_said w w.said

-- in a reply

abbrev pub entry_from : ℕ → ℕ → Trigger → Option (List ℕ) → ℕ → OrderReport → Option ℕ → Option HeardEntry
entry_from n t c original to r None = None
entry_from n t c original to r (Some order) = Some (record { row = n; moment = t; to = to; order = order; id = r.id; symbol = r.symbol; side = r.side; quantity = r.left; price = price_in c; original = original; at_tick = is_tick c })

abbrev pub entry_what : ℕ → ℕ → Trigger → ℕ → ReplyBody → Option HeardEntry
entry_what n t c to (what.OrderEntered r) = entry_from n t c None to r r.order
entry_what n t c to (what.OrderReplaced r) = entry_from n t c (Some r.original_id) to r.order r.order.order
entry_what n t c to _ = None

abbrev pub entry_by : ℕ → ℕ → Trigger → Reply → Option HeardEntry
entry_by n t c r = entry_what n t c r.to r.what

abbrev pub fill_from : ℕ → FilledReport → Option ℕ → Option HeardFill
fill_from n f None = None
fill_from n f (Some order) = Some (record { row = n; order = order; trade = f.trade })

abbrev pub fill_what : ℕ → ReplyBody → Option HeardFill
fill_what n (what.OrderFilled f) = fill_from n f f.order.order
fill_what n _ = None

abbrev pub fill_by : ℕ → Reply → Option HeardFill
fill_by n r = fill_what n r.what

abbrev pub hold_from : ℕ → ℕ → OrderReport → Trigger → Option HeardHold
hold_from t to r (trigger.Cross x) = Some (record { who = to; id = if bytes_eq r.id x.first then x.second else x.first; cross = x.cross; until = t + x.delay })
hold_from t to r _ = None

abbrev pub hold_what : ℕ → Trigger → ℕ → ReplyBody → Option HeardHold
hold_what t c to (what.OrderEntered r) = hold_from t to r c
hold_what t c to _ = None

abbrev pub hold_by : ℕ → Trigger → Reply → Option HeardHold
hold_by t c r = hold_what t c r.to r.what

abbrev pub hit_from : ℕ → RoomReport → Trigger → Option HeardHit
hit_from n r (trigger.Response quote) = Some (record { row = n; room = r.room; trade = r.trade; quote = quote; price = r.price })
hit_from n r _ = None

abbrev pub hit_what : ℕ → Trigger → ReplyBody → Option HeardHit
hit_what n c (what.RoomTraded r) = hit_from n r c
hit_what n c _ = None

abbrev pub hit_by : ℕ → Trigger → Reply → Option HeardHit
hit_by n c r = hit_what n c r.what

abbrev pub asking_from : ℕ → ℕ → ℕ → RequestSent → Trigger → Option HeardAsked
asking_from n t to r (trigger.Request q) = Some (record { row = n; moment = t; to = to; requester = q.requester; request = q.request; room = r.room; symbol = r.symbol; side = r.side; quantity = r.quantity })
asking_from n t to r _ = None

abbrev pub asking_what : ℕ → ℕ → Trigger → ℕ → ReplyBody → Option HeardAsked
asking_what n t c to (what.RequestSent r) = asking_from n t to r c
asking_what n t c to _ = None

abbrev pub asking_by : ℕ → ℕ → Trigger → Reply → Option HeardAsked
asking_by n t c r = asking_what n t c r.to r.what

-- The events of a reply state what the reply does.

-- what was shown is not picked
abbrev pub IsDeaf : {Y : Type 0} → (EvidenceEvent → Option Y) → Type 0
IsDeaf pick = (n t to : ℕ) (s : Shown) → pick (word n t to (said.Shown s)) ≡ None

pub entry-deaf : IsDeaf entry_in
entry-deaf = λ n t to s. refl

pub fill-deaf : IsDeaf fill_in
fill-deaf = λ n t to s. refl

pub hold-deaf : IsDeaf hold_in
hold-deaf = λ n t to s. refl

pub asking-deaf : IsDeaf asking_in
asking-deaf = λ n t to s. refl

pub traded-deaf : IsDeaf traded_in
traded-deaf = λ n t to s. refl

pub shown_silent : {Y : Type 0} (pick : EvidenceEvent → Option Y) → IsDeaf pick → (n t to : ℕ) (request : List ℕ) (es : List SnapshotEntry) → filter_map pick (map (shown_word n t to request) es) ≡ []
shown_silent pick deaf n t to request [] = refl
shown_silent pick deaf n t to request (e ∷ es) =
    ap (λ o. cons_option o (filter_map pick (map (shown_word n t to request) es))) (deaf n t to (record { request = request; side = e.side; price = e.price; left = e.left; order = e.order }))
    ∙ shown_silent pick deaf n t to request es

prices_silent : {Y : Type 0} (pick : EvidenceEvent → Option Y) → IsDeaf pick → (n t to : ℕ) (c : Trigger) (p : BookSnapshot) → filter_map pick (prices_words n t to c p) ≡ []
prices_silent pick deaf n t to (trigger.Request x) p = refl
prices_silent pick deaf n t to (trigger.Quote x) p = shown_silent pick deaf n t to p.request_id p.entries
prices_silent pick deaf n t to (trigger.Response x) p = refl
prices_silent pick deaf n t to (trigger.Order x) p = refl
prices_silent pick deaf n t to (trigger.Cross x) p = refl
prices_silent pick deaf n t to trigger.Tick p = refl
prices_silent pick deaf n t to trigger.Other p = refl

abbrev pub what_words : ℕ → ℕ → Trigger → ℕ → ReplyBody → List EvidenceEvent
what_words n t c to x = said_by n t to (said_in c x) ++ (said_by n t to (held_in c x) ++ picture_of n t to c x)

-- entries

asked_entry : (n t : ℕ) (c : Trigger) (to : ℕ) (r : RequestSent) → filter_map entry_in (said_by n t to (asked_in c r) ++ []) ≡ []
asked_entry n t (trigger.Request x) to r = refl
asked_entry n t (trigger.Quote x) to r = refl
asked_entry n t (trigger.Response x) to r = refl
asked_entry n t (trigger.Order x) to r = refl
asked_entry n t (trigger.Cross x) to r = refl
asked_entry n t trigger.Tick to r = refl
asked_entry n t trigger.Other to r = refl

hit_entry : (n t : ℕ) (c : Trigger) (to : ℕ) (r : RoomReport) → filter_map entry_in (said_by n t to (hit_in c r) ++ []) ≡ []
hit_entry n t (trigger.Request x) to r = refl
hit_entry n t (trigger.Quote x) to r = refl
hit_entry n t (trigger.Response x) to r = refl
hit_entry n t (trigger.Order x) to r = refl
hit_entry n t (trigger.Cross x) to r = refl
hit_entry n t trigger.Tick to r = refl
hit_entry n t trigger.Other to r = refl

prices_entry : (n t : ℕ) (c : Trigger) (to : ℕ) (p : BookSnapshot) → filter_map entry_in (said_by n t to (pictured_in c p) ++ prices_words n t to c p) ≡ []
prices_entry n t (trigger.Request x) to p = refl
prices_entry n t (trigger.Quote x) to p = shown_silent entry_in entry-deaf n t to p.request_id p.entries
prices_entry n t (trigger.Response x) to p = refl
prices_entry n t (trigger.Order x) to p = refl
prices_entry n t (trigger.Cross x) to p = refl
prices_entry n t trigger.Tick to p = refl
prices_entry n t trigger.Other to p = refl

held_entry : (n t : ℕ) (c : Trigger) (to : ℕ) (r : OrderReport) → filter_map entry_in (said_by n t to (held_by c r) ++ []) ≡ []
held_entry n t (trigger.Request x) to r = refl
held_entry n t (trigger.Quote x) to r = refl
held_entry n t (trigger.Response x) to r = refl
held_entry n t (trigger.Order x) to r = refl
held_entry n t (trigger.Cross x) to r = refl
held_entry n t trigger.Tick to r = refl
held_entry n t trigger.Other to r = refl

entered_entry : (n t : ℕ) (c : Trigger) (to : ℕ) (original : Option (List ℕ)) (r : OrderReport) (o : Option ℕ) (rest : List EvidenceEvent) → filter_map entry_in rest ≡ []
    → filter_map entry_in (said_by n t to (entered_of c original r o) ++ rest) ≡ cons_option (entry_from n t c original to r o) []
entered_entry n t c to original r None rest k = k
entered_entry n t c to original r (Some order) rest k = ap (cons_option (entry_from n t c original to r (Some order))) k

filled_entry : (n t to : ℕ) (f : FilledReport) (o : Option ℕ) → filter_map entry_in (said_by n t to (filled_of f o) ++ []) ≡ []
filled_entry n t to f None = refl
filled_entry n t to f (Some order) = refl

what_entry : (n t : ℕ) (c : Trigger) (to : ℕ) (x : ReplyBody) → filter_map entry_in (what_words n t c to x) ≡ cons_option (entry_what n t c to x) []
what_entry n t c to (what.RequestSent r) = asked_entry n t c to r
what_entry n t c to (what.BookSnapshot p) = prices_entry n t c to p
what_entry n t c to (what.QuoteSent q) = refl
what_entry n t c to (what.OrderEntered r) = entered_entry n t c to None r r.order (said_by n t to (held_by c r) ++ []) (held_entry n t c to r)
what_entry n t c to (what.OrderReplaced r) = entered_entry n t c to (Some r.original_id) r.order r.order.order [] refl
what_entry n t c to (what.OrderFilled f) = filled_entry n t to f f.order.order
what_entry n t c to (what.RoomTraded r) = hit_entry n t c to r
what_entry n t c to (what.OrderRefused r) = refl
what_entry n t c to (what.CrossRefused r) = refl
what_entry n t c to (what.OrderUnfilled r) = refl
what_entry n t c to (what.OrderCancelled r) = refl
what_entry n t c to (what.ChangeRefused r) = refl
what_entry n t c to (what.RequestRefused r) = refl
what_entry n t c to (what.QuoteStatus r) = refl
what_entry n t c to (what.MarketDataReject r) = refl
what_entry n t c to (what.BusinessReject r) = refl

-- fills

asked_fill : (n t : ℕ) (c : Trigger) (to : ℕ) (r : RequestSent) → filter_map fill_in (said_by n t to (asked_in c r) ++ []) ≡ []
asked_fill n t (trigger.Request x) to r = refl
asked_fill n t (trigger.Quote x) to r = refl
asked_fill n t (trigger.Response x) to r = refl
asked_fill n t (trigger.Order x) to r = refl
asked_fill n t (trigger.Cross x) to r = refl
asked_fill n t trigger.Tick to r = refl
asked_fill n t trigger.Other to r = refl

hit_fill : (n t : ℕ) (c : Trigger) (to : ℕ) (r : RoomReport) → filter_map fill_in (said_by n t to (hit_in c r) ++ []) ≡ []
hit_fill n t (trigger.Request x) to r = refl
hit_fill n t (trigger.Quote x) to r = refl
hit_fill n t (trigger.Response x) to r = refl
hit_fill n t (trigger.Order x) to r = refl
hit_fill n t (trigger.Cross x) to r = refl
hit_fill n t trigger.Tick to r = refl
hit_fill n t trigger.Other to r = refl

prices_fill : (n t : ℕ) (c : Trigger) (to : ℕ) (p : BookSnapshot) → filter_map fill_in (said_by n t to (pictured_in c p) ++ prices_words n t to c p) ≡ []
prices_fill n t (trigger.Request x) to p = refl
prices_fill n t (trigger.Quote x) to p = shown_silent fill_in fill-deaf n t to p.request_id p.entries
prices_fill n t (trigger.Response x) to p = refl
prices_fill n t (trigger.Order x) to p = refl
prices_fill n t (trigger.Cross x) to p = refl
prices_fill n t trigger.Tick to p = refl
prices_fill n t trigger.Other to p = refl

held_fill : (n t : ℕ) (c : Trigger) (to : ℕ) (r : OrderReport) → filter_map fill_in (said_by n t to (held_by c r) ++ []) ≡ []
held_fill n t (trigger.Request x) to r = refl
held_fill n t (trigger.Quote x) to r = refl
held_fill n t (trigger.Response x) to r = refl
held_fill n t (trigger.Order x) to r = refl
held_fill n t (trigger.Cross x) to r = refl
held_fill n t trigger.Tick to r = refl
held_fill n t trigger.Other to r = refl

entered_fill : (n t : ℕ) (c : Trigger) (to : ℕ) (original : Option (List ℕ)) (r : OrderReport) (o : Option ℕ) (rest : List EvidenceEvent) → filter_map fill_in rest ≡ [] → filter_map fill_in (said_by n t to (entered_of c original r o) ++ rest) ≡ []
entered_fill n t c to original r None rest k = k
entered_fill n t c to original r (Some order) rest k = k

filled_fill : (n t to : ℕ) (f : FilledReport) (o : Option ℕ) → filter_map fill_in (said_by n t to (filled_of f o) ++ []) ≡ cons_option (fill_from n f o) []
filled_fill n t to f None = refl
filled_fill n t to f (Some order) = refl

what_fill : (n t : ℕ) (c : Trigger) (to : ℕ) (x : ReplyBody) → filter_map fill_in (what_words n t c to x) ≡ cons_option (fill_what n x) []
what_fill n t c to (what.RequestSent r) = asked_fill n t c to r
what_fill n t c to (what.BookSnapshot p) = prices_fill n t c to p
what_fill n t c to (what.QuoteSent q) = refl
what_fill n t c to (what.OrderEntered r) = entered_fill n t c to None r r.order (said_by n t to (held_by c r) ++ []) (held_fill n t c to r)
what_fill n t c to (what.OrderReplaced r) = entered_fill n t c to _ r.order r.order.order [] refl
what_fill n t c to (what.OrderFilled f) = filled_fill n t to f f.order.order
what_fill n t c to (what.RoomTraded r) = hit_fill n t c to r
what_fill n t c to (what.OrderRefused r) = refl
what_fill n t c to (what.CrossRefused r) = refl
what_fill n t c to (what.OrderUnfilled r) = refl
what_fill n t c to (what.OrderCancelled r) = refl
what_fill n t c to (what.ChangeRefused r) = refl
what_fill n t c to (what.RequestRefused r) = refl
what_fill n t c to (what.QuoteStatus r) = refl
what_fill n t c to (what.MarketDataReject r) = refl
what_fill n t c to (what.BusinessReject r) = refl

-- recipients who are asked

asked_asking : (n t : ℕ) (c : Trigger) (to : ℕ) (r : RequestSent) → filter_map asking_in (said_by n t to (asked_in c r) ++ []) ≡ cons_option (asking_from n t to r c) []
asked_asking n t (trigger.Request x) to r = refl
asked_asking n t (trigger.Quote x) to r = refl
asked_asking n t (trigger.Response x) to r = refl
asked_asking n t (trigger.Order x) to r = refl
asked_asking n t (trigger.Cross x) to r = refl
asked_asking n t trigger.Tick to r = refl
asked_asking n t trigger.Other to r = refl

hit_asking : (n t : ℕ) (c : Trigger) (to : ℕ) (r : RoomReport) → filter_map asking_in (said_by n t to (hit_in c r) ++ []) ≡ []
hit_asking n t (trigger.Request x) to r = refl
hit_asking n t (trigger.Quote x) to r = refl
hit_asking n t (trigger.Response x) to r = refl
hit_asking n t (trigger.Order x) to r = refl
hit_asking n t (trigger.Cross x) to r = refl
hit_asking n t trigger.Tick to r = refl
hit_asking n t trigger.Other to r = refl

prices_asking : (n t : ℕ) (c : Trigger) (to : ℕ) (p : BookSnapshot) → filter_map asking_in (said_by n t to (pictured_in c p) ++ prices_words n t to c p) ≡ []
prices_asking n t (trigger.Request x) to p = refl
prices_asking n t (trigger.Quote x) to p = shown_silent asking_in asking-deaf n t to p.request_id p.entries
prices_asking n t (trigger.Response x) to p = refl
prices_asking n t (trigger.Order x) to p = refl
prices_asking n t (trigger.Cross x) to p = refl
prices_asking n t trigger.Tick to p = refl
prices_asking n t trigger.Other to p = refl

held_asking : (n t : ℕ) (c : Trigger) (to : ℕ) (r : OrderReport) → filter_map asking_in (said_by n t to (held_by c r) ++ []) ≡ []
held_asking n t (trigger.Request x) to r = refl
held_asking n t (trigger.Quote x) to r = refl
held_asking n t (trigger.Response x) to r = refl
held_asking n t (trigger.Order x) to r = refl
held_asking n t (trigger.Cross x) to r = refl
held_asking n t trigger.Tick to r = refl
held_asking n t trigger.Other to r = refl

entered_asking : (n t : ℕ) (c : Trigger) (to : ℕ) (original : Option (List ℕ)) (r : OrderReport) (o : Option ℕ) (rest : List EvidenceEvent) → filter_map asking_in rest ≡ [] → filter_map asking_in (said_by n t to (entered_of c original r o) ++ rest) ≡ []
entered_asking n t c to original r None rest k = k
entered_asking n t c to original r (Some order) rest k = k

filled_asking : (n t to : ℕ) (f : FilledReport) (o : Option ℕ) → filter_map asking_in (said_by n t to (filled_of f o) ++ []) ≡ []
filled_asking n t to f None = refl
filled_asking n t to f (Some order) = refl

what_asking : (n t : ℕ) (c : Trigger) (to : ℕ) (x : ReplyBody) → filter_map asking_in (what_words n t c to x) ≡ cons_option (asking_what n t c to x) []
what_asking n t c to (what.RequestSent r) = asked_asking n t c to r
what_asking n t c to (what.BookSnapshot p) = prices_asking n t c to p
what_asking n t c to (what.QuoteSent q) = refl
what_asking n t c to (what.OrderEntered r) = entered_asking n t c to None r r.order (said_by n t to (held_by c r) ++ []) (held_asking n t c to r)
what_asking n t c to (what.OrderReplaced r) = entered_asking n t c to _ r.order r.order.order [] refl
what_asking n t c to (what.OrderFilled f) = filled_asking n t to f f.order.order
what_asking n t c to (what.RoomTraded r) = hit_asking n t c to r
what_asking n t c to (what.OrderRefused r) = refl
what_asking n t c to (what.CrossRefused r) = refl
what_asking n t c to (what.OrderUnfilled r) = refl
what_asking n t c to (what.OrderCancelled r) = refl
what_asking n t c to (what.ChangeRefused r) = refl
what_asking n t c to (what.RequestRefused r) = refl
what_asking n t c to (what.QuoteStatus r) = refl
what_asking n t c to (what.MarketDataReject r) = refl
what_asking n t c to (what.BusinessReject r) = refl

-- hits

asked_traded : (n t : ℕ) (c : Trigger) (to : ℕ) (r : RequestSent) → filter_map traded_in (said_by n t to (asked_in c r) ++ []) ≡ []
asked_traded n t (trigger.Request x) to r = refl
asked_traded n t (trigger.Quote x) to r = refl
asked_traded n t (trigger.Response x) to r = refl
asked_traded n t (trigger.Order x) to r = refl
asked_traded n t (trigger.Cross x) to r = refl
asked_traded n t trigger.Tick to r = refl
asked_traded n t trigger.Other to r = refl

hit_traded : (n t : ℕ) (c : Trigger) (to : ℕ) (r : RoomReport) → filter_map traded_in (said_by n t to (hit_in c r) ++ []) ≡ cons_option (hit_from n r c) []
hit_traded n t (trigger.Request x) to r = refl
hit_traded n t (trigger.Quote x) to r = refl
hit_traded n t (trigger.Response x) to r = refl
hit_traded n t (trigger.Order x) to r = refl
hit_traded n t (trigger.Cross x) to r = refl
hit_traded n t trigger.Tick to r = refl
hit_traded n t trigger.Other to r = refl

prices_traded : (n t : ℕ) (c : Trigger) (to : ℕ) (p : BookSnapshot) → filter_map traded_in (said_by n t to (pictured_in c p) ++ prices_words n t to c p) ≡ []
prices_traded n t (trigger.Request x) to p = refl
prices_traded n t (trigger.Quote x) to p = shown_silent traded_in traded-deaf n t to p.request_id p.entries
prices_traded n t (trigger.Response x) to p = refl
prices_traded n t (trigger.Order x) to p = refl
prices_traded n t (trigger.Cross x) to p = refl
prices_traded n t trigger.Tick to p = refl
prices_traded n t trigger.Other to p = refl

held_traded : (n t : ℕ) (c : Trigger) (to : ℕ) (r : OrderReport) → filter_map traded_in (said_by n t to (held_by c r) ++ []) ≡ []
held_traded n t (trigger.Request x) to r = refl
held_traded n t (trigger.Quote x) to r = refl
held_traded n t (trigger.Response x) to r = refl
held_traded n t (trigger.Order x) to r = refl
held_traded n t (trigger.Cross x) to r = refl
held_traded n t trigger.Tick to r = refl
held_traded n t trigger.Other to r = refl

entered_traded : (n t : ℕ) (c : Trigger) (to : ℕ) (original : Option (List ℕ)) (r : OrderReport) (o : Option ℕ) (rest : List EvidenceEvent) → filter_map traded_in rest ≡ [] → filter_map traded_in (said_by n t to (entered_of c original r o) ++ rest) ≡ []
entered_traded n t c to original r None rest k = k
entered_traded n t c to original r (Some order) rest k = k

filled_traded : (n t to : ℕ) (f : FilledReport) (o : Option ℕ) → filter_map traded_in (said_by n t to (filled_of f o) ++ []) ≡ []
filled_traded n t to f None = refl
filled_traded n t to f (Some order) = refl

what_traded : (n t : ℕ) (c : Trigger) (to : ℕ) (x : ReplyBody) → filter_map traded_in (what_words n t c to x) ≡ cons_option (hit_what n c x) []
what_traded n t c to (what.RequestSent r) = asked_traded n t c to r
what_traded n t c to (what.BookSnapshot p) = prices_traded n t c to p
what_traded n t c to (what.QuoteSent q) = refl
what_traded n t c to (what.OrderEntered r) = entered_traded n t c to None r r.order (said_by n t to (held_by c r) ++ []) (held_traded n t c to r)
what_traded n t c to (what.OrderReplaced r) = entered_traded n t c to _ r.order r.order.order [] refl
what_traded n t c to (what.OrderFilled f) = filled_traded n t to f f.order.order
what_traded n t c to (what.RoomTraded r) = hit_traded n t c to r
what_traded n t c to (what.OrderRefused r) = refl
what_traded n t c to (what.CrossRefused r) = refl
what_traded n t c to (what.OrderUnfilled r) = refl
what_traded n t c to (what.OrderCancelled r) = refl
what_traded n t c to (what.ChangeRefused r) = refl
what_traded n t c to (what.RequestRefused r) = refl
what_traded n t c to (what.QuoteStatus r) = refl
what_traded n t c to (what.MarketDataReject r) = refl
what_traded n t c to (what.BusinessReject r) = refl

-- held sides

asked_hold : (n t : ℕ) (c : Trigger) (to : ℕ) (r : RequestSent) → filter_map hold_in (said_by n t to (asked_in c r) ++ []) ≡ []
asked_hold n t (trigger.Request x) to r = refl
asked_hold n t (trigger.Quote x) to r = refl
asked_hold n t (trigger.Response x) to r = refl
asked_hold n t (trigger.Order x) to r = refl
asked_hold n t (trigger.Cross x) to r = refl
asked_hold n t trigger.Tick to r = refl
asked_hold n t trigger.Other to r = refl

hit_hold : (n t : ℕ) (c : Trigger) (to : ℕ) (r : RoomReport) → filter_map hold_in (said_by n t to (hit_in c r) ++ []) ≡ []
hit_hold n t (trigger.Request x) to r = refl
hit_hold n t (trigger.Quote x) to r = refl
hit_hold n t (trigger.Response x) to r = refl
hit_hold n t (trigger.Order x) to r = refl
hit_hold n t (trigger.Cross x) to r = refl
hit_hold n t trigger.Tick to r = refl
hit_hold n t trigger.Other to r = refl

prices_hold : (n t : ℕ) (c : Trigger) (to : ℕ) (p : BookSnapshot) → filter_map hold_in (said_by n t to (pictured_in c p) ++ prices_words n t to c p) ≡ []
prices_hold n t (trigger.Request x) to p = refl
prices_hold n t (trigger.Quote x) to p = shown_silent hold_in hold-deaf n t to p.request_id p.entries
prices_hold n t (trigger.Response x) to p = refl
prices_hold n t (trigger.Order x) to p = refl
prices_hold n t (trigger.Cross x) to p = refl
prices_hold n t trigger.Tick to p = refl
prices_hold n t trigger.Other to p = refl

held_hold : (n t : ℕ) (c : Trigger) (to : ℕ) (r : OrderReport) → filter_map hold_in (said_by n t to (held_by c r) ++ []) ≡ cons_option (hold_from t to r c) []
held_hold n t (trigger.Request x) to r = refl
held_hold n t (trigger.Quote x) to r = refl
held_hold n t (trigger.Response x) to r = refl
held_hold n t (trigger.Order x) to r = refl
held_hold n t (trigger.Cross x) to r = refl
held_hold n t trigger.Tick to r = refl
held_hold n t trigger.Other to r = refl

entered_hold : (n t : ℕ) (c : Trigger) (to : ℕ) (original : Option (List ℕ)) (r : OrderReport) (o : Option ℕ) (rest : List EvidenceEvent) → filter_map hold_in (said_by n t to (entered_of c original r o) ++ rest) ≡ filter_map hold_in rest
entered_hold n t c to original r None rest = refl
entered_hold n t c to original r (Some order) rest = refl

filled_hold : (n t to : ℕ) (f : FilledReport) (o : Option ℕ) → filter_map hold_in (said_by n t to (filled_of f o) ++ []) ≡ []
filled_hold n t to f None = refl
filled_hold n t to f (Some order) = refl

what_hold : (n t : ℕ) (c : Trigger) (to : ℕ) (x : ReplyBody) → filter_map hold_in (what_words n t c to x) ≡ cons_option (hold_what t c to x) []
what_hold n t c to (what.RequestSent r) = asked_hold n t c to r
what_hold n t c to (what.BookSnapshot p) = prices_hold n t c to p
what_hold n t c to (what.QuoteSent q) = refl
what_hold n t c to (what.OrderEntered r) = entered_hold n t c to None r r.order (said_by n t to (held_by c r) ++ []) ∙ held_hold n t c to r
what_hold n t c to (what.OrderReplaced r) = entered_hold n t c to _ r.order r.order.order []
what_hold n t c to (what.OrderFilled f) = filled_hold n t to f f.order.order
what_hold n t c to (what.RoomTraded r) = hit_hold n t c to r
what_hold n t c to (what.OrderRefused r) = refl
what_hold n t c to (what.CrossRefused r) = refl
what_hold n t c to (what.OrderUnfilled r) = refl
what_hold n t c to (what.OrderCancelled r) = refl
what_hold n t c to (what.ChangeRefused r) = refl
what_hold n t c to (what.RequestRefused r) = refl
what_hold n t c to (what.QuoteStatus r) = refl
what_hold n t c to (what.MarketDataReject r) = refl
what_hold n t c to (what.BusinessReject r) = refl

-- all replies, and what rested before an order

option_then : {Y : Type 0} (o : Option Y) (ys : List Y) → cons_option o [] ++ ys ≡ cons_option o ys
option_then None ys = refl
option_then (Some y) ys = refl

pub replies_say : {Y : Type 0} (pick : EvidenceEvent → Option Y) (by : Reply → Option Y) (n t : ℕ) (c : Trigger) → ((r : Reply) → filter_map pick (words_in n t c r) ≡ cons_option (by r) []) → (rs : List Reply)
    → filter_map pick (words_of n t c rs) ≡ filter_map by rs
replies_say pick by n t c each [] = refl
replies_say pick by n t c each (r ∷ rs) =
    filter_map-append pick (words_in n t c r) (words_of n t c rs)
    ∙ (ap (λ l. l ++ filter_map pick (words_of n t c rs)) (each r)
    ∙ (ap (λ l. cons_option (by r) [] ++ l) (replies_say pick by n t c each rs)
    ∙ option_then (by r) (filter_map by rs)))

pub entries_say : (n t : ℕ) (c : Trigger) (rs : List Reply) → filter_map entry_in (words_of n t c rs) ≡ filter_map (entry_by n t c) rs
unfolding words_in
entries_say n t c rs = replies_say entry_in (entry_by n t c) n t c (λ r. what_entry n t c r.to r.what) rs

pub fills_say : (n t : ℕ) (c : Trigger) (rs : List Reply) → filter_map fill_in (words_of n t c rs) ≡ filter_map (fill_by n) rs
unfolding words_in
fills_say n t c rs = replies_say fill_in (fill_by n) n t c (λ r. what_fill n t c r.to r.what) rs

pub holds_say : (n t : ℕ) (c : Trigger) (rs : List Reply) → filter_map hold_in (words_of n t c rs) ≡ filter_map (hold_by t c) rs
unfolding words_in
holds_say n t c rs = replies_say hold_in (hold_by t c) n t c (λ r. what_hold n t c r.to r.what) rs

pub askings_say : (n t : ℕ) (c : Trigger) (rs : List Reply) → filter_map asking_in (words_of n t c rs) ≡ filter_map (asking_by n t c) rs
unfolding words_in
askings_say n t c rs = replies_say asking_in (asking_by n t c) n t c (λ r. what_asking n t c r.to r.what) rs

pub hits_say : (n t : ℕ) (c : Trigger) (rs : List Reply) → filter_map traded_in (words_of n t c rs) ≡ filter_map (hit_by n c) rs
unfolding words_in
hits_say n t c rs = replies_say traded_in (hit_by n c) n t c (λ r. what_traded n t c r.to r.what) rs
