-- The moments of the events of a day, and the first moment of a step.
use Rattle.std.proofs.Common.{◌≡◌, refl, sym, ap, ◌∙◌, ℕ, ◌==◌, ◌+◌, ◌||◌, ◌&&◌, Bool, true, false, not, nat_lt, if◌then◌else◌, is_some, List, [], ◌∷◌, ◌++◌, Option, Some, None}
use Rattle.std.specs.List.{flat_map, list_any}
use Rattle.std.proofs.lemmas.Bool.{true≢false, or_parts}
use Rattle.std.proofs.lemmas.List.Folds.{list_any-append}
use Rattle.venue_rules.specs.declared.refusals.OrderRefusal.{OrderRefusal}
use Rattle.venue_rules.specs.declared.refusals.OrderRefusal.TheVariants as refusal
use Rattle.venue_rules.specs.declared.replies.OrderReport.{OrderReport}
use Rattle.venue_rules.specs.declared.replies.QuoteState.{QuoteState}
use Rattle.venue_rules.specs.declared.replies.QuoteState.TheVariants as state
use Rattle.venue_rules.specs.declared.replies.Reply.{Reply}
use Rattle.venue_rules.specs.declared.replies.ReplyBody.{ReplyBody}
use Rattle.venue_rules.specs.declared.replies.ReplyBody.TheVariants as reply
use Rattle.venue_rules.specs.declared.trail.Taken.{Taken}
use Rattle.venue_rules.specs.declared.trail.TrailRow.{TrailRow}
use Rattle.day_events.specs.declared.event.Event.{Event}
use Rattle.day_events.specs.declared.event.Origin.{Origin}
use Rattle.day_events.specs.declared.event.What.{What}
use Rattle.day_events.specs.declared.event.What.TheVariants as what
use Rattle.day_events.specs.Events.{cause, ended_for_other, event, events_at, is_refusal, origin_of, refused_at, reported, reported_what, too_recent}
use Rattle.request_sections.specs.declared.fate.Fate.{Fate}
use Rattle.request_sections.specs.declared.fate.Fate.TheVariants as fate
use Rattle.request_sections.specs.declared.fate.Quoted.{Quoted}
use Rattle.request_sections.specs.Fate.{decided, ended, names_quote}
use Rattle.request_sections.specs.Lives.{end_moment, moment_if, room_moment}
use Rattle.request_sections.specs.Picks.{names_room}
use Rattle.quote_laws.proofs.Becoming.{Became, Over, ends}
use Rattle.quote_laws.proofs.ByFacts.{decided_as, is_decided}
use Rattle.quote_laws.proofs.Steps.{Step, event_steps, source_of, step_of, steps}

-- each event is at a moment for which this holds

abbrev pub MomentsAre : (ℕ → Type 0) → List Event → Type 0
MomentsAre P [] = Unit {0}
MomentsAre P (e ∷ es) = P e.at.moment × MomentsAre P es

pub MomentsAre-append : (P : ℕ → Type 0) (xs ys : List Event) → MomentsAre P xs → MomentsAre P ys → MomentsAre P (xs ++ ys)
MomentsAre-append P [] ys h k = k
MomentsAre-append P (e ∷ es) ys h k = (h.0, MomentsAre-append P es ys h.1 k)

too_recent_at : (P : ℕ → Type 0) (o : Origin) (to : ℕ) (r : OrderReport) (cause : OrderRefusal) → P o.moment → MomentsAre P (too_recent o to r cause)
too_recent_at P o to r refusal.LinkedOrderTooRecent h = (h, tt)
too_recent_at P o to r refusal.UnknownInstrument h = tt
too_recent_at P o to r refusal.DuplicateClOrdId h = tt
too_recent_at P o to r refusal.UnsupportedOrder h = tt
too_recent_at P o to r refusal.PriceOffTick h = tt
too_recent_at P o to r refusal.QuantityBelowLeast h = tt
too_recent_at P o to r refusal.BookSideFull h = tt

ended_at : (P : ℕ → Type 0) (b : Bool) (o : Origin) (to : ℕ) (quote : Option (List ℕ)) (s : QuoteState) → P o.moment → MomentsAre P (ended_for_other b o to quote s)
ended_at P true o to quote s h = tt
ended_at P false o to quote state.Withdrawn h = (h, tt)
ended_at P false o to quote state.Passed h = (h, tt)
ended_at P false o to quote state.Accepted h = tt
ended_at P false o to quote (state.Refused c) h = tt
ended_at P false o to quote (state.ResponseRefused c) h = tt
ended_at P false o to quote state.CancelUnsupported h = tt
ended_at P false o to quote state.Expired h = tt
ended_at P false o to quote state.NotFound h = tt

one_at : (P : ℕ → Type 0) (o : Origin) (to : ℕ) (b : ReplyBody) → P o.moment → MomentsAre P (reported_what o to b)
one_at P o to (reply.OrderRefused r) h = too_recent_at P o to r.order r.cause h
one_at P o to (reply.CrossRefused r) h = tt
one_at P o to (reply.OrderEntered r) h = (h, tt)
one_at P o to (reply.OrderFilled r) h = (h, tt)
one_at P o to (reply.OrderUnfilled r) h = tt
one_at P o to (reply.OrderCancelled r) h = (h, tt)
one_at P o to (reply.OrderReplaced r) h = (h, tt)
one_at P o to (reply.ChangeRefused r) h = tt
one_at P o to (reply.RequestRefused r) h = tt
one_at P o to (reply.RequestSent r) h = (h, tt)
one_at P o to (reply.QuoteStatus r) h = ended_at P (to + 1 == o.from) o to r.quote_id r.state h
one_at P o to (reply.QuoteSent r) h = (h, tt)
one_at P o to (reply.RoomTraded r) h = (h, tt)
one_at P o to (reply.BookSnapshot r) h = tt
one_at P o to (reply.MarketDataReject r) h = tt
one_at P o to (reply.BusinessReject r) h = tt

all_at : (P : ℕ → Type 0) (o : Origin) (rs : List Reply) → P o.moment → MomentsAre P (flat_map (reported o) rs)
all_at P o [] h = tt
all_at P o (r ∷ rs) h = MomentsAre-append P (reported o r) (flat_map (reported o) rs) (one_at P o r.to r.what h) (all_at P o rs h)

refusals_at : (P : ℕ → Type 0) (o : Origin) (rs : List Reply) → P o.moment → MomentsAre P (refused_at o rs)
refusals_at P o [] h = tt
refusals_at P o (r ∷ rs) h = by (is_refusal r.what) (event o r.to (what.Refused (cause r.what)) ∷ []) (h, tt) (refusals_at P o rs h)
  where
    by : (b : Bool) (es : List Event) → MomentsAre P es → MomentsAre P (refused_at o rs) → MomentsAre P (if b then es else refused_at o rs)
    by true es first later = first
    by false es first later = later

origin_moment : (P : ℕ → Type 0) (r : TrailRow) (taken : Option Taken) → P r.moment → P (origin_of r taken).moment
origin_moment P r None h = h
origin_moment P r (Some taken) h = h

pub row_at : (P : ℕ → Type 0) (r : TrailRow) (taken : Option Taken) (replies : List Reply) → P r.moment → MomentsAre P (events_at r taken replies)
row_at P r taken replies h =
    let o = origin_of r taken in
    let k : P (origin_of r taken).moment = origin_moment P r taken h in
    MomentsAre-append P (flat_map (reported o) replies) (refused_at o replies) (all_at P o replies k) (refusals_at P o replies k)

-- The first moment of a step.

abbrev pub first_moment : (Step → Bool) → List Event → Option ℕ
first_moment p [] = None
first_moment p (e ∷ es) = if list_any p (event_steps e) then Some e.at.moment else first_moment p es

abbrev pub IfSome : (ℕ → Type 0) → Option ℕ → Type 0
IfSome P None = Unit {0}
IfSome P (Some u) = P u

steps_more : (p : Step → Bool) (e : Event) (es : List Event) → list_any p (steps (e ∷ es)) ≡ (list_any p (event_steps e) || list_any p (steps es))
steps_more p e es = list_any-append p (event_steps e) (steps es)

pub first_of_none : (p : Step → Bool) (es : List Event) → list_any p (steps es) ≡ false → first_moment p es ≡ None
first_of_none p [] h = refl
first_of_none p (e ∷ es) h =
    let k = or_parts (list_any p (event_steps e)) (list_any p (steps es)) (sym (steps_more p e es) ∙ h) in
    ap (λ b. if b then Some e.at.moment else first_moment p es) k.0 ∙ first_of_none p es k.1

pub first_past : (p : Step → Bool) (xs ys : List Event) → list_any p (steps xs) ≡ false → first_moment p (xs ++ ys) ≡ first_moment p ys
first_past p [] ys h = refl
first_past p (e ∷ es) ys h =
    let k = or_parts (list_any p (event_steps e)) (list_any p (steps es)) (sym (steps_more p e es) ∙ h) in
    ap (λ b. if b then Some e.at.moment else first_moment p (es ++ ys)) k.0 ∙ first_past p es ys k.1

pub first_in : (P : ℕ → Type 0) (p : Step → Bool) (es : List Event) → MomentsAre P es → IfSome P (first_moment p es)
first_in P p [] h = tt
first_in P p (e ∷ es) h = by (list_any p (event_steps e)) (first_in P p es h.1)
  where
    by : (b : Bool) → IfSome P (first_moment p es) → IfSome P (if b then Some e.at.moment else first_moment p es)
    by true k = h.0
    by false k = k

pub first_here : (P : ℕ → Type 0) (p : Step → Bool) (xs ys : List Event) → MomentsAre P xs → list_any p (steps xs) ≡ true → (u : ℕ) × (first_moment p (xs ++ ys) ≡ Some u) × P u
first_here P p [] ys h k = absurd (true≢false (sym k))
first_here P p (e ∷ es) ys h k = by (list_any p (event_steps e)) (sym (steps_more p e es) ∙ k) (λ l. first_here P p es ys h.1 l)
  where
    by : (b : Bool) → (b || list_any p (steps es)) ≡ true → (list_any p (steps es) ≡ true → (u : ℕ) × (first_moment p (es ++ ys) ≡ Some u) × P u) → (u : ℕ) × ((if b then Some e.at.moment else first_moment p (es ++ ys)) ≡ Some u) × P u
    by true l later = (e.at.moment, refl, h.0)
    by false l later = later l

-- The end of a quote, and what its room decides, are such moments.

moment_by : (o : Option Fate) (b : Bool) (t : ℕ) (x y : Option ℕ) → is_some o ≡ b → x ≡ y → moment_if o t x ≡ (if b then Some t else y)
moment_by None true t x y e k = absurd (true≢false (sym e))
moment_by None false t x y e k = k
moment_by (Some f) true t x y e k = refl
moment_by (Some f) false t x y e k = absurd (true≢false e)

some_if : (b : Bool) (f : Fate) → is_some (if b then Some f else None) ≡ (b || false)
some_if true f = refl
some_if false f = refl

one_ended : (q : Quoted) (o : Origin) (w : What) → is_some (ended q o w) ≡ list_any (ends q) (step_of (source_of o) w)
one_ended q o (what.Withdrawn id) = some_if (names_quote q.quote id) (fate.Withdrawn o.row)
one_ended q o what.Passed = some_if (names_quote q.quote o.named) (fate.Passed o.row)
one_ended q o (what.Traded t) = refl
one_ended q o (what.Quoted n) = refl
one_ended q o (what.Entered x) = refl
one_ended q o (what.TooRecent x) = refl
one_ended q o (what.Filled x) = refl
one_ended q o (what.Cancelled x) = refl
one_ended q o (what.Replaced x) = refl
one_ended q o (what.Asked x) = refl
one_ended q o (what.Refused x) = refl

pub ends_first : (q : Quoted) (es : List Event) → end_moment q es ≡ first_moment (ends q) es
ends_first q [] = refl
ends_first q (e ∷ es) = moment_by (ended q e.at e.what) (list_any (ends q) (event_steps e)) e.at.moment (end_moment q es) (first_moment (ends q) es) (one_ended q e.at e.what) (ends_first q es)

traded_some : (n : ℕ) (a b c : Bool) (f g : Fate) → is_some (if not a then None else (if b then Some f else Some g)) ≡ (is_some (decided_as n a b c) || false)
traded_some n false b c f g = refl
traded_some n true true true f g = refl
traded_some n true true false f g = refl
traded_some n true false c f g = refl

replaced_some : (b : Bool) (f : Fate) (x : Became) → is_some (if b then Some f else None) ≡ (is_some (if b then Some x else None) || false)
replaced_some true f x = refl
replaced_some false f x = refl

one_decided : (q : Quoted) (o : Origin) (w : What) → is_some (decided q o w) ≡ list_any (is_decided q) (step_of (source_of o) w)
one_decided q o (what.Traded t) = traded_some t.trade (t.room == q.room) (names_quote q.quote o.named) (nat_lt q.end o.moment) (fate.Hit t.trade) fate.NotTaken
one_decided q o (what.Quoted n) = replaced_some (nat_lt q.quote n.quote && (o.from == q.from && names_room q.room o.named)) (fate.Replaced n.quote) Over
one_decided q o (what.Withdrawn id) = refl
one_decided q o what.Passed = refl
one_decided q o (what.Entered x) = refl
one_decided q o (what.TooRecent x) = refl
one_decided q o (what.Filled x) = refl
one_decided q o (what.Cancelled x) = refl
one_decided q o (what.Replaced x) = refl
one_decided q o (what.Asked x) = refl
one_decided q o (what.Refused x) = refl

pub decided_first : (q : Quoted) (es : List Event) → room_moment q es ≡ first_moment (is_decided q) es
decided_first q [] = refl
decided_first q (e ∷ es) = moment_by (decided q e.at e.what) (list_any (is_decided q) (event_steps e)) e.at.moment (room_moment q es) (first_moment (is_decided q) es) (one_decided q e.at e.what) (decided_first q es)
