-- What the venue would answer to a pass of a quote is what had become of it.
use Rattle.std.proofs.Common.{◌≡◌, refl, sym, ap, ◌∙◌, ℕ, Bool, true, false, not, ◌&&◌, ◌||◌, ◌==◌, if◌then◌else◌, List, [], ◌∷◌, Option, Some, None, eq-eqb, nat_le, nat_lt, arith}
use Rattle.std.proofs.lemmas.Bool.{true≢false}
use Rattle.std.proofs.lemmas.Bool.Decides.{leb_tells}
use Rattle.fix_dictionary.specs.declared.messages.QuoteResponse.{QuoteResponse as ResponseMessage}
use Rattle.venue_rules.specs.declared.facts.Room.{Room}
use Rattle.venue_rules.specs.declared.facts.RoomQuote.{RoomQuote}
use Rattle.venue_rules.specs.declared.replies.QuoteState.TheVariants.{Expired, NotFound, ResponseRefused, Withdrawn}
use Rattle.venue_rules.specs.declared.refusals.ResponseRefusal.TheVariants.{NotYours, Side as WrongSide}
use Rattle.venue_rules.specs.Answer.{Answer, Sender, answers, first_of}
use Rattle.venue_rules.specs.Answers.{type_of}
use Rattle.venue_rules.specs.Market.{Market}
use Rattle.venue_rules.specs.Responses.{answer_hit, answer_response_in, answer_response_to, is_other_side, passed, response_status, taken_side}
use Rattle.venue_rules.specs.Rooms.{is_closed, is_replaced, is_withdrawn, printed}
use Rattle.instruments.specs.Listing.{symbol_of}
use Rattle.trade_reconstruction.specs.declared.quote_note.Fate.{Fate}
use Rattle.trade_reconstruction.specs.declared.quote_note.Fate.TheVariants as fate
use Rattle.trade_reconstruction.specs.Laws.{FatesAreRight, LiveQuotesAreLive}
use Rattle.trade_reconstruction.specs.QuoteNotes.{fate_in, passes}

-- by the tests of the rules, in their order
abbrev fate_where : Bool → Bool → Bool → Fate
fate_where replaced withdrawn late = if replaced then fate.Replaced else if withdrawn then fate.Withdrawn else if late then fate.RunOut else fate.Live

first_fate : (m : Market) (s : Sender) (r : Room) (q : RoomQuote) (d : ResponseMessage) (rest : List (Bool × Answer)) (hit : Answer) (other closed replaced withdrawn late : Bool) → other ≡ false → closed ≡ false
    → (let say : _ → Answer = λ state. answers (response_status s d (Some r.id) (Some (symbol_of m.instruments r.instrument)) state ∷ []) in
    fate_in (first_of ((other, answers (response_status s d None None (ResponseRefused NotYours) ∷ [])) ∷ (closed || replaced, say NotFound) ∷ (withdrawn, say Withdrawn) ∷ (late, say Expired) ∷ (true, passed m s r q d) ∷ rest) hit).replies
    ≡ Some (fate_where replaced withdrawn late))
first_fate m s r q d rest hit true closed replaced withdrawn late e f = absurd (true≢false e)
first_fate m s r q d rest hit false true replaced withdrawn late e f = absurd (true≢false f)
first_fate m s r q d rest hit false false true withdrawn late e f = refl
first_fate m s r q d rest hit false false false true late e f = refl
first_fate m s r q d rest hit false false false false true e f = refl
first_fate m s r q d rest hit false false false false false e f = refl

pub fates_are_right : FatesAreRight
fates_are_right m h a t quote q r found there mine unclosed =
    let taken = passes a quote in
    let s : Sender = record { who = a.requester; number = 1; kind = type_of taken.item.app } in
    let d : ResponseMessage = record { response_id = a.request; quote_id = printed 81 quote; response_type = 6; side = None } in
    ap (λ (o : Option RoomQuote). fate_in (answer_response_to m h s d t o).replies) found
    ∙ ap (λ (o : Option Room). fate_in (answer_response_in m h s q d t o).replies) there
    ∙ first_fate m s r q d ((is_other_side r.side None, answers (response_status s d (Some r.id) (Some (symbol_of m.instruments r.instrument)) (ResponseRefused WrongSide) ∷ [])) ∷ []) (answer_hit m h s r q d t (taken_side r.side None)) (not (r.requester == a.requester)) (is_closed h.facts r.number) (is_replaced h.facts q) (is_withdrawn h.facts q.number)
    (nat_lt q.end t) (ap not (eq-eqb r.requester a.requester mine)) unclosed

-- A quote is said to be live where it is.

live_where : (replaced withdrawn closed late within : Bool) → closed ≡ false → (late ≡ false → within ≡ true) → fate_where replaced withdrawn late ≡ fate.Live → (not replaced && (not withdrawn && (not closed && within))) ≡ true
live_where true withdrawn closed late within e f g = cc
live_where false true closed late within e f g = cc
live_where false false true late within e f g = absurd (true≢false e)
live_where false false false true within e f g = cc
live_where false false false false within e f g = f refl

reported_where : (replaced withdrawn closed late within : Bool) → (within ≡ true → late ≡ false) → (not replaced && (not withdrawn && (not closed && within))) ≡ true → fate_where replaced withdrawn late ≡ fate.Live
reported_where true withdrawn closed late within f e = absurd (true≢false (sym e))
reported_where false true closed late within f e = absurd (true≢false (sym e))
reported_where false false true late within f e = absurd (true≢false (sym e))
reported_where false false false true within f e = absurd (true≢false (f e))
reported_where false false false false within f e = refl

not_late : (end t : ℕ) → nat_lt end t ≡ false → nat_le t end ≡ true
not_late end t e = grind (arith, leb_tells, e)

in_time : (end t : ℕ) → nat_le t end ≡ true → nat_lt end t ≡ false
in_time end t e = grind (arith, leb_tells, e)

pub live_quotes_are_live : LiveQuotesAreLive
live_quotes_are_live = record {
  live = λ facts t q unclosed e. live_where (is_replaced facts q) (is_withdrawn facts q.number) (is_closed facts q.room) (nat_lt q.end t) (nat_le t q.end) unclosed (not_late q.end t) e;
  reported = λ facts t q e. reported_where (is_replaced facts q) (is_withdrawn facts q.number) (is_closed facts q.room) (nat_lt q.end t) (nat_le t q.end) (in_time q.end t) e;
}
