-- The events of a day say what the facts of its inputs do.
use Rattle.std.proofs.Common.{◌≡◌, refl, sym, ap, ◌∙◌, subst, ℕ, ◌+◌, ◌||◌, List, [], ◌∷◌, ◌++◌, length, None, arith, append-nil, append_assoc, length-append}
use Rattle.std.proofs.lemmas.Grind.{flat_map-append}
use Rattle.std.proofs.lemmas.List.Elements.{filter_map-append}
use Rattle.std.proofs.lemmas.List.Folds.{list_any-append}
use Rattle.venue_rules.specs.declared.facts.Fact.{Fact}
use Rattle.venue_rules.specs.declared.replies.Reply.{Reply}
use Rattle.venue_rules.specs.declared.trail.TrailRow.{TrailRow}
use Rattle.venue_rules.specs.Answer.{Answer, Sender}
use Rattle.venue_rules.specs.Answers.{type_of}
use Rattle.venue_rules.specs.Delay.{due}
use Rattle.venue_rules.specs.Facts.{History, next_trade, no_history, trade_in, trades}
use Rattle.venue_rules.specs.Market.{Market}
use Rattle.venue_rules.specs.Rooms.{closes, is_closed}
use Rattle.venue_rules.specs.Run.{Input, Message, Tick, after, answer_input, run}
use Rattle.venue_rules.proofs.EveryReport.{added, run_facts}
use Rattle.venue_rules.proofs.EveryRun.{run-Follows}
use Rattle.venue_rules.proofs.Follows.{Each, Each-append, Follows}
use Rattle.venue_core.specs.Replay.{AreEmitted, Emits}
use Rattle.day_events.specs.declared.event.Event.{Event}
use Rattle.day_events.specs.Days.{events, said_from, taken_in}
use Rattle.day_events.specs.Events.{events_at, named_in, origin_of}
use Rattle.quote_laws.proofs.EachAnswer.{Agrees, Known, app-agrees, due_of-agrees}
use Rattle.quote_laws.proofs.Steps.{Fits, event_steps, fact_steps, has_traded, row_said, source_of, steps, trades_in, trades_more}

-- of a row

pub input_agrees : (m : Market) (h : History) (known : Known m h) (r : TrailRow) (i : Input) → Emits r i → Agrees (source_of (origin_of r (taken_in i))) h (answer_input m h i)
input_agrees m h known r (Message taken t) e =
    let s : Sender = record { who = taken.from; number = taken.item.number; kind = type_of taken.item.app } in
    let a : Answer = answer_input m h (Message taken t) in
    subst (λ (u : ℕ). Agrees (record { from = u; named = named_in taken.item.app; moment = r.moment }) h a) (sym e.0)
    (subst (λ (u : ℕ). Agrees (record { from = taken.from + 1; named = named_in taken.item.app; moment = u }) h a) (sym e.3) (app-agrees m h known s taken.item.app t))
input_agrees m h known r (Tick t) e = due_of-agrees (source_of (origin_of r None)) m h (due h.facts t)

-- of rows from a history on

pub front : (P : List Fact → Fact → Type 0) (before fs gs : List Fact) → Each P before (fs ++ gs) → Each P before fs
front P before [] gs e = tt
front P before (f ∷ fs) gs e = (e.0, front P (before ++ (f ∷ [])) fs gs e.1)

pub behind : (P : List Fact → Fact → Type 0) (before fs gs : List Fact) → Each P before (fs ++ gs) → Each P (before ++ fs) gs
behind P before [] gs e = subst (λ b. Each P b gs) (sym (append-nil before)) e
behind P before (f ∷ fs) gs e = subst (λ b. Each P b gs) (append_assoc before (f ∷ []) fs) (behind P (before ++ (f ∷ [])) fs gs e.1)

pub next_after : (fs gs : List Fact) → next_trade (fs ++ gs) ≡ next_trade fs + length (trades gs)
next_after fs gs = ap (λ n. n + 1) (ap length (filter_map-append trade_in fs gs) ∙ length-append (trades fs) (trades gs)) ∙ moved (length (trades fs)) (length (trades gs))
  where
    moved : (a b : ℕ) → a + b + 1 ≡ a + 1 + b
    moved a b = omega arith

abbrev Says : Market → History → List TrailRow → List Input → Type 0
Says m h rs is = (steps (said_from events_at m h rs is) ≡ fact_steps (next_trade h.facts) (added m h is)) × ((room : ℕ) → is_closed (added m h is) room ≡ has_traded (added m h is) room) × Each Fits h.facts (added m h is)

pub joined : (fs gs : List Fact) (room : ℕ) → is_closed fs room ≡ has_traded fs room → is_closed gs room ≡ has_traded gs room → is_closed (fs ++ gs) room ≡ has_traded (fs ++ gs) room
joined fs gs room e f = list_any-append (closes room) fs gs ∙ ((λ j. e j || f j) ∙ sym (list_any-append (trades_in room) fs gs))

from_agrees : (m : Market) (said : List Reply) (h : History) (rs : List TrailRow) (is : List Input) → AreEmitted rs is → Each (Follows m said) [] (h.facts ++ added m h is) → ((room : ℕ) → is_closed h.facts room ≡ has_traded h.facts room) → Says m h rs is
from_agrees m said h [] [] emitted each closed = (refl, λ room. refl, tt)
from_agrees m said h [] (i ∷ is) emitted each closed = absurd emitted
from_agrees m said h (r ∷ rs) [] emitted each closed = absurd emitted
from_agrees m said h (r ∷ rs) (i ∷ is) emitted each closed =
    let a : Answer = answer_input m h i in
    let more : List Fact = added m (after h a) is in
    let known : Known m h = record { replies = said; follows = front (Follows m said) [] h.facts (a.facts ++ more) each; closed = closed } in
    let here : Agrees (source_of (origin_of r (taken_in i))) h a = input_agrees m h known r i emitted.0 in
    let later : Says m (after h a) rs is = from_agrees m said (after h a) rs is emitted.1 (subst (Each (Follows m said) []) (sym (append_assoc h.facts a.facts more)) each) (λ room. joined h.facts a.facts room (closed room) (here.1 room)) in
    let first : List Event = events_at r (taken_in i) a.replies in
    let said_here : steps first ≡ fact_steps (next_trade h.facts) a.facts = row_said r (taken_in i) a.replies ∙ here.0 in
    let said_later : steps (said_from events_at m (after h a) rs is) ≡ fact_steps (next_trade h.facts + length (trades a.facts)) more = later.0 ∙ ap (λ k. fact_steps k more) (next_after h.facts a.facts) in (
      flat_map-append event_steps first (said_from events_at m (after h a) rs is) ∙ ((λ j. said_here j ++ said_later j) ∙ sym (trades_more a.facts more (next_trade h.facts))),
      λ room. joined a.facts more room (here.1 room) (later.1 room),
      Each-append Fits h.facts a.facts more here.2 later.2,
    )

-- of a day
pub record SaysAll (es : List Event) (facts : List Fact) : Type 0 where
  pub said : steps es ≡ fact_steps 1 facts
  pub closed : (room : ℕ) → is_closed facts room ≡ has_traded facts room
  pub fits : Each Fits [] facts

pub day_agrees : (m : Market) (rs : List TrailRow) (is : List Input) → AreEmitted rs is → SaysAll (events m rs is) (run m is).history.facts
day_agrees m rs is emitted =
    let k : Says m no_history rs is = from_agrees m (run m is).replies no_history rs is emitted (subst (Each (Follows m (run m is).replies) []) (run_facts m no_history is) (run-Follows m is)) (λ room. refl) in
    subst (SaysAll (events m rs is)) (sym (run_facts m no_history is)) (record { said = k.0; closed = k.1; fits = k.2 })
