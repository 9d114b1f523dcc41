-- Each recorded quote has its event.
use Rattle.std.proofs.Common.{◌≡◌, refl, sym, ap, ◌∙◌, subst, inl, inr, ◌⊎◌, ℕ, ◌+◌, true, List, [], ◌∷◌, Option, Some}
use Rattle.std.proofs.lemmas.Slice.Eq.{bytes_eq-Decides}
use Rattle.venue_rules.specs.declared.facts.Fact.{Fact}
use Rattle.venue_rules.specs.declared.facts.Fact.TheVariants.{Entered, Traded, Removed, Held, Unheld, Asked, Quoted, Withdrawn, Closed}
use Rattle.venue_rules.specs.declared.facts.RoomQuote.{RoomQuote}
use Rattle.venue_rules.specs.Facts.{quote_in, quotes}
use Rattle.venue_rules.specs.Rooms.{printed}
use Rattle.venue_rules.specs.Run.{run}
use Rattle.venue_rules.proofs.Members.{In, In-append_cases, In-append_right, In-filter_map, In-from_Contains, Contains-from_In}
use Rattle.day_events.specs.declared.event.Event.{Event}
use Rattle.day_events.specs.declared.event.NewQuote.{NewQuote}
use Rattle.day_events.specs.declared.event.What.{What}
use Rattle.day_events.specs.declared.event.What.TheVariants as what
use Rattle.day_events.specs.Days.{events}
use Rattle.request_sections.specs.Picks.{names_room}
use Rattle.quote_laws.specs.Outcomes.{QuotesAreListed}
use Rattle.quote_laws.proofs.Agreeing.{recorded_step}
use Rattle.quote_laws.proofs.EachDay.{SaysAll, day_agrees}
use Rattle.quote_laws.proofs.Steps.{Step, Quotes, Ends, Trades, event_steps, fact_steps, source_of, step_of, steps, trade_steps}

-- its step is said by the facts

fact_listed : (q : RoomQuote) (k : ℕ) (fs : List Fact) → In q (quotes fs) → In (recorded_step q) (fact_steps k fs)
fact_listed q k [] i = absurd i
fact_listed q k (Traded t ∷ fs) i = In-append_right (trade_steps k t.moment t.place) (fact_steps (k + 1) fs) (recorded_step q) (fact_listed q (k + 1) fs i)
fact_listed q k (Quoted y ∷ fs) (inl same) = inl (ap recorded_step same)
fact_listed q k (Quoted y ∷ fs) (inr i) = inr (fact_listed q k fs i)
fact_listed q k (Withdrawn w ∷ fs) i = inr (fact_listed q k fs i)
fact_listed q k (Entered x ∷ fs) i = fact_listed q k fs i
fact_listed q k (Removed x ∷ fs) i = fact_listed q k fs i
fact_listed q k (Held x ∷ fs) i = fact_listed q k fs i
fact_listed q k (Unheld x ∷ fs) i = fact_listed q k fs i
fact_listed q k (Asked x ∷ fs) i = fact_listed q k fs i
fact_listed q k (Closed x ∷ fs) i = fact_listed q k fs i

-- so an event says it

abbrev IsSaid : Step → List Event → Type 0
IsSaid s es = (e : Event) × In e es × In s (event_steps e)

event_of : (s : Step) (es : List Event) → In s (steps es) → IsSaid s es
event_of s [] i = absurd i
event_of s (e ∷ es) i = by (In-append_cases (event_steps e) (steps es) s i) (λ j. event_of s es j)
  where
    by : In s (event_steps e) ⊎ In s (steps es) → (In s (steps es) → IsSaid s es) → IsSaid s (e ∷ es)
    by (inl j) later = (e, inl refl, j)
    by (inr j) later = let k = later j in (k.0, inr k.1, k.2)

abbrev IsQuoteEvent : ℕ → Option (List ℕ) → Option (List ℕ) → What → Type 0
IsQuoteEvent n named given w = (x : NewQuote) × (w ≡ what.Quoted x) × (x.quote ≡ n) × (given ≡ named)

same_step : (a b : ℕ) (c d : Option (List ℕ)) (f g h i : ℕ) → Quotes a c f h ≡ Quotes b d g i → (a ≡ b) × (c ≡ d)
same_step a b c d f g h i e = (first e, second e)
  where
    first : Quotes a c f h ≡ Quotes b d g i → a ≡ b
    first x = cc

    second : Quotes a c f h ≡ Quotes b d g i → c ≡ d
    second x = cc

no_end : (id named : Option (List ℕ)) (n from end : ℕ) → Ends id ≡ Quotes n named from end → ⊥
no_end id named n from end e = cc

no_trade : (k room t : ℕ) (id named : Option (List ℕ)) (n from end : ℕ) → Trades k room id t ≡ Quotes n named from end → ⊥
no_trade k room t id named n from end e = cc

quote_event : (n : ℕ) (named : Option (List ℕ)) (from end : ℕ) (e : Event) (w : What) → In (Quotes n named from end) (step_of (source_of e.at) w) → IsQuoteEvent n named e.at.named w
quote_event n named from end e (what.Quoted x) (inl same) = let k = same_step x.quote n e.at.named named e.at.from from x.end end same in (x, refl, k.0, k.1)
quote_event n named from end e (what.Quoted x) (inr i) = absurd i
quote_event n named from end e (what.Withdrawn id) (inl same) = absurd (no_end id named n from end same)
quote_event n named from end e (what.Withdrawn id) (inr i) = absurd i
quote_event n named from end e what.Passed (inl same) = absurd (no_end e.at.named named n from end same)
quote_event n named from end e what.Passed (inr i) = absurd i
quote_event n named from end e (what.Traded t) (inl same) = absurd (no_trade t.trade t.room e.at.moment e.at.named named n from end same)
quote_event n named from end e (what.Traded t) (inr i) = absurd i
quote_event n named from end e (what.Entered x) i = absurd i
quote_event n named from end e (what.TooRecent x) i = absurd i
quote_event n named from end e (what.Filled x) i = absurd i
quote_event n named from end e (what.Cancelled x) i = absurd i
quote_event n named from end e (what.Replaced x) i = absurd i
quote_event n named from end e (what.Asked x) i = absurd i
quote_event n named from end e (what.Refused x) i = absurd i

pub quotes_listed : QuotesAreListed
quotes_listed m rs is emitted small q c =
    let facts : List Fact = (run m is).history.facts in
    let es : List Event = events m rs is in
    let says : SaysAll es facts = day_agrees m rs is emitted in
    let there : In q (quotes facts) = In-filter_map quote_in facts (Quoted q) q (In-from_Contains facts (Quoted q) c) refl in
    let s : IsSaid (recorded_step q) es = event_of (recorded_step q) es (subst (In (recorded_step q)) (sym says.said) (fact_listed q 1 facts there)) in
    let e : Event = s.0 in
    let k : IsQuoteEvent q.number (Some (printed 82 q.room)) e.at.named e.what = quote_event q.number (Some (printed 82 q.room)) (q.maker + 1) q.end e e.what s.2 in
    let here : names_room q.room e.at.named ≡ true = ap (names_room q.room) k.3 ∙ (bytes_eq-Decides (printed 82 q.room) (printed 82 q.room)).1 refl in
    (e, k.0, record { listed = Contains-from_In es e s.1; quote = k.1; here = here; small = (small q c).1 }, k.2)
