use Rattle.std.proofs.Common.{◌≡◌, ◌∙◌, sym, ap, ◌&&◌, List, Some, None, cond, nat_eq, option_map, arith}
use Rattle.venue_rules.specs.declared.facts.Fact.{Fact}
use Rattle.venue_rules.specs.Facts.{quote_in}
use Rattle.rfq_room.specs.LastQuotes.{Latest, last_in}
use Rattle.rfq_room.proofs.Flagging.{last-some, last-none}
use Rattle.rfq_room.proofs.room_index.add_lasts.Goals.{in-Some, in_default}
use Rattle.rfq_room.proofs.room_index.add_lasts.Goals as goal

pub loop-fact-preserved : goal.loop-fact-preserved
loop-fact-preserved c =
    let fs : List Fact = c.args.facts.now in
    elim c.match-quote_in.branch [
      | in-Some w ↦
          let q = w.in-Some.quote.now in
          let some : quote_in c.fact-item.result ≡ Some q = sym c.quote_in.ensures ∙ ap (option_map (λ x. x.now)) w.in-Some.is in (
            (λ room maker. last-some fs c.loop-fact.fact-index c.fact-item.result q room maker _ _ c.loop-fact-test.true c.fact-item.is some (ap (λ (u : Latest). last_in u.entries room maker) w.lasts-is ∙ w.set.ensures.entries room maker ∙ ap (λ o. cond (nat_eq q.room room && nat_eq q.maker maker) (Some q.number) o) (c.loop-fact.invariant.0 room maker))),
            omega (arith, ap (λ (u : Latest). u.headroom) w.lasts-is, w.set.ensures.headroom, c.loop-fact.invariant.1),
          )
      | in_default w ↦
          let none : quote_in c.fact-item.result ≡ None = sym c.quote_in.ensures ∙ ap (option_map (λ x. x.now)) w.in_default.is in (
            (λ room maker. last-none fs c.loop-fact.fact-index c.fact-item.result room maker _ _ c.loop-fact-test.true c.fact-item.is none (ap (λ (u : Latest). last_in u.entries room maker) w.lasts-is ∙ c.loop-fact.invariant.0 room maker)),
            omega (arith, ap (λ (u : Latest). u.headroom) w.lasts-is, c.loop-fact.invariant.1),
          )
    ]
