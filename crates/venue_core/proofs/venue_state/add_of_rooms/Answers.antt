use Rattle.std.proofs.Common.{◌≡◌, refl, length, arith, ◌∙◌, ap, sym, subst, true, ◌+◌, ◌++◌}
use Rattle.std.specs.List.{list_all}
use Rattle.venue_rules.specs.Run.{after}
use Rattle.rfq_room.specs.RoomFacts.{is_room_fact}
use Rattle.trade_history.specs.Numbered.{AreNumbered}
use Rattle.venue_core.specs.declared.plan.Part.TheVariants.{OfRooms}
use Rattle.venue_core.specs.Plan.{answer_of, trades_with}
use Rattle.venue_core.specs.VenueFacts.{IsStanding}
use Rattle.venue_core.specs.State.{VenueFacts, standing}
use Rattle.venue_core.proofs.Adding.{rooms-after, same-standing, with-length}
use Rattle.venue_core.proofs.Parting.{rest-all}
use Rattle.venue_core.proofs.venue_state.add_of_rooms.Goals as goal

pub returns-clause-after : goal.returns-clause-after
returns-clause-after c =
    let old = c.args.day.now in
    let answer = c.args.answer in
    let grown : c.apply.new.self.facts ≡ old.rooms.facts ++ answer.facts = c.apply.ensures ∙ ap (λ fs. old.rooms.facts ++ fs) c.into_plan-plan.ensures in
    let traded : c.add.new.self.trades ≡ trades_with old.traded.trades answer.facts = c.add.ensures ∙ ap (λ fs. trades_with old.traded.trades fs) (c.facts.ensures ∙ c.into_plan-plan.ensures) in
    let next : AreNumbered (old.rooms.facts ++ answer.facts) = c.numbers_go_on.ensures.more old.rooms answer.facts c.requires.numbered c.requires.room.0 in
    let own : list_all is_room_fact answer.facts ≡ true = rest-all is_room_fact old.rooms.facts answer.facts (ap (λ fs. list_all is_room_fact fs) (sym grown) ∙ c.facts_are_own-rooms.ensures.own) in
    λ h s. subst (λ (p : VenueFacts). IsStanding p (after h (answer_of (OfRooms answer c.args.read)))) (sym (same-standing _ _ _ _ _ _ _ _ _ _ _ _ refl grown refl (ap (λ n. old.reports + n) c.reports.ensures.value) traded c.add_read.ensures)) (rooms-after c.trades_are_read.ensures.more c.later_quotes_are_read.ensures.more c.first_quote_is_read.ensures (standing old) h answer c.args.read c.requires.numbered next (c.requires.room.2.right h s) own s)

pub returns-clause-trades : goal.returns-clause-trades
returns-clause-trades c =
    let old = c.args.day.now in
    let answer = c.args.answer in
    let traded : c.add.new.self.trades ≡ trades_with old.traded.trades answer.facts = c.add.ensures ∙ ap (λ fs. trades_with old.traded.trades fs) (c.facts.ensures ∙ c.into_plan-plan.ensures) in
    omega (arith, ap length traded, with-length old.traded.trades answer.facts, c.requires.room.1.few)
