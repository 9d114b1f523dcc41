use Rattle.std.proofs.Common.{◌∙◌, ap, List, filter, option_map, Option, ℕ, arith}
use Rattle.venue_rules.specs.declared.facts.Fact.{Fact}
use Rattle.rfq_room.specs.Views.{is_taken}
use Rattle.rfq_room.proofs.Clearing.{ok-also, taken-live}
use Rattle.rfq_room.proofs.Taking.{named_taken}
use Rattle.rfq_room.proofs.room_store.RoomStore.named_quotes.Goals as goal

pub returns-then-ms-self : goal.returns-then-ms-self
returns-then-ms-self c =
    let facts : List Fact = c.self.inside.known_flags.facts in
    let named : Option (List ℕ) = option_map (λ n. n.now) c.args.named in
    rw (← c.self.view_is) (ok-also _ _ c.taken_quotes.result (λ v h. h ∙ ap (filter (is_taken facts c.args.maker c.args.moment named)) (c.deref.ensures.value ∙ c.self.invariant.all_quotes) ∙ named_taken facts c.args.maker c.args.moment named) c.taken_quotes.ensures)

pub returns : goal.returns
returns c =
    let facts : List Fact = c.self.inside.known_flags.facts in
    let named : Option (List ℕ) = option_map (λ n. n.now) c.args.named in
    rw (← c.self.view_is) (ok-also _ _ c.taken_quotes-2.result (λ v h. h ∙ ap (filter (is_taken facts c.args.maker c.args.moment named)) c.deref-2.ensures.value ∙ taken-live facts c.args.maker c.args.moment named c.self.inside.live.items (c.self.invariant.living c.args.moment (omega (arith, c.if-ms-self.false)))) c.taken_quotes-2.ensures)
