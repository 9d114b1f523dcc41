use Rattle.std.proofs.Common.{◌≡◌, ◌∙◌, sym, ap, ◌||◌, List, Some, None, arith}
use Rattle.std.specs.List.{list_any}
use Rattle.venue_rules.specs.declared.facts.Fact.{Fact}
use Rattle.client_ids.specs.ClientIds.{is_of}
use Rattle.client_ids.specs.Used.{Known}
use Rattle.rfq_room.specs.Flagged.{name_in}
use Rattle.rfq_room.proofs.Flagging.{any-some, any-none}
use Rattle.rfq_room.proofs.room_index.add_names.Goals.{in-Some, in_default}
use Rattle.rfq_room.proofs.room_index.add_names.Goals as goal

pub loop-fact-preserved : goal.loop-fact-preserved
loop-fact-preserved c =
    let fs : List Fact = c.args.facts.now in
    let m = c.args.named in
    elim c.match-name_in.branch [
      | in-Some w ↦
          let some : name_in m c.fact-item.result ≡ Some w.in-Some.name = sym c.name_in.ensures ∙ w.in-Some.is in (
            (λ who id. any-some (is_of who id) (name_in m) fs c.loop-fact.fact-index c.fact-item.result w.in-Some.name _ _ c.loop-fact-test.true c.fact-item.is some (ap (λ (u : Known). list_any (is_of who id) u.names) w.used-is ∙ w.add.ensures.names who id ∙ ap (λ b. is_of who id w.in-Some.name || b) (c.loop-fact.invariant.0 who id))),
            omega (arith, ap (λ (u : Known). u.headroom) w.used-is, w.add.ensures.headroom, c.loop-fact.invariant.1),
          )
      | in_default w ↦
          let none : name_in m c.fact-item.result ≡ None = sym c.name_in.ensures ∙ w.in_default.is in (
            (λ who id. any-none (is_of who id) (name_in m) fs c.loop-fact.fact-index c.fact-item.result _ _ c.loop-fact-test.true c.fact-item.is none (ap (λ (u : Known). list_any (is_of who id) u.names) w.used-is ∙ c.loop-fact.invariant.0 who id)),
            omega (arith, ap (λ (u : Known). u.headroom) w.used-is, c.loop-fact.invariant.1),
          )
    ]
