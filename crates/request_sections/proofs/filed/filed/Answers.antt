use Rattle.std.proofs.Common.{◌≡◌, ◌∙◌, ◌<◌, ◌+◌, ap, subst, sym, length, take, List, ℕ, ◌++◌, ◌∷◌, [], Option, get_or}
use Rattle.std.proofs.lemmas.List.{take_more, take_all}
use Rattle.day_events.specs.declared.event.Event.{Event}
use Rattle.request_sections.specs.Keys.{AreFiled, key_of}
use Rattle.request_sections.proofs.Filing.{Put, filed_more, filed_none}
use Rattle.request_sections.proofs.filed.filed.Goals as goal

pub loop-event-init : goal.loop-event-init
loop-event-init c = (c.in_ok-buckets.ensures.some, filed_none c.args.by c.in_ok-buckets.buckets.items c.in_ok-buckets.ensures.empty)

pub loop-event-preserved : goal.loop-event-preserved
loop-event-preserved c =
    let es = c.args.events.now in
    let i = c.loop-event.event-index in
    let e = c.event-item.result in
    let old = c.loop-event.buckets.items in
    let new = c.put.new.buckets.items in
    let into : Put e (key_of c.args.by e) old new = subst (λ (k : Option ℕ). Put e k old new) c.key_of.ensures c.in_ok-put.ensures.put in
    let more : take i es ++ e ∷ [] ≡ take (i + 1) es = ap (λ (x : Event). take i es ++ x ∷ []) c.event-item.is ∙ sym (take_more es i e c.loop-event-test.true) in (
      subst (λ (n : ℕ). 0 < n) (sym c.put.ensures.len) c.loop-event.invariant.0,
      subst (λ (l : List Event). AreFiled c.args.by l new) more (filed_more c.args.by (take i es) e old new c.loop-event.invariant.1 c.put.ensures.len into),
    )

pub returns-clause-filed : goal.returns-clause-filed
returns-clause-filed c = subst (λ (l : List Event). AreFiled c.args.by l c.loop-event.buckets.items) (take_all c.loop-event.event-index c.args.events.now c.loop-event-test.false) c.loop-event.invariant.1
