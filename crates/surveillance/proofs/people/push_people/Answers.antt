use Rattle.std.proofs.Common.{◌≡◌, ℕ, List, ◌++◌, ◌∷◌, [], take, ap, sym, ◌∙◌}
use Rattle.std.specs.List.{flat_map}
use Rattle.std.proofs.lemmas.List.{flat_map_more, take_more}
use Rattle.surveillance.specs.declared.alarm.Alarm.{Alarm}
use Rattle.surveillance.specs.Alarms.{person_alarms}
use Rattle.surveillance.proofs.people.push_people.Goals as goal

pub loop-who-preserved : goal.loop-who-preserved
loop-who-preserved c =
    let k = c.args.counted.now in
    let f = person_alarms c.args.bounds.now k.participants.now k.trades.now k.deeds.now k.everybody.now in
    let xs = k.everybody.now in
    let old = c.args.alarms.now.items in
    let i = c.loop-who.who-index in
    let x = c.who-item.result in
    c.in_ok-push_person.ensures
    ∙ (ap (λ (l : List Alarm). l ++ f x) c.loop-who.invariant
    ∙ (flat_map_more f old (take i xs) x
    ∙ ap (λ (l : List ℕ). old ++ flat_map f l) (ap (λ (y : ℕ). take i xs ++ y ∷ []) c.who-item.is ∙ sym (take_more xs i x c.loop-who-test.true))))
