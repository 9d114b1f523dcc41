use Rattle.std.proofs.Common.{◌∙◌, ap, List, ℕ, ◌++◌, ◌%◌, length}
use Rattle.std.specs.Prelude.{filter}
use Rattle.std.proofs.lemmas.Result.{on_ok_weaker}
use Rattle.day_events.specs.declared.event.Event.{Event}
use Rattle.request_sections.specs.declared.keys.By.TheVariants as by
use Rattle.request_sections.specs.Keys.{in_bucket, key_of, name_key}
use Rattle.request_sections.proofs.Covers.{refused_found}
use Rattle.request_sections.proofs.refused.append_named.Goals as goal

pub returns : goal.returns
returns c =
    let day = c.args.day.now in
    let n = length day.rooms.now in
    on_ok_weaker c.append_refused.result
    (λ e. e ∙ ap (λ (l : List Event). c.args.kept.now.items ++ l) (refused_found n c.args.row c.args.id.now day.events.now c.found.result.now
    (c.found.ensures by.Room day.events.now c.requires.kept.rooms ∙ ap (λ (k : ℕ). filter (λ e. in_bucket n (k % n) (key_of by.Room e)) day.events.now) (c.name_key.ensures ∙ ap name_key c.as_slice.ensures.value))))
    c.append_refused.ensures
