use Rattle.std.proofs.Common.{◌≡◌, ◌≤◌, false, take, drop, length, sym, ap, ◌∙◌, arith, inl, inr}
use Rattle.std.proofs.lemmas.List.{at_drop_all, drop-map, length-map, take_rest}
use Rattle.fix_fields.specs.Fields.{value_of}
use Rattle.fix_fields.specs.Views.{entry, entries}
use Rattle.fix_validation.specs.Faults.{has_tag}
use Rattle.fix_validation.proofs.ByTagLemmas.{value_from}
use Rattle.fix_validation.proofs.by_tag.value_at.Goals as goal

pub returns-in_default : goal.returns-in_default
returns-in_default c =
    let tag = c.args.tag in
    let fields = c.args.fields.now in
    let place = c.from-place.result in
    let none : has_tag tag (take place (entries fields)) ≡ false = rw c.from-place.ensures (c.requires tag) in
    let counted = length-map fields entry in
    let past : length (entries fields) ≤ place = elim c.in_default.ensures.lookup.0 [
      | inl more ↦ omega arith
      | inr more ↦ omega arith
    ] in
    sym (value_from tag place (entries fields) none) ∙ at_drop_all (value_of tag) (entries fields) place past

pub returns : goal.returns
returns c =
    let tag = c.args.tag in
    let fields = c.args.fields.now in
    let place = c.from-place.result in
    let none : has_tag tag (take place (entries fields)) ≡ false = rw c.from-place.ensures (c.requires tag) in
    let rest : c.in-Some.rest.now ≡ drop place fields = c.in-Some.ensures.lookup.0.2 ∙ take_rest fields place in
    let same : value_of tag (entries c.in-Some.rest.now) ≡ value_of tag (entries fields) =
    ap (λ l. value_of tag (entries l)) rest ∙ ap (value_of tag) (sym (drop-map entry place fields)) ∙ value_from tag place (entries fields) none in
    rw (← same) c.first_value.ensures
