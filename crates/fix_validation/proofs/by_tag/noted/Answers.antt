use Rattle.std.proofs.Common.{◌≡◌, ◌≤◌, ◌<◌, ◌++◌, [], ◌∷◌, ◌+◌, ◌%◌, ◌∙◌, drop, take, length, sym, arith, slice_index, slice_index_or, ap}
use Rattle.std.proofs.lemmas.List.{map_more, drop_more, length-map, length-take-le, length-set}
use Rattle.fix_fields.specs.Views.{entry, entries}
use Rattle.fix_validation.specs.ByTag.{any_twice}
use Rattle.fix_validation.proofs.ByTagLemmas.{absent_before, noted_kept, noted_set, twice_kept}
use Rattle.fix_validation.proofs.by_tag.noted.Goals as goal
use Rattle.fix_validation.proofs.by_tag.noted.Goals.{then-from-place, else-from-place+else-has_tag}

pub loop-place-preserved : goal.loop-place-preserved
loop-place-preserved c =
    let fields = c.args.fields.now in
    let k = c.loop-place.place in
    let field = slice_index_or fields k (record { tag = 0; value = record { ref_ptr = (0, 0); now = [] } }) in
    let before = entries (take k fields) in
    let after = entries (drop (k + 1) fields) in
    let inside = c.loop-place-test.true in
    let more : entries (take (k + 1) fields) ≡ before ++ entry field ∷ [] = map_more entry fields k (record { tag = 0; value = record { ref_ptr = (0, 0); now = [] } }) inside in
    let rest : entries (drop k fields) ≡ entry field ∷ after = ap entries (drop_more fields k (record { tag = 0; value = record { ref_ptr = (0, 0); now = [] } }) inside) in
    let many : length before ≡ k = length-map (take k fields) entry ∙ length-take-le k fields (omega arith) in
    let stated = c.loop-place.invariant in
    elim c.if-from-place.branch [
      | then-from-place w ↦
          let past : length before ≤ slice_index c.loop-place.places (field.tag % 128) = rw (many, ← c.from.ensures) w.if-from-place.true in
          let absent = absent_before c.loop-place.places before field.tag stated.1 past in
          let headroom : field.tag % 128 < length c.loop-place.places = omega (arith, stated.2) in
          let noted = noted_set c.loop-place.places before (entry field) k many stated.1 headroom (rw (← c.from.ensures) w.if-from-place.true) in (
            rw more (twice_kept _ before after (entry field) (stated.0 ∙ ap (any_twice before) rest) absent),
            rw (w.places-is, more) noted,
            rw w.places-is (length-set _ _ _ ∙ stated.2),
          )
      | else-from-place+else-has_tag w ↦
          let absent = sym w.has_tag.ensures ∙ w.if-has_tag.false in
          let early : slice_index c.loop-place.places (field.tag % 128) < length before = rw (many, ← c.from.ensures) w.if-from-place.false in (
            rw more (twice_kept _ before after (entry field) (stated.0 ∙ ap (any_twice before) rest) absent),
            rw (w.places-is, more) (noted_kept c.loop-place.places before (entry field) stated.1 early),
            rw w.places-is stated.2,
          )
    ]
