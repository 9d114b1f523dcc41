use Rattle.std.proofs.Common.{◌≡◌, ℕ, ◌+◌, ◌<◌, List, ◌∷◌, ◌++◌, length, map, get_or, drop, sym, ap, ◌∙◌, subst, arith, add-one}
use Rattle.std.proofs.Math.Seq.{drop-cons}
use Rattle.frame_explanation.specs.declared.frames.Found.{Found}
use Rattle.frame_explanation.specs.declared.frames.Look.TheVariants.{Frame}
use Rattle.frame_explanation.specs.Frames.{plus}
use Rattle.frame_explanation.specs.Listing.{items, items_from, part_items, seen, state}
use Rattle.frame_explanation.proofs.Listed.{listed-more}
use Rattle.frame_explanation.proofs.listing.list_log.Goals as goal

pub loop-one-preserved : goal.loop-one-preserved
loop-one-preserved c =
    let names = c.args.participants.now in
    let log = c.args.log.now in
    let found = c.args.found.now in
    let i = c.loop-one.one-index in
    let s = state c.loop-one.stand in
    let s' = state c.list_part.new.stand in
    let n = c.loop-one.number in
    let part = c.in_ok-part.part in
    let old = map seen c.loop-one.listed.items in
    let new = map seen c.list_part.new.listed.items in
    let none : Found = record { at = 0; look = Frame 0 0 } in
    let one : Found = get_or found i none in
    let low : i < length found = omega arith in
    let here = drop-cons found i none low ∙ ap (λ (k : ℕ). one ∷ drop k found) (sym (add-one i)) in
    let before = subst (λ (l : List Found). old ++ items_from names log s n l ≡ items names log found) here c.loop-one.invariant in
    let next : c.saturating_add-number.result ≡ plus n 1 = c.saturating_add-number.ensures in
    let is = c.in_ok-list_part.ensures.listed ∙ ap (λ (k : ℕ). old ++ part_items names s k part.place part.text.items part.body.items) (c.in_ok-part.ensures.number ∙ next) in
    subst (λ (k : ℕ). new ++ items_from names log s' k (drop (i + 1) found) ≡ items names log found) (sym next)
    (listed-more names log s s' n part.place part.text.items part.body.items one (drop (i + 1) found) old new (items names log found)
    c.in_ok-part.ensures.place c.in_ok-part.ensures.text c.in_ok-part.ensures.body is c.in_ok-list_part.ensures.stand before)
