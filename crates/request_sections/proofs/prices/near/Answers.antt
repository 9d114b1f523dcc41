use Rattle.std.specs.List.Sorted.{IsNonDecreasingBy}
use Rattle.std.proofs.Common.{◌≡◌, ◌∙◌, ap, subst, sym, drop, take, leb, ltb, List, rules}
use Rattle.std.proofs.lemmas.List.Sorted.{IsNonDecreasingBy-drop, IsPartitionPoint-from_clause, IsPartitionedBy-leb, IsPartitionedBy-ltb}
use Rattle.day_events.specs.declared.shown.ShownPrice.{ShownPrice}
use Rattle.request_sections.specs.Shown.{at_row}
use Rattle.request_sections.proofs.Rising.{rises_far, none_behind, none_before}
use Rattle.request_sections.proofs.prices.near.Goals as goal

pub returns : goal.returns
returns c =
    let ps : List ShownPrice = c.args.shown.now in
    let row = c.args.row in
    let rising = rises_far 0 ps c.requires.ordered in
    let from = c.partition_point-from.result in
    let point = IsPartitionPoint-from_clause (λ (k : ShownPrice). ltb k.row row) ps from c.partition_point-from.ensures.partitioned (IsPartitionedBy-ltb (λ (k : ShownPrice). k.row) ps row rising) (λ a r q k. search rules) in
    let others : List ShownPrice = c.split_at.result.1.now in
    let to = c.partition_point-to.result in
    let back : others ≡ drop from ps = c.split_at.ensures.back in
    let rising_on : IsNonDecreasingBy (λ (k : ShownPrice). k.row) others = subst (IsNonDecreasingBy (λ (k : ShownPrice). k.row)) (sym back) (IsNonDecreasingBy-drop (λ (k : ShownPrice). k.row) from ps rising) in
    let past = IsPartitionPoint-from_clause (λ (k : ShownPrice). leb k.row row) others to c.partition_point-to.ensures.partitioned (IsPartitionedBy-leb (λ (k : ShownPrice). k.row) others row rising_on) (λ a r q k. search rules) in
    ap (at_row row) c.split_at-2.ensures.front ∙ (none_behind row others to past.1 ∙ (ap (at_row row) back ∙ none_before row ps from c.partition_point-from.ensures.bound point.0))
