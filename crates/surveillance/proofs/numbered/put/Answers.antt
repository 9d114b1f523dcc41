use Rattle.std.proofs.Common.{◌≡◌, ◌≤◌, [], ◌∷◌, ◌++◌, length, Some, sym, ap, ◌∙◌, arith}
use Rattle.std.proofs.lemmas.Bool.Decides.{nat_tests}
use Rattle.surveillance.specs.Numbers.{numbered_at, with_number}
use Rattle.surveillance.proofs.Numbering.{at_end, no_entry}
use Rattle.surveillance.proofs.numbered.put.Goals as goal

pub returns-then-is_empty : goal.returns-then-is_empty
returns-then-is_empty g c =
    let kept = c.args.kept.now in
    let near = kept.near.items in
    let far = kept.far.entries in
    let n = c.args.number in
    let x = c.args.found in
    let more = c.pad.new.near.items in
    let none : far ≡ [] = no_entry far (grind (arith, nat_tests)) in
    let past : length near ≤ n = grind (arith, nat_tests) in
    ap (λ l. numbered_at l far) c.in_ok-push.ensures.items
    ∙ ((λ j. numbered_at (more ++ Some x ∷ []) (none j))
    ∙ (at_end near more n x past c.in_ok-pad.ensures.room c.in_ok-pad.ensures.same ∙ (λ j. with_number (numbered_at near (sym none j)) n x)))
