use Rattle.std.proofs.Common.{◌≡◌, sym, ap, ◌∙◌, subst, true, false, map, List, ℕ}
use Rattle.std.specs.List.{list_any}
use Rattle.participants.specs.Rows.{is_participant_file}
use Rattle.participants.specs.Reading.{has_twice, has_unknown, places}
use Rattle.participants.proofs.RowLemmas.{rows-keep}
use Rattle.participants.proofs.reading.rows_of.Goals as goal

pub from_rows-requires : goal.from_rows-requires
from_rows-requires c =
    let ns = c.args.names.items in
    let ps = c.args.pairs.now in
    let once : has_twice c.args.venue ns ps ≡ false = ap (λ xs. has_twice c.args.venue xs ps) (sym c.deref.ensures.value) ∙ (sym c.has_twice.ensures ∙ c.if-has_twice.false) in
    let known : list_any (has_unknown ns) ps ≡ false = ap (λ xs. list_any (has_unknown xs) ps) (sym c.deref-2.ensures.value) ∙ (sym c.any_unknown.ensures ∙ c.if-any_unknown.false) in
    let found : c.in-Ok.pairs.items ≡ map (places ns) ps = c.in-Ok.ensures ∙ ap (λ xs. map (places xs) ps) c.deref-3.ensures.value in
    subst (λ (qs : List (ℕ × ℕ)). is_participant_file (record { venue = c.args.venue; names = ns; pairs = qs }) ≡ true) (sym found) (rows-keep c.args.venue ns ps c.requires.some c.requires.few c.requires.name c.requires.all c.requires.apart once known)
