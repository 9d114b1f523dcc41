use Rattle.std.proofs.Common.{◌≡◌, List, [], ◌∷◌, length, refl, ap, ◌∙◌, arith}
use Rattle.std.proofs.lemmas.Bool.Decides.{nat_tests}
use Rattle.venue_rules.specs.Market.{Market}
use Rattle.desk_log.proofs.Joining.{compares_lent, none_for, read_for}
use Rattle.desk_log.proofs.printing.compare_on.Goals as goal

pub returns-clause-compared : goal.returns-clause-compared
returns-clause-compared g c =
    let a = c.args in
    let m : Market = a.venue.now.market in
    let later : c.participants-2.result.now ≡ m.participants = c.participants-2.ensures ∙ ap (λ (x : Market). x.participants) c.in_ok-owed.ensures.stands.market in
    compares_lent c.rows_have_their_inputs.ensures m c.participants-2.result.now a.rows.now a.who a.log.now c.owed_of.new.venue c.in_ok-owed.owed.items c.as_slice.result.now c.as_slice-2.result.now c.in_ok-reading.reading c.in_ok-compared.compared
    c.in_ok-text.text.items c.as_slice-3.result.now (g.W.Write.contents a.writer.now) (g.W.Write.contents c.write_text.new.writer)
    later c.as_slice.ensures.value c.as_slice-2.ensures.value c.as_slice-3.ensures.value
    (read_for c.participants.result.now m.participants a.who a.log.now c.in_ok-reading.reading c.participants.ensures c.in_ok-reading.ensures) c.in_ok-owed.ensures c.in_ok-compared.ensures.count c.in_ok-compared.ensures.comparison
    c.in_ok-text.ensures c.in_ok-write_text.ensures.written

nothing : {X : Type 0} (xs : List X) → length xs ≡ 0 → xs ≡ []
nothing [] none = refl
nothing (x ∷ xs) none = absurd (omega arith)

pub returns-then-is_empty-clause-refused : goal.returns-then-is_empty-clause-refused
returns-then-is_empty-clause-refused g c =
    let m : Market = c.args.venue.now.market in
    let read = read_for c.participants.result.now m.participants c.args.who c.args.log.now c.in_ok-reading.reading c.participants.ensures c.in_ok-reading.ensures in
    none_for m c.args.who c.args.log.now c.in_ok-reading.reading read (nothing c.in_ok-reading.reading.frames.items (grind (arith, nat_tests, c.is_empty.ensures, c.if-is_empty.true)))
