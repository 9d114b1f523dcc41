use Rattle.std.proofs.Common.{◌≡◌, ℕ, List, ◌++◌, [], ◌∷◌, OnOk, ap, ◌∙◌, codes, subst, sym}
use Rattle.fix_session.specs.declared.plan.Why.{Why}
use Rattle.participants.specs.Relations.{name_of}
use Rattle.frame_explanation.specs.Parts.{joined}
use Rattle.frame_explanation.specs.Text.{ids_if}
use Rattle.frame_explanation.proofs.text.append_ids_if.Goals as goal

pub returns-in-WrongComp : goal.returns-in-WrongComp
returns-in-WrongComp c =
    let names = c.args.names.now in
    let old = c.args.out.now.items in
    let new = c.append_parts.new.out.items in
    let name = name_of names c.args.who in
    let own = λ (name venue : List ℕ). joined (codes "    here 49 has to be " ∷ name ∷ codes " and 56 " ∷ venue ∷ codes "\n" ∷ []) in
    let same : own c.name_at.result.now c.venue.result.now ≡ own name names.venue = ap (λ (l : List ℕ). own l c.venue.result.now) c.name_at.ensures ∙ ap (λ (l : List ℕ). own name l) c.venue.ensures.value in
    let line = subst (λ (l : List ℕ). OnOk c.append_parts.result (new ≡ old ++ l)) same c.append_parts.ensures in
    subst (λ (why : Why). OnOk c.append_parts.result (new ≡ old ++ ids_if names c.args.who why)) (sym c.in-WrongComp.is) line
