use Rattle.std.proofs.Common.{◌≡◌, ℕ, List, ◌++◌, [], ◌∷◌, OnOk, ap, ◌∙◌, codes, subst, sym}
use Rattle.fix_session.specs.declared.plan.Step.{Step}
use Rattle.frame_explanation.specs.Parts.{joined}
use Rattle.frame_explanation.specs.Text.{ids_if, step_line, why_words}
use Rattle.frame_explanation.proofs.Appends.{two}
use Rattle.frame_explanation.proofs.Outcomes.{so_ok}
use Rattle.frame_explanation.proofs.text.append_step.Goals as goal

pub returns-in_ok-append_parts-in-Dropped : goal.returns-in_ok-append_parts-in-Dropped
returns-in_ok-append_parts-in-Dropped c =
    let names = c.args.names.now in
    let why = c.in-Dropped.why in
    let old = c.args.out.now.items in
    let mid = c.append_parts-in-Dropped.new.out.items in
    let new = c.append_ids_if.new.out.items in
    let own = λ (words : List ℕ). joined (codes "    session: disconnects: " ∷ words ∷ codes "\n" ∷ []) in
    let first : mid ≡ old ++ own (why_words why) = c.in_ok-append_parts-in-Dropped.ensures ∙ ap (λ (l : List ℕ). old ++ own l) c.why_words.ensures in
    let both = so_ok c.append_ids_if.result (new ≡ mid ++ ids_if names c.args.who why) (new ≡ old ++ (own (why_words why) ++ ids_if names c.args.who why))
    (λ h. two old (own (why_words why)) (ids_if names c.args.who why) mid new first h) c.append_ids_if.ensures in
    subst (λ (s : Step). OnOk c.append_ids_if.result (new ≡ old ++ step_line names c.args.who c.args.size s)) (sym c.in-Dropped.is) both
