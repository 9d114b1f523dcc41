use Rattle.std.proofs.Common.{◌∷◌, ◌∙◌, ℕ, List, ap}
use Rattle.std.proofs.lemmas.Result.{on_ok_weaker}
use Rattle.page_text.specs.Parts.{with_part, with_parts}
use Rattle.day_tables.specs.Parts.{plain_part}
use Rattle.day_sections.proofs.Walks.{in_frame}
use Rattle.unrelated_recipients.specs.Pairs.{related_pairs}
use Rattle.unrelated_recipients.specs.Threes.{first_three}
use Rattle.recipient_sections.specs.declared.template.TheConstants.{THREE_RULE}
use Rattle.recipient_sections.specs.Threes.{related_parts, requester_of, three_found}
use Rattle.recipient_sections.proofs.three.add_whole.Goals as goal

pub returns : goal.returns
returns c =
    let file = c.args.participants.now in
    let e = c.args.opened.now in
    let rs : List ℕ = c.args.asked.now in
    on_ok_weaker c.add.result
    (in_frame c.args.page.now c.add_found.new.page c.add_related.new.page c.add.new.self
    (three_found file e.at.from (first_three file (requester_of e) rs)) (related_parts file (related_pairs file (requester_of e ∷ rs))) (plain_part THREE_RULE.now)
    (c.in_ok-add_found.ensures ∙ (λ j. with_part c.args.page.now (three_found file e.at.from ((c.first_three-found.ensures.first ∙ ap (λ (q : ℕ). first_three file q rs) c.requester_of-requester.ensures) j))))
    (c.in_ok-add_related.ensures ∙ (λ j. with_parts c.add_found.new.page (related_parts file ((c.deref-2.ensures.value ∙ (c.in_ok-pairs.ensures ∙ ap (λ (l : List ℕ). related_pairs file l) (c.deref.ensures.value ∙ (c.in_ok-named.ensures ∙ ap (λ (q : ℕ). q ∷ rs) c.requester_of-requester.ensures)))) j)))))
    c.add.ensures.added
