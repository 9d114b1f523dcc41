use Rattle.std.proofs.Common.{◌≡◌, ℕ, List, ◌++◌, ap, ◌∙◌, codes}
use Rattle.frame_explanation.specs.Bodies.{words_line, words_of_body}
use Rattle.frame_explanation.specs.Text.{gap_if}
use Rattle.frame_explanation.proofs.Appends.{two}
use Rattle.frame_explanation.proofs.Outcomes.{so_ok}
use Rattle.frame_explanation.proofs.text.append_meaning.Goals as goal

pub returns : goal.returns
returns c = λ r.
    let body = c.args.body.now in
    let old = c.args.out.now.items in
    let mid = c.append_words_line.new.out.items in
    let new = c.append_gap_if.new.out.items in
    let line = words_line (codes "        ") (words_of_body (r.fields body)) in
    let words : c.deref.result.now ≡ words_of_body (r.fields body) = c.deref.ensures.value ∙ c.in_ok-words.ensures r in
    so_ok c.append_gap_if.result (new ≡ mid ++ gap_if body) (new ≡ old ++ (line ++ gap_if body))
    (λ h. two old line (gap_if body) mid new (c.in_ok-append_words_line.ensures ∙ ap (λ (ws : List ℕ). old ++ words_line (codes "        ") ws) words) h)
    c.append_gap_if.ensures
