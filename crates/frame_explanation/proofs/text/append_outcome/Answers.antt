use Rattle.std.proofs.Common.{◌≡◌, ℕ, List, ◌++◌, ap, ◌∙◌}
use Rattle.frame_explanation.specs.Bodies.{words_of_body}
use Rattle.frame_explanation.specs.Text.{order_if, step_if}
use Rattle.frame_explanation.proofs.Appends.{two}
use Rattle.frame_explanation.proofs.Outcomes.{so_ok}
use Rattle.frame_explanation.proofs.text.append_outcome.Goals as goal

pub returns : goal.returns
returns c = λ r.
    let heard = c.args.heard.now in
    let old = c.args.out.now.items in
    let mid = c.append_step_if.new.out.items in
    let new = c.append_order_if.new.out.items in
    let step = step_if c.args.names.now heard.item heard.step in
    let order = order_if (words_of_body (r.fields heard.item.body.items)) heard.step in
    let words : c.deref-2.result.now ≡ words_of_body (r.fields heard.item.body.items) = c.deref-2.ensures.value ∙ (c.in_ok-words.ensures r ∙ ap (λ (b : List ℕ). words_of_body (r.fields b)) c.deref.ensures.value) in
    so_ok c.append_order_if.result (new ≡ mid ++ order_if c.deref-2.result.now heard.step) (new ≡ old ++ (step ++ order))
    (λ h. two old step order mid new c.in_ok-append_step_if.ensures (h ∙ ap (λ (ws : List ℕ). mid ++ order_if ws heard.step) words))
    c.append_order_if.ensures
