use Rattle.std.proofs.Common.{◌≡◌, ℕ, List, ◌++◌, ap, ◌∙◌}
use Rattle.frame_explanation.specs.declared.bodies.Direction.TheVariants.{Came}
use Rattle.frame_explanation.specs.declared.log_items.Sent as held
use Rattle.frame_explanation.specs.Bodies.{body_text}
use Rattle.frame_explanation.specs.Text.{answers, heading, outcome, stranger}
use Rattle.frame_explanation.proofs.Appends.{two}
use Rattle.frame_explanation.proofs.Outcomes.{so_ok}
use Rattle.frame_explanation.proofs.text.append_came.Goals as goal

pub returns : goal.returns
returns c = λ r.
    let names = c.args.names.now in
    let heard = c.args.heard.now in
    let body = heard.item.body.items in
    let old = c.args.out.now.items in
    let m1 = c.append_heading.new.out.items in
    let m2 = c.append_body.new.out.items in
    let m3 = c.append_stranger.new.out.items in
    let m4 = c.append_outcome.new.out.items in
    let new = c.append_answers.new.out.items in
    let head = heading names heard.item in
    let fields = body_text Came body (r.fields body) in
    let other = stranger names body in
    let step = outcome r names heard in
    let said = answers r names heard.sent.items in
    let second : m2 ≡ m1 ++ fields = c.in_ok-append_body.ensures r ∙ ap (λ (b : List ℕ). m1 ++ body_text Came b (r.fields b)) c.deref.ensures.value in
    let third : m3 ≡ m2 ++ other = c.in_ok-append_stranger.ensures ∙ ap (λ (b : List ℕ). m2 ++ stranger names b) c.deref-2.ensures.value in
    so_ok c.append_answers.result (new ≡ m4 ++ answers r names c.deref-3.result.now) (new ≡ old ++ (head ++ (fields ++ (other ++ (step ++ said)))))
    (λ h.
    two old head (fields ++ (other ++ (step ++ said))) m1 new c.in_ok-append_heading.ensures
    (two m1 fields (other ++ (step ++ said)) m2 new second
    (two m2 other (step ++ said) m3 new third
    (two m3 step said m4 new (c.in_ok-append_outcome.ensures r) (h ∙ ap (λ (l : List held.Sent). m4 ++ answers r names l) c.deref-3.ensures.value)))))
    (c.append_answers.ensures r)
