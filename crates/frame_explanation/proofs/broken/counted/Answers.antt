use Rattle.std.proofs.Common.{ℕ, List, [], ◌∷◌, ◌++◌, ap, ◌∙◌, append-nil}
use Rattle.fix_frame.specs.Frame.{counted, opening}
use Rattle.frame_explanation.proofs.broken.counted.Goals as goal

pub returns : goal.returns
unfolding counted opening
returns c =
    let digits = c.args.digits.now in
    let body = c.args.body.now in
    c.in_ok-append_parts.ensures
    ∙ ap (λ (l : List ℕ). l ++ (opening ++ (digits ++ (1 ∷ (body ++ []))))) c.new-text.ensures.items
    ∙ ap (λ (l : List ℕ). opening ++ (digits ++ (1 ∷ l))) (append-nil body)
