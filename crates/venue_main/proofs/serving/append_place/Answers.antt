use Rattle.std.proofs.Common.{◌≡◌, ℕ, List, ◌++◌, OnOk, ◌∙◌, codes, decimal, subst}
use Rattle.venue_main.proofs.serving.append_place.Goals as goal

pub returns : goal.returns
returns c =
    let own = λ (digits : List ℕ). codes "venue_main: " ++ (c.args.name.now ++ (codes " at 127.0.0.1:" ++ (digits ++ codes "\n"))) in
    let digits : c.as_bytes.result.now ≡ decimal c.args.port = c.as_bytes.ensures.value ∙ c.format.ensures.text in
    subst (λ (l : List ℕ). OnOk c.append.result (c.append.new.line.items ≡ c.args.text.now.items ++ own l)) digits c.append.ensures
