use Rattle.std.proofs.Common.{◌≡◌, ℕ, List, Option, ap, ◌∙◌, codes, subst, sym}
use Rattle.participants.specs.Relations.{find_participant}
use Rattle.frame_explanation.specs.declared.bodies.Direction.{Direction}
use Rattle.frame_explanation.specs.Falls.{is_the, is_to}
use Rattle.frame_explanation.specs.Pieces.{value_in}
use Rattle.frame_explanation.proofs.falls.is_to.Goals as goal

pub returns-in-Sent : goal.returns-in-Sent
returns-in-Sent c =
    let names = c.args.names.now in
    let who = c.args.flow.now.who in
    let item = c.args.item.now in
    let value : c.value_in.result.now ≡ value_in (codes "56=") item.body.items = c.value_in.ensures ∙ ap (λ (b : List ℕ). value_in (codes "56=") b) c.deref.ensures.value in
    let found : c.find.result ≡ find_participant names (value_in (codes "56=") item.body.items) = c.find.ensures ∙ ap (λ (v : List ℕ). find_participant names v) value in
    subst (λ (d : Direction). c.is_the.result ≡ is_to d names who item) (sym c.in-Sent.is) (c.is_the.ensures ∙ ap (λ (f : Option ℕ). is_the f who) found)
