use Rattle.std.proofs.Common.{◌≡◌, ℕ, List, ◌++◌, [], ◌∷◌, ap, ◌∙◌, codes, decimal}
use Rattle.frame_explanation.specs.declared.bodies.Direction.TheVariants.{Sent}
use Rattle.frame_explanation.specs.Bodies.{body_text}
use Rattle.frame_explanation.specs.Names.{kind_name}
use Rattle.frame_explanation.specs.Parts.{joined}
use Rattle.frame_explanation.specs.Pieces.{value_in}
use Rattle.frame_explanation.proofs.Appends.{two}
use Rattle.frame_explanation.proofs.Outcomes.{so_ok}
use Rattle.frame_explanation.proofs.text.append_of_venue.Goals as goal

pub returns : goal.returns
returns c = λ r.
    let listed = c.args.listed.now in
    let body = listed.body.items in
    let old = c.args.out.now.items in
    let mid = c.append_parts.new.out.items in
    let new = c.append_body.new.out.items in
    let kind = kind_name (value_in (codes "35=") body) in
    let own = λ (kind : List ℕ). joined (codes "\nframe " ∷ decimal listed.number ∷ codes " at byte " ∷ decimal listed.place ∷ codes ", sent by the venue, and not answered: " ∷ kind ∷ codes "\n" ∷ []) in
    let same : c.kind_name.result.now ≡ kind = c.kind_name.ensures ∙ ap (λ (v : List ℕ). kind_name v) (c.value_in.ensures ∙ ap (λ (b : List ℕ). value_in (codes "35=") b) c.deref.ensures.value) in
    let first : mid ≡ old ++ own kind = c.in_ok-append_parts.ensures ∙ ap (λ (l : List ℕ). old ++ own l) same in
    let read = c.deref-2.result.now in
    so_ok c.append_body.result (new ≡ mid ++ body_text Sent read (r.fields read)) (new ≡ old ++ (own kind ++ body_text Sent body (r.fields body)))
    (λ h. two old (own kind) (body_text Sent body (r.fields body)) mid new first (h ∙ ap (λ (b : List ℕ). mid ++ body_text Sent b (r.fields b)) c.deref-2.ensures.value))
    (c.append_body.ensures r)
