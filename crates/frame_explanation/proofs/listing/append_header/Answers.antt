use Rattle.std.proofs.Common.{◌≡◌, ℕ, List, ◌++◌, [], ◌∷◌, ap, ◌∙◌, codes}
use Rattle.participants.specs.Relations.{name_of}
use Rattle.frame_explanation.specs.Parts.{joined}
use Rattle.frame_explanation.proofs.Appends.{two}
use Rattle.frame_explanation.proofs.listing.append_header.Goals as goal

pub returns : goal.returns
returns c =
    let names = c.args.participants.now in
    let old = c.args.body.now.items in
    let mid = c.append_parts.new.out.items in
    let own = λ (name venue : List ℕ). joined (c.args.kind.now ∷ (1 ∷ codes "49=") ∷ name ∷ (1 ∷ codes "56=") ∷ venue ∷ c.args.number.now ∷ (1 ∷ codes "52=") ∷ []) in
    let name = name_of names c.args.hearing.now.who in
    let first : mid ≡ old ++ own name names.venue =
    c.in_ok-append_parts.ensures ∙ ap (λ (l : List ℕ). old ++ own l c.venue.result.now) c.name_at.ensures ∙ ap (λ (l : List ℕ). old ++ own name l) c.venue.ensures.value in
    two old (own name names.venue) _ mid c.extend_from_slice.new.self.items first (c.in_ok-extend_from_slice.ensures.items ∙ ap (λ (l : List ℕ). mid ++ l) c.print_utc.ensures)
