use Rattle.std.proofs.Common.{◌≡◌, ℕ, List, ◌++◌, ap, ◌∙◌, codes}
use Rattle.message_words.specs.Visible.{readable}
use Rattle.frame_explanation.specs.Names.{kind_name}
use Rattle.frame_explanation.specs.Pieces.{value_in}
use Rattle.frame_explanation.specs.Text.{meaning, sent_line}
use Rattle.frame_explanation.proofs.Appends.{two}
use Rattle.frame_explanation.proofs.Outcomes.{so_ok}
use Rattle.frame_explanation.proofs.text.append_reply.Goals as goal

pub returns : goal.returns
returns c = λ r.
    let name = c.args.name.now in
    let body = c.args.body.now in
    let old = c.args.out.now.items in
    let mid = c.append_sent_line.new.out.items in
    let new = c.append_meaning.new.out.items in
    let kind = kind_name (value_in (codes "35=") body) in
    let line = sent_line name kind (readable body) in
    let named : c.kind_name.result.now ≡ kind = c.kind_name.ensures ∙ ap (λ (v : List ℕ). kind_name v) c.value_in.ensures in
    let shown : c.deref.result.now ≡ readable body = c.deref.ensures.value ∙ c.in_ok-fix.ensures in
    let first : mid ≡ old ++ line = c.in_ok-append_sent_line.ensures ∙ ap (λ (k : List ℕ). old ++ sent_line name k c.deref.result.now) named ∙ ap (λ (f : List ℕ). old ++ sent_line name kind f) shown in
    so_ok c.append_meaning.result (new ≡ mid ++ meaning r body) (new ≡ old ++ (line ++ meaning r body))
    (λ h. two old line (meaning r body) mid new first h)
    (c.append_meaning.ensures r)
