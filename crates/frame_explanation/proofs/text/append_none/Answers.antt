use Rattle.std.proofs.Common.{◌≡◌, ℕ, List, ◌++◌, ap, ◌∙◌}
use Rattle.message_words.specs.Visible.{readable}
use Rattle.frame_explanation.specs.Broken as broken
use Rattle.frame_explanation.specs.Text.{none_line, passed_line}
use Rattle.frame_explanation.proofs.Appends.{two}
use Rattle.frame_explanation.proofs.Outcomes.{so_ok}
use Rattle.frame_explanation.proofs.text.append_none.Goals as goal

pub returns : goal.returns
returns c =
    let listed = c.args.listed.now in
    let old = c.args.out.now.items in
    let m1 = c.append_none_line.new.out.items in
    let m2 = c.append_broken.new.out.items in
    let new = c.append_passed.new.out.items in
    let line = none_line listed.number listed.place (readable listed.text.items) in
    let why = broken.why listed.text.items in
    let shown : c.deref-2.result.now ≡ readable listed.text.items = c.deref-2.ensures.value ∙ (c.in_ok-shown.ensures ∙ ap (λ (b : List ℕ). readable b) c.deref.ensures.value) in
    let first : m1 ≡ old ++ line = c.in_ok-append_none_line.ensures ∙ ap (λ (b : List ℕ). old ++ none_line listed.number listed.place b) shown in
    let second : m2 ≡ m1 ++ why = c.in_ok-append_broken.ensures ∙ ap (λ (b : List ℕ). m1 ++ broken.why b) c.deref-3.ensures.value in
    so_ok c.append_passed.result (new ≡ m2 ++ passed_line) (new ≡ old ++ (line ++ (why ++ passed_line)))
    (λ h. two old line (why ++ passed_line) m1 new first (two m1 why passed_line m2 new second h))
    c.append_passed.ensures
