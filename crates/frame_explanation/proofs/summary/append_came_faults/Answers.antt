use Rattle.std.proofs.Common.{◌≡◌, ℕ, List, ◌++◌, ap, ◌∙◌}
use Rattle.frame_explanation.specs.Summary.{drop_line, fault_of, of_frame, unknown_if}
use Rattle.frame_explanation.specs.Text.{stranger}
use Rattle.frame_explanation.proofs.Appends.{two}
use Rattle.frame_explanation.proofs.Outcomes.{so_ok}
use Rattle.frame_explanation.proofs.summary.append_came_faults.Goals as goal

pub returns : goal.returns
returns c = λ r.
    let names = c.args.names.now in
    let heard = c.args.heard.now in
    let number = heard.item.number in
    let body = heard.item.body.items in
    let old = c.args.out.now.items in
    let m1 = c.append_body_fault.new.out.items in
    let m2 = c.append_unknown_if.new.out.items in
    let m3 = c.append_stranger_of.new.out.items in
    let new = c.append_drop_of.new.out.items in
    let fault = fault_of r number body in
    let unknown = of_frame number (unknown_if body) in
    let other = of_frame number (stranger names body) in
    let end = of_frame number (drop_line names heard.item heard.step) in
    let first : m1 ≡ old ++ fault = c.in_ok-append_body_fault.ensures r ∙ ap (λ (l : List ℕ). old ++ fault_of r number l) c.deref.ensures.value in
    let second : m2 ≡ m1 ++ unknown = c.in_ok-append_unknown_if.ensures ∙ ap (λ (l : List ℕ). m1 ++ of_frame number (unknown_if l)) c.deref-2.ensures.value in
    let third : m3 ≡ m2 ++ other = c.in_ok-append_stranger_of.ensures ∙ ap (λ (l : List ℕ). m2 ++ of_frame number (stranger names l)) c.deref-3.ensures.value in
    so_ok c.append_drop_of.result (new ≡ m3 ++ end) (new ≡ old ++ (fault ++ (unknown ++ (other ++ end))))
    (λ h.
    two old fault (unknown ++ (other ++ end)) m1 new first
    (two m1 unknown (other ++ end) m2 new second
    (two m2 other end m3 new third h)))
    c.append_drop_of.ensures
