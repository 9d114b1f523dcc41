use Rattle.std.proofs.Common.{◌≡◌, ℕ, List, ◌++◌, length, ap, ◌∙◌}
use Rattle.std.specs.List.{flat_map}
use Rattle.frame_explanation.specs.Falls.{falls_below}
use Rattle.frame_explanation.specs.Ignored.{ignored, ignored_lines}
use Rattle.frame_explanation.specs.Summary.{faults_of}
use Rattle.frame_explanation.proofs.Appends.{two}
use Rattle.frame_explanation.proofs.summary.noted.Goals as goal

pub returns : goal.returns
returns c = λ r.
    let names = c.args.names.now in
    let heard = c.args.heard.now in
    let falls = falls_below names heard (length names.names) in
    let lines = ignored_lines (ignored r heard) in
    let m1 = c.append_falls.new.out.items in
    let m2 = c.append_tags.new.out.items in
    let first : m1 ≡ falls = c.in_ok-append_falls.ensures ∙ ap (λ (l : List ℕ). l ++ falls) c.new-lines.ensures.items in
    let second : m2 ≡ falls ++ lines =
    c.in_ok-append_tags.ensures ∙ ap (λ (l : List ℕ). m1 ++ ignored_lines l) (c.deref.ensures.value ∙ c.in_ok-tags.ensures r) ∙ ap (λ (l : List ℕ). l ++ lines) first in
    two falls lines (flat_map (faults_of r names) heard) m2 c.append_faults.new.out.items second (c.in_ok-append_faults.ensures r)
