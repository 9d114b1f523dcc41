use Rattle.std.proofs.Common.{◌≡◌, ℕ, List, ◌++◌, length, ap, ◌∙◌}
use Rattle.std.specs.List.{flat_map}
use Rattle.frame_explanation.specs.declared.frames.Found.{Found}
use Rattle.frame_explanation.specs.Frames.{found_in}
use Rattle.frame_explanation.specs.Summary.{summary}
use Rattle.frame_explanation.specs.Text.{head, heard_text}
use Rattle.frame_explanation.proofs.Appends.{two}
use Rattle.frame_explanation.proofs.explaining.text_of.Goals as goal

pub returns : goal.returns
returns c = λ r.
    let log = c.args.log.now in
    let found = c.deref.result.now in
    let first : c.append_head.new.out.items ≡ head (length log) (found_in log) =
    c.in_ok-append_head.ensures
    ∙ ap (λ (l : List ℕ). l ++ head (length log) found) c.new-text.ensures.items
    ∙ ap (λ (l : List Found). head (length log) l) (c.deref.ensures.value ∙ c.in_ok-found.ensures) in
    let names = c.args.names.now in
    let heard = c.args.heard.now in
    two (head (length log) (found_in log)) (summary r names heard) (flat_map (heard_text r names) heard) c.append_summary.new.out.items c.append_all_heard.new.out.items
    (c.in_ok-append_summary.ensures r ∙ ap (λ (l : List ℕ). l ++ summary r names heard) first)
    (c.in_ok-append_all_heard.ensures r)
