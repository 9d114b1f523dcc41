use Rattle.std.proofs.Common.{◌≡◌, ℕ, List, ◌++◌, OnOk, subst, sym}
use Rattle.frame_explanation.specs.declared.log_items.Source.{Source}
use Rattle.frame_explanation.specs.Summary.{fault_of, faults_as}
use Rattle.frame_explanation.proofs.summary.append_faults_of.Goals as goal

pub returns-in-Participant : goal.returns-in-Participant
returns-in-Participant c = λ r.
    subst (λ (s : Source). OnOk c.append_came_faults.result (c.append_came_faults.new.out.items ≡ c.args.out.now.items ++ faults_as s r c.args.names.now c.args.heard.now)) (sym c.in-Participant.is) (c.append_came_faults.ensures r)

pub returns-in-Venue : goal.returns-in-Venue
returns-in-Venue c = λ r.
    let heard = c.args.heard.now in
    let old = c.args.out.now.items in
    let new = c.append_body_fault.new.out.items in
    subst (λ (s : Source). OnOk c.append_body_fault.result (new ≡ old ++ faults_as s r c.args.names.now heard)) (sym c.in-Venue.is)
    (subst (λ (b : List ℕ). OnOk c.append_body_fault.result (new ≡ old ++ fault_of r heard.item.number b)) c.deref.ensures.value (c.append_body_fault.ensures r))
