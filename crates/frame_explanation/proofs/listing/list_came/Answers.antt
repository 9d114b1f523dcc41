use Rattle.std.proofs.Common.{map, ap, ◌∙◌, ℕ, List}
use Rattle.frame_explanation.specs.Listing.{is_new, seen, state}
use Rattle.frame_explanation.proofs.Listed.{came_read}
use Rattle.frame_explanation.proofs.Outcomes.{so_ok}
use Rattle.frame_explanation.proofs.listing.list_came.Goals as goal

pub returns-clause-listed : goal.returns-clause-listed
returns-clause-listed c =
    let part = c.args.part in
    so_ok c.append_came.result _ _
    (λ e. came_read c.args.participants.now (state c.args.stand.now) c.is_new-connects.result part.number part.place c.sender_in.result c.moment_in.result part.text.items part.body.items c.as_slice-body.result.now
    (map seen c.args.listed.now.items) (map seen c.begin_session.new.listed.items) (map seen c.append_came.new.listed.items)
    c.as_slice-body.ensures.value c.sender_in.ensures c.moment_in.ensures (c.is_new-connects.ensures ∙ ap (λ (begun : List ℕ). is_new begun c.sender_in.result c.as_slice-body.result.now) c.as_slice-begun.ensures.value) c.in_ok-begin_session.ensures.listed e)
    c.append_came.ensures
