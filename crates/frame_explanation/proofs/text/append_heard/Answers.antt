use Rattle.std.proofs.Common.{◌≡◌, ℕ, List, ◌++◌, OnOk, subst, sym}
use Rattle.frame_explanation.specs.declared.log_items.Source.{Source}
use Rattle.frame_explanation.specs.Text.{heard_as}
use Rattle.frame_explanation.proofs.text.append_heard.Goals as goal

pub returns-in-Participant : goal.returns-in-Participant
returns-in-Participant c = λ r.
    subst (λ (s : Source). OnOk c.append_came.result (c.append_came.new.out.items ≡ c.args.out.now.items ++ heard_as s r c.args.names.now c.args.heard.now)) (sym c.in-Participant.is) (c.append_came.ensures r)

pub returns-in-Assumed : goal.returns-in-Assumed
returns-in-Assumed c = λ r.
    subst (λ (s : Source). OnOk c.append_assumed.result (c.append_assumed.new.out.items ≡ c.args.out.now.items ++ heard_as s r c.args.names.now c.args.heard.now)) (sym c.in-Assumed.is) c.append_assumed.ensures

pub returns-in-Venue : goal.returns-in-Venue
returns-in-Venue c = λ r.
    subst (λ (s : Source). OnOk c.append_of_venue.result (c.append_of_venue.new.out.items ≡ c.args.out.now.items ++ heard_as s r c.args.names.now c.args.heard.now)) (sym c.in-Venue.is) (c.append_of_venue.ensures r)
