use Rattle.std.proofs.Common.{◌≡◌, ℕ, List, IfOk, subst, sym}
use Rattle.frame_explanation.specs.declared.log_items.Source.{Source}
use Rattle.frame_explanation.specs.Ignored.{ignored_as, unread_of}
use Rattle.frame_explanation.proofs.ignored.ignored_in.Goals as goal

pub returns-in-Participant : goal.returns-in-Participant
returns-in-Participant c = λ r.
    subst (λ (s : Source). IfOk c.unread_of.result (λ tags. tags.items ≡ ignored_as s r c.args.heard.now.item.body.items)) (sym c.in-Participant.is)
    (subst (λ (b : List ℕ). IfOk c.unread_of.result (λ tags. tags.items ≡ unread_of b (r.fields b))) c.deref.ensures.value (c.unread_of.ensures r))
