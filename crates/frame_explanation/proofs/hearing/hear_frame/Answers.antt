use Rattle.std.proofs.Common.{◌≡◌, ℕ, [], ◌∷◌, ◌++◌, List, length, sym, subst, ◌∙◌}
use Rattle.frame_explanation.specs.Hearing.{Did, HearsFrame, arrives, connects}
use Rattle.frame_explanation.proofs.Going.{did-then}
use Rattle.frame_explanation.proofs.hearing.hear_frame.Goals as goal

pub returns-clause-hears : goal.returns-clause-hears
returns-clause-hears c =
    let a = c.args.world.now in
    let b = c.connect_if.new.world in
    let d = c.arrive.new.world in
    let e = c.take.new.world in
    let listed = c.args.listed in
    let arrived = subst (λ (bytes : List ℕ). Did b d (arrives listed.who listed.moment bytes) (c.in_ok-step.step ∷ []) []) c.deref.ensures.value c.in_ok-step.ensures.did in
    record {
      heard = d;
      taken = e;
      due = c.in_ok-take.ensures.did.0;
      arriving = did-then a b d (connects listed.connects listed.who listed.moment) (arrives listed.who listed.moment listed.text.items) [] (c.in_ok-step.step ∷ []) [] [] c.in_ok-connect_if.ensures.did arrived;
      taking = c.in_ok-take.ensures.did.1;
      sending = c.in_ok-sent.ensures.sends;
      each = c.in_ok-sent.ensures.each ∙ c.requires ∙ sym (c.take.ensures.sides ∙ c.arrive.ensures.sides ∙ c.connect_if.ensures.sides);
    }
