use Rattle.std.proofs.Common.{◌≡◌, ◌++◌, ◌∷◌, ◌∙◌, List, ℕ, ap, sym}
use Rattle.std.proofs.lemmas.List.{append_assoc}
use Rattle.resend_store.specs.Resent.{Resent, resent_by}
use Rattle.fix_session.specs.Sent as sent
use Rattle.fix_session.specs.declared.comp_ids.CompIds.{CompIds}
use Rattle.fix_session.proofs.wire.append_again.Goals as goal

-- another frame, then those of the rest, are the remaining frames
one_more : (ids : CompIds) (t : ℕ) (wire new all : List ℕ) (r : Resent) (left rest : List Resent) → left ≡ r ∷ rest → new ≡ wire ++ sent.again_frame ids t r → wire ++ sent.again_frames ids t left ≡ all → new ++ sent.again_frames ids t rest ≡ all
one_more ids t wire new all r left rest steps is before =
    ap (λ w. w ++ sent.again_frames ids t rest) is ∙ append_assoc wire (sent.again_frame ids t r) (sent.again_frames ids t rest) ∙ ap (λ l. wire ++ sent.again_frames ids t l) (sym steps) ∙ before

pub loop-resend-preserved : goal.loop-resend-preserved
loop-resend-preserved c =
    let before = c.loop-resend.invariant in
    let frame = sent.again_frame c.args.ids.now c.args.t (resent_by c.in-Some-next.resend) in
    let is = c.in_ok-append_resend.ensures in (
      one_more c.args.ids.now c.args.t c.loop-resend.wire c.append_resend.new.wire _ (resent_by c.in-Some-next.resend) c.loop-resend.resends c.next.new.self c.in-Some-next.ensures.steps is before.0,
      (before.1.0 ++ frame, is ∙ ap (λ w. w ++ frame) before.1.1 ∙ append_assoc c.args.wire.now before.1.0 frame),
    )
