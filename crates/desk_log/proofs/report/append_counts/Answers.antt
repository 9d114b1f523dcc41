use Rattle.std.proofs.Common.{◌≡◌, ℕ, List, ◌++◌, length, ap, ◌∙◌, arith, append_assoc}
use Rattle.std.proofs.lemmas.Result.{on_ok_weaker}
use Rattle.desk_log.specs.Report.{frames_said, messages_said}
use Rattle.desk_log.proofs.report.append_counts.Goals as goal

pub returns : goal.returns
returns c =
    let r = c.args.reading.now in
    let out = c.args.out.now.items in
    let said = frames_said c.args.ends.now.from.now c.args.ends.now.to.now r.bodies in
    let frames : c.len-frames.result ≡ length r.frames.items = omega (arith, c.len-frames.ensures, r.frames.ok.0) in
    let logged : c.len-logged.result ≡ length r.logged.items = omega (arith, c.len-logged.ensures, r.logged.ok.0) in
    let once : c.len-once.result ≡ length r.once.items = omega (arith, c.len-once.ensures, r.once.ok.0) in
    on_ok_weaker c.append_messages.result
    (λ e. e ∙ ap (λ (l : List ℕ). l ++ messages_said c.len-logged.result c.len-once.result r.outside) c.in_ok-append_frames.ensures
    ∙ append_assoc out (said c.len-frames.result) (messages_said c.len-logged.result c.len-once.result r.outside)
    ∙ ap (λ (n : ℕ). out ++ (said n ++ messages_said c.len-logged.result c.len-once.result r.outside)) frames
    ∙ ap (λ (n : ℕ). out ++ (said (length r.frames.items) ++ messages_said n c.len-once.result r.outside)) logged
    ∙ ap (λ (n : ℕ). out ++ (said (length r.frames.items) ++ messages_said (length r.logged.items) n r.outside)) once)
    c.append_messages.ensures
