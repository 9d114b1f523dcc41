use Rattle.std.proofs.Common.{◌∙◌}
use Rattle.fix_dictionary.specs.Lent.{lent_body, lent_header}
use Rattle.sef_client.proofs.Texts.{body_text}
use Rattle.sef_client.proofs.frames.Frames.append.Goals as goal

pub write_frame-requires : goal.write_frame-requires
write_frame-requires c =
    let e = body_text (record { header = lent_header c.header-header.result; body = lent_body c.args.body }) in
    (e.0, c.deref.ensures.value ∙ (rw c.clear.ensures.items at c.in_ok-print_parts.ensures.ok) ∙ e.1)
