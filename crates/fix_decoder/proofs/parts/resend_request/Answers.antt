use Rattle.std.proofs.Common.{refl}
use Rattle.fix_fields.specs.Views.{entries}
use Rattle.fix_decoder.specs.Messages.{begin_in}
use Rattle.fix_decoder.proofs.ResendLemmas.{resend_right}
use Rattle.fix_decoder.proofs.parts.resend_request.Goals as goal

pub new-requires : goal.new-requires
new-requires c =
    let fields = entries c.args.fields.now in
    rw (c.sequence_number.ensures, c.number.ensures) (resend_right (begin_in fields) fields c.requires refl)
