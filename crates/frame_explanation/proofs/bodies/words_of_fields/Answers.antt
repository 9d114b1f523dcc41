use Rattle.std.proofs.Common.{◌∙◌}
use Rattle.fix_decoder.specs.Messages.{fault_in, message_in}
use Rattle.frame_explanation.proofs.Outcomes.{both_if}
use Rattle.frame_explanation.proofs.Saying.{no_words_of}
use Rattle.frame_explanation.proofs.bodies.words_of_fields.Goals as goal

pub returns-in-Err : goal.returns-in-Err
returns-in-Err c =
    let fields = c.args.fields.now in
    both_if c.no_words.result _ _ _
    (λ text empty real. empty ∙ no_words_of (fault_in fields) c.in-Err.fault (message_in fields).body c.in-Err.ensures.read real)
    c.no_words.ensures.empty c.no_words.ensures.real
