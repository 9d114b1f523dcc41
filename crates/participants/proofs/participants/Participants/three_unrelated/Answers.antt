use Rattle.std.proofs.Common.{sym, ◌∙◌}
use Rattle.participants.proofs.Unrelated.{ThreeUnrelated-from_test, test-from_ThreeUnrelated}
use Rattle.participants.proofs.participants.Participants.three_unrelated.Goals as goal

pub returns-clause-related : goal.returns-clause-related
returns-clause-related c =
    let same = c.has_three.ensures in
    record {
      there_are = λ stated. ThreeUnrelated-from_test c.args.self.now c.args.requester c.args.recipients.now (sym same ∙ stated);
      stated_true = λ three. same ∙ test-from_ThreeUnrelated c.args.self.now c.args.requester c.args.recipients.now three;
    }
