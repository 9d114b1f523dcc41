use Rattle.std.proofs.Common.{◌∙◌, sym, ap, [], ◌∷◌, Bool}
use Rattle.file_diagnosis.specs.declared.cause.Wrong.TheVariants.{Twice}
use Rattle.file_diagnosis.specs.Causes.{first_wrong}
use Rattle.file_diagnosis.proofs.Lists.{text_seen}
use Rattle.file_diagnosis.proofs.entry.repeat_in.Goals as goal

pub returns-then-has_text : goal.returns-then-has_text
returns-then-has_text c =
    ap (λ (b : Bool). first_wrong ((b, Twice) ∷ [])) (sym c.if-has_text.true)
    ∙ text_seen c.args.key c.key_word-key.result.now c.text_at.result.now c.args.before.now c.args.entry.now c.has_text.result c.key_word-key.ensures c.text_at.ensures c.has_text.ensures

pub returns-else-has_text : goal.returns-else-has_text
returns-else-has_text c =
    ap (λ (b : Bool). first_wrong ((b, Twice) ∷ [])) (sym c.if-has_text.false)
    ∙ text_seen c.args.key c.key_word-key.result.now c.text_at.result.now c.args.before.now c.args.entry.now c.has_text.result c.key_word-key.ensures c.text_at.ensures c.has_text.ensures
