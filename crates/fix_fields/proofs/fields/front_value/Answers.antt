use Rattle.std.proofs.Common.{◌+◌, arith, sym, ◌∙◌}
use Rattle.std.proofs.lemmas.List.{take_rest}
use Rattle.fix_fields.proofs.FrontLemmas.{front-value}
use Rattle.fix_fields.proofs.fields.front_value.Goals as goal

pub returns : goal.returns
returns c = rw (take_rest c.args.text.now (c.in_ok-place.place + 1)) (front-value c.args.text.now c.in_ok-place.place (omega (arith, c.if-place-eq0.false)) (sym c.soh_in.ensures.place ∙ c.in_ok-place.was))
