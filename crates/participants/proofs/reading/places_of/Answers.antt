use Rattle.std.proofs.Common.{◌∙◌, ap, ℕ}
use Rattle.participants.specs.Reading.{places}
use Rattle.config_format.proofs.ListLemmas.{pushed-more}
use Rattle.participants.proofs.reading.places_of.Goals as goal

pub loop-pair-preserved : goal.loop-pair-preserved
loop-pair-preserved c =
    let a = c.of-a.ensures ∙ c.place_in.ensures.place in
    let b = c.of-b.ensures ∙ c.place_in-in-loop-pair.ensures.place in
    let both = ap (λ (x : ℕ). (x, c.of-b.result)) a ∙ ap (λ (y : ℕ). ((places c.args.names.now c.pair-item.result).0, y)) b in
    pushed-more (places c.args.names.now) c.args.pairs.now c.loop-pair.pair-index c.pair-item.result c.loop-pair.found.items c.push.new.self.items _ c.loop-pair.invariant c.in_ok-push.ensures.items both c.pair-item.is c.loop-pair-test.true
