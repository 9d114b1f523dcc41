use Rattle.std.proofs.Common.{ℕ, List, ◌++◌, ◌+◌, drop, get_or, sym, ◌∙◌, append-nil}
use Rattle.std.proofs.lemmas.List.{at_drop_more, at_drop_all}
use Rattle.page_text.specs.declared.spot.Reading.TheVariants.{Own}
use Rattle.page_text.specs.Parts.{filled, spot_of}
use Rattle.page_text.specs.Spots.{after}
use Rattle.page_text.specs.Texts.{texts}
use Rattle.page_text.proofs.Filling.{filling_goes_on, spot_goes_on}
use Rattle.page_text.proofs.fill.fill.Goals as goal

pub loop-byte-preserved : goal.loop-byte-preserved
loop-byte-preserved c =
    let t = c.args.template.now in
    let i = c.loop-byte.byte-index in
    let r = c.loop-byte.reading in
    let vs = texts c.loop-byte.rest.now in
    let ws = texts c.values_left-rest.result.now in
    let out = c.loop-byte.out.items in
    let whole = filled (Own c.args.spot) t (texts c.args.values.now) in (
      filling_goes_on out c.emit.new.out.items r c.next_of-reading.result (get_or t i 0) (drop (i + 1) t) vs ws (c.args.out.now.items ++ whole)
          c.in_ok-emit.ensures c.next_of-reading.ensures c.values_left-rest.ensures
          (sym (at_drop_more (λ (l : List ℕ). out ++ filled r l vs) t i 0 c.loop-byte-test.true) ∙ c.loop-byte.invariant.0),
      spot_goes_on r c.next_of-reading.result (get_or t i 0) (drop (i + 1) t) vs ws (after c.args.spot whole)
          c.next_of-reading.ensures c.values_left-rest.ensures
          (sym (at_drop_more (λ (l : List ℕ). after (spot_of r) (filled r l vs)) t i 0 c.loop-byte-test.true) ∙ c.loop-byte.invariant.1),
    )

pub returns-clause-filled : goal.returns-clause-filled
returns-clause-filled c =
    let r = c.loop-byte.reading in
    let vs = texts c.loop-byte.rest.now in
    let out = c.loop-byte.out.items in
    sym (append-nil out) ∙ (sym (at_drop_all (λ (l : List ℕ). out ++ filled r l vs) c.args.template.now c.loop-byte.byte-index c.loop-byte-test.false) ∙ c.loop-byte.invariant.0)

pub returns-clause-spot : goal.returns-clause-spot
returns-clause-spot c =
    let r = c.loop-byte.reading in
    let vs = texts c.loop-byte.rest.now in
    c.spot_at.ensures ∙ (sym (at_drop_all (λ (l : List ℕ). after (spot_of r) (filled r l vs)) c.args.template.now c.loop-byte.byte-index c.loop-byte-test.false) ∙ c.loop-byte.invariant.1)
