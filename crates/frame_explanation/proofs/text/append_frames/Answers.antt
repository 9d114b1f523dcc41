use Rattle.std.proofs.Common.{◌≡◌, ℕ, ◌<◌, List, ◌++◌, length, get_or, take, ap, sym, ◌∙◌, append_assoc, arith}
use Rattle.std.specs.List.{flat_map}
use Rattle.std.proofs.lemmas.List.{take_all}
use Rattle.frame_explanation.specs.declared.frames.Found.{Found}
use Rattle.frame_explanation.specs.declared.frames.Look.TheVariants.{Frame}
use Rattle.frame_explanation.specs.Text.{reply_found}
use Rattle.frame_explanation.proofs.Appends.{flat-more}
use Rattle.frame_explanation.proofs.text.append_frames.Goals as goal

pub loop-one-preserved : goal.loop-one-preserved
loop-one-preserved c = λ r.
    let f = reply_found r c.args.name.now c.args.bytes.now in
    let old = c.args.out.now.items in
    let found = c.args.found.now in
    let i = c.loop-one.one-index in
    let none : Found = record { at = 0; look = Frame 0 0 } in
    let one : Found = get_or found i none in
    let low : i < length found = omega (arith, c.loop-one-test.true) in
    c.in_ok-append_found.ensures r
    ∙ ap (λ (l : List ℕ). l ++ f one) (c.loop-one.invariant r)
    ∙ append_assoc old (flat_map f (take i found)) (f one)
    ∙ ap (λ (l : List ℕ). old ++ l) (sym (flat-more f found i none low))

pub returns : goal.returns
returns c = λ r.
    let found = c.args.found.now in
    c.loop-one.invariant r
    ∙ ap (λ (l : List Found). c.args.out.now.items ++ flat_map (reply_found r c.args.name.now c.args.bytes.now) l) (take_all c.loop-one.one-index found (omega (arith, c.loop-one-test.false)))
