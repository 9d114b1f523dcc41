use Rattle.std.proofs.Common.{◌≡◌, ℕ, ◌+◌, ◌<◌, ◌++◌, [], List, length, slice_index_or, ap, ◌∙◌, arith}
use Rattle.venue_main.specs.Serve.{place_line, place_lines}
use Rattle.venue_main.proofs.Places.{places-all, places-more}
use Rattle.venue_main.proofs.serving.announcement.Goals as goal

pub loop-k-preserved : goal.loop-k-preserved
loop-k-preserved c =
    let names = c.args.participants.now.names in
    let k = c.loop-k.k in
    let low : k < length names = omega (arith, c.loop-k-test.true, c.requires.count) in
    let at : c.name.result.now ≡ slice_index_or names k [] = c.name.ensures.value ∙ ap (λ (who : ℕ). slice_index_or names who []) c.of.ensures in
    places-more names c.args.port k c.loop-k.text.items c.append_place.new.text.items (place_lines c.args.port names) low
    (c.in_ok-append_place.ensures ∙ ap (λ (name : List ℕ). c.loop-k.text.items ++ place_line name (c.args.port + k)) at) c.loop-k.invariant

pub returns : goal.returns
returns c =
    let names = c.args.participants.now.names in
    places-all names (c.args.port + c.loop-k.k) c.loop-k.k c.loop-k.text.items (place_lines c.args.port names) (omega (arith, c.requires.count)) c.loop-k.invariant
