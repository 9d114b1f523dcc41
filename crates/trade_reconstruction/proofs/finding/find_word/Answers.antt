use Rattle.std.proofs.Common.{◌≡◌, ◌∙◌, filter, find, subst}
use Rattle.std.specs.List.{flat_map}
use Rattle.trade_reconstruction.specs.declared.key.Key.{Key}
use Rattle.trade_reconstruction.specs.Indexed.{at, has_key}
use Rattle.trade_reconstruction.specs.Lines.{is_sought}
use Rattle.trade_reconstruction.proofs.Keys.{found_by_key}
use Rattle.trade_reconstruction.proofs.finding.find_word.Goals as goal

pub returns : goal.returns
returns c =
    let q = c.args.sought.now in
    let words = c.args.words.now in
    let picked = flat_map (at words) c.places.result.now in
    c.find_at.ensures
    ∙ (λ k. find (is_sought q) (flat_map (at (c.words.ensures k)) c.places.result.now))
    ∙ found_by_key q picked words (subst (λ (y : Key). filter (has_key y) picked ≡ filter (has_key y) words) c.key_of.ensures c.places.ensures)
