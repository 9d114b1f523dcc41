use Rattle.std.proofs.Common.{◌≡◌, ◌++◌, ◌∙◌, ℕ, ap, filter, subst}
use Rattle.std.proofs.lemmas.Result.{on_ok_weaker}
use Rattle.trade_reconstruction.specs.declared.key.Key.TheVariants.{First}
use Rattle.trade_reconstruction.specs.Indexed.{has_key, name_key}
use Rattle.trade_reconstruction.proofs.Keys.{fates_same}
use Rattle.trade_reconstruction.proofs.noting.push_fates_found.Goals as goal

pub returns-clause-noted : goal.returns-clause-noted
returns-clause-noted c = λ h stands.
    let a = c.args in
    let asked = a.asked.now in
    let words = a.words.now in
    let picked = c.in_ok-picked.picked.items in
    let same = ap (filter (has_key (First (name_key asked.requester asked.request)))) c.deref.ensures.value
    ∙ subst (λ (k : ℕ). filter (has_key (First k)) picked ≡ filter (has_key (First k)) words) c.name_key.ensures c.in_ok-picked.ensures in
    on_ok_weaker c.push_fates_asked.result (λ e. e ∙ ap (λ l. a.fates.now.items ++ l) (fates_same a.venue.now.market h a.hit.now asked a.ended.now c.deref.result.now words same)) (c.push_fates_asked.ensures.noted h stands)
