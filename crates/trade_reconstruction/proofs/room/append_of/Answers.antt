use Rattle.std.proofs.Common.{◌≡◌, ◌++◌, ◌∙◌, ℕ, ap, filter, subst}
use Rattle.std.proofs.lemmas.Result.{on_ok_weaker}
use Rattle.trade_reconstruction.specs.declared.key.Key.TheVariants.{First}
use Rattle.trade_reconstruction.specs.Indexed.{has_key, name_key}
use Rattle.trade_reconstruction.proofs.Keys.{words_same}
use Rattle.trade_reconstruction.proofs.room.append_of.Goals as goal

pub returns : goal.returns
returns c =
    let a = c.args in
    let asked = a.asked.now in
    let words = a.words.now in
    let near = c.in_ok-to_requester.to_requester.items in
    let in_it = ap (filter (has_key (First asked.room))) c.deref.ensures.value ∙ c.in_ok-in_room.ensures in
    let to_it = ap (filter (has_key (First (name_key asked.requester asked.request)))) c.deref-2.ensures.value
    ∙ subst (λ (k : ℕ). filter (has_key (First k)) near ≡ filter (has_key (First k)) words) c.name_key.ensures c.in_ok-to_requester.ensures in
    on_ok_weaker c.append_request_answer.result
    (λ e. e ∙ ap (λ l. a.text.now.items ++ l) (words_same a.rows.now a.participants.now a.word.now asked c.deref.result.now c.deref-2.result.now words in_it to_it)) c.append_request_answer.ensures
