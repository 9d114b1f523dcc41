use Rattle.std.proofs.Common.{◌≡◌, ℕ, List, ap, ◌∙◌, subst}
use Rattle.frame_explanation.specs.declared.log_items.Heard.{Heard}
use Rattle.venue_rules.specs.Market.{Market}
use Rattle.frame_explanation.specs.Explanation.{IsOf, explanation}
use Rattle.frame_explanation.specs.Frames.{separated}
use Rattle.frame_explanation.proofs.explaining.explained.Goals as goal

pub returns : goal.returns
returns c =
    let names = c.args.names.now in
    let log = separated c.args.log.now in
    let market : Market = record { participants = c.args.participants; instruments = c.args.instruments } in
    let heard = c.in_ok-heard.heard.items in
    let first = c.deref.ensures.value ∙ c.in_ok-log.ensures in
    let second = c.deref-2.ensures.value ∙ c.in_ok-log.ensures in
    record {
      heard = heard;
      of = subst (λ (l : List ℕ). IsOf market names l heard) first c.in_ok-heard.ensures;
      says = λ r.
          c.in_ok-text_of.ensures r
          ∙ ap (λ (l : List ℕ). explanation r names l c.deref-3.result.now) second
          ∙ ap (λ (h : List Heard). explanation r names log h) c.deref-3.ensures.value;
    }
