use Rattle.std.proofs.Common.{◌<◌, ℕ, List, Option, length, subst, sym}
use Rattle.trade_reconstruction.specs.declared.evidence_event.EvidenceEvent.{EvidenceEvent}
use Rattle.trade_reconstruction.specs.Indexed.{ArePlaced, first_key, second_key}
use Rattle.trade_reconstruction.proofs.Index.{Put, placed_more}
use Rattle.trade_reconstruction.proofs.events.Events.with.Goals as goal

pub invariant_of-events : goal.invariant_of-events
invariant_of-events c =
    let e = c.events.inside in
    let words = e.words.items in
    let w = c.args.word in
    let first = c.put.new.buckets.items in
    let second = c.put-2.new.buckets.items in
    let put_first : Put (length e.first.items) (length words) (first_key w) e.first.items first =
    subst (λ (k : Option ℕ). Put (length e.first.items) (length words) k e.first.items first) c.first_key.ensures
    (subst (λ (ws : List EvidenceEvent). Put (length e.first.items) (length ws) c.first_key.result e.first.items first) c.as_slice-place.ensures.value c.in_ok-put.ensures.put) in
    let put_second : Put (length e.second.items) (length words) (second_key w) e.second.items second =
    subst (λ (k : Option ℕ). Put (length e.second.items) (length words) k e.second.items second) c.second_key.ensures
    (subst (λ (ws : List EvidenceEvent). Put (length e.second.items) (length ws) c.second_key.result e.second.items second) c.as_slice-place.ensures.value c.in_ok-put-2.ensures.put) in (
      subst (λ (ws : List EvidenceEvent). ArePlaced first_key ws first) (sym c.in_ok-push_word.ensures) (placed_more first_key words w e.first.items first c.events.invariant.0 c.put.ensures.len put_first),
      subst (λ (ws : List EvidenceEvent). ArePlaced second_key ws second) (sym c.in_ok-push_word.ensures) (placed_more second_key words w e.second.items second c.events.invariant.1 c.put-2.ensures.len put_second),
      subst (λ (n : ℕ). 0 < n) (sym c.put.ensures.len) c.events.invariant.2,
      subst (λ (n : ℕ). 0 < n) (sym c.put-2.ensures.len) c.events.invariant.3,
    )
