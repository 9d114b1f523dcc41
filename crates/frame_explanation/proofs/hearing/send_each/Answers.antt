use Rattle.std.proofs.Common.{◌≡◌, ◌+◌, ◌<◌, ℕ, [], ◌∷◌, ◌++◌, List, length, refl, sym, ap, ◌∙◌, subst, arith}
use Rattle.std.proofs.lemmas.List.{length-append}
use Rattle.frame_explanation.specs.Hearing.{Sends, SendsEach}
use Rattle.frame_explanation.specs.declared.log_items.Sent as held
use Rattle.frame_explanation.proofs.Going.{sends-more}
use Rattle.frame_explanation.proofs.hearing.send_each.Goals as goal

pub loop-place-init : goal.loop-place-init
loop-place-init c = record {
  sends = subst (λ (l : List held.Sent). SendsEach c.args.at 0 c.args.world.now c.args.world.now l) (sym c.new-sent.ensures.items) refl;
  each = ap length c.new-sent.ensures.items;
  sides = refl;
}

pub send_all-requires : goal.send_all-requires
send_all-requires c = omega (arith, c.of.ensures, c.loop-place-test.true, c.loop-place.invariant.sides, c.requires)

pub loop-place-preserved : goal.loop-place-preserved
loop-place-preserved c =
    let at = c.args.at in
    let old = c.args.world.now in
    let mid = c.loop-place.world in
    let new = c.send_all.new.world in
    let sent = c.loop-place.sent.items in
    let one = c.in_ok-one.one in
    let here : c.of.result ≡ 0 + length sent = omega (arith, c.of.ensures, c.loop-place.invariant.each) in
    record {
      sends = subst (λ (l : List held.Sent). SendsEach at 0 old new l) (sym c.in_ok-push_sent.ensures)
          (sends-more at 0 old mid new sent one c.loop-place.invariant.sends (c.in_ok-one.ensures.to ∙ here) (subst (λ (n : ℕ). Sends at mid new n one.bytes.items) here c.in_ok-one.ensures.sends));
      each = ap length c.in_ok-push_sent.ensures ∙ length-append sent (one ∷ []) ∙ omega (arith, c.loop-place.invariant.each);
      sides = c.send_all.ensures.sides ∙ c.loop-place.invariant.sides;
    }
