use Rattle.std.proofs.Common.{◌≡◌, [], ◌∷◌, ◌++◌, List, length, map, refl, sym, ap, ◌∙◌, subst}
use Rattle.frame_explanation.specs.Hearing.{HearsAll, HearsAs, item_of}
use Rattle.frame_explanation.specs.declared.log_items.Heard.{Heard}
use Rattle.frame_explanation.specs.declared.log_items.LogItem.{LogItem}
use Rattle.frame_explanation.proofs.Going.{hears-more, items-more}
use Rattle.frame_explanation.proofs.hearing.hear_all.Goals as goal

pub loop-one-init : goal.loop-one-init
loop-one-init c = record {
  listed = ap (λ (l : List Heard). map item_of l) c.new-all.ensures.items;
  hears = subst (λ (l : List Heard). HearsAll c.args.world.now c.args.world.now l) (sym c.new-all.ensures.items) refl;
  sides = refl;
}

pub loop-one-preserved : goal.loop-one-preserved
loop-one-preserved c =
    let old = c.args.world.now in
    let mid = c.loop-one.world in
    let new = c.hear.new.world in
    let all = c.loop-one.all.items in
    let heard = c.in_ok-heard.heard in
    let here = c.loop-one.invariant in
    let one = subst (λ (item : LogItem). HearsAs item.source mid new item heard.step heard.sent.items) (sym c.in_ok-heard.ensures.item) c.in_ok-heard.ensures.hears in
    record {
      listed = ap (λ (l : List Heard). map item_of l) c.in_ok-push_heard.ensures ∙ items-more all heard c.loop-one.yielded c.in-Some.one here.listed c.in_ok-heard.ensures.item;
      hears = subst (λ (l : List Heard). HearsAll old new l) (sym c.in_ok-push_heard.ensures) (hears-more old mid new all heard here.hears one);
      sides = c.hear.ensures.sides ∙ here.sides;
    }
