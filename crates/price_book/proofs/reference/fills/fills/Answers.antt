use Rattle.std.proofs.Common.{◌≡◌, ◌∙◌, ap, sym, map}
use Rattle.venue_rules.specs.Book.{against}
use Rattle.price_book.specs.Views.{seen, seen_fill, share_out, left_over, kills}
use Rattle.price_book.proofs.Sharing.{fills-killed, fills-kept}
use Rattle.price_book.proofs.reference.fills.fills.Goals as goal
use Rattle.price_book.proofs.reference.fills.fills.Goals.{then-kills, else-kills}

pub returns : goal.returns
returns c =
    let rs = against c.args.facts.now c.args.order.now in
    let os : map seen c.deref.result.now ≡ rs = ap (map seen) c.deref.ensures.value ∙ c.in_ok-orders.ensures in
    let over : c.in_ok-fills.unfilled ≡ left_over c.args.order.now.quantity rs = c.in_ok-fills.ensures.1 ∙ ap (left_over c.args.order.now.quantity) os in
    let shared : map seen_fill c.in_ok-fills.fills.items ≡ share_out c.args.order.now.quantity rs = c.in_ok-fills.ensures.0 ∙ ap (share_out c.args.order.now.quantity) os in
    let killed : c.kills.result ≡ kills c.args.order.now.life (left_over c.args.order.now.quantity rs) = c.kills.ensures ∙ ap (kills c.args.order.now.life) over in
    elim c.if-kills.branch [
      | then-kills w ↦ ap (λ v. map seen_fill v.items) w.fills-is ∙ ap (map seen_fill) w.clear.ensures.items ∙ fills-killed c.args.order.now rs (sym killed ∙ w.if-kills.true)
      | else-kills w ↦ ap (λ v. map seen_fill v.items) w.fills-is ∙ shared ∙ fills-kept c.args.order.now rs (sym killed ∙ w.if-kills.false)
    ]
