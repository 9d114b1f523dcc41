use Rattle.std.proofs.Common.{ℕ, ◌<◌, nat_le, false, ◌≡◌, ◌∙◌, ap, sym, length, Some, option_map, refl, arith}
use Rattle.std.proofs.lemmas.Bool.Decides.{nat_tests}
use Rattle.std.proofs.lemmas.Result.{IfOk-weaker}
use Rattle.venue_rules.specs.Book.{Resting, filled, find_order}
use Rattle.venue_rules.specs.Market.{Market, market_of}
use Rattle.venue_rules.specs.declared.replies.OrderStatus.{OrderStatus}
use Rattle.price_book.specs.Views.{seen}
use Rattle.order_handler.specs.Changed.{IsReplacing, change_turned_away}
use Rattle.venue_request.specs.Senders.{sender}
use Rattle.order_handler.specs.Parts.{answer_of}
use Rattle.order_handler.proofs.Changing.{order-listed}
use Rattle.order_handler.proofs.Replacements.{book-refused, replace-trades, replace-turned, replaced-emitted, replacing-by, headroom-left, taking-place, emitted-made}
use Rattle.order_handler.proofs.replacing.plan_replace.Goals as goal

pub returns-in_default-clause-planned : goal.returns-in_default-clause-planned
returns-in_default-clause-planned c =
    IfOk-weaker c.none_replaced.result _ _ (λ a e. λ h x. e (market_of c.args.request.now.turn.market) h c.args.request.now.turn.counts c.args.request.now.turn.moment x) c.none_replaced.ensures.planned

pub new_price-requires : goal.new_price-requires
new_price-requires c =
    let order : Resting = seen c.in-Some.order in
    let found : find_order c.args.book.now.facts c.args.request.now.taken.now.from c.args.message.now.original_id ≡ Some order = sym c.order.ensures.found ∙ ap (option_map seen) c.in-Some.is in
    order-listed c.args.book.now.facts (length c.args.request.now.turn.market.instruments.now) c.args.request.now.taken.now.from c.args.message.now.original_id order c.requires.listed found

pub returns-in-Err-clause-planned : goal.returns-in-Err-clause-planned
returns-in-Err-clause-planned c =
    let order : Resting = seen c.in-Some.order in
    let found : find_order c.args.book.now.facts c.args.request.now.taken.now.from c.args.message.now.original_id ≡ Some order = sym c.order.ensures.found ∙ ap (option_map seen) c.in-Some.is in
    IfOk-weaker c.rejection.result _ _ (λ a e. λ h x. e ∙ ap (λ (st : OrderStatus). change_turned_away (sender c.args.request.now.taken.now) c.args.message.now st c.in-Err.cause) c.standing-named.ensures ∙ sym (replace-turned (market_of c.args.request.now.turn.market) h c.args.book.now.facts c.args.held.now.facts c.args.request.now.turn.counts (sender c.args.request.now.taken.now) c.args.message.now c.args.request.now.turn.moment order c.in-Err.cause (c.parts_are_read_alone.ensures h c.args.book.now.facts c.args.held.now.facts c.args.request.now.turn.counts x) found c.in-Err.ensures.turned)) c.rejection.ensures.answer

pub replaced-requires-clause-trades : goal.replaced-requires-clause-trades
replaced-requires-clause-trades c =
    let order : Resting = seen c.in-Some.order in
    let found : find_order c.args.book.now.facts c.args.request.now.taken.now.from c.args.message.now.original_id ≡ Some order = sym c.order.ensures.found ∙ ap (option_map seen) c.in-Some.is in
    let m : Market = market_of c.args.request.now.turn.market in
    let x : IsReplacing m c.args.book.now.facts c.args.held.now.facts c.args.request.now.taken.now.from c.args.message.now c.args.request.now.turn.moment c.in-Ok-plan_replace.plan = replacing-by m c.args.book.now.facts c.args.held.now.facts c.args.request.now.taken.now.from c.args.message.now c.args.request.now.turn.moment order c.in-Ok.price c.in-Ok-plan_replace.plan found c.in-Ok.ensures.may c.in-Ok.ensures.price (c.in-Ok-plan_replace.ensures.planned order (record { own = record { id = c.args.message.now.original_id; found = found }; number = refl })) in
    omega (arith, replace-trades m c.args.book.now.facts c.args.held.now.facts c.args.request.now.taken.now.from c.args.message.now c.args.request.now.turn.moment c.in-Ok-plan_replace.plan x, c.in-Ok-plan_replace.ensures.few)

pub replaced-requires-clause-enters : goal.replaced-requires-clause-enters
replaced-requires-clause-enters c =
    let order : Resting = seen c.in-Some.order in
    let found : find_order c.args.book.now.facts c.args.request.now.taken.now.from c.args.message.now.original_id ≡ Some order = sym c.order.ensures.found ∙ ap (option_map seen) c.in-Some.is in
    let m : Market = market_of c.args.request.now.turn.market in
    let x : IsReplacing m c.args.book.now.facts c.args.held.now.facts c.args.request.now.taken.now.from c.args.message.now c.args.request.now.turn.moment c.in-Ok-plan_replace.plan = replacing-by m c.args.book.now.facts c.args.held.now.facts c.args.request.now.taken.now.from c.args.message.now c.args.request.now.turn.moment order c.in-Ok.price c.in-Ok-plan_replace.plan found c.in-Ok.ensures.may c.in-Ok.ensures.price (c.in-Ok-plan_replace.ensures.planned order (record { own = record { id = c.args.message.now.original_id; found = found }; number = refl })) in
    taking-place m c.args.book.now.facts c.args.held.now.facts c.args.request.now.taken.now.from c.args.message.now c.args.request.now.turn.moment c.in-Ok-plan_replace.plan x c.requires.listed c.in-Ok.ensures.most

pub returns-in-Ok-plan_replace-clause-planned : goal.returns-in-Ok-plan_replace-clause-planned
returns-in-Ok-plan_replace-clause-planned c =
    let order : Resting = seen c.in-Some.order in
    let found : find_order c.args.book.now.facts c.args.request.now.taken.now.from c.args.message.now.original_id ≡ Some order = sym c.order.ensures.found ∙ ap (option_map seen) c.in-Some.is in
    let m : Market = market_of c.args.request.now.turn.market in
    let x : IsReplacing m c.args.book.now.facts c.args.held.now.facts c.args.request.now.taken.now.from c.args.message.now c.args.request.now.turn.moment c.in-Ok-plan_replace.plan = replacing-by m c.args.book.now.facts c.args.held.now.facts c.args.request.now.taken.now.from c.args.message.now c.args.request.now.turn.moment order c.in-Ok.price c.in-Ok-plan_replace.plan found c.in-Ok.ensures.may c.in-Ok.ensures.price (c.in-Ok-plan_replace.ensures.planned order (record { own = record { id = c.args.message.now.original_id; found = found }; number = refl })) in
    IfOk-weaker c.replaced.result _ _ (λ a e. λ h y. replaced-emitted m h c.args.book.now.facts c.args.held.now.facts c.args.request.now.turn.counts (sender c.args.request.now.taken.now) c.args.message.now c.args.request.now.turn.moment c.in-Ok-plan_replace.plan x a (c.parts_are_read_alone.ensures h c.args.book.now.facts c.args.held.now.facts c.args.request.now.turn.counts y) e) c.replaced.ensures

pub returns-in-Ok-plan_replace-clause-made : goal.returns-in-Ok-plan_replace-clause-made
returns-in-Ok-plan_replace-clause-made c =
    let order : Resting = seen c.in-Some.order in
    let found : find_order c.args.book.now.facts c.args.request.now.taken.now.from c.args.message.now.original_id ≡ Some order = sym c.order.ensures.found ∙ ap (option_map seen) c.in-Some.is in
    let m : Market = market_of c.args.request.now.turn.market in
    let x : IsReplacing m c.args.book.now.facts c.args.held.now.facts c.args.request.now.taken.now.from c.args.message.now c.args.request.now.turn.moment c.in-Ok-plan_replace.plan = replacing-by m c.args.book.now.facts c.args.held.now.facts c.args.request.now.taken.now.from c.args.message.now c.args.request.now.turn.moment order c.in-Ok.price c.in-Ok-plan_replace.plan found c.in-Ok.ensures.may c.in-Ok.ensures.price (c.in-Ok-plan_replace.ensures.planned order (record { own = record { id = c.args.message.now.original_id; found = found }; number = refl })) in
    IfOk-weaker c.replaced.result _ _ (λ a e. emitted-made m c.args.book.now.facts c.args.held.now.facts c.args.request.now.turn.counts c.args.request.now.taken.now.from c.args.message.now c.args.request.now.turn.moment c.in-Ok-plan_replace.plan x c.plan_replace.new.self c.args.held.now a c.requires.listed c.in-Ok-plan_replace.ensures.made e) c.replaced.ensures

pub refused_by_book-requires : goal.refused_by_book-requires
refused_by_book-requires c =
    let order : Resting = seen c.in-Some.order in
    let found : find_order c.args.book.now.facts c.args.request.now.taken.now.from c.args.message.now.original_id ≡ Some order = sym c.order.ensures.found ∙ ap (option_map seen) c.in-Some.is in
    headroom-left (market_of c.args.request.now.turn.market) c.args.book.now.facts c.args.message.now c.args.request.now.turn.moment order c.in-Ok.price c.in-Err-plan_replace.refusal (c.in-Err-plan_replace.ensures.refused order (record { own = record { id = c.args.message.now.original_id; found = found }; number = refl }))

pub returns-in-Err-plan_replace-clause-planned : goal.returns-in-Err-plan_replace-clause-planned
returns-in-Err-plan_replace-clause-planned c =
    let order : Resting = seen c.in-Some.order in
    let found : find_order c.args.book.now.facts c.args.request.now.taken.now.from c.args.message.now.original_id ≡ Some order = sym c.order.ensures.found ∙ ap (option_map seen) c.in-Some.is in
    let emitted = IfOk-weaker c.refused_by_book.result _ _ (λ a e. λ h x. book-refused (market_of c.args.request.now.turn.market) h c.args.book.now.facts c.args.held.now.facts c.args.request.now.turn.counts (sender c.args.request.now.taken.now) c.args.message.now c.args.request.now.turn.moment order c.in-Ok.price c.in-Err-plan_replace.refusal (answer_of a) (c.parts_are_read_alone.ensures h c.args.book.now.facts c.args.held.now.facts c.args.request.now.turn.counts x) found c.in-Ok.ensures.may c.in-Ok.ensures.price (c.in-Err-plan_replace.ensures.refused order (record { own = record { id = c.args.message.now.original_id; found = found }; number = refl })) (rw (sym c.standing-named.ensures) e)) c.refused_by_book.ensures.answer in emitted

pub plan_replace-requires : goal.plan_replace-requires
plan_replace-requires c =
    let order : Resting = seen c.in-Some.order in
    let found : find_order c.args.book.now.facts c.args.request.now.taken.now.from c.args.message.now.original_id ≡ Some order = sym c.order.ensures.found ∙ ap (option_map seen) c.in-Some.is in
    (order, record { own = record { id = c.args.message.now.original_id; found = found }; number = refl }, more c.args.message.now.quantity (filled order) c.in-Ok.ensures.may.more)
  where
    more : (a b : ℕ) → nat_le a b ≡ false → b < a
    more a b h = grind (arith, nat_tests)
