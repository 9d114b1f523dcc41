use Rattle.std.proofs.Common.{◌≡◌, refl, sym, ap, ◌∙◌, ℕ, ◌+◌, ◌-◌, ◌≤◌, ◌<◌, true, false, not, ◌&&◌, nat_lt, List, [], ◌∷◌, ◌++◌, length, take, drop, get_or, append_assoc, arith}
use Rattle.std.proofs.lemmas.List.{drop_more, drop_all, take_more, take_all}
use Rattle.std.proofs.lemmas.List.Sums.{sum_by-append}
use Rattle.venue_rules.specs.declared.facts.Entry.{Entry}
use Rattle.venue_rules.specs.declared.replies.Reply.{Reply}
use Rattle.venue_rules.specs.declared.replies.ReplyBody.TheVariants.{OrderUnfilled}
use Rattle.venue_rules.specs.Answer.{numbered, reply}
use Rattle.venue_rules.specs.Book.{is_day}
use Rattle.price_book.specs.declared.plan.FilledOrder.{FilledOrder}
use Rattle.order_handler.specs.Reports.{entry_report, filled_reply, resting_report, rest_reports, total, walked}

-- Reports of fills, one fill after another.

drop-read : (gs : List FilledOrder) (i : ℕ) (g : FilledOrder) → i < length gs → g ≡ get_or gs i g → drop i gs ≡ g ∷ drop (i + 1) gs
drop-read gs i g h e = drop_more gs i g h ∙ ap (λ x. x ∷ drop (i + 1) gs) (sym e)

two_more : (n : ℕ) → n + 1 + 1 ≡ n + 2
two_more n = omega arith

-- the replies with the two of a further fill, and those still to come
pub walked-more : (rs : List Reply) (symbol : List ℕ) (e : Entry) (so_far trade report : ℕ) (gs : List FilledOrder) (i : ℕ) (g : FilledOrder) (rest : List (ℕ → Reply)) → i < length gs → g ≡ get_or gs i g
    → ((rs ++ filled_reply e.order.who (entry_report symbol e (e.order.quantity - (so_far + g.quantity)) (e.filled_before + (so_far + g.quantity)) (report + 1)) g trade ∷ []) ++ filled_reply g.who (resting_report symbol g (report + 1 + 1)) g trade ∷ []) ++ numbered (report + 2) (walked symbol e (so_far + g.quantity) (trade + 1) (drop (i + 1) gs) ++ rest)
    ≡ rs ++ numbered report (walked symbol e so_far trade (drop i gs) ++ rest)
walked-more rs symbol e so_far trade report gs i g rest h k =
    let first = filled_reply e.order.who (entry_report symbol e (e.order.quantity - (so_far + g.quantity)) (e.filled_before + (so_far + g.quantity)) (report + 1)) g trade in
    let second = filled_reply g.who (resting_report symbol g (report + 1 + 1)) g trade in
    let more = walked symbol e (so_far + g.quantity) (trade + 1) (drop (i + 1) gs) ++ rest in
    append_assoc (rs ++ first ∷ []) (second ∷ []) (numbered (report + 2) more)
    ∙ append_assoc rs (first ∷ []) (second ∷ numbered (report + 2) more)
    ∙ ap (λ n. rs ++ first ∷ second ∷ numbered n more) (sym (two_more report))
    ∙ ap (λ fs. rs ++ numbered report (walked symbol e so_far trade fs ++ rest)) (sym (drop-read gs i g h k))

-- no fill is still to come
pub walked-end : (rs all : List Reply) (symbol : List ℕ) (e : Entry) (so_far trade report : ℕ) (gs : List FilledOrder) (i : ℕ) (rest : List (ℕ → Reply)) → length gs ≤ i → rs ++ numbered report (walked symbol e so_far trade (drop i gs) ++ rest) ≡ all → rs ++ numbered report rest ≡ all
walked-end rs all symbol e so_far trade report gs i rest h k = ap (λ fs. rs ++ numbered report (walked symbol e so_far trade fs ++ rest)) (sym (drop_all i gs h)) ∙ k

-- the filled quantity, after one fill
pub total-more : (gs : List FilledOrder) (i : ℕ) (g : FilledOrder) → i < length gs → g ≡ get_or gs i g → total (take (i + 1) gs) ≡ total (take i gs) + g.quantity
total-more gs i g h e = ap total (take_more gs i g h ∙ ap (λ x. take i gs ++ x ∷ []) (sym e)) ∙ sum_by-append (λ (f : FilledOrder). f.quantity) (take i gs) (g ∷ []) ∙ ap (λ n. total (take i gs) + n) (zero-plus g.quantity)
  where
    zero-plus : (n : ℕ) → 0 + n ≡ n
    zero-plus n = omega arith

pub total-all : (gs : List FilledOrder) (i : ℕ) → length gs ≤ i → total (take i gs) ≡ total gs
total-all gs i h = ap total (take_all i gs h)

-- the report of a cancelled rest

pub rest-some : (symbol : List ℕ) (e : Entry) (report so_far all : ℕ) → so_far ≡ all → (not (is_day e.order.life) && nat_lt so_far e.order.quantity) ≡ true → numbered report (rest_reports symbol e all) ≡ reply e.order.who (OrderUnfilled (entry_report symbol e 0 (e.filled_before + so_far) (report + 1))) ∷ []
rest-some symbol e report so_far all same h = ap (λ n. numbered report (rest_reports symbol e n)) (sym same) ∙ rw h refl

pub rest-none : (symbol : List ℕ) (e : Entry) (report so_far all : ℕ) → so_far ≡ all → (not (is_day e.order.life) && nat_lt so_far e.order.quantity) ≡ false → numbered report (rest_reports symbol e all) ≡ []
rest-none symbol e report so_far all same h = ap (λ n. numbered report (rest_reports symbol e n)) (sym same) ∙ rw h refl
