use Rattle.std.proofs.Common.{◌≡◌, ◌∙◌, ap, sym, ◌<◌, ◌≤◌, ℕ, ◌++◌, ◌∷◌, [], ◌-◌, ◌+◌, List, length, get_or, drop, map, reverse, Some, None, append-nil, append_assoc, arith}
use Rattle.std.specs.Option.{option_copied}
use Rattle.std.proofs.lemmas.List.{length-reverse}
use Rattle.venue_rules.specs.Book.{Resting, against, opposite, resting}
use Rattle.price_book.specs.declared.row.Row.{Row}
use Rattle.price_book.specs.Live.{seen_slot}
use Rattle.price_book.specs.Numbered.{slot_at}
use Rattle.price_book.specs.Rows.{rows_of}
use Rattle.price_book.specs.Views.{seen_fill, share_out, left_over}
use Rattle.price_book.proofs.Living.{resting-live}
use Rattle.price_book.proofs.Giving.{met, share-parts, share-spent, left-spent, met-refused, met-next, met-kept, met-end}
use Rattle.price_book.proofs.Turned.{read-back, inside-back, next-back, none-read}
use Rattle.price_book.proofs.fills.shared.Goals as goal
use Rattle.price_book.proofs.fills.shared.Goals.{then-wanted-eq0-via-then-wanted-eq0, then-wanted-eq0-via-else-wanted-eq0+then-not-accepts}

pub returns-in_default : goal.returns-in_default
returns-in_default c =
    let o = c.args.order.now in
    let f = c.args.book.past.now in
    let none : against f o ≡ [] = ap (λ s. met o (resting f o.instrument s)) (sym c.opposite.ensures) ∙ ap (met o) c.in_default.ensures in
    (ap (map seen_fill) c.new-fills.ensures.items ∙ sym (ap (share_out o.quantity) none), c.get-wanted.ensures.value ∙ sym (ap (left_over o.quantity) none))

pub loop-at-init : goal.loop-at-init
loop-at-init c =
    let o = c.args.order.now in
    let f = c.args.book.past.now in
    rw (c.len-at.ensures, none-read (length c.in-Some.rows.now.items)) (
      ap (λ ys. map seen_fill ys ++ share_out c.get-wanted.result (against f o)) c.new-fills.ensures.items ∙ ap (λ q. share_out q (against f o)) c.get-wanted.ensures.value,
      ap (λ q. left_over q (against f o)) c.get-wanted.ensures.value,
    )

pub returns-then-wanted-eq0 : goal.returns-then-wanted-eq0
returns-then-wanted-eq0 c =
    let o = c.args.order.now in
    let f = c.args.book.past.now in
    let high : c.loop-at.at ≤ length c.in-Some.rows.now.items = rw c.len-at.ensures at c.loop-at.auto.at in
    let i = length c.in-Some.rows.now.items - c.loop-at.at in
    let rs : List Resting = resting f o.instrument (opposite o.side) in
    let rows : reverse c.in-Some.rows.now.items ≡ rows_of rs = c.in-Some.ensures ∙ ap (λ s. rows_of (resting f o.instrument s)) c.opposite.ensures in
    let row : Row = c.row-row.result in
    let inside : i < length (rows_of rs) = inside-back c.in-Some.rows.now.items (rows_of rs) c.loop-at.at rows c.loop-at-test.true high in
    let is : row ≡ get_or (rows_of rs) i row = read-back c.in-Some.rows.now.items (rows_of rs) c.loop-at.at row rows c.loop-at-test.true high c.row-row.ensures in
    let spent : (n : ℕ) (ws : List Resting) → n ≡ 0 → (share_out n ws ≡ []) × (left_over n ws ≡ n) = λ n ws z. (ap (λ k. share_out k ws) z ∙ share-spent ws, ap (λ k. left_over k ws) z ∙ left-spent ws ∙ sym z) in
    let ended : (share_out c.loop-at.wanted (met o (drop i rs)) ≡ []) × (left_over c.loop-at.wanted (met o (drop i rs)) ≡ c.loop-at.wanted) = elim c.then-wanted-eq0.branch [
      | then-wanted-eq0-via-then-wanted-eq0 w ↦ spent c.loop-at.wanted (met o (drop i rs)) w.if-wanted-eq0.true
      | then-wanted-eq0-via-else-wanted-eq0+then-not-accepts w ↦
          let none : met o (drop i rs) ≡ [] = met-refused o rs i row (rw (resting-live f o.instrument (opposite o.side)) at (c.args.book.ranked o.instrument (opposite o.side))) inside is (sym w.accepts.ensures ∙ w.if-not-accepts.true) in
          (ap (share_out c.loop-at.wanted) none, ap (left_over c.loop-at.wanted) none)
    ] in (
      sym (append-nil (map seen_fill c.loop-at.fills.items)) ∙ ap (λ q. map seen_fill c.loop-at.fills.items ++ q) (sym ended.0) ∙ c.loop-at.invariant.0,
      sym ended.1 ∙ c.loop-at.invariant.1,
    )

pub returns-in_default-get : goal.returns-in_default-get
returns-in_default-get c =
    let o = c.args.order.now in
    let f = c.args.book.past.now in
    let high : c.loop-at.at ≤ length c.in-Some.rows.now.items = rw c.len-at.ensures at c.loop-at.auto.at in
    let i = length c.in-Some.rows.now.items - c.loop-at.at in
    let rs : List Resting = resting f o.instrument (opposite o.side) in
    let rows : reverse c.in-Some.rows.now.items ≡ rows_of rs = c.in-Some.ensures ∙ ap (λ s. rows_of (resting f o.instrument s)) c.opposite.ensures in
    let row : Row = c.row-row.result in
    let inside : i < length (rows_of rs) = inside-back c.in-Some.rows.now.items (rows_of rs) c.loop-at.at rows c.loop-at-test.true high in
    let is : row ≡ get_or (rows_of rs) i row = read-back c.in-Some.rows.now.items (rows_of rs) c.loop-at.at row rows c.loop-at-test.true high c.row-row.ensures in
    let none : slot_at c.args.book.stored_orders.now.entries row.number ≡ None = sym c.get.ensures.value ∙ ap option_copied c.in_default-get.is in
    absurd (met-kept rs c.args.book.stored_orders.now.entries i row (rw (resting-live f o.instrument (opposite o.side)) at (c.args.book.kept o.instrument (opposite o.side))) inside is none)

pub loop-at-preserved : goal.loop-at-preserved
loop-at-preserved c =
    let o = c.args.order.now in
    let f = c.args.book.past.now in
    let high : c.loop-at.at ≤ length c.in-Some.rows.now.items = rw c.len-at.ensures at c.loop-at.auto.at in
    let i = length c.in-Some.rows.now.items - c.loop-at.at in
    let rs : List Resting = resting f o.instrument (opposite o.side) in
    let rows : reverse c.in-Some.rows.now.items ≡ rows_of rs = c.in-Some.ensures ∙ ap (λ s. rows_of (resting f o.instrument s)) c.opposite.ensures in
    let row : Row = c.row-row.result in
    let inside : i < length (rows_of rs) = inside-back c.in-Some.rows.now.items (rows_of rs) c.loop-at.at rows c.loop-at-test.true high in
    let is : row ≡ get_or (rows_of rs) i row = read-back c.in-Some.rows.now.items (rows_of rs) c.loop-at.at row rows c.loop-at-test.true high c.row-row.ensures in
    let some : slot_at c.args.book.stored_orders.now.entries row.number ≡ Some c.in-Some-get.stored_order.now = sym c.get.ensures.value ∙ ap option_copied c.in-Some-get.is in
    let more : met o (drop i rs) ≡ seen_slot c.in-Some-get.stored_order.now ∷ met o (drop (i + 1) rs) = met-next o rs c.args.book.stored_orders.now.entries i row c.in-Some-get.stored_order.now (rw (resting-live f o.instrument (opposite o.side)) at (c.args.book.kept o.instrument (opposite o.side))) inside is some (sym c.accepts.ensures ∙ c.if-not-accepts.false) in
    let rest : List Resting = met o (drop (i + 1) rs) in
    rw (next-back (length c.in-Some.rows.now.items) c.loop-at.at c.loop-at-test.true high) (
      ap (λ q. map seen_fill c.give.new.fills.items ++ share_out q rest) c.saturating_sub-wanted.ensures
          ∙ ap (λ t. t ++ share_out (c.loop-at.wanted - c.in-Some-get.stored_order.now.left) rest) c.in_ok-give.ensures
          ∙ append_assoc (map seen_fill c.loop-at.fills.items) (share_out c.loop-at.wanted (seen_slot c.in-Some-get.stored_order.now ∷ [])) (share_out (c.loop-at.wanted - c.in-Some-get.stored_order.now.left) rest)
          ∙ ap (λ t. map seen_fill c.loop-at.fills.items ++ t) (sym (share-parts c.loop-at.wanted (seen_slot c.in-Some-get.stored_order.now) rest))
          ∙ ap (λ t. map seen_fill c.loop-at.fills.items ++ share_out c.loop-at.wanted t) (sym more)
          ∙ c.loop-at.invariant.0,
      ap (λ q. left_over q rest) c.saturating_sub-wanted.ensures ∙ ap (left_over c.loop-at.wanted) (sym more) ∙ c.loop-at.invariant.1,
    )

pub returns : goal.returns
returns c =
    let o = c.args.order.now in
    let f = c.args.book.past.now in
    let i = length c.in-Some.rows.now.items - c.loop-at.at in
    let rs : List Resting = resting f o.instrument (opposite o.side) in
    let rows : reverse c.in-Some.rows.now.items ≡ rows_of rs = c.in-Some.ensures ∙ ap (λ s. rows_of (resting f o.instrument s)) c.opposite.ensures in
    let none : met o (drop i rs) ≡ [] = met-end o rs i (omega (arith, c.loop-at-test.false, length-reverse c.in-Some.rows.now.items, ap length rows)) in (
      sym (append-nil (map seen_fill c.loop-at.fills.items)) ∙ ap (λ q. map seen_fill c.loop-at.fills.items ++ share_out c.loop-at.wanted q) (sym none) ∙ c.loop-at.invariant.0,
      ap (left_over c.loop-at.wanted) (sym none) ∙ c.loop-at.invariant.1,
    )
