-- Parts for each of some things, and things that are picked, one by one.
use Rattle.std.specs.Prelude.{◌≡◌, ℕ, suc, ◌+◌, ◌-◌, ◌<◌, ◌≤◌, ℤ, Bool, Option, None, Some, is_some, List, [], ◌∷◌, ◌++◌, length, drop, map, refl}
use Rattle.std.specs.List.{cons_option, filter_map}
use Rattle.std.proofs.Common.{sym, ◌∙◌, ap, arith, append_assoc, append-nil, get_or}
use Rattle.std.proofs.lemmas.List.{at_drop_more, at_drop_all}
use Rattle.venue_rules.specs.declared.facts.Fact.{Fact}
use Rattle.page_text.specs.Parts.{Part, with_part, with_parts}
use Rattle.day_tables.specs.Lists.{kept_if}
pub use Rattle.day_tables.proofs.Walks.{picks_on, picks_out, sums_on, sums_out}
pub use Rattle.day_sections.proofs.Walks.{follow, in_frame, in_turn, goes_on, goes_out, counts_on, counts_out, all_taken}
use Rattle.instrument_charts.specs.declared.ladder.Rest.{Rest}
use Rattle.instrument_charts.specs.declared.lines.Point.{Point}
use Rattle.chart_axes.specs.declared.scale.Scale.{Scale}
use Rattle.instrument_charts.specs.Ladders.{firsts, is_new}
use Rattle.instrument_charts.specs.Lines.{line_parts, spaced, stands_before, turn_parts}
use Rattle.instrument_charts.specs.Rests.{book_of, rests_from}

-- a part, and then others
pub in_front : (page one last : List ℕ) (p : Part) (qs : List Part) → one ≡ with_part page p → last ≡ with_parts one qs → last ≡ with_parts page (p ∷ qs)
in_front page one last p qs h k = k ∙ ap (λ (x : List ℕ). with_parts x qs) h

-- a loop over the best prices of a side

pub line_on : (s : Scale) (ps : List Point) (i : ℕ) (p : Point) (drawn next : Bool) (page more whole : List ℕ) → i < length ps → p ≡ get_or ps i p → next ≡ is_some p.price
    → more ≡ with_parts page (turn_parts s drawn p.moment p.price) → with_parts page (line_parts s drawn (drop i ps)) ≡ whole → with_parts more (line_parts s next (drop (i + 1) ps)) ≡ whole
line_on s ps i p drawn next page more whole below at_i n e h =
    let F : List Point → List ℕ = λ ys. with_parts page (line_parts s drawn ys) in
    let rest = drop (i + 1) ps in
    ap (λ (x : List ℕ). with_parts x (line_parts s next rest)) e
    ∙ (ap (λ (b : Bool). with_parts (with_parts page (turn_parts s drawn p.moment p.price)) (line_parts s b rest)) n
    ∙ (sym (follow page (turn_parts s drawn p.moment p.price) (line_parts s (is_some p.price) rest))
    ∙ (ap (λ (y : Point). F (y ∷ rest)) at_i
    ∙ (sym (at_drop_more F ps i p below) ∙ h))))

pub line_out : (s : Scale) (ps : List Point) (i : ℕ) (drawn : Bool) (page last whole : List ℕ) → length ps ≤ i → last ≡ with_parts page (turn_parts s drawn s.last None)
    → with_parts page (line_parts s drawn (drop i ps)) ≡ whole → last ≡ whole
line_out s ps i drawn page last whole past e h =
    let F : List Point → List ℕ = λ ys. with_parts page (line_parts s drawn ys) in
    e ∙ (sym (at_drop_all F ps i past) ∙ h)

-- a loop that makes other things of some

given_first : {Y : Type 0} (o : Option Y) (ys : List Y) → cons_option o ys ≡ cons_option o [] ++ ys
given_first None ys = refl
given_first (Some y) ys = refl

pub makes_on : {X Y : Type 0} (f : X → Option Y) (xs : List X) (i : ℕ) (x : X) (o : Option Y) (made more whole : List Y) → i < length xs → x ≡ get_or xs i x → o ≡ f x → more ≡ made ++ cons_option o []
    → made ++ filter_map f (drop i xs) ≡ whole → more ++ filter_map f (drop (i + 1) xs) ≡ whole
makes_on {X} {Y} f xs i x o made more whole below at_i is k h =
    let F : List X → List Y = λ ys. made ++ filter_map f ys in
    let rest = filter_map f (drop (i + 1) xs) in
    ap (λ (l : List Y). l ++ rest) (k ∙ ap (λ (q : Option Y). made ++ cons_option q []) is)
    ∙ (append_assoc made (cons_option (f x) []) rest
    ∙ (ap (λ (l : List Y). made ++ l) (sym (given_first (f x) rest))
    ∙ (ap (λ (y : X). F (y ∷ drop (i + 1) xs)) at_i
    ∙ (sym (at_drop_more F xs i x below) ∙ h))))

pub makes_out : {X Y : Type 0} (f : X → Option Y) (xs : List X) (i : ℕ) (made whole : List Y) → length xs ≤ i → made ++ filter_map f (drop i xs) ≡ whole → made ≡ whole
makes_out {X} {Y} f xs i made whole past h =
    let F : List X → List Y = λ ys. made ++ filter_map f ys in
    sym (append-nil made) ∙ (sym (at_drop_all F xs i past) ∙ h)

-- a loop over points that leaves some out

pub spaces_on : (s : Scale) (ps : List Point) (i : ℕ) (p : Point) (before next o : Option Point) (kept more whole : List Point) → i < length ps → p ≡ get_or ps i p → next ≡ Some p → o ≡ stands_before s before p
    → more ≡ kept ++ cons_option o [] → kept ++ spaced s before (drop i ps) ≡ whole → more ++ spaced s next (drop (i + 1) ps) ≡ whole
spaces_on s ps i p before next o kept more whole below at_i n is k h =
    let F : List Point → List Point = λ ys. kept ++ spaced s before ys in
    let rest = drop (i + 1) ps in
    ap (λ (l : List Point). l ++ spaced s next rest) (k ∙ ap (λ (q : Option Point). kept ++ cons_option q []) is)
    ∙ (ap (λ (q : Option Point). (kept ++ cons_option (stands_before s before p) []) ++ spaced s q rest) n
    ∙ (append_assoc kept (cons_option (stands_before s before p) []) (spaced s (Some p) rest)
    ∙ (ap (λ (l : List Point). kept ++ l) (sym (given_first (stands_before s before p) (spaced s (Some p) rest)))
    ∙ (ap (λ (y : Point). F (y ∷ rest)) at_i
    ∙ (sym (at_drop_more F ps i p below) ∙ h)))))

pub spaces_out : (s : Scale) (ps : List Point) (i : ℕ) (before : Option Point) (kept all whole : List Point) → length ps ≤ i → all ≡ kept ++ cons_option before [] → kept ++ spaced s before (drop i ps) ≡ whole → all ≡ whole
spaces_out s ps i before kept all whole past k h =
    let F : List Point → List Point = λ ys. kept ++ spaced s before ys in
    k ∙ (sym (at_drop_all F ps i past) ∙ h)

-- a loop that keeps the first order of each price

pub firsts_on : (rs : List Rest) (i : ℕ) (r : Rest) (before next : Option ℤ) (is : Bool) (kept more whole : List Rest) → i < length rs → r ≡ get_or rs i r → next ≡ Some r.price → is ≡ is_new before r.price
    → more ≡ kept ++ kept_if is r → kept ++ firsts before (drop i rs) ≡ whole → more ++ firsts next (drop (i + 1) rs) ≡ whole
firsts_on rs i r before next is kept more whole below at_i n test k h =
    let F : List Rest → List Rest = λ ys. kept ++ firsts before ys in
    let rest = drop (i + 1) rs in
    ap (λ (l : List Rest). l ++ firsts next rest) k
    ∙ (ap (λ (o : Option ℤ). (kept ++ kept_if is r) ++ firsts o rest) n
    ∙ (ap (λ (b : Bool). (kept ++ kept_if b r) ++ firsts (Some r.price) rest) test
    ∙ (append_assoc kept (kept_if (is_new before r.price) r) (firsts (Some r.price) rest)
    ∙ (ap (λ (y : Rest). F (y ∷ rest)) at_i
    ∙ (sym (at_drop_more F rs i r below) ∙ h)))))

pub firsts_out : (rs : List Rest) (i : ℕ) (before : Option ℤ) (kept whole : List Rest) → length rs ≤ i → kept ++ firsts before (drop i rs) ≡ whole → kept ≡ whole
firsts_out rs i before kept whole past h =
    let F : List Rest → List Rest = λ ys. kept ++ firsts before ys in
    sym (append-nil kept) ∙ (sym (at_drop_all F rs i past) ∙ h)

-- a loop that makes one thing of each

pub maps_on : {X Y : Type 0} (f : X → Y) (xs : List X) (i : ℕ) (x : X) (y : Y) (made more whole : List Y) → i < length xs → x ≡ get_or xs i x → y ≡ f x → more ≡ made ++ y ∷ []
    → made ++ map f (drop i xs) ≡ whole → more ++ map f (drop (i + 1) xs) ≡ whole
maps_on {X} {Y} f xs i x y made more whole below at_i is k h =
    let F : List X → List Y = λ ys. made ++ map f ys in
    let rest = map f (drop (i + 1) xs) in
    ap (λ (l : List Y). l ++ rest) (k ∙ ap (λ (z : Y). made ++ z ∷ []) is)
    ∙ (append_assoc made (f x ∷ []) rest
    ∙ (ap (λ (z : X). F (z ∷ drop (i + 1) xs)) at_i
    ∙ (sym (at_drop_more F xs i x below) ∙ h)))

pub maps_out : {X Y : Type 0} (f : X → Y) (xs : List X) (i : ℕ) (made whole : List Y) → length xs ≤ i → made ++ map f (drop i xs) ≡ whole → made ≡ whole
maps_out {X} {Y} f xs i made whole past h =
    let F : List X → List Y = λ ys. made ++ map f ys in
    sym (append-nil made) ∙ (sym (at_drop_all F xs i past) ∙ h)

-- a loop over instruments, each with its book

pub books_on : (facts : List Fact) (k n : ℕ) (made more whole : List Rest) → k < n → more ≡ made ++ book_of facts k
    → made ++ rests_from facts k (n - k) ≡ whole → more ++ rests_from facts (k + 1) (n - (k + 1)) ≡ whole
books_on facts k n made more whole below e h =
    let longer : n - k ≡ suc (n - (k + 1)) = omega arith in
    let rest = rests_from facts (k + 1) (n - (k + 1)) in
    ap (λ (l : List Rest). l ++ rest) e
    ∙ (append_assoc made (book_of facts k) rest
    ∙ (ap (λ (j : ℕ). made ++ rests_from facts k j) (sym longer) ∙ h))

pub books_out : (facts : List Fact) (k n : ℕ) (made whole : List Rest) → n ≤ k → made ++ rests_from facts k (n - k) ≡ whole → made ≡ whole
books_out facts k n made whole past h =
    let none : n - k ≡ 0 = omega arith in
    sym (append-nil made) ∙ (ap (λ (j : ℕ). made ++ rests_from facts k j) (sym none) ∙ h)
