-- The best prices that requests were shown, looked up by the row of the first quote.
use Rattle.std.proofs.Common.{◌≡◌, ◌<◌, ◌+◌, ◌==◌, ℕ, List, [], ◌∷◌, ◌++◌, length, take, get_or, filter, Bool, true, false, cond, if◌then◌else◌, Option, Some, None, refl, sym, ap, ◌∙◌, arith}
use Rattle.std.specs.Prelude.{is_none, unwrap_or}
use Rattle.std.specs.Option.{option_or}
use Rattle.std.specs.BTreeMap.{insert_entry, is_at}
use Rattle.std.specs.Cmp.{IsTotalOrder}
use Rattle.std.specs.Map.{lookup}
use Rattle.std.specs.Ordering.{is_eq, match_ordering, nat_cmp}
use Rattle.std.specs.Str.{bytes_eq}
use Rattle.std.specs.declared.cmp.Ordering.{Ordering}
use Rattle.std.specs.declared.cmp.Ordering.TheVariants.{Less, Equal, Greater}
use Rattle.std.proofs.lemmas.Bool.Decides.{nat_tests}
use Rattle.std.proofs.lemmas.Cmp.{alike_right, nat_cmp_total, nat_list_cmp_total, on_total}
use Rattle.std.proofs.lemmas.List.{take_more}
use Rattle.std.proofs.lemmas.Map.Text.{is_eq-slice_cmp}
use Rattle.std.proofs.lemmas.Slice.Eq.{bytes_eq-Decides}
use Rattle.venue_rules.specs.Rooms.{printed}
use Rattle.participant_activity.specs.declared.key.Name.{Name}
use Rattle.participant_activity.specs.Kept.{name_cmp}
use Rattle.participant_activity.specs.Noting.{named}
use Rattle.day_events.specs.declared.event.Event.{Event}
use Rattle.day_events.specs.declared.event.What.{What}
use Rattle.day_events.specs.declared.event.What.TheVariants as what
use Rattle.day_events.specs.declared.shown.ShownPrice.{ShownPrice}
use Rattle.surveillance.specs.declared.shown.Best.{Best}
use Rattle.surveillance.specs.declared.shown.RowBest.{RowBest}
use Rattle.surveillance.specs.Kept.{Bests, Rows, kept_at, kept_in, kept_at_quote, put_first, put_quoted, row_at, with_last}
use Rattle.surveillance.specs.ShownBest.{best_at, best_at_quote, best_from, best_in, first_quote, is_at_row, is_quote_in, nothing_shown, with_price}

-- what a map has after an entry is put in

pub lookup_put : {K X : Type 0} {R : K → K → Ordering} (o : IsTotalOrder R) (es : List (K × X)) (k : K) (v : X) (q : K) → lookup (is_at (R q)) (insert_entry R es k v) ≡ cond (is_eq (R q k)) (Some v) (lookup (is_at (R q)) es)
lookup_put o [] k v q = refl
lookup_put {K} {X} {R} o (e ∷ es) k v q = by (R k e.0) refl (lookup_put o es k v q)
  where
    never : {A : Type 0} (r : Ordering) → r ≡ Greater → r ≡ Equal → A
    never Less p h = absurd (cc)
    never Equal p h = absurd (cc)
    never Greater p h = absurd (cc)

    apart : (s t : Bool) (a b c : Option X) → (s ≡ true → t ≡ true → R k e.0 ≡ Equal) → R k e.0 ≡ Greater → cond s a (cond t b c) ≡ cond t b (cond s a c)
    apart true true a b c both p = never (R k e.0) p (both refl refl)
    apart true false a b c both p = refl
    apart false t a b c both p = refl

    equal : (r : Ordering) → is_eq r ≡ true → r ≡ Equal
    equal Less h = absurd (cc)
    equal Equal h = refl
    equal Greater h = absurd (cc)

    overwrite : (s t : Bool) (a b c : Option X) → s ≡ t → cond t a c ≡ cond s a (cond t b c)
    overwrite true true a b c same = refl
    overwrite true false a b c same = absurd (cc)
    overwrite false true a b c same = absurd (cc)
    overwrite false false a b c same = refl

    by : (r : Ordering) → R k e.0 ≡ r → lookup (is_at (R q)) (insert_entry R es k v) ≡ cond (is_eq (R q k)) (Some v) (lookup (is_at (R q)) es)
        → lookup (is_at (R q)) (match_ordering r ((k, v) ∷ e ∷ es) ((e.0, v) ∷ es) (e ∷ insert_entry R es k v)) ≡ cond (is_eq (R q k)) (Some v) (cond (is_eq (R q e.0)) (Some e.1) (lookup (is_at (R q)) es))
    by Less p later = refl
    by Equal p later = overwrite (is_eq (R q k)) (is_eq (R q e.0)) (Some v) (Some e.1) (lookup (is_at (R q)) es) (ap is_eq (alike_right o k e.0 q p))
    by Greater p later =
        ap (λ (x : Option X). cond (is_eq (R q e.0)) (Some e.1) x) later
        ∙ sym (apart (is_eq (R q k)) (is_eq (R q e.0)) (Some v) (Some e.1) (lookup (is_at (R q)) es)
        (λ s t. sym (o.congr q k e.0 (equal (R q k) s)) ∙ equal (R q e.0) t) p)

-- the best prices of a row

pub best_more : (row : ℕ) (b : Best) (ps : List ShownPrice) (x : ShownPrice)
    → best_from b (filter (is_at_row row) (ps ++ x ∷ [])) ≡ (if x.row == row then with_price (best_from b (filter (is_at_row row) ps)) x.side x.price else best_from b (filter (is_at_row row) ps))
best_more row b [] x = by (x.row == row)
  where
    by : (t : Bool) → best_from b (cond t (x ∷ []) []) ≡ (if t then with_price b x.side x.price else b)
    by true = refl
    by false = refl
best_more row b (p ∷ ps) x = by (p.row == row) (best_more row (with_price b p.side p.price) ps x) (best_more row b ps x)
  where
    so : Best → Type 0
    so from = best_from from (filter (is_at_row row) (ps ++ x ∷ []))
        ≡ (if x.row == row then with_price (best_from from (filter (is_at_row row) ps)) x.side x.price else best_from from (filter (is_at_row row) ps))

    by : (t : Bool) → so (with_price b p.side p.price) → so b → best_from b (cond t (p ∷ filter (is_at_row row) (ps ++ x ∷ [])) (filter (is_at_row row) (ps ++ x ∷ [])))
        ≡ (if x.row == row then with_price (best_from b (cond t (p ∷ filter (is_at_row row) ps) (filter (is_at_row row) ps))) x.side x.price else best_from b (cond t (p ∷ filter (is_at_row row) ps) (filter (is_at_row row) ps)))
    by true with_it without = with_it
    by false with_it without = without

-- those of the first k, and of the next
pub best_on : (ps : List ShownPrice) (k : ℕ) (x : ShownPrice) (row : ℕ) (before now : Best) → k < length ps → x ≡ get_or ps k x → before ≡ best_at (take k ps) row
    → now ≡ (if x.row == row then with_price before x.side x.price else before) → now ≡ best_at (take (k + 1) ps) row
best_on ps k x row before now low at was is =
    is
    ∙ (ap (λ (b : Best). if x.row == row then with_price b x.side x.price else b) was
    ∙ (sym (best_more row nothing_shown (take k ps) x)
    ∙ (ap (λ (y : ShownPrice). best_at (take k ps ++ y ∷ []) row) at
    ∙ sym (ap (λ (l : List ShownPrice). best_at l row) (take_more ps k x low)))))

-- the best prices of the last row are kept
pub put_last : (bs : Bests) (last : RowBest) (row : ℕ) → kept_at (insert_entry nat_cmp bs last.row last.best) row ≡ with_last bs last row
put_last bs last row =
    ap (λ (o : Option Best). unwrap_or o nothing_shown) (lookup_put nat_cmp_total bs last.row last.best row)
    ∙ (ap (λ (t : Bool). unwrap_or (cond t (Some last.best) (lookup (is_at (nat_cmp row)) bs)) nothing_shown) same ∙ by (row == last.row))
  where
    same : is_eq (nat_cmp row last.row) ≡ (row == last.row)
    same = grind (arith, nat_tests)

    by : (t : Bool) → unwrap_or (cond t (Some last.best) (lookup (is_at (nat_cmp row)) bs)) nothing_shown ≡ (if t then last.best else kept_at bs row)
    by true = refl
    by false = refl

-- a price of another row begins that row
pub row_begun : (bs bs' : Bests) (last now : RowBest) (x : ShownPrice) (row : ℕ) → ((r : ℕ) → kept_at bs' r ≡ with_last bs last r) → now ≡ record { row = x.row; best = with_price (kept_at bs' x.row) x.side x.price }
    → with_last bs' now row ≡ (if x.row == row then with_price (with_last bs last row) x.side x.price else with_last bs last row)
row_begun bs bs' last now x row kept is = ap (λ (n : RowBest). with_last bs' n row) is ∙ by (x.row == row) refl
  where
    here : Best → Best
    here b = with_price b x.side x.price

    by : (t : Bool) → (x.row == row) ≡ t → (if row == x.row then here (kept_at bs' x.row) else kept_at bs' row) ≡ (if t then here (with_last bs last row) else with_last bs last row)
    by true e =
        let same : (row == x.row) ≡ true = grind (arith, nat_tests) in
        let equal : x.row ≡ row = grind (arith, nat_tests) in
        ap (λ (t : Bool). if t then here (kept_at bs' x.row) else kept_at bs' row) same ∙ ap here (ap (kept_at bs') equal ∙ kept row)
    by false e =
        let other : (row == x.row) ≡ false = grind (arith, nat_tests) in
        ap (λ (t : Bool). if t then here (kept_at bs' x.row) else kept_at bs' row) other ∙ kept row

-- the row of the first quote

abbrev pub quote_row : List ℕ → Event → Option ℕ
quote_row id e = if is_quote_in id e.at.named e.what then Some e.at.row else None

pub first_more : (id : List ℕ) (es : List Event) (e : Event) → first_quote id (es ++ e ∷ []) ≡ option_or (first_quote id es) (quote_row id e)
first_more id [] e = refl
first_more id (x ∷ es) e = by (is_quote_in id x.at.named x.what) (first_more id es e)
  where
    by : (t : Bool) → first_quote id (es ++ e ∷ []) ≡ option_or (first_quote id es) (quote_row id e) → (if t then Some x.at.row else first_quote id (es ++ e ∷ [])) ≡ option_or (if t then Some x.at.row else first_quote id es) (quote_row id e)
    by true later = refl
    by false later = later

or_none : (o : Option ℕ) → option_or o None ≡ o
or_none None = refl
or_none (Some row) = refl

-- a name is put in, if it is not there
pub first_put : (rs : Rows) (room : List ℕ) (row : ℕ) (id : List ℕ) → row_at (put_first rs (Some room) row) id ≡ option_or (row_at rs id) (if bytes_eq id room then Some row else None)
first_put rs room row id = by (row_at rs room) refl (bytes_eq id room) refl
  where
    equal : is_eq (name_cmp (named id) (named room)) ≡ bytes_eq id room
    equal = is_eq-slice_cmp id room

    put : row_at (insert_entry name_cmp rs (named room) row) id ≡ cond (bytes_eq id room) (Some row) (row_at rs id)
    put = lookup_put (on_total (λ (n : Name). n.id) nat_list_cmp_total) rs (named room) row (named id) ∙ ap (λ (t : Bool). cond t (Some row) (row_at rs id)) equal

    by : (r : Option ℕ) → row_at rs room ≡ r → (t : Bool) → bytes_eq id room ≡ t → row_at (if is_none r then insert_entry name_cmp rs (named room) row else rs) id ≡ option_or (row_at rs id) (if t then Some row else None)
    by None is false same = put ∙ ap (λ (t : Bool). cond t (Some row) (row_at rs id)) same ∙ sym (or_none (row_at rs id))
    by None is true same =
        put ∙ (ap (λ (t : Bool). cond t (Some row) (row_at rs id)) same
        ∙ ap (λ (o : Option ℕ). option_or o (Some row)) (sym is ∙ ap (λ (name : List ℕ). row_at rs name) (sym ((bytes_eq-Decides id room).0 same))))
    by (Some old) is false same = sym (or_none (row_at rs id))
    by (Some old) is true same =
        let here : row_at rs id ≡ Some old = ap (λ (name : List ℕ). row_at rs name) ((bytes_eq-Decides id room).0 same) ∙ is in
        here ∙ sym (ap (λ (o : Option ℕ). option_or o (Some row)) here)

-- a quote is noted
pub quoted_put : (rs : Rows) (e : Event) (id : List ℕ) → row_at (put_quoted rs e e.what) id ≡ option_or (row_at rs id) (quote_row id e)
quoted_put rs e id = by e.what e.at.named
  where
    by : (w : What) (room : Option (List ℕ)) → row_at (put_quoted rs (record { at = record { row = e.at.row; moment = e.at.moment; from = e.at.from; named = room; own = e.at.own }; to = e.to; what = w }) w) id
        ≡ option_or (row_at rs id) (if is_quote_in id room w then Some e.at.row else None)
    by (what.Quoted x) None = sym (or_none (row_at rs id))
    by (what.Quoted x) (Some room) = first_put rs room e.at.row id
    by (what.Entered x) room = sym (or_none (row_at rs id))
    by (what.TooRecent x) room = sym (or_none (row_at rs id))
    by (what.Filled x) room = sym (or_none (row_at rs id))
    by (what.Cancelled x) room = sym (or_none (row_at rs id))
    by (what.Replaced x) room = sym (or_none (row_at rs id))
    by (what.Asked x) room = sym (or_none (row_at rs id))
    by (what.Withdrawn x) room = sym (or_none (row_at rs id))
    by what.Passed room = sym (or_none (row_at rs id))
    by (what.Traded x) room = sym (or_none (row_at rs id))
    by (what.Refused x) room = sym (or_none (row_at rs id))

-- those of the first k, and of the next
pub quoted_on : (es : List Event) (k : ℕ) (e : Event) (id : List ℕ) (rs rs' : Rows) → k < length es → e ≡ get_or es k e → row_at rs id ≡ first_quote id (take k es) → rs' ≡ put_quoted rs e e.what
    → row_at rs' id ≡ first_quote id (take (k + 1) es)
quoted_on es k e id rs rs' low at was is =
    ap (λ (l : Rows). row_at l id) is
    ∙ (quoted_put rs e id
    ∙ (ap (λ (o : Option ℕ). option_or o (quote_row id e)) was
    ∙ (sym (first_more id (take k es) e)
    ∙ (ap (λ (x : Event). first_quote id (take k es ++ x ∷ [])) at
    ∙ sym (ap (first_quote id) (take_more es k e low))))))

-- a room, by its first quote and the best prices of that row
pub looked_up : (es : List Event) (ps : List ShownPrice) (rs : Rows) (bs : Bests) → ((id : List ℕ) → row_at rs id ≡ first_quote id es) → ((row : ℕ) → kept_at bs row ≡ best_at ps row) → kept_in rs bs ≡ best_in es ps
looked_up es ps rs bs rows bests j room = (ap (kept_at_quote bs) (rows (printed 82 room)) ∙ by (first_quote (printed 82 room) es)) j
  where
    by : (o : Option ℕ) → kept_at_quote bs o ≡ best_at_quote ps o
    by None = refl
    by (Some row) = bests row
