-- What became of a quote, by the steps that facts say.
use Rattle.std.proofs.Common.{◌≡◌, refl, sym, ap, ◌∙◌, subst, inl, inr, ℕ, ◌+◌, ◌<◌, ◌^◌, Bool, true, false, not, ◌&&◌, ◌||◌, ◌==◌, nat_lt, nat_le, if◌then◌else◌, is_some, List, [], ◌∷◌, ◌++◌, bytes_eq, decimal, Option, Some, None, arith, append_assoc, eqb-true, eq-eqb}
use Rattle.std.specs.List.{enumerate_from, list_any}
use Rattle.std.proofs.lemmas.Bool.{true≢false, or_parts, or_from, or_left}
use Rattle.std.proofs.lemmas.Bool.Decides.{nat_tests}
use Rattle.std.proofs.lemmas.Fmt.{decimal_injective}
use Rattle.std.proofs.lemmas.List.Elements.{filter_map-append}
use Rattle.std.proofs.lemmas.List.Folds.{list_any-append}
use Rattle.std.proofs.lemmas.Slice.Eq.{bytes_eq-Decides}
use Rattle.venue_rules.specs.declared.facts.Fact.{Fact}
use Rattle.venue_rules.specs.declared.facts.Fact.TheVariants.{Entered, Traded, Removed, Held, Unheld, Asked, Quoted, Withdrawn, Closed}
use Rattle.venue_rules.specs.declared.facts.RoomQuote.{RoomQuote}
use Rattle.venue_rules.specs.declared.facts.Trade.{Trade}
use Rattle.venue_rules.specs.declared.facts.TradeSource.{TradeSource}
use Rattle.venue_rules.specs.declared.facts.TradeSource.TheVariants.{Book as InBook, Room as InRoom}
use Rattle.venue_rules.specs.declared.replies.Reply.{Reply}
use Rattle.venue_rules.specs.Facts.{quote_in, quotes, trades}
use Rattle.venue_rules.specs.Market.{Market}
use Rattle.venue_rules.specs.Rooms.{is_withdrawn, printed, withdraws}
use Rattle.venue_rules.proofs.Follows.{Each, Follows, TradeFollows}
use Rattle.venue_rules.proofs.Members.{In, In-append_left, In-append_right}
use Rattle.request_sections.specs.declared.fate.Fate.TheVariants.{Live, RanOut}
use Rattle.request_sections.specs.declared.fate.Quoted.{Quoted as AsQuoted}
use Rattle.request_sections.specs.Fate.{at_end, names_quote}
use Rattle.request_sections.specs.Picks.{names_room}
use Rattle.quote_laws.proofs.Becoming.{Became, Still, HitIn, Over, became, becomes, decides, ends, or_then}
use Rattle.quote_laws.proofs.Lasts.{is_later}
use Rattle.quote_laws.proofs.Steps.{Fits, Step, Quotes, Ends, Trades, fact_steps, has_traded, is_place_in, trade_steps, trades_in}

-- a recorded quote, as the page has it
abbrev pub as_quoted : RoomQuote → AsQuoted
as_quoted q = record { quote = q.number; room = q.room; from = q.maker + 1; end = q.end }

-- Different numbers are printed differently.

printed_same : (p m n : ℕ) → m < 2 ^ 64 → n < 2 ^ 64 → printed p m ≡ printed p n → m ≡ n
printed_same p m n h k e = decimal_injective m n h k (digits_same (decimal m) (decimal n) e)
  where
    digits_same : (ds es : List ℕ) → p ∷ ds ≡ p ∷ es → ds ≡ es
    digits_same ds es x = cc

pub printed_one : (p m n : ℕ) → m < 2 ^ 64 → n < 2 ^ 64 → bytes_eq (printed p m) (printed p n) ≡ true → m ≡ n
printed_one p m n h k e = printed_same p m n h k ((bytes_eq-Decides (printed p m) (printed p n)).0 e)

printed_is : (p m n : ℕ) → m < 2 ^ 64 → n < 2 ^ 64 → bytes_eq (printed p m) (printed p n) ≡ (n == m)
printed_is p m n h k = by (n == m) refl (bytes_eq (printed p m) (printed p n)) refl
  where
    by : (b : Bool) → (n == m) ≡ b → (c : Bool) → bytes_eq (printed p m) (printed p n) ≡ c → bytes_eq (printed p m) (printed p n) ≡ (n == m)
    by true e c f = (bytes_eq-Decides (printed p m) (printed p n)).1 (ap (printed p) (sym (eqb-true n m e))) ∙ sym e
    by false e true f = absurd (true≢false (sym (eq-eqb n m (sym (printed_one p m n h k f))) ∙ e))
    by false e false f = f ∙ sym e

-- facts whose numbers are small

abbrev IsSmallPlace : TradeSource → Type 0
IsSmallPlace (InBook old new) = Unit {0}
IsSmallPlace (InRoom room quote) = quote < 2 ^ 64

abbrev pub Small : List Fact → Type 0
Small [] = Unit {0}
Small (Traded t ∷ fs) = IsSmallPlace t.place × Small fs
Small (Quoted q ∷ fs) = (q.room < 2 ^ 64) × Small fs
Small (Withdrawn w ∷ fs) = (w.quote < 2 ^ 64) × Small fs
Small (Entered x ∷ fs) = Small fs
Small (Removed x ∷ fs) = Small fs
Small (Held x ∷ fs) = Small fs
Small (Unheld x ∷ fs) = Small fs
Small (Asked x ∷ fs) = Small fs
Small (Closed x ∷ fs) = Small fs

abbrev pub AllSmall : List Fact → Type 0
AllSmall facts = (q : RoomQuote) → In q (quotes facts) → (q.number < 2 ^ 64) × (q.room < 2 ^ 64)

pub earlier : (before fs : List Fact) (q : RoomQuote) → In q (quotes before) → In q (quotes (before ++ fs))
earlier before fs q i = subst (In q) (sym (filter_map-append quote_in before fs)) (In-append_left (quotes before) (quotes fs) q i)

small_place : (m : Market) (before : List Fact) (t : Trade) (p : TradeSource) → TradeFollows m before t p → ((q : RoomQuote) → In q (quotes before) → q.number < 2 ^ 64) → IsSmallPlace p
small_place m before t (InBook old new) k all = tt
small_place m before t (InRoom room quote) k all = subst (λ n. n < 2 ^ 64) k.5 (all k.1 k.3)

all_later : (before : List Fact) (f : Fact) (fs : List Fact) → AllSmall (before ++ (f ∷ fs)) → AllSmall ((before ++ (f ∷ [])) ++ fs)
all_later before f fs all = subst AllSmall (sym (append_assoc before (f ∷ []) fs)) all

pub small_from : (m : Market) (said : List Reply) (before fs : List Fact) → Each (Follows m said) before fs → Each Fits before fs → AllSmall (before ++ fs) → Small fs
small_from m said before [] k l all = tt
small_from m said before (Traded t ∷ fs) k l all = (
  small_place m before t t.place k.0 (λ q i. (all q (earlier before (Traded t ∷ fs) q i)).0),
  small_from m said (before ++ (Traded t ∷ [])) fs k.1 l.1 (all_later before (Traded t) fs all),
)
small_from m said before (Quoted q ∷ fs) k l all = (
  (all q (subst (In q) (sym (filter_map-append quote_in before (Quoted q ∷ fs))) (In-append_right (quotes before) (q ∷ quotes fs) q (inl refl)))).1,
  small_from m said (before ++ (Quoted q ∷ [])) fs k.1 l.1 (all_later before (Quoted q) fs all),
)
small_from m said before (Withdrawn w ∷ fs) k l all = (
  subst (λ n. n < 2 ^ 64) l.0.2 (all l.0.0 (earlier before (Withdrawn w ∷ fs) l.0.0 l.0.1)).0,
  small_from m said (before ++ (Withdrawn w ∷ [])) fs k.1 l.1 (all_later before (Withdrawn w) fs all),
)
small_from m said before (Entered x ∷ fs) k l all = small_from m said (before ++ (Entered x ∷ [])) fs k.1 l.1 (all_later before (Entered x) fs all)
small_from m said before (Removed x ∷ fs) k l all = small_from m said (before ++ (Removed x ∷ [])) fs k.1 l.1 (all_later before (Removed x) fs all)
small_from m said before (Held x ∷ fs) k l all = small_from m said (before ++ (Held x ∷ [])) fs k.1 l.1 (all_later before (Held x) fs all)
small_from m said before (Unheld x ∷ fs) k l all = small_from m said (before ++ (Unheld x ∷ [])) fs k.1 l.1 (all_later before (Unheld x) fs all)
small_from m said before (Asked x ∷ fs) k l all = small_from m said (before ++ (Asked x ∷ [])) fs k.1 l.1 (all_later before (Asked x) fs all)
small_from m said before (Closed x ∷ fs) k l all = small_from m said (before ++ (Closed x ∷ [])) fs k.1 l.1 (all_later before (Closed x) fs all)

pub Small-front : (fs gs : List Fact) → Small (fs ++ gs) → Small fs
Small-front [] gs k = tt
Small-front (Traded t ∷ fs) gs k = (k.0, Small-front fs gs k.1)
Small-front (Quoted q ∷ fs) gs k = (k.0, Small-front fs gs k.1)
Small-front (Withdrawn w ∷ fs) gs k = (k.0, Small-front fs gs k.1)
Small-front (Entered x ∷ fs) gs k = Small-front fs gs k
Small-front (Removed x ∷ fs) gs k = Small-front fs gs k
Small-front (Held x ∷ fs) gs k = Small-front fs gs k
Small-front (Unheld x ∷ fs) gs k = Small-front fs gs k
Small-front (Asked x ∷ fs) gs k = Small-front fs gs k
Small-front (Closed x ∷ fs) gs k = Small-front fs gs k

pub Small-behind : (fs gs : List Fact) → Small (fs ++ gs) → Small gs
Small-behind [] gs k = k
Small-behind (Traded t ∷ fs) gs k = Small-behind fs gs k.1
Small-behind (Quoted q ∷ fs) gs k = Small-behind fs gs k.1
Small-behind (Withdrawn w ∷ fs) gs k = Small-behind fs gs k.1
Small-behind (Entered x ∷ fs) gs k = Small-behind fs gs k
Small-behind (Removed x ∷ fs) gs k = Small-behind fs gs k
Small-behind (Held x ∷ fs) gs k = Small-behind fs gs k
Small-behind (Unheld x ∷ fs) gs k = Small-behind fs gs k
Small-behind (Asked x ∷ fs) gs k = Small-behind fs gs k
Small-behind (Closed x ∷ fs) gs k = Small-behind fs gs k

-- A quote ended by a step if it was withdrawn or passed.

trade_ends_none : (q : AsQuoted) (n t : ℕ) (p : TradeSource) (rest : List Step) → list_any (ends q) (trade_steps n t p ++ rest) ≡ list_any (ends q) rest
trade_ends_none q n t (InBook old new) rest = refl
trade_ends_none q n t (InRoom room quote) rest = refl

pub by_withdrawn : (q : RoomQuote) (n : ℕ) (fs : List Fact) → q.number < 2 ^ 64 → Small fs → list_any (ends (as_quoted q)) (fact_steps n fs) ≡ is_withdrawn fs q.number
by_withdrawn q n [] h small = refl
by_withdrawn q n (Traded t ∷ fs) h small = trade_ends_none (as_quoted q) n t.moment t.place (fact_steps (n + 1) fs) ∙ by_withdrawn q (n + 1) fs h small.1
by_withdrawn q n (Quoted x ∷ fs) h small = by_withdrawn q n fs h small.1
by_withdrawn q n (Withdrawn w ∷ fs) h small = λ j. printed_is 81 q.number w.quote h small.0 j || by_withdrawn q n fs h small.1 j
by_withdrawn q n (Entered x ∷ fs) h small = by_withdrawn q n fs h small
by_withdrawn q n (Removed x ∷ fs) h small = by_withdrawn q n fs h small
by_withdrawn q n (Held x ∷ fs) h small = by_withdrawn q n fs h small
by_withdrawn q n (Unheld x ∷ fs) h small = by_withdrawn q n fs h small
by_withdrawn q n (Asked x ∷ fs) h small = by_withdrawn q n fs h small
by_withdrawn q n (Closed x ∷ fs) h small = by_withdrawn q n fs h small

-- Its room decided it if it traded, or its maker has a later one there.

abbrev pub is_decided : AsQuoted → Step → Bool
is_decided q s = is_some (decides q s)

abbrev pub decided_as : ℕ → Bool → Bool → Bool → Option Became
decided_as n a b c = if not a then None else (if b then (if c then Some Over else Some (HitIn n)) else Some Over)

trade_is_decided : (n : ℕ) (a b c : Bool) → is_some (decided_as n a b c) ≡ a
trade_is_decided n false b c = refl
trade_is_decided n true true true = refl
trade_is_decided n true true false = refl
trade_is_decided n true false c = refl

quote_is_decided : (b : Bool) (x : Became) → is_some (if b then Some x else None) ≡ b
quote_is_decided true x = refl
quote_is_decided false x = refl

twice : (b c : Bool) → (b || (b || c)) ≡ (b || c)
twice true c = refl
twice false c = refl

or_assoc : (a b c : Bool) → (a || (b || c)) ≡ ((a || b) || c)
or_assoc true b c = refl
or_assoc false b c = refl

or_swap : (a b c : Bool) → (a || (b || c)) ≡ (b || (a || c))
or_swap true true c = refl
or_swap true false c = refl
or_swap false b c = refl

trade_decides : (q : AsQuoted) (n t : ℕ) (p : TradeSource) (rest : List Step) → list_any (is_decided q) (trade_steps n t p ++ rest) ≡ (is_place_in q.room p || list_any (is_decided q) rest)
trade_decides q n t (InBook old new) rest = refl
trade_decides q n t (InRoom room quote) rest =
    let e : is_decided q (Trades n room (Some (printed 81 quote)) t) ≡ (room == q.room) = trade_is_decided n (room == q.room) (names_quote q.quote (Some (printed 81 quote))) (nat_lt q.end t) in
    (λ j. e j || (e j || list_any (is_decided q) rest)) ∙ twice (room == q.room) (list_any (is_decided q) rest)

more_eqb : (a b : ℕ) → (a + 1 == b + 1) ≡ (a == b)
more_eqb a b = by (a == b) refl (a + 1 == b + 1) refl
  where
    less : (c d : ℕ) → c + 1 ≡ d + 1 → c ≡ d
    less c d e = omega (arith, e)

    by : (x : Bool) → (a == b) ≡ x → (y : Bool) → (a + 1 == b + 1) ≡ y → (a + 1 == b + 1) ≡ (a == b)
    by true e y f = eq-eqb (a + 1) (b + 1) (ap (λ k. k + 1) (eqb-true a b e)) ∙ sym e
    by false e true f = absurd (true≢false (sym (eq-eqb a b (less a b (eqb-true (a + 1) (b + 1) f))) ∙ e))
    by false e false f = f ∙ sym e

quote_decides : (q x : RoomQuote) → q.room < 2 ^ 64 → x.room < 2 ^ 64 → is_decided (as_quoted q) (Quotes x.number (Some (printed 82 x.room)) (x.maker + 1) x.end) ≡ is_later q x
quote_decides q x h k =
    quote_is_decided (nat_lt q.number x.number && (x.maker + 1 == q.maker + 1 && names_room q.room (Some (printed 82 x.room)))) Over
    ∙ (λ j. nat_lt q.number x.number && (more_eqb x.maker q.maker j && printed_is 82 q.room x.room h k j))

pub by_decided : (q : RoomQuote) (n : ℕ) (fs : List Fact) → q.room < 2 ^ 64 → Small fs → list_any (is_decided (as_quoted q)) (fact_steps n fs) ≡ (has_traded fs q.room || list_any (is_later q) (quotes fs))
by_decided q n [] h small = refl
by_decided q n (Traded t ∷ fs) h small =
    trade_decides (as_quoted q) n t.moment t.place (fact_steps (n + 1) fs)
    ∙ (ap (λ b. is_place_in q.room t.place || b) (by_decided q (n + 1) fs h small.1) ∙ or_assoc (is_place_in q.room t.place) (has_traded fs q.room) (list_any (is_later q) (quotes fs)))
by_decided q n (Quoted x ∷ fs) h small =
    (λ j. quote_decides q x h small.0 j || by_decided q n fs h small.1 j) ∙ or_swap (is_later q x) (has_traded fs q.room) (list_any (is_later q) (quotes fs))
by_decided q n (Withdrawn w ∷ fs) h small = by_decided q n fs h small.1
by_decided q n (Entered x ∷ fs) h small = by_decided q n fs h small
by_decided q n (Removed x ∷ fs) h small = by_decided q n fs h small
by_decided q n (Held x ∷ fs) h small = by_decided q n fs h small
by_decided q n (Unheld x ∷ fs) h small = by_decided q n fs h small
by_decided q n (Asked x ∷ fs) h small = by_decided q n fs h small
by_decided q n (Closed x ∷ fs) h small = by_decided q n fs h small

-- It is live if nothing decided it, and its end has not passed.

abbrev pub is_still : Became → Bool
is_still Still = true
is_still (HitIn n) = false
is_still Over = false

abbrev Settles : Option Became → Type 0
Settles None = Unit {0}
Settles (Some b) = is_still b ≡ false

trade_settles : (n : ℕ) (a b c : Bool) → Settles (decided_as n a b c)
trade_settles n false b c = tt
trade_settles n true true true = refl
trade_settles n true true false = refl
trade_settles n true false c = refl

quote_settles : (b : Bool) → Settles (if b then Some Over else None)
quote_settles true = refl
quote_settles false = tt

settles : (q : AsQuoted) (s : Step) → Settles (decides q s)
settles q (Quotes n id from end) = quote_settles (nat_lt q.quote n && (from == q.from && names_room q.room id))
settles q (Ends id) = tt
settles q (Trades n room id t) = trade_settles n (room == q.room) (names_quote q.quote id) (nat_lt q.end t)

one_still : (o : Option Became) (g : Became) (r le : Bool) → Settles o → is_still g ≡ (not r && le) → is_still (or_then o g) ≡ (not (is_some o || r) && le)
one_still None g r le s e = e
one_still (Some b) g r le s e = s

end_still : (c : Bool) → is_still (became (if c then RanOut else Live)) ≡ not c
end_still true = refl
end_still false = refl

not_past : (a b : ℕ) → not (nat_lt a b) ≡ nat_le b a
not_past a b = by (nat_lt a b) refl
  where
    over : nat_lt a b ≡ true → nat_le b a ≡ false
    over h = grind (arith, nat_tests)

    within : nat_lt a b ≡ false → nat_le b a ≡ true
    within h = grind (arith, nat_tests)

    by : (c : Bool) → nat_lt a b ≡ c → not (nat_lt a b) ≡ nat_le b a
    by true e = ap not e ∙ sym (over e)
    by false e = ap not e ∙ sym (within e)

pub by_still : (q : AsQuoted) (t : ℕ) (ss : List Step) → is_still (becomes q (Some t) ss) ≡ (not (list_any (is_decided q) ss) && nat_le t q.end)
by_still q t [] = end_still (nat_lt q.end t) ∙ not_past q.end t
by_still q t (s ∷ ss) = one_still (decides q s) (becomes q (Some t) ss) (list_any (is_decided q) ss) (nat_le t q.end) (settles q s) (by_still q t ss)

-- A hit is a trade of the quote.

end_is_no_hit : (q : AsQuoted) (last : Option ℕ) (n : ℕ) → became (at_end q last) ≡ HitIn n → ⊥
end_is_no_hit q None n e = still_is_no_hit e
  where
    still_is_no_hit : Still ≡ HitIn n → ⊥
    still_is_no_hit x = cc
end_is_no_hit q (Some t) n e = by (nat_lt q.end t) e
  where
    by : (c : Bool) → became (if c then RanOut else Live) ≡ HitIn n → ⊥
    by true x = over x
      where
        over : Over ≡ HitIn n → ⊥
        over y = cc
    by false x = still x
      where
        still : Still ≡ HitIn n → ⊥
        still y = cc

over_is_no_hit : (n : ℕ) → Over ≡ HitIn n → ⊥
over_is_no_hit n e = cc

same_hit : (k n : ℕ) → HitIn k ≡ HitIn n → k ≡ n
same_hit k n e = cc

trade_hit : {X : Type 0} (k n : ℕ) (a b c : Bool) (g : Became) → (g ≡ HitIn n → X) → (a ≡ true → b ≡ true → k ≡ n → X) → or_then (decided_as k a b c) (or_then (decided_as k a b c) g) ≡ HitIn n → X
trade_hit k n false b c g later here e = later e
trade_hit k n true true true g later here e = absurd (over_is_no_hit n e)
trade_hit k n true true false g later here e = here refl refl (same_hit k n e)
trade_hit k n true false c g later here e = absurd (over_is_no_hit n e)

quote_hit : (n : ℕ) (b : Bool) (g : Became) → or_then (if b then Some Over else None) g ≡ HitIn n → g ≡ HitIn n
quote_hit n true g e = absurd (over_is_no_hit n e)
quote_hit n false g e = e

abbrev IsHitBy : RoomQuote → ℕ → List (ℕ × Trade) → Type 0
IsHitBy q n ts = (t : Trade) × In (n, t) ts × (t.place ≡ InRoom q.room q.number)

later_hit : (q : RoomQuote) (n k : ℕ) (x : Trade) (ts : List (ℕ × Trade)) → IsHitBy q n ts → IsHitBy q n ((k, x) ∷ ts)
later_hit q n k x ts h = (h.0, inr h.1, h.2)

place_hit : (q : RoomQuote) (last : Option ℕ) (k n : ℕ) (x : Trade) (p : TradeSource) (rest : List Step) (ts : List (ℕ × Trade)) → q.number < 2 ^ 64 → IsSmallPlace p → x.place ≡ p
    → (becomes (as_quoted q) last rest ≡ HitIn n → IsHitBy q n ts) → becomes (as_quoted q) last (trade_steps k x.moment p ++ rest) ≡ HitIn n → IsHitBy q n ((k, x) ∷ ts)
place_hit q last k n x (InBook old new) rest ts h small same later e = later_hit q n k x ts (later e)
place_hit q last k n x (InRoom room quote) rest ts h small same later e =
    trade_hit {X = IsHitBy q n ((k, x) ∷ ts)} k n (room == q.room) (names_quote q.number (Some (printed 81 quote))) (nat_lt q.end x.moment) (becomes (as_quoted q) last rest)
    (λ f. later_hit q n k x ts (later f))
    (λ a b f. (x, inl (λ j. (f j, x)), same ∙ (λ j. InRoom (eqb-true room q.room a j) (sym (printed_one 81 q.number quote h small b) j)))) e

pub hit_traded : (q : RoomQuote) (last : Option ℕ) (k n : ℕ) (fs : List Fact) → q.number < 2 ^ 64 → Small fs → becomes (as_quoted q) last (fact_steps k fs) ≡ HitIn n → IsHitBy q n (enumerate_from k (trades fs))
hit_traded q last k n [] h small e = absurd (end_is_no_hit (as_quoted q) last n e)
hit_traded q last k n (Traded t ∷ fs) h small e =
    place_hit q last k n t t.place (fact_steps (k + 1) fs) (enumerate_from (k + 1) (trades fs)) h small.0 refl (λ f. hit_traded q last (k + 1) n fs h small.1 f) e
hit_traded q last k n (Quoted x ∷ fs) h small e =
    hit_traded q last k n fs h small.1 (quote_hit n (nat_lt q.number x.number && (x.maker + 1 == q.maker + 1 && names_room q.room (Some (printed 82 x.room)))) (becomes (as_quoted q) last (fact_steps k fs)) e)
hit_traded q last k n (Withdrawn w ∷ fs) h small e = hit_traded q last k n fs h small.1 e
hit_traded q last k n (Entered x ∷ fs) h small e = hit_traded q last k n fs h small e
hit_traded q last k n (Removed x ∷ fs) h small e = hit_traded q last k n fs h small e
hit_traded q last k n (Held x ∷ fs) h small e = hit_traded q last k n fs h small e
hit_traded q last k n (Unheld x ∷ fs) h small e = hit_traded q last k n fs h small e
hit_traded q last k n (Asked x ∷ fs) h small e = hit_traded q last k n fs h small e
hit_traded q last k n (Closed x ∷ fs) h small e = hit_traded q last k n fs h small e

-- A trade of the quote is a hit, where nothing decided it before.

none_is : (o : Option Became) → is_some o ≡ false → o ≡ None
none_is None e = refl
none_is (Some b) e = absurd (true≢false e)

pub becomes_past : (q : AsQuoted) (last : Option ℕ) (xs ys : List Step) → list_any (is_decided q) xs ≡ false → becomes q last (xs ++ ys) ≡ becomes q last ys
becomes_past q last [] ys h = refl
becomes_past q last (s ∷ ss) ys h =
    let k = or_parts (is_decided q s) (list_any (is_decided q) ss) h in
    ap (λ o. or_then o (becomes q last (ss ++ ys))) (none_is (decides q s) k.0) ∙ becomes_past q last ss ys k.1

pub hit_now : (q : RoomQuote) (last : Option ℕ) (n t : ℕ) (rest : List Step) → nat_lt q.end t ≡ false → becomes (as_quoted q) last (trade_steps n t (InRoom q.room q.number) ++ rest) ≡ HitIn n
hit_now q last n t rest c =
    let a : (q.room == q.room) ≡ true = eq-eqb q.room q.room refl in
    let b : names_quote q.number (Some (printed 81 q.number)) ≡ true = (bytes_eq-Decides (printed 81 q.number) (printed 81 q.number)).1 refl in
    let g : Became = or_then (decided_as n (q.room == q.room) (names_quote q.number (Some (printed 81 q.number))) (nat_lt q.end t)) (becomes (as_quoted q) last rest) in
    λ j. or_then (decided_as n (a j) (b j) (c j)) g

-- no quote is withdrawn or passed in a room that has traded
pub never_withdrawn : (q : RoomQuote) (before fs : List Fact) → ((y : RoomQuote) → In y (quotes (before ++ fs)) → y.number ≡ q.number → y.room ≡ q.room) → has_traded before q.room ≡ true → Each Fits before fs → is_withdrawn fs q.number ≡ false
never_withdrawn q before [] one traded fits = refl
never_withdrawn q before (f ∷ fs) one traded fits =
    or_from (withdraws q.number f) (is_withdrawn fs q.number) (by f fits.0 (λ y i. one y (earlier before (f ∷ fs) y i)))
    (never_withdrawn q (before ++ (f ∷ [])) fs (subst (λ l. (y : RoomQuote) → In y (quotes l) → y.number ≡ q.number → y.room ≡ q.room) (sym (append_assoc before (f ∷ []) fs)) one)
    (list_any-append (trades_in q.room) before (f ∷ []) ∙ or_left (has_traded before q.room) (list_any (trades_in q.room) (f ∷ [])) traded) fits.1)
  where
    unequal : (n : ℕ) (y : RoomQuote) (b : Bool) → (n == q.number) ≡ b → y.number ≡ n → has_traded before y.room ≡ false → (y.number ≡ q.number → y.room ≡ q.room) → (n == q.number) ≡ false
    unequal n y true e is_it un same = absurd (true≢false (sym traded ∙ (ap (has_traded before) (sym (same (is_it ∙ eqb-true n q.number e))) ∙ un)))
    unequal n y false e is_it un same = e

    by : (g : Fact) → Fits before g → ((y : RoomQuote) → In y (quotes before) → y.number ≡ q.number → y.room ≡ q.room) → withdraws q.number g ≡ false
    by (Withdrawn w) k same = unequal w.quote k.0 (w.quote == q.number) refl k.2 k.3 (same k.0 k.1)
    by (Entered x) k same = refl
    by (Traded x) k same = refl
    by (Removed x) k same = refl
    by (Held x) k same = refl
    by (Unheld x) k same = refl
    by (Asked x) k same = refl
    by (Quoted x) k same = refl
    by (Closed x) k same = refl
