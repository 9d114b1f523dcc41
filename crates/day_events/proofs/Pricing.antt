-- The changes of best prices, one instrument after another, and one row after another.
use Rattle.std.proofs.Common.{◌≡◌, ◌≢◌, ℕ, zero, suc, ◌+◌, ◌<◌, ◌≤◌, ℤ, nat_lt, ◌&&◌, if◌then◌else◌, Bool, true, false, List, [], ◌∷◌, ◌++◌, length, take, get_or, set, slice_get, Option, Some, None, option_map, IfSome, refl, sym, ap, ap₂, ◌∙◌, append-nil, append_assoc, length-append, arith}
use Rattle.std.proofs.lemmas.Bool.Decides.{nat_tests}
use Rattle.std.proofs.lemmas.Int.{ints}
use Rattle.std.proofs.Math.Seq.{get_or-append_seam, set-append_seam}
use Rattle.std.proofs.lemmas.List.{get_or_append_left, set-append_left, take_more}
use Rattle.fix_dictionary.specs.declared.values.Side.TheVariants.{Buy, Sell}
use Rattle.instruments.specs.declared.instruments.Instrument.{Instrument}
use Rattle.instruments.specs.Listing.{symbol_of}
use Rattle.instruments.specs.Rows.{is_instrument_file}
use Rattle.venue_rules.specs.declared.facts.Fact.{Fact}
use Rattle.venue_rules.specs.declared.replies.Reply.{Reply}
use Rattle.venue_rules.specs.declared.trail.TrailRow.{TrailRow}
use Rattle.venue_rules.specs.Book.{Resting}
use Rattle.venue_rules.specs.Facts.{History, no_history}
use Rattle.venue_rules.specs.Market.{Market}
use Rattle.venue_rules.specs.Run.{Input, after, answer_input, run, run_from}
use Rattle.venue_core.specs.Replay.{AreEmitted}
use Rattle.venue_core.specs.State.{State}
use Rattle.venue_core.specs.VenueFacts.{IsHistory}
use Rattle.market_laws.specs.OneBook.{OneBookChanges, reported_symbol}
use Rattle.day_events.specs.declared.best.Best.{Best}
use Rattle.day_events.specs.declared.best.Top.{Top}
use Rattle.day_events.specs.declared.event.Event.{Event}
use Rattle.day_events.specs.declared.shown.ShownPrice.{ShownPrice}
use Rattle.day_events.specs.Bests.{AddsChanges, OthersStay, best, bests, bests_from, changed, changes, is_same_price, is_same_top, place_in, reported_in, top_of, tops}
use Rattle.day_events.specs.Days.{ArePriced, TakesEvents}
use Rattle.day_events.proofs.Listing.{found, listed}
use Rattle.day_events.proofs.Walking.{StandsOn, answered_more, answered_nothing}

-- the best prices of the first instruments

pub length_tops : (fs : List Fact) (n : ℕ) → length (tops fs n) ≡ n
length_tops fs zero = refl
length_tops fs (suc n) = omega (arith, length-append (tops fs n) (top_of fs n ∷ []), length_tops fs n)

pub top_at : (fs : List Fact) (n k : ℕ) (d : Top) → k < n → get_or (tops fs n) k d ≡ top_of fs k
top_at fs zero k d low = absurd (omega (arith, low))
top_at fs (suc n) k d low = by_case (nat_lt k n) refl (λ l. top_at fs n k d l)
  where
    by_case : (b : Bool) → nat_lt k n ≡ b → (k < n → get_or (tops fs n) k d ≡ top_of fs k) → get_or (tops fs n ++ top_of fs n ∷ []) k d ≡ top_of fs k
    by_case true e before =
        let l : k < n = grind (arith, nat_tests) in
        get_or_append_left (tops fs n) (top_of fs n ∷ []) d k (omega (arith, l, length_tops fs n)) ∙ before l
    by_case false e before =
        let l : n ≤ k = grind (arith, nat_tests) in
        let same : k ≡ n = omega (arith, l, low) in
        ap (λ (j : ℕ). get_or (tops fs n ++ top_of fs n ∷ []) j d) (same ∙ sym (length_tops fs n)) ∙ (get_or-append_seam (tops fs n) (top_of fs n) [] d ∙ ap (top_of fs) (sym same))

-- after a change in one instrument

not_last : (a n : ℕ) → a < n → Some n ≢ Some a
not_last a n low e = let same : n ≡ a = inside e in absurd (omega (arith, low, same))
  where
    inside : Some n ≡ Some a → n ≡ a
    inside e = cc

same_price : (p : Option ℤ) → is_same_price p p ≡ true
same_price None = refl
same_price (Some p) = grind (arith, ints)

same_top : (t : Top) → is_same_top t t ≡ true
same_top t = ap (λ b. b && is_same_price t.offer t.offer) (same_price t.bid) ∙ same_price t.offer

no_change : (r : TrailRow) (x : ℕ) (a b : Top) → b ≡ a → changed r x a b ≡ []
no_change r x a b same = ap (λ (t : Top). changed r x a t) same ∙ ap (λ b. if b then [] else best r x a ∷ []) (same_top a)

pub tops_stay : (before now : List Fact) (n : ℕ) → ((x : ℕ) → x < n → top_of now x ≡ top_of before x) → tops before n ≡ tops now n
tops_stay before now zero stay = refl
tops_stay before now (suc n) stay = ap (λ (l : List Top). l ++ top_of before n ∷ []) (tops_stay before now n (λ x low. stay x (omega (arith, low)))) ∙ ap (λ (t : Top). tops now n ++ t ∷ []) (sym (stay n (omega arith)))

pub changes_none : (r : TrailRow) (before now : List Fact) (n : ℕ) → ((x : ℕ) → x < n → top_of now x ≡ top_of before x) → changes r before now n ≡ []
changes_none r before now zero stay = refl
changes_none r before now (suc n) stay = ap (λ (l : List Best). l ++ changed r n (top_of before n) (top_of now n)) (changes_none r before now n (λ x low. stay x (omega (arith, low)))) ∙ no_change r n (top_of before n) (top_of now n) (stay n (omega arith))

-- and the others stay
pub tops_one : (before now : List Fact) (n k : ℕ) → k < n → OthersStay (Some k) n before now → set (tops before n) k (top_of now k) ≡ tops now n
tops_one before now zero k low stay = absurd (omega (arith, low))
tops_one before now (suc n) k low stay = by_case (nat_lt k n) refl (λ l. tops_one before now n k l (λ x below other. stay x (omega (arith, below)) other))
  where
    by_case : (b : Bool) → nat_lt k n ≡ b → (k < n → set (tops before n) k (top_of now k) ≡ tops now n) → set (tops before n ++ top_of before n ∷ []) k (top_of now k) ≡ tops now n ++ top_of now n ∷ []
    by_case true e earlier =
        let l : k < n = grind (arith, nat_tests) in
        set-append_left (tops before n) (top_of before n ∷ []) k (top_of now k) (omega (arith, l, length_tops before n))
        ∙ (ap (λ (t : List Top). t ++ top_of before n ∷ []) (earlier l) ∙ ap (λ (t : Top). tops now n ++ t ∷ []) (sym (stay n (omega arith) (λ e. not_last k n l (sym e)))))
    by_case false e earlier =
        let l : n ≤ k = grind (arith, nat_tests) in
        let same : k ≡ n = omega (arith, l, low) in
        ap (λ (j : ℕ). set (tops before n ++ top_of before n ∷ []) j (top_of now k)) (same ∙ sym (length_tops before n))
        ∙ (set-append_seam (tops before n) (top_of before n) [] (top_of now k)
        ∙ (ap (λ (j : ℕ). tops before n ++ top_of now j ∷ []) same ∙ ap (λ (t : List Top). t ++ top_of now n ∷ []) (tops_stay before now n (λ x below. stay x (omega (arith, below)) (λ e. not_last x n below (ap Some (sym same) ∙ e))))))

pub changes_one : (r : TrailRow) (before now : List Fact) (n k : ℕ) → k < n → OthersStay (Some k) n before now → changes r before now n ≡ changed r k (top_of before k) (top_of now k)
changes_one r before now zero k low stay = absurd (omega (arith, low))
changes_one r before now (suc n) k low stay = by_case (nat_lt k n) refl (λ l. changes_one r before now n k l (λ x below other. stay x (omega (arith, below)) other))
  where
    here : ℕ → List Best
    here x = changed r x (top_of before x) (top_of now x)

    by_case : (b : Bool) → nat_lt k n ≡ b → (k < n → changes r before now n ≡ here k) → changes r before now n ++ here n ≡ here k
    by_case true e earlier =
        let l : k < n = grind (arith, nat_tests) in
        ap (λ (t : List Best). t ++ here n) (earlier l) ∙ (ap (λ (t : List Best). here k ++ t) (no_change r n (top_of before n) (top_of now n) (stay n (omega arith) (λ e. not_last k n l (sym e)))) ∙ append-nil (here k))
    by_case false e earlier =
        let l : n ≤ k = grind (arith, nat_tests) in
        let same : k ≡ n = omega (arith, l, low) in
        ap (λ (t : List Best). t ++ here n) (changes_none r before now n (λ x below. stay x (omega (arith, below)) (λ e. not_last x n below (ap Some (sym same) ∙ e)))) ∙ ap here (sym same)

-- the change of the reported instrument alone was added, or none where none was reported
pub adds_none : (r : TrailRow) (before now : List Fact) (n : ℕ) (ts : List Top) (bs : List Best) → OthersStay None n before now → AddsChanges r before now n ts ts bs bs
adds_none r before now n ts bs stay are =
    let all : (x : ℕ) → x < n → top_of now x ≡ top_of before x = λ x low. stay x low (λ e. nowhere x e) in (
      are ∙ tops_stay before now n all,
      sym (ap (λ (l : List Best). bs ++ l) (changes_none r before now n all) ∙ append-nil bs),
    )
  where
    nowhere : (x : ℕ) → None ≡ Some x → ⊥
    nowhere x e = cc

pub adds_one : (r : TrailRow) (before now : List Fact) (n k : ℕ) (ts ts' : List Top) (bs bs' : List Best) (a b : Top) → k < n → OthersStay (Some k) n before now → a ≡ get_or ts k a → b ≡ top_of now k → ts' ≡ set ts k b → bs' ≡ bs ++ changed r k a b
    → AddsChanges r before now n ts ts' bs bs'
adds_one r before now n k ts ts' bs bs' a b low stay was is put more are =
    let at : a ≡ top_of before k = was ∙ (ap (λ (l : List Top). get_or l k a) are ∙ top_at before n k a low) in (
      put ∙ ((λ j. set (are j) k (is j)) ∙ tops_one before now n k low stay),
      more ∙ ((λ j. bs ++ changed r k (at j) (is j)) ∙ sym (ap (λ (l : List Best). bs ++ l) (changes_one r before now n k low stay))),
    )

-- one row further

run_more : (m : Market) (h : History) (is : List Input) (i : Input) → (run_from m h (is ++ i ∷ [])).history ≡ after (run_from m h is).history (answer_input m (run_from m h is).history i)
run_more m h [] i = refl
run_more m h (j ∷ is) i = run_more m (after h (answer_input m h j)) is i

bests_more : (m : Market) (h : History) (rs : List TrailRow) (is : List Input) (r : TrailRow) (i : Input) → AreEmitted rs is
    → bests_from m h (rs ++ r ∷ []) (is ++ i ∷ []) ≡ bests_from m h rs is ++ changes r (run_from m h is).history.facts (run_from m h (is ++ i ∷ [])).history.facts (length m.instruments)
bests_more m h [] [] r i emitted = append-nil (changes r h.facts (after h (answer_input m h i)).facts (length m.instruments))
bests_more m h [] (j ∷ is) r i emitted = absurd emitted
bests_more m h (x ∷ rs) [] r i emitted = absurd emitted
bests_more m h (x ∷ rs) (j ∷ is) r i emitted =
    let h' = after h (answer_input m h j) in
    let here = changes x h.facts h'.facts (length m.instruments) in
    ap (λ (l : List Best). here ++ l) (bests_more m h' rs is r i emitted.1)
    ∙ sym (append_assoc here (bests_from m h' rs is) (changes r (run_from m h' is).history.facts (run_from m h' (is ++ i ∷ [])).history.facts (length m.instruments)))

-- what is kept: what was said so far, the changes, and the best prices of now
pub record IsKept (m : Market) (rs : List TrailRow) (s : State) (es : List Event) (ps : List ShownPrice) (bs : List Best) (ts : List Top) : Type 0 where
  pub day : ArePriced m rs s es ps bs
  pub tops : ts ≡ tops (run m day.events.items).history.facts (length m.instruments)

abbrev pub OneBooks : Type 0
OneBooks = (m : Market) (is : List Input) → OneBookChanges m is

abbrev top_from : List Resting → List Resting → Top
top_from bids offers = record { bid = option_map (λ (r : Resting). r.entry.order.price) (slice_get bids 0); offer = option_map (λ (r : Resting). r.entry.order.price) (slice_get offers 0) }

-- by the law, the best prices of all but the reported instrument stay
others_stay : OneBooks → (m : Market) → is_instrument_file m.instruments ≡ true → (is : List Input) (i : Input) (x : Option ℕ) → x ≡ reported_in m.instruments (answer_input m (run m is).history i).replies
    → OthersStay x (length m.instruments) (run m is).history.facts (run m (is ++ i ∷ [])).history.facts
others_stay law m rule is i x reported y low other =
    let elsewhere : reported_symbol (answer_input m (run m is).history i).replies ≢ Some (symbol_of m.instruments y) = λ e. other (reported ∙ (ap (place_in m.instruments) e ∙ found m.instruments rule y low)) in
    ap₂ top_from (law m is i y Buy elsewhere) (law m is i y Sell elsewhere)

-- a reported instrument is one of the file's
pub reported_within : (file : List Instrument) (replies : List Reply) (x : Option ℕ) (n : ℕ) → x ≡ reported_in file replies → n ≡ length file → IfSome x (λ (y : ℕ). y < n)
reported_within file replies None n e same = tt
reported_within file replies (Some y) n e same = let low : y < length file = listed file (reported_symbol replies) y (sym e) in omega (arith, low, same)

pub priced_more : StandsOn → OneBooks → (m : Market) → is_instrument_file m.instruments ≡ true → (rs : List TrailRow) (k : ℕ) (r : TrailRow) (s s' : State) (es es' : List Event) (ps ps' : List ShownPrice) (bs bs' : List Best) (ts ts' : List Top) (x : Option ℕ) → k < length rs → r ≡ get_or rs k r
    → IsKept m (take k rs) s es ps bs ts → TakesEvents r s s' es es' ps ps' x
    → ((h : History) → IsHistory s' h → (before : List Fact) → OthersStay x (length m.instruments) before h.facts → AddsChanges r before h.facts (length m.instruments) ts ts' bs bs')
    → IsKept m (take (k + 1) rs) s' es' ps' bs' ts'
priced_more law books m rule rs k r s s' es es' ps ps' bs bs' ts ts' x low at_k before taken changed =
    let longer : take (k + 1) rs ≡ take k rs ++ r ∷ [] = take_more rs k r low ∙ ap (λ (x : TrailRow). take k rs ++ x ∷ []) (sym at_k) in
    let events = answered_more law m rs k r s s' es es' ps ps' x low at_k before.day.events taken in
    let is = before.day.events.items in
    let is' = is ++ taken.input ∷ [] in
    let here = changes r (run m is).history.facts (run m is').history.facts (length m.instruments) in
    let stands = before.day.events.stands in
    let reported : x ≡ reported_in m.instruments (answer_input m (run m is).history taken.input).replies =
    taken.reported (run m is).history stands.history ∙ ap (λ (n : Market). reported_in n.instruments (answer_input n (run m is).history taken.input).replies) stands.market in
    let added = changed (run m is').history events.stands.history (run m is).history.facts (others_stay books m rule is taken.input x reported) before.tops in
    let all : bs' ≡ bests m (take k rs ++ r ∷ []) is' =
    added.1 ∙ (ap (λ (l : List Best). l ++ here) before.day.bests ∙ sym (bests_more m no_history (take k rs) is r taken.input before.day.events.emitted)) in
    record { day = record { events = events; bests = all ∙ ap (λ (l : List TrailRow). bests m l is') (sym longer) }; tops = added.0 }

-- before the first
pub priced_nothing : (m : Market) (s : State) (es : List Event) (ps : List ShownPrice) (bs : List Best) (ts : List Top) → s.market ≡ m → es ≡ [] → ps ≡ [] → bs ≡ [] → IsHistory s no_history → ts ≡ tops no_history.facts (length s.market.instruments)
    → IsKept m [] s es ps bs ts
priced_nothing m s es ps bs ts same none no_price no_change fresh are = record {
  day = record { events = answered_nothing m s es ps same none no_price fresh; bests = no_change };
  tops = are ∙ ap (λ (x : Market). tops no_history.facts (length x.instruments)) same;
}
