use Rattle.std.proofs.Common.{◌≡◌, refl, sym, ap, ◌∙◌, subst, inl, inr, ◌⊎◌, ℕ, ◌<◌, Bool, true, false, cond, ◌==◌, if◌then◌else◌, nat_lt, List, [], ◌∷◌, map, filter, length, eqb-true, eq-eqb, ltb-true, lt-ltb}
use Rattle.std.proofs.lemmas.Bool.{true≢false, and_from, and_parts, not_from_true}
use Rattle.fix_dictionary.specs.declared.messages.App.TheVariants as app
use Rattle.fix_dictionary.specs.declared.messages.MarketDataRequest.{MarketDataRequest}
use Rattle.fix_dictionary.specs.declared.values.Side.{Side}
use Rattle.fix_dictionary.specs.declared.values.Side.TheVariants.{Buy, Sell}
use Rattle.instruments.specs.Listing.{instrument_of, symbol_of}
use Rattle.venue_rules.specs.declared.facts.Fact.{Fact}
use Rattle.venue_rules.specs.declared.facts.Fact.TheVariants.{Entered}
use Rattle.venue_rules.specs.declared.facts.Entry.{Entry}
use Rattle.venue_rules.specs.declared.facts.TimeInForce.{TimeInForce}
use Rattle.venue_rules.specs.declared.facts.TimeInForce.TheVariants.{Day, ImmediateOrCancel, FillOrKill}
use Rattle.venue_rules.specs.declared.replies.SnapshotEntry.{SnapshotEntry}
use Rattle.venue_rules.specs.Market.{Market}
use Rattle.venue_rules.specs.Facts.{History, entries}
use Rattle.venue_rules.specs.Book.{Resting, is_better, is_day, is_side, left, picture, rank, ranked, resting, rests, shown, with_left}
use Rattle.venue_rules.specs.Answer.{Sender, answers}
use Rattle.venue_rules.specs.Answers.{answer_app, type_of}
use Rattle.venue_rules.specs.MarketData.{market_data, market_data_refusals}
use Rattle.venue_rules.specs.Run.{Input, run}
use Rattle.venue_rules.proofs.Members.{In, In-append_cases, In-append_left, In-append_right, In-from_Contains, Contains-from_In}
use Rattle.venue_rules.proofs.Lefts.{In-resting}
use Rattle.venue_rules.proofs.OpenRooms.{NoneHolds}
use Rattle.market_laws.specs.Access.{EverybodySeesTheBook, IsFirm, ShowTheBook, shown_as, snapshot}
use Rattle.market_laws.proofs.BookTrades.{entered_in, entry_of}
use Rattle.market_laws.proofs.Quoting.{all_false}

-- One book for all.

-- ranking and filtering lose nothing

rank_case : (side : Side) (r s x : Resting) (ss : List Resting) (b : Bool) → (r ≡ x) ⊎ In x (s ∷ ss) → ((r ≡ x) ⊎ In x ss → In x (rank side r ss)) → In x (if b then s ∷ rank side r ss else r ∷ s ∷ ss)
rank_case side r s x ss true (inl e) rec = inr (rec (inl e))
rank_case side r s x ss true (inr (inl e)) rec = inl e
rank_case side r s x ss true (inr (inr i)) rec = inr (rec (inr i))
rank_case side r s x ss false i rec = i

rank_has : (side : Side) (r : Resting) (ss : List Resting) (x : Resting) → (r ≡ x) ⊎ In x ss → In x (rank side r ss)
rank_has side r [] x i = i
rank_has side r (s ∷ ss) x i = rank_case side r s x ss (is_better side s.entry.order.price r.entry.order.price) i (rank_has side r ss x)

ranked_has : (side : Side) (rs : List Resting) (x : Resting) → In x rs → In x (ranked side rs)
ranked_has side [] x i = i
ranked_has side (r ∷ rs) x (inl e) = rank_has side r (ranked side rs) x (inl e)
ranked_has side (r ∷ rs) x (inr i) = rank_has side r (ranked side rs) x (inr (ranked_has side rs x i))

pub kept : {X : Type 0} (y x : X) (fs : List X) (b : Bool) → b ≡ true → (y ≡ x) ⊎ In x fs → In x (cond b (y ∷ fs) fs)
kept y x fs true h i = i
kept y x fs false h i = absurd (true≢false (sym h))

pub past : {X : Type 0} (y x : X) (fs : List X) (b : Bool) → In x fs → In x (cond b (y ∷ fs) fs)
past y x fs true i = inr i
past y x fs false i = i

pub filter_has : {X : Type 0} (p : X → Bool) (xs : List X) (x : X) → In x xs → p x ≡ true → In x (filter p xs)
filter_has p [] x i h = i
filter_has p (y ∷ ys) x (inl e) h = kept y x (filter p ys) (p y) (ap p e ∙ h) (inl e)
filter_has p (y ∷ ys) x (inr i) h = past y x (filter p ys) (p y) (filter_has p ys x i h)

pub map_has : {X Y : Type 0} (f : X → Y) (xs : List X) (x : X) → In x xs → In (f x) (map f xs)
map_has f [] x i = i
map_has f (y ∷ ys) x (inl e) = inl (ap f e)
map_has f (y ∷ ys) x (inr i) = inr (map_has f ys x i)

pub mapped_from : {X Y : Type 0} (f : X → Y) (xs : List X) (y : Y) → In y (map f xs) → (x : X) × In x xs × (f x ≡ y)
mapped_from f [] y i = absurd i
mapped_from f (x ∷ xs) y (inl e) = (x, inl refl, e)
mapped_from f (x ∷ xs) y (inr i) = let k = mapped_from f xs y i in (k.0, inr k.1, k.2)

-- a firm order rests on its side

self_side : (s : Side) → is_side s s ≡ true
self_side Buy = refl
self_side Sell = refl

pub firm_rests : (facts : List Fact) (x : ℕ) (e : Entry) → IsFirm facts x e → rests x e.order.side (with_left (left facts) e) ≡ true
firm_rests facts x e f =
    and_from (is_day e.order.life) _ (ap is_day f.day) (
    and_from (e.order.instrument == x) _ (eq-eqb e.order.instrument x f.instrument) (
    and_from (is_side e.order.side e.order.side) (nat_lt 0 (left facts e)) (self_side e.order.side) (lt-ltb 0 (left facts e) f.leaves)))

on_side : (facts : List Fact) (x : ℕ) (e : Entry) → IsFirm facts x e → In (with_left (left facts) e) (resting facts x e.order.side)
on_side facts x e f =
    ranked_has e.order.side _ (with_left (left facts) e) (filter_has (rests x e.order.side) (map (with_left (left facts)) (entries facts)) (with_left (left facts) e) (map_has (with_left (left facts)) (entries facts) e (entry_of facts e (In-from_Contains facts (Entered e) f.entered))) (firm_rests facts x e f))

in_picture : (facts : List Fact) (x : ℕ) (e : Entry) (side : Side) → e.order.side ≡ side → In (with_left (left facts) e) (resting facts x side) → In (shown_as facts e) (picture facts x)
in_picture facts x e Buy at i = In-append_left (map shown (resting facts x Buy)) (map shown (resting facts x Sell)) (shown_as facts e) (map_has shown (resting facts x Buy) (with_left (left facts) e) i)
in_picture facts x e Sell at i = In-append_right (map shown (resting facts x Buy)) (map shown (resting facts x Sell)) (shown_as facts e) (map_has shown (resting facts x Sell) (with_left (left facts) e) i)

-- a resting order is firm

day_is : (l : TimeInForce) → is_day l ≡ true → l ≡ Day
day_is Day h = refl
day_is ImmediateOrCancel h = absurd (true≢false (sym h))
day_is FillOrKill h = absurd (true≢false (sym h))

pub rests_firm_entry : (facts : List Fact) (x : ℕ) (side : Side) (r : Resting) → In r.entry (entries facts) → r ≡ with_left (left facts) r.entry → rests x side r ≡ true → IsFirm facts x r.entry
rests_firm_entry facts x side r entered same here =
    let parts = and_parts (is_day r.entry.order.life) _ here in
    let more = and_parts (r.entry.order.instrument == x) _ parts.1 in
    let last = and_parts (is_side r.entry.order.side side) (nat_lt 0 r.left) more.1 in
    record {
      entered = Contains-from_In facts (Entered r.entry) (entered_in facts r.entry entered);
      day = day_is r.entry.order.life parts.0;
      instrument = eqb-true r.entry.order.instrument x more.0;
      leaves = subst (λ n. 0 < n) (ap (λ (y : Resting). y.left) same) (ltb-true 0 r.left last.1);
    }

rests_firm : (facts : List Fact) (x : ℕ) (side : Side) (r : Resting) → In r (resting facts x side) → IsFirm facts x r.entry × (shown r ≡ shown_as facts r.entry)
rests_firm facts x side r i =
    let k = In-resting facts x side r i in (
      rests_firm_entry facts x side r k.0 k.1 k.2,
      ap (λ (n : ℕ). record { side = r.entry.order.side; price = r.entry.order.price; left = n; order = r.entry.number }) (ap (λ (y : Resting). y.left) k.1),
    )

shown_firm : (facts : List Fact) (x : ℕ) (side : Side) (s : SnapshotEntry) → In s (map shown (resting facts x side)) → (e : Entry) × IsFirm facts x e × (s ≡ shown_as facts e)
shown_firm facts x side s i =
    let k = mapped_from shown (resting facts x side) s i in
    let f = rests_firm facts x side k.0 k.1 in
    (k.0.entry, f.0, sym k.2 ∙ f.1)

pub picture_firm : (facts : List Fact) (x : ℕ) (s : SnapshotEntry) → In s (picture facts x) → (e : Entry) × IsFirm facts x e × (s ≡ shown_as facts e)
picture_firm facts x s i = either (In-append_cases (map shown (resting facts x Buy)) (map shown (resting facts x Sell)) s i)
  where
    either : In s (map shown (resting facts x Buy)) ⊎ In s (map shown (resting facts x Sell)) → (e : Entry) × IsFirm facts x e × (s ≡ shown_as facts e)
    either (inl j) = shown_firm facts x Buy s j
    either (inr j) = shown_firm facts x Sell s j

picture_shows : (facts : List Fact) (x : ℕ) → ShowTheBook facts x (picture facts x)
picture_shows facts x = record {
  all = λ e f. Contains-from_In (picture facts x) (shown_as facts e) (in_picture facts x e e.order.side refl (on_side facts x e f));
  only = λ s c. picture_firm facts x s (In-from_Contains (picture facts x) s c);
}

-- the answer to a request for the book

asked_passes : (m : Market) (s : Sender) (d : MarketDataRequest) (x : ℕ) → x < length m.instruments → instrument_of m.instruments d.symbol ≡ x → d.subscription_type ≡ 48 → d.depth ≡ 0 → NoneHolds (market_data_refusals m s d)
asked_passes m s d x low listed once whole = (
  not_from_true (nat_lt (instrument_of m.instruments d.symbol) (length m.instruments)) (lt-ltb (instrument_of m.instruments d.symbol) (length m.instruments) (subst (λ k. k < length m.instruments) (sym listed) low)),
  (not_from_true (d.subscription_type == 48) (eq-eqb d.subscription_type 48 once), (not_from_true (d.depth == 0) (eq-eqb d.depth 0 whole), tt)),
)

pub everybody_sees_the_book : (m : Market) (is : List Input) → EverybodySeesTheBook m is
everybody_sees_the_book m is x low =
    let h : History = (run m is).history in
    record {
      entries = picture h.facts x;
      book = picture_shows h.facts x;
      asked = λ taken d t k.
          let s : Sender = record { who = taken.from; number = taken.item.number; kind = type_of (app.MarketDataRequest d) } in
          ap (λ a. answer_app m h (record { who = taken.from; number = taken.item.number; kind = type_of a }) a t) k.message
          ∙ (all_false (market_data_refusals m s d) (market_data m h s d) (asked_passes m s d x low k.listed k.once k.whole)
          ∙ ap (λ y. answers (snapshot taken.from d.request_id d.symbol (picture h.facts y) ∷ [])) k.listed);
      with_quote = λ r e. ap (λ y. snapshot r.requester r.id (symbol_of m.instruments y) (picture h.facts y)) e;
    }
