-- Until when a quote was live agrees with the rules.
use Rattle.std.proofs.Common.{◌≡◌, refl, sym, ap, ◌∙◌, subst, ℕ, ◌<◌, ◌≤◌, ◌^◌, min, Bool, true, false, not, ◌&&◌, nat_le, List, [], ◌∷◌, ◌++◌, Option, Some, None, arith, append_assoc}
use Rattle.std.specs.List.{list_any}
use Rattle.std.proofs.Math.Nat.{le-min, min-le_left, min-le_right}
use Rattle.std.proofs.lemmas.Bool.{true≢false, and_parts, or_parts, or_from}
use Rattle.std.proofs.lemmas.Bool.Decides.{nat_tests}
use Rattle.std.proofs.lemmas.Grind.{flat_map-append}
use Rattle.std.proofs.lemmas.List.Elements.{filter_map-append}
use Rattle.std.proofs.lemmas.List.Folds.{list_any-append}
use Rattle.venue_rules.specs.declared.facts.Fact.{Fact}
use Rattle.venue_rules.specs.declared.facts.Fact.TheVariants.{Quoted}
use Rattle.venue_rules.specs.declared.facts.RoomQuote.{RoomQuote}
use Rattle.venue_rules.specs.declared.replies.Reply.{Reply}
use Rattle.venue_rules.specs.declared.trail.Taken.{Taken}
use Rattle.venue_rules.specs.declared.trail.TrailRow.{TrailRow}
use Rattle.venue_rules.specs.Answer.{Answer}
use Rattle.venue_rules.specs.Facts.{History, next_trade, no_history, quote_in, quotes}
use Rattle.venue_rules.specs.Market.{Market}
use Rattle.venue_rules.specs.Rooms.{closes, is_closed, is_live, is_replaced, is_withdrawn, withdraws}
use Rattle.venue_rules.specs.Run.{Input, after, answer_input, run, run_from}
use Rattle.venue_rules.proofs.EveryReport.{added, run_facts}
use Rattle.venue_rules.proofs.EveryRun.{quoted_in, quotes_placed, run-Follows}
use Rattle.venue_rules.proofs.Follows.{Each, Follows}
use Rattle.venue_rules.proofs.Members.{In, In-filter_map, In-from_Contains, Contains-from_In, Places}
use Rattle.venue_rules.proofs.MoreInputLemmas.{histories_join}
use Rattle.venue_core.specs.Replay.{AreEmitted}
use Rattle.day_events.specs.declared.event.Event.{Event}
use Rattle.day_events.specs.Days.{events, said_from, taken_in}
use Rattle.day_events.specs.Events.{events_at, origin_of}
use Rattle.request_sections.specs.declared.fate.Quoted.{Quoted as AsQuoted}
use Rattle.request_sections.specs.Lives.{capped, live_until, moment_or, or_last}
use Rattle.request_sections.specs.Requests.{quoted_of}
use Rattle.quote_laws.specs.Lifetimes.{AreFrom, AreUpTo, LivesAgree, until}
use Rattle.quote_laws.specs.Outcomes.{AreSmall}
use Rattle.quote_laws.proofs.Agreeing.{IsFound, OfDay, all_small_of, day_known, live_parts, quote_found, small_day}
use Rattle.quote_laws.proofs.Becoming.{ends}
use Rattle.quote_laws.proofs.ByFacts.{AllSmall, Small, Small-behind, Small-front, as_quoted, by_withdrawn, earlier, is_decided}
use Rattle.quote_laws.proofs.EachAnswer.{Agrees, Known}
use Rattle.quote_laws.proofs.EachDay.{front, input_agrees, joined}
use Rattle.quote_laws.proofs.Lasts.{is_later, replaced_later}
use Rattle.quote_laws.proofs.Moments.{IfSome, MomentsAre, MomentsAre-append, decided_first, ends_first, first_here, first_in, first_moment, first_of_none, first_past, row_at}
use Rattle.quote_laws.proofs.Steps.{event_steps, has_traded, row_said, source_of, steps}

-- A quote that is live after further facts was so before them, and earlier.

not_true : (b : Bool) → not b ≡ true → b ≡ false
not_true true h = absurd (true≢false (sym h))
not_true false h = refl

all_of : (r w c le : Bool) → r ≡ false → w ≡ false → c ≡ false → le ≡ true → (not r && (not w && (not c && le))) ≡ true
all_of r w c le h k l n = λ j. not (h j) && (not (k j) && (not (l j) && n j))

front_none : {X : Type 0} (p : X → Bool) (xs ys : List X) → list_any p (xs ++ ys) ≡ false → list_any p xs ≡ false
front_none p xs ys h = (or_parts (list_any p xs) (list_any p ys) (sym (list_any-append p xs ys) ∙ h)).0

sooner : (t u e : ℕ) → t ≤ u → nat_le u e ≡ true → nat_le t e ≡ true
sooner t u e le h = grind (arith, nat_tests)

abbrev number_of : RoomQuote → ℕ
number_of q = q.number

live_before : (fs gs : List Fact) (t u : ℕ) (q : RoomQuote) → Places number_of 0 (quotes fs) → Places number_of 0 (quotes (fs ++ gs)) → In q (quotes fs) → t ≤ u → is_live (fs ++ gs) u q ≡ true → is_live fs t q ≡ true
live_before fs gs t u q placed all_placed i le live =
    let l = and_parts (not (is_replaced (fs ++ gs) q)) (not (is_withdrawn (fs ++ gs) q.number) && (not (is_closed (fs ++ gs) q.room) && nat_le u q.end)) live in
    let w = and_parts (not (is_withdrawn (fs ++ gs) q.number)) (not (is_closed (fs ++ gs) q.room) && nat_le u q.end) l.1 in
    let c = and_parts (not (is_closed (fs ++ gs) q.room)) (nat_le u q.end) w.1 in
    let none_later : list_any (is_later q) (quotes fs ++ quotes gs) ≡ false = ap (list_any (is_later q)) (sym (filter_map-append quote_in fs gs)) ∙ (sym (replaced_later (fs ++ gs) q all_placed (earlier fs gs q i)) ∙ not_true (is_replaced (fs ++ gs) q) l.0) in
    all_of (is_replaced fs q) (is_withdrawn fs q.number) (is_closed fs q.room) (nat_le t q.end)
    (replaced_later fs q placed i ∙ front_none (is_later q) (quotes fs) (quotes gs) none_later)
    (front_none (withdraws q.number) fs gs (not_true (is_withdrawn (fs ++ gs) q.number) w.0))
    (front_none (closes q.room) fs gs (not_true (is_closed (fs ++ gs) q.room) c.0))
    (sooner t u q.end le c.1)

live_sooner : (fs : List Fact) (t u : ℕ) (q : RoomQuote) → t ≤ u → is_live fs u q ≡ true → is_live fs t q ≡ true
live_sooner fs t u q le live =
    let l = and_parts (not (is_replaced fs q)) (not (is_withdrawn fs q.number) && (not (is_closed fs q.room) && nat_le u q.end)) live in
    let w = and_parts (not (is_withdrawn fs q.number)) (not (is_closed fs q.room) && nat_le u q.end) l.1 in
    let c = and_parts (not (is_closed fs q.room)) (nat_le u q.end) w.1 in
    all_of (is_replaced fs q) (is_withdrawn fs q.number) (is_closed fs q.room) (nat_le t q.end) (not_true (is_replaced fs q) l.0) (not_true (is_withdrawn fs q.number) w.0) (not_true (is_closed fs q.room) c.0) (sooner t u q.end le c.1)

untrue : (b : Bool) → (b ≡ true → ⊥) → b ≡ false
untrue true h = absurd (h refl)
untrue false h = refl

-- So a quote that is not live at a moment is not withdrawn or passed from then on.

never_ends : (m : Market) (said : List Reply) (h : History) (rs : List TrailRow) (is : List Input) (t : ℕ) (q : RoomQuote) → AreEmitted rs is → Each (Follows m said) [] (h.facts ++ added m h is) → ((room : ℕ) → is_closed h.facts room ≡ has_traded h.facts room)
    → AreFrom t rs → q.number < 2 ^ 64 → Small (added m h is) → In q (quotes h.facts) → is_live h.facts t q ≡ false → list_any (ends (as_quoted q)) (steps (said_from events_at m h rs is)) ≡ false
never_ends m said h [] [] t q emitted each closed from small_number small i dead = refl
never_ends m said h [] (j ∷ js) t q emitted each closed from small_number small i dead = absurd emitted
never_ends m said h (r ∷ rs) [] t q emitted each closed from small_number small i dead = absurd emitted
never_ends m said h (r ∷ rs) (j ∷ js) t q emitted each closed from small_number small i dead =
    let a : Answer = answer_input m h j in
    let more : List Fact = added m (after h a) js in
    let before : Each (Follows m said) [] h.facts = front (Follows m said) [] h.facts (a.facts ++ more) each in
    let known : Known m h = record { replies = said; follows = before; closed = closed } in
    let here : Agrees (source_of (origin_of r (taken_in j))) h a = input_agrees m h known r j emitted.0 in
    let each_later : Each (Follows m said) [] ((h.facts ++ a.facts) ++ more) = subst (Each (Follows m said) []) (sym (append_assoc h.facts a.facts more)) each in
    let placed = quotes_placed m said h.facts before in
    let placed_later = quotes_placed m said (h.facts ++ a.facts) (front (Follows m said) [] (h.facts ++ a.facts) more each_later) in
    let first : List Event = events_at r (taken_in j) a.replies in
    let at : (origin_of r (taken_in j)).moment ≡ r.moment = same_moment j in
    let stands : is_withdrawn a.facts q.number ≡ false = untrue (is_withdrawn a.facts q.number) (λ w. true≢false (sym (live_sooner h.facts t (origin_of r (taken_in j)).moment q (subst (λ u. t ≤ u) (sym at) from.0) (here.3 q i w)) ∙ dead)) in
    let none_here : list_any (ends (as_quoted q)) (steps first) ≡ false =
    ap (list_any (ends (as_quoted q))) (row_said r (taken_in j) a.replies ∙ here.0) ∙ (by_withdrawn q (next_trade h.facts) a.facts small_number (Small-front a.facts more small) ∙ stands) in
    let later : list_any (ends (as_quoted q)) (steps (said_from events_at m (after h a) rs js)) ≡ false =
    never_ends m said (after h a) rs js t q emitted.1 each_later (λ room. joined h.facts a.facts room (closed room) (here.1 room)) from.1 small_number (Small-behind a.facts more small) (earlier h.facts a.facts q i)
    (untrue (is_live (h.facts ++ a.facts) t q) (λ live. true≢false (sym (live_before h.facts a.facts t t q placed placed_later i (omega arith) live) ∙ dead))) in
    ap (list_any (ends (as_quoted q))) (flat_map-append event_steps first (said_from events_at m (after h a) rs js))
    ∙ (list_any-append (ends (as_quoted q)) (steps first) (steps (said_from events_at m (after h a) rs js)) ∙ or_from (list_any (ends (as_quoted q)) (steps first)) (list_any (ends (as_quoted q)) (steps (said_from events_at m (after h a) rs js))) none_here later)
  where
    same_moment : (k : Input) → (origin_of r (taken_in k)).moment ≡ r.moment
    same_moment k = by (taken_in k)
      where
        by : (o : Option Taken) → (origin_of r o).moment ≡ r.moment
        by None = refl
        by (Some x) = refl

-- The events of a day, and those of its later rows.

events_more : (m : Market) (h : History) (rs later : List TrailRow) (is more : List Input) → AreEmitted rs is → said_from events_at m h (rs ++ later) (is ++ more) ≡ said_from events_at m h rs is ++ said_from events_at m (run_from m h is).history later more
events_more m h [] later [] more emitted = refl
events_more m h [] later (i ∷ is) more emitted = absurd emitted
events_more m h (r ∷ rs) later [] more emitted = absurd emitted
events_more m h (r ∷ rs) later (i ∷ is) more emitted =
    let a : Answer = answer_input m h i in
    let first : List Event = events_at r (taken_in i) a.replies in
    ap (λ l. first ++ l) (events_more m (after h a) rs later is more emitted.1) ∙ sym (append_assoc first (said_from events_at m (after h a) rs is) (said_from events_at m (run_from m (after h a) is).history later more))

said_up_to : (m : Market) (h : History) (t : ℕ) (rs : List TrailRow) (is : List Input) → AreUpTo t rs → MomentsAre (λ u. u ≤ t) (said_from events_at m h rs is)
said_up_to m h t [] is k = tt
said_up_to m h t (r ∷ rs) [] k = tt
said_up_to m h t (r ∷ rs) (i ∷ is) k =
    let a : Answer = answer_input m h i in
    MomentsAre-append (λ u. u ≤ t) (events_at r (taken_in i) a.replies) (said_from events_at m (after h a) rs is) (row_at (λ u. u ≤ t) r (taken_in i) a.replies k.0) (said_up_to m (after h a) t rs is k.1)

said_later : (m : Market) (h : History) (t : ℕ) (rs : List TrailRow) (is : List Input) → AreFrom t rs → MomentsAre (λ u. t ≤ u) (said_from events_at m h rs is)
said_later m h t [] is k = tt
said_later m h t (r ∷ rs) [] k = tt
said_later m h t (r ∷ rs) (i ∷ is) k =
    let a : Answer = answer_input m h i in
    MomentsAre-append (λ u. t ≤ u) (events_at r (taken_in i) a.replies) (said_from events_at m (after h a) rs is) (row_at (λ u. t ≤ u) r (taken_in i) a.replies k.0) (said_later m (after h a) t rs is k.1)

-- The moment until which it was live.

abbrev span : RoomQuote → ℕ → Option ℕ → Option ℕ → ℕ
span q last ended decided = moment_or ended (capped q.end (or_last decided (Some last)))

abbrev span_in : RoomQuote → ℕ → List Event → ℕ
span_in q last es = span q last (first_moment (ends (as_quoted q)) es) (first_moment (is_decided (as_quoted q)) es)

spans : (q : RoomQuote) (last : ℕ) (es : List Event) → live_until (as_quoted q) (Some last) es es ≡ span_in q last es
spans q last es = λ j. span q last (ends_first (as_quoted q) es j) (decided_first (as_quoted q) es j)

long : (q : RoomQuote) (t last : ℕ) (a b : Option ℕ) → IfSome (λ u. t ≤ u) a → IfSome (λ u. t ≤ u) b → t ≤ q.end → t ≤ last → t ≤ span q last a b
long q t last (Some u) b h k e l = h
long q t last None (Some v) h k e l = le-min e k
long q t last None None h k e l = le-min e l

within : (t e : ℕ) → nat_le t e ≡ true → t ≤ e
within t e h = grind (arith, nat_tests)

past : (t e : ℕ) → nat_le t e ≡ false → e ≤ t
past t e h = grind (arith, nat_tests)

short_stated : (q : RoomQuote) (t last : ℕ) (b : Option ℕ) → q.end ≤ t → span q last None b ≤ t
short_stated q t last (Some v) h = let l : min q.end v ≤ q.end = min-le_left q.end v in omega (arith, h, l)
short_stated q t last None h = let l : min q.end last ≤ q.end = min-le_left q.end last in omega (arith, h, l)

short_decided : (q : RoomQuote) (t last v : ℕ) → v ≤ t → span q last None (Some v) ≤ t
short_decided q t last v h = let l : min q.end v ≤ v = min-le_right q.end v in omega (arith, h, l)

-- by what the first rows say

live_span : (q : RoomQuote) (t last : ℕ) (xs ys : List Event) → MomentsAre (λ u. t ≤ u) ys → t ≤ last → (not (list_any (ends (as_quoted q)) (steps xs)) && (not (list_any (is_decided (as_quoted q)) (steps xs)) && nat_le t q.end)) ≡ true → t ≤ span_in q last (xs ++ ys)
live_span q t last xs ys moments le live =
    let p = as_quoted q in
    let e = and_parts (not (list_any (ends p) (steps xs))) (not (list_any (is_decided p) (steps xs)) && nat_le t q.end) live in
    let d = and_parts (not (list_any (is_decided p) (steps xs))) (nat_le t q.end) e.1 in
    long q t last (first_moment (ends p) (xs ++ ys)) (first_moment (is_decided p) (xs ++ ys))
    (subst (IfSome (λ u. t ≤ u)) (sym (first_past (ends p) xs ys (not_true (list_any (ends p) (steps xs)) e.0))) (first_in (λ u. t ≤ u) (ends p) ys moments))
    (subst (IfSome (λ u. t ≤ u)) (sym (first_past (is_decided p) xs ys (not_true (list_any (is_decided p) (steps xs)) d.0))) (first_in (λ u. t ≤ u) (is_decided p) ys moments))
    (within t q.end d.1) le

over_span : (q : RoomQuote) (t last : ℕ) (xs ys : List Event) → MomentsAre (λ u. u ≤ t) xs → list_any (ends (as_quoted q)) (steps ys) ≡ false → (not (list_any (ends (as_quoted q)) (steps xs)) && (not (list_any (is_decided (as_quoted q)) (steps xs)) && nat_le t q.end)) ≡ false → span_in q last (xs ++ ys) ≤ t
over_span q t last xs ys moments none over = by_ends (list_any (ends p) (steps xs)) refl
  where
    p : AsQuoted
    p = as_quoted q

    decided_in : Option ℕ
    decided_in = first_moment (is_decided p) (xs ++ ys)

    by_stated : (b : Bool) → nat_le t q.end ≡ b → list_any (ends p) (steps xs) ≡ false → list_any (is_decided p) (steps xs) ≡ false → span q last None decided_in ≤ t
    by_stated true n e d = absurd (true≢false (sym (λ j. not (e j) && (not (d j) && n j)) ∙ over))
    by_stated false n e d = short_stated q t last decided_in (past t q.end n)

    by_decided : (b : Bool) → list_any (is_decided p) (steps xs) ≡ b → list_any (ends p) (steps xs) ≡ false → span q last None decided_in ≤ t
    by_decided true d e = let k = first_here (λ u. u ≤ t) (is_decided p) xs ys moments d in subst (λ o. span q last None o ≤ t) (sym k.1) (short_decided q t last k.0 k.2)
    by_decided false d e = by_stated (nat_le t q.end) refl e d

    by_ends : (b : Bool) → list_any (ends p) (steps xs) ≡ b → span q last (first_moment (ends p) (xs ++ ys)) decided_in ≤ t
    by_ends true e = let k = first_here (λ u. u ≤ t) (ends p) xs ys moments e in subst (λ o. span q last o decided_in ≤ t) (sym k.1) k.2
    by_ends false e = subst (λ o. span q last o decided_in ≤ t) (sym (first_past (ends p) xs ys e ∙ first_of_none (ends p) ys none)) (by_decided (list_any (is_decided p) (steps xs)) refl e)

-- The theorem.

pub lives_agree : LivesAgree
lives_agree m rs later is more emitted emitted_later small t last up from le room e x is_quote =
    let h : History = (run m is).history in
    let facts : List Fact = h.facts in
    let xs : List Event = events m rs is in
    let ys : List Event = said_from events_at m h later more in
    let whole : (run m (is ++ more)).history.facts ≡ facts ++ added m h more = ap (λ (y : History). y.facts) (histories_join m is more) ∙ run_facts m h more in
    let all : AllSmall (facts ++ added m h more) = subst AllSmall whole (all_small_of (run m (is ++ more)).history.facts small) in
    let small_first : AreSmall facts = λ q c. all q (earlier facts (added m h more) q (quote_member facts q (In-from_Contains facts (Quoted q) c))) in
    let day : OfDay m is facts xs = day_known m rs is emitted small_first in
    let k : IsFound facts room e x = quote_found m is facts xs room e x day is_quote in
    let q : RoomQuote = k.quote in
    let said : List Reply = (run m (is ++ more)).replies in
    let each : Each (Follows m said) [] (facts ++ added m h more) = subst (Each (Follows m said) []) whole (run-Follows m (is ++ more)) in
    let day_whole = day_known m (rs ++ later) (is ++ more) (both_emitted rs later is more emitted emitted_later) small in
    let small_more : Small (added m h more) = Small-behind facts (added m h more) (subst Small whole (small_day m (is ++ more) (run m (is ++ more)).history.facts (events m (rs ++ later) (is ++ more)) day_whole)) in
    let parts : (not (list_any (ends (as_quoted q)) (steps xs)) && (not (list_any (is_decided (as_quoted q)) (steps xs)) && nat_le t q.end)) ≡ is_live facts t q =
    ap (λ ss. not (list_any (ends (as_quoted q)) ss) && (not (list_any (is_decided (as_quoted q)) ss) && nat_le t q.end)) day.says.said ∙ live_parts m is facts xs q t day k.there in
    let same : as_quoted q ≡ quoted_of room e x = λ j. record { quote = k.number j; room = k.in_room j; from = k.maker j; end = k.end j } in
    let es : List Event = events m (rs ++ later) (is ++ more) in
    let split : es ≡ xs ++ ys = events_more m no_history rs later is more emitted in
    let at : span_in q last (xs ++ ys) ≡ until es room e x last = ap (span_in q last) (sym split) ∙ (sym (spans q last es) ∙ ap (λ y. live_until y (Some last) es es) same) in
    record {
      recorded = q;
      quoted = Contains-from_In facts (Quoted q) (quoted_in facts q k.there);
      number = k.number;
      live = λ live. subst (λ u. t ≤ u) at (live_span q t last xs ys (said_later m h t later more from) le (parts ∙ live));
      over = λ dead. subst (λ u. u ≤ t) at (over_span q t last xs ys (said_up_to m no_history t rs is up) (never_ends m said h later more t q emitted_later each (λ room. day.says.closed room) from (day.all_small q k.there).0 small_more k.there dead) (parts ∙ dead));
    }
  where
    quote_member : (fs : List Fact) (q : RoomQuote) → In (Quoted q) fs → In q (quotes fs)
    quote_member fs q i = In-filter_map quote_in fs (Quoted q) q i refl

    both_emitted : (us bs : List TrailRow) (cs ds : List Input) → AreEmitted us cs → AreEmitted bs ds → AreEmitted (us ++ bs) (cs ++ ds)
    both_emitted [] bs [] ds k l = l
    both_emitted [] bs (c ∷ cs) ds k l = absurd k
    both_emitted (a ∷ us) bs [] ds k l = absurd k
    both_emitted (a ∷ us) bs (c ∷ cs) ds k l = (k.0, both_emitted us bs cs ds k.1 l)
