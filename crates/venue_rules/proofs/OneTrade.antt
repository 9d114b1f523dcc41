use Rattle.std.proofs.Common.{◌≡◌, refl, sym, ap, ◌∙◌, subst, ℕ, ◌&&◌, ◌||◌, not, nat_le, true, List, [], ◌∷◌, ◌++◌, append_assoc, eq-eqb}
use Rattle.std.specs.List.{list_any}
use Rattle.std.proofs.lemmas.Bool.{true≢false, and_parts, or_right}
use Rattle.std.proofs.lemmas.List.Folds.{list_any-append}
use Rattle.venue_rules.specs.declared.facts.Fact.{Fact}
use Rattle.venue_rules.specs.declared.facts.Fact.TheVariants.{Traded, Closed}
use Rattle.venue_rules.specs.declared.facts.TradeSource.TheVariants.{Room as InRoom}
use Rattle.venue_rules.specs.declared.facts.RoomQuote.{RoomQuote}
use Rattle.venue_rules.specs.declared.facts.Trade.{Trade}
use Rattle.venue_rules.specs.Market.{Market}
use Rattle.venue_rules.specs.Facts.{History, no_history}
use Rattle.venue_rules.specs.Rooms.{closes, is_closed, is_live, is_replaced, is_withdrawn}
use Rattle.venue_rules.specs.Run.{Input, answer_input, after, run}
use Rattle.venue_rules.specs.RoomTrades.{RoomsTradeOnce}
use Rattle.venue_rules.proofs.Members.{In-from_Contains}
use Rattle.venue_rules.proofs.EveryReport.{added, run_facts}
use Rattle.venue_rules.proofs.EveryRun.{lawful, split_at}
use Rattle.venue_rules.proofs.Shut.{Shut, ShutBy, Shut-append, Shut-behind}
use Rattle.venue_rules.proofs.ShutEach.{input-Shut}

-- No room trades twice: it closes right after its trade, and a quote in a closed room is not live.

added-Shut : (m : Market) (h : History) (is : List Input) → Shut (added m h is)
added-Shut m h [] = tt
added-Shut m h (i ∷ is) = Shut-append (answer_input m h i).facts (added m (after h (answer_input m h i)) is) (input-Shut m h i) (added-Shut m (after h (answer_input m h i)) is)

closed_there : (before rest : List Fact) (t : Trade) (room : ℕ) → is_closed (before ++ (Traded t ∷ Closed (record { room = room }) ∷ rest)) room ≡ true
closed_there before rest t room =
    list_any-append (closes room) before (Traded t ∷ Closed (record { room = room }) ∷ rest)
    ∙ or_right (list_any (closes room) before) (list_any (closes room) (Traded t ∷ Closed (record { room = room }) ∷ rest)) (ap (λ b. b || list_any (closes room) rest) (eq-eqb room room refl))

not_live : (facts : List Fact) (t : ℕ) (q : RoomQuote) → is_closed facts q.room ≡ true → is_live facts t q ≡ true → ⊥
not_live facts t q closed live =
    let unshut : not (is_closed facts q.room) ≡ true = (and_parts (not (is_closed facts q.room)) (nat_le t q.end) (and_parts (not (is_withdrawn facts q.number)) (not (is_closed facts q.room) && nat_le t q.end) (and_parts (not (is_replaced facts q)) (not (is_withdrawn facts q.number) && (not (is_closed facts q.room) && nat_le t q.end)) live).1).1).0 in
    true≢false (sym unshut ∙ ap not closed)

-- the fact right after the first trade, with another trade later
next_closes : (second : Trade) (room : ℕ) (post later rest : List Fact) → post ++ (Traded second ∷ later) ≡ Closed (record { room = room }) ∷ rest → (more : List Fact) × (post ≡ Closed (record { room = room }) ∷ more)
next_closes second room [] later rest e = absurd (other e)
  where
    other : (Traded second ∷ later) ≡ (Closed (record { room = room }) ∷ rest) → ⊥
    other h = cc
next_closes second room (x ∷ xs) later rest e = (xs, ap (λ f. f ∷ xs) (same e))
  where
    same : (x ∷ (xs ++ (Traded second ∷ later))) ≡ (Closed (record { room = room }) ∷ rest) → x ≡ Closed (record { room = room })
    same h = cc

closed_before : (facts before pre post later : List Fact) (first second : Trade) (room quote : ℕ) → Shut facts → facts ≡ before ++ (Traded second ∷ later) → before ≡ pre ++ (Traded first ∷ post) → first.place ≡ InRoom room quote → is_closed before room ≡ true
closed_before facts before pre post later first second room quote shut split front place =
    let whole : facts ≡ pre ++ (Traded first ∷ (post ++ (Traded second ∷ later))) = split ∙ (ap (λ xs. xs ++ (Traded second ∷ later)) front ∙ append_assoc pre (Traded first ∷ post) (Traded second ∷ later)) in
    let here : Shut (Traded first ∷ (post ++ (Traded second ∷ later))) = Shut-behind pre (Traded first ∷ (post ++ (Traded second ∷ later))) (subst Shut whole shut) in
    let by : ShutBy (InRoom room quote) (post ++ (Traded second ∷ later)) = subst (λ p. ShutBy p (post ++ (Traded second ∷ later))) place here.0 in
    let next = next_closes second room post later by.0 by.1 in
    ap (λ fs. is_closed fs room) (front ∙ ap (λ xs. pre ++ (Traded first ∷ xs)) next.1) ∙ closed_there pre next.0 first room

pub rooms_trade_once : (m : Market) (is : List Input) → RoomsTradeOnce (run m is).history.facts
rooms_trade_once m is before first second room quote other happened earlier place again =
    let k = (lawful m is).requests_come_first before second room other happened again in
    let at = split_at before (Traded first) (In-from_Contains before (Traded first) earlier) in
    let shut : Shut (run m is).history.facts = subst Shut (sym (run_facts m no_history is)) (added-Shut m no_history is) in
    let closed : is_closed before room ≡ true = closed_before (run m is).history.facts before at.0 at.1 happened.0 first second room quote shut happened.1 at.2 place in
    not_live before second.moment k.1 (ap (is_closed before) k.6 ∙ closed) k.9
