-- Acts one after another.
use Rattle.std.proofs.Common.{◌≡◌, ◌<◌, ◌+◌, ℕ, suc, zero, List, [], ◌∷◌, ◌++◌, Some, None, Bool, true, false, length, map, max, refl, sym, ap, ◌∙◌, subst, arith, append_assoc, append-nil, slice_get, add-suc, add-zero}
use Rattle.std.proofs.lemmas.List.{map-append}
use Rattle.fix_session.specs.Reader.{Reader}
use Rattle.fix_session.specs.declared.plan.Step.{Step}
use Rattle.fix_session.specs.Machine.{step}
use Rattle.venue_world.specs.declared.world_event.WorldEvent.{WorldEvent}
use Rattle.venue_world.specs.declared.world_event.WorldEvent.TheVariants.{Alone, VenueTicks}
use Rattle.venue_world.specs.declared.world_event.SessionEvent.TheVariants.{Collects, Delivers, Steps, Writes}
use Rattle.venue_rules.specs.declared.trail.EventFault.{EventFault}
use Rattle.venue_world.specs.Seen.{Done, Seen, Shows, Undone}
use Rattle.venue_world.specs.Side.{Side}
use Rattle.venue_world.specs.World.{WorldState, after_act, after_all}
use Rattle.frame_explanation.specs.declared.log_items.LogItem.{LogItem}
use Rattle.frame_explanation.specs.declared.log_items.Heard.{Heard}
use Rattle.frame_explanation.specs.declared.log_items.Sent as held
use Rattle.frame_explanation.specs.Hearing.{AreAllowed, Did, HearsAll, HearsOne, OnLine, Sends, SendsEach, answer_of, answers, answers_by, given, given_by, item_of, replies, take_or_tick, ticks, waiting, waiting_at, wire_of}

after-append : (r : Reader) (w : WorldState) (acts more : List WorldEvent) → after_all r w (acts ++ more) ≡ after_all r (after_all r w acts) more
after-append r w [] more = refl
after-append r w (a ∷ acts) more = after-append r (after_act r w a) acts more

answers-append : (r : Reader) (w : WorldState) (acts more : List WorldEvent) → answers r w (acts ++ more) ≡ answers r w acts ++ answers r (after_all r w acts) more
answers-append r w [] more = refl
answers-append r w (a ∷ acts) more =
    ap (λ (l : List Step). answers_by r w a ++ l) (answers-append r (after_act r w a) acts more)
    ∙ sym (append_assoc (answers_by r w a) (answers r (after_act r w a) acts) (answers r (after_all r (after_act r w a) acts) more))

given-append : (r : Reader) (w : WorldState) (acts more : List WorldEvent) → given r w (acts ++ more) ≡ given r w acts ++ given r (after_all r w acts) more
given-append r w [] more = refl
given-append r w (a ∷ acts) more =
    ap (λ (l : List OnLine). given_by w a ++ l) (given-append r (after_act r w a) acts more)
    ∙ sym (append_assoc (given_by w a) (given r (after_act r w a) acts) (given r (after_all r (after_act r w a) acts) more))

allowed-append : (r : Reader) (w : WorldState) (acts more : List WorldEvent) → AreAllowed r w acts → AreAllowed r (after_all r w acts) more → AreAllowed r w (acts ++ more)
allowed-append r w [] more p q = q
allowed-append r w (a ∷ acts) more p q = (p.0, allowed-append r (after_act r w a) acts more p.1 q)

-- the world is still in its state
pub did-still : (old new : Seen) → ((w : WorldState) → Shows old w → Shows new w) → Did old new [] [] []
did-still old new still = record {
  allowed = λ r w shows. tt;
  shows = λ r w shows. still w shows;
  answers_are = λ r w shows. refl;
  given_are = λ r w shows. refl;
}

pub did-nil : (s : Seen) → Did s s [] [] []
did-nil s = did-still s s (λ w shows. shows)

pub did-then : (a b c : Seen) (x y : List WorldEvent) (i j : List Step) (g h : List OnLine) → Did a b x i g → Did b c y j h → Did a c (x ++ y) (i ++ j) (g ++ h)
did-then a b c x y i j g h p q = record {
  allowed = λ r w shows. allowed-append r w x y (p.allowed r w shows) (q.allowed r (after_all r w x) (p.shows r w shows));
  shows = λ r w shows. subst (Shows c) (sym (after-append r w x y)) (q.shows r (after_all r w x) (p.shows r w shows));
  answers_are = λ r w shows.
      answers-append r w x y
      ∙ ap (λ (l : List Step). l ++ answers r (after_all r w x) y) (p.answers_are r w shows)
      ∙ ap (λ (l : List Step). i ++ l) (q.answers_are r (after_all r w x) (p.shows r w shows));
  given_are = λ r w shows.
      given-append r w x y
      ∙ ap (λ (l : List OnLine). l ++ given r (after_all r w x) y) (p.given_are r w shows)
      ∙ ap (λ (l : List OnLine). g ++ l) (q.given_are r (after_all r w x) (p.shows r w shows));
}

pub did-one : (a : WorldEvent) (old new : Seen) (steps : List Step) (sent : List OnLine) → ((r : Reader) → Done r a old new)
    → ((r : Reader) (w : WorldState) → Shows old w → answers_by r w a ≡ steps) → ((w : WorldState) → Shows old w → given_by w a ≡ sent) → Did old new (a ∷ []) steps sent
did-one a old new steps sent done answers_of gives = record {
  allowed = λ r w shows. ((done r w shows).allowed, tt);
  shows = λ r w shows. (done r w shows).shows;
  answers_are = λ r w shows. append-nil (answers_by r w a) ∙ answers_of r w shows;
  given_are = λ r w shows. append-nil (given_by w a) ∙ gives w shows;
}

-- an act without an answer that gives nothing
pub did-quiet : (a : WorldEvent) (old new : Seen) → ((r : Reader) → Done r a old new) → ((r : Reader) (w : WorldState) → answers_by r w a ≡ []) → ((w : WorldState) → given_by w a ≡ []) → Did old new (a ∷ []) [] []
did-quiet a old new done no_answer none = did-one a old new [] [] done (λ r w shows. no_answer r w) (λ w shows. none w)

-- a step, with the session's answer
answer-of : (r : Reader) (t : ℕ) (answer : Step) (sides : List Side) (k : ℕ) → k < length sides → ((s : Side) → slice_get sides k ≡ Some s → answer ≡ (step r s.session (max s.moment t)).1) → answer_of r t (slice_get sides k) ≡ answer ∷ []
answer-of r t answer [] k low is = absurd (omega (arith, low))
answer-of r t answer (s ∷ sides) zero low is = ap (λ (x : Step). x ∷ []) (sym (is s refl))
answer-of r t answer (s ∷ sides) (suc k) low is = answer-of r t answer sides k (omega (arith, low)) is

pub did-step : (k t : ℕ) (old new : Seen) (answer : Step) → ((r : Reader) → Done r (Alone k (Steps t)) old new) → k < length old.sides
    → ((r : Reader) (s : Side) → slice_get old.sides k ≡ Some s → answer ≡ (step r s.session (max s.moment t)).1) → Did old new (Alone k (Steps t) ∷ []) (answer ∷ []) []
did-step k t old new answer done low is =
    did-one (Alone k (Steps t)) old new (answer ∷ []) [] done
    (λ r w shows. subst (λ (l : List Side). answer_of r t (slice_get l k) ≡ answer ∷ []) shows.sides (answer-of r t answer old.sides k low (is r)))
    (λ w shows. refl)

-- the bytes that were queued are taken
wire-of : (bytes : List ℕ) (sides : List Side) (k : ℕ) → k < length sides → ((s : Side) → slice_get sides k ≡ Some s → bytes ≡ s.session.wire) → wire_of (slice_get sides k) ≡ bytes
wire-of bytes [] k low is = absurd (omega (arith, low))
wire-of bytes (s ∷ sides) zero low is = sym (is s refl)
wire-of bytes (s ∷ sides) (suc k) low is = wire-of bytes sides k (omega (arith, low)) is

pub did-write : (k : ℕ) (old new : Seen) (bytes : List ℕ) → ((r : Reader) → Done r (Alone k Writes) old new) → k < length old.sides
    → ((s : Side) → slice_get old.sides k ≡ Some s → bytes ≡ s.session.wire) → Did old new (Alone k Writes ∷ []) [] ((k, bytes) ∷ [])
did-write k old new bytes done low is =
    did-one (Alone k Writes) old new [] ((k, bytes) ∷ []) done
    (λ r w shows. refl)
    (λ w shows. ap (λ (b : List ℕ). (k, b) ∷ []) (subst (λ (l : List Side). wire_of (slice_get l k) ≡ bytes) shows.sides (wire-of bytes old.sides k low is)))

-- one more held side enters, at the end
ticks-more : (n t : ℕ) → ticks n t ++ (VenueTicks t ∷ []) ≡ ticks (suc n) t
ticks-more zero t = refl
ticks-more (suc n) t = ap (λ (l : List WorldEvent). VenueTicks t ∷ l) (ticks-more n t)

pub did-tick : (n t : ℕ) (a b c : Seen) → Did a b (ticks n t) [] [] → Did b c (VenueTicks t ∷ []) [] [] → Did a c (ticks (suc n) t) [] []
did-tick n t a b c p q = subst (λ (l : List WorldEvent). Did a c l [] []) (ticks-more n t) (did-then a b c (ticks n t) (VenueTicks t ∷ []) [] [] [] [] p q)

-- the take, or the entry of a held side, after those that have entered
pub did-taken : (n who t : ℕ) (taken : Bool) (a b c : Seen) → taken ≡ true → Did a b (ticks n t) [] [] → Did b c (take_or_tick taken who t) [] [] → (due : ℕ) × Did a c (ticks due t ++ take_or_tick true who t) [] []
did-taken n who t taken a b c is p q =
    (n, did-then a b c (ticks n t) (take_or_tick true who t) [] [] [] [] p (subst (λ (x : Bool). Did b c (take_or_tick x who t) [] []) is q))

pub did-ticked : (n who t : ℕ) (taken : Bool) (a b c : Seen) → taken ≡ false → Did a b (ticks n t) [] [] → Did b c (take_or_tick taken who t) [] [] → Did a c (ticks (n + 1) t) [] []
did-ticked n who t taken a b c is p q =
    let one : n + 1 ≡ suc n = omega arith in
    subst (λ (m : ℕ). Did a c (ticks m t) [] []) (sym one) (did-tick n t a b c p (subst (λ (x : Bool). Did b c (take_or_tick x who t) [] []) is q))

-- a refusal leaves the world in its state, and another act follows
pub did-after : (refused a : WorldEvent) (fault : EventFault) (old mid new : Seen) → Undone refused old mid fault → Did mid new (a ∷ []) [] [] → Did old new (a ∷ []) [] []
did-after refused a fault old mid new undone did =
    did-then old mid new [] (a ∷ []) [] [] [] [] (did-still old mid (λ w shows. (undone w shows).shows)) did

-- one more reply is sent, at the end
replies-more : (n k t : ℕ) → replies n k t ++ (Alone k Delivers ∷ Alone k (Collects t) ∷ []) ≡ replies (suc n) k t
replies-more zero k t = refl
replies-more (suc n) k t = ap (λ (l : List WorldEvent). Alone k Delivers ∷ Alone k (Collects t) ∷ l) (replies-more n k t)

pub did-reply : (n k t : ℕ) (a b c : Seen) → Did a b (replies n k t) [] [] → Did b c (Alone k Delivers ∷ Alone k (Collects t) ∷ []) [] [] → Did a c (replies (n + 1) k t) [] []
did-reply n k t a b c p q =
    let one : n + 1 ≡ suc n = omega arith in
    subst (λ (l : List WorldEvent). Did a c l [] []) (replies-more n k t ∙ ap (λ (m : ℕ). replies m k t) (sym one)) (did-then a b c (replies n k t) (Alone k Delivers ∷ Alone k (Collects t) ∷ []) [] [] [] [] p q)

-- the replies that wait, as they are counted
waiting-at : (count : ℕ) (sides : List Side) (k : ℕ) → k < length sides → ((s : Side) → slice_get sides k ≡ Some s → count ≡ length s.queue) → count ≡ waiting_at (slice_get sides k)
waiting-at count [] k low is = absurd (omega (arith, low))
waiting-at count (s ∷ sides) zero low is = is s refl
waiting-at count (s ∷ sides) (suc k) low is = waiting-at count sides k (omega (arith, low)) is

pub did-send : (t k count : ℕ) (a b c : Seen) (bytes : List ℕ) → k < length a.sides → ((s : Side) → slice_get a.sides k ≡ Some s → count ≡ length s.queue)
    → Did a b (replies count k t) [] [] → Did b c (Alone k Writes ∷ []) [] ((k, bytes) ∷ []) → Sends t a c k bytes
did-send t k count a b c bytes low is p q =
    subst (λ (n : ℕ). Did a c (replies n k t ++ (Alone k Writes ∷ [])) [] ((k, bytes) ∷ [])) (waiting-at count a.sides k low is)
    (did-then a b c (replies count k t) (Alone k Writes ∷ []) [] [] [] ((k, bytes) ∷ []) p q)

-- one more participant's session sends, at the end
pub sends-more : (t k : ℕ) (a b c : Seen) (sent : List held.Sent) (one : held.Sent) → SendsEach t k a b sent → one.to ≡ k + length sent → Sends t b c (k + length sent) one.bytes.items → SendsEach t k a c (sent ++ (one ∷ []))
sends-more t k a b c [] one p to q =
    let same : k + 0 ≡ k = omega arith in
    (to ∙ same, c, subst (λ (s : Seen). Sends t s c k one.bytes.items) (sym p) (subst (λ (n : ℕ). Sends t b c n one.bytes.items) same q), refl)
sends-more t k a b c (s ∷ sent) one p to q =
    let same : k + length (s ∷ sent) ≡ suc k + length sent = omega arith in
    (p.0, p.1, p.2, sends-more t (suc k) p.1 b c sent one p.3 (to ∙ same) (subst (λ (n : ℕ). Sends t b c n one.bytes.items) same q))

-- one more is heard, at the end
pub hears-more : (a b c : Seen) (heard : List Heard) (one : Heard) → HearsAll a b heard → HearsOne b c one → HearsAll a c (heard ++ (one ∷ []))
hears-more a b c [] one p q = (c, subst (λ (s : Seen). HearsOne s c one) (sym p) q, refl)
hears-more a b c (h ∷ heard) one p q = (p.0, p.1, hears-more p.0 b c heard one p.2 q)

pub items-more : (heard : List Heard) (one : Heard) (yielded : List LogItem) (item : LogItem) → map item_of heard ≡ yielded → one.item ≡ item → map item_of (heard ++ (one ∷ [])) ≡ yielded ++ (item ∷ [])
items-more heard one yielded item p q =
    map-append item_of heard (one ∷ []) ∙ ap (λ (l : List LogItem). l ++ (one.item ∷ [])) p ∙ ap (λ (i : LogItem). yielded ++ (i ∷ [])) q
