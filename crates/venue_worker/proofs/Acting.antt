-- Acts, one after another.
use Rattle.std.proofs.Common.{◌≡◌, ◌≢◌, ◌⊎◌, inl, inr, ℕ, zero, suc, ◌+◌, ◌≤◌, ◌<◌, Bool, true, false, List, [], ◌∷◌, ◌++◌, length, replicate, max, refl, sym, ap, ◌∙◌, subst, arith, append_assoc, Result, Ok, Err}
use native.Mathlib.Decide.{ℕ_discrete}
use Rattle.std.proofs.lemmas.Bool.{false≢true}
use Rattle.std.proofs.lemmas.List.{replicate_more}
use Rattle.venue_rules.specs.declared.trail.EventFault.{EventFault}
use Rattle.venue_rules.specs.declared.trail.EventFault.TheVariants.{Behind, TrailRefused, Down, Due, NoMemory}
use Rattle.venue_worker.specs.declared.retry_policy.RetryPolicy.TheVariants as MeetingIs
use Rattle.venue_worker.specs.RetryPolicy.{retry_policy_of}
use Rattle.venue_worker.specs.Work.{Work}
use Rattle.venue_worker.specs.Calls.{Takes, Ticks}
use Rattle.venue_worker.specs.Turns.{with_had_refusal}
use Rattle.venue_worker.specs.Phases.{HasLooked, HasTicked}
use Rattle.venue_worker.specs.Acts.{Act, Enters_at, Ticks_at, Looks_at, Delivers_to, AreActs, AreCutShort, Follows, HasActed, HasTurnActed, IsActOf, IsRefusedAt, deliveries, looks, ticks}

-- some acts, and then others; the trail refused in the second part, or in the first
acts_join : (xs ys : List Act) (a b c : Work) → AreActs xs a b → AreActs ys b c → AreActs (xs ++ ys) a c
acts_join [] ys a b c e more = subst (λ (w : Work). AreActs ys w c) e more
acts_join (x ∷ xs) ys a b c e more = (e.0, e.1, acts_join xs ys e.0 b c e.2 more)

short_join : (xs ys : List Act) (a b c : Work) → AreActs xs a b → AreCutShort ys b c → AreCutShort (xs ++ ys) a c
short_join [] ys a b c e more = subst (λ (w : Work). AreCutShort ys w c) e more
short_join (x ∷ xs) ys a b c e more = inr (e.0, e.1, short_join xs ys e.0 b c e.2 more)

short_before : (xs ys : List Act) (a b : Work) → AreCutShort xs a b → AreCutShort (xs ++ ys) a b
short_before [] ys a b e = absurd e
short_before (x ∷ xs) ys a b (inl e) = inl e
short_before (x ∷ xs) ys a b (inr e) = inr (e.0, e.1, short_before xs ys e.0 b e.2)

act_last : (xs : List Act) (x : Act) (a b c : Work) → AreActs xs a b → IsActOf x b c → AreActs (xs ++ x ∷ []) a c
act_last xs x a b c e d = acts_join xs (x ∷ []) a b c e (c, d, refl)

refused_last : (xs : List Act) (x : Act) (a b c : Work) → AreActs xs a b → IsRefusedAt x b c → AreCutShort (xs ++ x ∷ []) a c
refused_last xs x a b c e d = short_join xs (x ∷ []) a b c e (inl d)

-- ticks

pub ticked : (t : ℕ) (b : Bool) (old new : Work) → Ticks t (Ok b) old new → HasTicked (Ok b) t old new
ticked t true old new d = d
ticked t false old new d = (Ok false, new, (λ e. absurd (cc)), d, refl)

-- ticks that each entered a side
abbrev pub HasEntered : ℕ → Work → Work → Type 0
HasEntered t old new = (entered : ℕ) × AreActs (replicate entered (Enters_at t)) old new

pub none_entered : (t : ℕ) (w : Work) → HasEntered t w w
none_entered t w = (0, refl)

pub one_entered : (t : ℕ) (a b c : Work) → HasEntered t a b → HasTicked (Ok true) t b c → HasEntered t a c
one_entered t a b c e d = (e.0 + 1, subst (λ (xs : List Act). AreActs xs a c) (replicate_more e.0 (Enters_at t)) (act_last (replicate e.0 (Enters_at t)) (Enters_at t) a b c e.1 d))

pub ticks_done : (t : ℕ) (moved : Bool) (a b c : Work) → HasEntered t a b → HasTicked (Ok false) t b c → (entered : ℕ) × HasActed (Ok moved) (ticks t entered) a c
ticks_done t moved a b c e d = (e.0, act_last (replicate e.0 (Enters_at t)) (Ticks_at t) a b c e.1 d)

pub ticks_refused : (t : ℕ) (f : EventFault) (a b c : Work) → HasEntered t a b → HasTicked (Err f) t b c → (entered : ℕ) × AreCutShort (ticks t entered) a c
ticks_refused t f a b c e d = (e.0, refused_last (replicate e.0 (Enters_at t)) (Ticks_at t) a b c e.1 d)

-- looks

looks_next : (t i : ℕ) → looks t i ++ Looks_at i t ∷ [] ≡ looks t (i + 1)
looks_next t i = ap (looks t) (let e : suc i ≡ i + 1 = omega arith in e)

pub look_more : (t i : ℕ) (b : Bool) (old mid new : Work) → AreActs (looks t i) old mid → HasLooked (Ok b) i t mid new → AreActs (looks t (i + 1)) old new
look_more t i b old mid new e d = subst (λ (xs : List Act). AreActs xs old new) (looks_next t i) (act_last (looks t i) (Looks_at i t) old mid new e d)

looks_fewer : (t i n : ℕ) (a b : Work) → i ≤ n → AreCutShort (looks t i) a b → AreCutShort (looks t n) a b
looks_fewer t i zero a b low e = subst (λ (k : ℕ). AreCutShort (looks t k) a b) (let s : i ≡ 0 = omega arith in s) e
looks_fewer t i (suc n) a b low e = elim (ℕ_discrete i (suc n)) [
  | yes same ↦ subst (λ (k : ℕ). AreCutShort (looks t k) a b) same e
  | no other ↦ short_before (looks t n) (Looks_at n t ∷ []) a b (looks_fewer t i n a b (omega arith) e)
]

pub look_refused : (t i n : ℕ) (f : EventFault) (old mid new : Work) → i < n → AreActs (looks t i) old mid → HasLooked (Err f) i t mid new → AreCutShort (looks t n) old new
look_refused t i n f old mid new low e d =
    looks_fewer t (i + 1) n old new (omega arith) (subst (λ (xs : List Act). AreCutShort xs old new) (looks_next t i) (refused_last (looks t i) (Looks_at i t) old mid new e d))

-- deliveries

pub delivery_more : (j : ℕ) (old mid new : Work) → AreActs (deliveries j) old mid → IsActOf (Delivers_to j) mid new → AreActs (deliveries (j + 1)) old new
delivery_more j old mid new e d =
    subst (λ (xs : List Act). AreActs xs old new) (ap deliveries (let s : suc j ≡ j + 1 = omega arith in s)) (act_last (deliveries j) (Delivers_to j) old mid new e d)

-- a turn: ticks, looks, deliveries; and one that the trail ended at a tick, or at a look

pub turn_acts : (moment t n m : ℕ) (found : Bool) (a b c d : Work) → t ≡ max a.ledger.last moment → n ≡ length a.takes → m ≡ length a.hands
    → (entered : ℕ) × AreActs (ticks t entered) (with_had_refusal a false) b → AreActs (looks t n) b c → AreActs (deliveries m) c d → HasTurnActed (Ok found) moment a d
turn_acts moment t n m found a b c d t_is n_is m_is first second third = (
  first.0,
  subst (λ (x : ℕ). AreActs (ticks x first.0 ++ (looks x (length a.takes) ++ deliveries (length a.hands))) (with_had_refusal a false) d) t_is
      (subst (λ (x : ℕ). AreActs (ticks t first.0 ++ (looks t x ++ deliveries (length a.hands))) (with_had_refusal a false) d) n_is
      (subst (λ (x : ℕ). AreActs (ticks t first.0 ++ (looks t n ++ deliveries x)) (with_had_refusal a false) d) m_is
      (acts_join (ticks t first.0) (looks t n ++ deliveries m) (with_had_refusal a false) b d first.1 (acts_join (looks t n) (deliveries m) b c d second third)))),
)

pub turn_refused : (moment t : ℕ) (f : EventFault) (a b : Work) → t ≡ max a.ledger.last moment → (entered : ℕ) × AreCutShort (ticks t entered) (with_had_refusal a false) b → HasTurnActed {T = Bool} (Err f) moment a b
turn_refused moment t f a b t_is first = (
  first.0,
  short_before (ticks (max a.ledger.last moment) first.0) (looks (max a.ledger.last moment) (length a.takes) ++ deliveries (length a.hands)) (with_had_refusal a false) b
      (subst (λ (x : ℕ). AreCutShort (ticks x first.0) (with_had_refusal a false) b) t_is first.1),
)

pub looks_refused : (moment t n : ℕ) (f : EventFault) (a b c : Work) → t ≡ max a.ledger.last moment → n ≡ length a.takes
    → (entered : ℕ) × AreActs (ticks t entered) (with_had_refusal a false) b → AreCutShort (looks t n) b c → HasTurnActed {T = Bool} (Err f) moment a c
looks_refused moment t n f a b c t_is n_is first second = (
  first.0,
  subst (λ (x : ℕ). AreCutShort (ticks x first.0 ++ (looks x (length a.takes) ++ deliveries (length a.hands))) (with_had_refusal a false) c) t_is
      (subst (λ (x : ℕ). AreCutShort (ticks t first.0 ++ (looks t x ++ deliveries (length a.hands))) (with_had_refusal a false) c) n_is
      (short_join (ticks t first.0) (looks t n ++ deliveries (length a.hands)) (with_had_refusal a false) b c first.1 (short_before (looks t n) (deliveries (length a.hands)) b c second))),
)

-- an act after which the turn goes on, and one at which the trail refused
pub tick_on : (t : ℕ) (f : EventFault) (old mid new : Work) → Ticks t (Err f) old mid → Follows (Err f) mid new → IsActOf (Ticks_at t) old new
tick_on t f old mid new d follows = (Err f, mid, (λ e. absurd (cc)), d, follows)

pub look_on : (i t : ℕ) (f : EventFault) (old mid new : Work) → Takes i t (Err f) old mid → Follows (Err f) mid new → IsActOf (Looks_at i t) old new
look_on i t f old mid new d follows = (Err f, mid, d, follows)

pub tick_refused : (t : ℕ) (f : EventFault) (old new : Work) → f ≡ TrailRefused → Ticks t (Err f) old new → HasTicked (Err f) t old new
tick_refused t f old new is d = subst (λ (z : EventFault). Ticks t (Err z) old new) is d

pub take_refused : (i t : ℕ) (f : EventFault) (old new : Work) → f ≡ TrailRefused → Takes i t (Err f) old new → HasLooked (Err f) i t old new
take_refused i t f old new is d = subst (λ (z : EventFault). Takes i t (Err z) old new) is d

-- after a refusal to try again; a side is due only in a turn that had one
pub follows_wait : (f : EventFault) (mid new : Work) → retry_policy_of f ≡ MeetingIs.Wait → (f ≡ Due → mid.had_refusal ≡ true) → new ≡ with_had_refusal mid true → Follows (Err f) mid new
follows_wait (Behind j) mid new e was n = absurd (cc)
follows_wait NoMemory mid new e was n = n
follows_wait Due mid new e was n = (was refl, n ∙ ap (with_had_refusal mid) (sym (was refl)))
follows_wait TrailRefused mid new e was n = absurd (cc)
follows_wait (Down j) mid new e was n = absurd (cc)
