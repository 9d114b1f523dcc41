-- No queue passes the limit.
use Rattle.std.proofs.Common.{◌≡◌, ◌≢◌, ◌⊎◌, inl, inr, ℕ, zero, suc, ◌+◌, ◌≤◌, ◌<◌, Bool, true, false, List, [], ◌∷◌, ◌++◌, length, map, set, get_or, refl, sym, ap, ◌∙◌, subst, arith, length-append}
use Rattle.std.specs.Prelude.{slice_get, Option, Some, None, not, ◌&&◌, nat_lt, if◌then◌else◌}
use Rattle.std.proofs.lemmas.Bool.Decides.{nat_tests}
use Rattle.fix_dictionary.specs.declared.messages.App.{App}
use Rattle.venue_rules.specs.declared.replies.Reply.{Reply}
use Rattle.venue_rules.specs.Messages.{message}
use Rattle.venue_rules.specs.MoreInputs.{said_to}
use Rattle.venue_rules.specs.Run.{replies_to}
use Rattle.outbound_queue.specs.Owed.{added, most_queued}
use Rattle.outbound_queue.specs.declared.outgoing.Outgoing.{Outgoing}
use Rattle.outbound_queue.specs.declared.queue.Queue.{Queue}
use Rattle.venue_engine.specs.Queued.{AreEmpty, AreFew, AreQueued, AreSameQueues, IsCut, IsPopped, NoneBehind}
use Rattle.venue_engine.specs.Ledger.{Ledger}
use Rattle.venue_engine.specs.Step.{IsFront, with_queue}
use Rattle.venue_engine.proofs.Lists.{at_below, at_set, below_at}

few_numbers : (waiting count : ℕ) → waiting ≤ most_queued → nat_lt 0 count && nat_lt most_queued (waiting + count) ≡ false → waiting + count ≤ most_queued
few_numbers waiting count few none = grind (arith, nat_tests)

long_outgoing : (apps : List App) → length (added false apps) ≡ length apps
long_outgoing [] = refl
long_outgoing (a ∷ more) = ap suc (long_outgoing more)

long_said : (rs : List Reply) → length (map (λ (r : Reply). message r.what) rs) ≡ length rs
long_said [] = refl
long_said (r ∷ rs) = ap suc (long_said rs)

few_added : (cut : Bool) (waiting : List Outgoing) (said : List App) (count : ℕ) → length said ≡ count → not cut && nat_lt 0 count && nat_lt most_queued (length waiting + count) ≡ false → length waiting ≤ most_queued → length (waiting ++ added cut said) ≤ most_queued
few_added true waiting said count long none few = (let l = length-append waiting [] in omega (arith, l, few))
few_added false waiting said count long none few =
    let l = length-append waiting (added false said) in
    let m : length (added false said) ≡ length said = long_outgoing said in
    let n = few_numbers (length waiting) count few none in
    omega (arith, l, m, n, long)

pub few_queued : (replies : List Reply) (old new : List Queue) → NoneBehind replies old → AreQueued replies old new → AreFew old → AreFew new
few_queued replies old new none queued few k n n_at =
    let o = get_or old k n in
    let o_at = at_below old k n (subst (λ (z : ℕ). k < z) queued.0 (below_at new k n n_at)) in
    let q = queued.1 k o n o_at n_at in
    subst (λ (l : List Outgoing). length l ≤ most_queued) (sym q.0)
    (few_added o.is_cut o.waiting.items (said_to k replies) (length (replies_to k replies)) (long_said (replies_to k replies)) (none k o o_at) (few k o o_at))

pub few_same : (old new : List Queue) → AreSameQueues old new → AreFew old → AreFew new
few_same old new same few k n n_at =
    let o = get_or old k n in
    let o_at = at_below old k n (subst (λ (z : ℕ). k < z) same.0 (below_at new k n n_at)) in
    subst (λ (l : List Outgoing). length l ≤ most_queued) (sym (same.1 k o n o_at n_at).0) (few k o o_at)

pub few_set : (qs : List Queue) (j : ℕ) (q' : Queue) → length q'.waiting.items ≤ most_queued → AreFew qs → AreFew (set qs j q')
few_set qs j q' here few k q q_at = go (at_set qs j k q' q q_at)
  where
    go : (((k ≡ j) × (q ≡ q')) ⊎ ((k ≢ j) × (slice_get qs k ≡ Some q))) → length q.waiting.items ≤ most_queued
    go (inl t) = subst (λ (z : Queue). length z.waiting.items ≤ most_queued) (sym t.1) here
    go (inr t) = few k q t.1

pub few_empty : (qs : List Queue) → AreEmpty qs → AreFew qs
few_empty qs empty k q q_at = (let e = ap length (empty k q q_at).0 in omega (arith, e))

pub few_cut : (q q' : Queue) (b : Bool) → IsCut q q' b → length q.waiting.items ≤ most_queued → length q'.waiting.items ≤ most_queued
few_cut q q' true c few = subst (λ (l : List Outgoing). length l ≤ most_queued) (sym c.0) few
few_cut q q' false c few = (let e = ap length c.0 in omega (arith, e))

pub is_cut_by : (q q' : Queue) (b : Bool) → q'.is_cut ≡ true → q'.waiting.items ≡ (if b then q.waiting.items else Outgoing.Cut ∷ []) → IsCut q q' b
is_cut_by q q' true c w = (w, c)
is_cut_by q q' false c w = (w, c)

pub none_waits : {A : Type 0} (xs : List A) → length xs ≡ 0 → xs ≡ []
none_waits [] e = refl
none_waits (x ∷ xs) e = absurd (omega (arith, e))

-- a ledger with one queue replaced
pub front_by : (l : Ledger) (j : ℕ) (q q' : Queue) (front : Option Outgoing) → slice_get l.queues j ≡ Some q → length q.waiting.items ≤ most_queued → IsPopped q q' front → IsFront j l (with_queue l j q') front
front_by l j q q' None q_at few p = (q, q', q_at, refl, p.0, p.1, p.2)
front_by l j q q' (Some x) q_at few p = (q, q', q_at, refl, p.0, p.1, (p.2, (let e = ap length p.0 in omega (arith, e, few))))

pub few_popped : (q q' : Queue) (front : Option Outgoing) → IsPopped q q' front → length q.waiting.items ≤ most_queued → length q'.waiting.items ≤ most_queued
few_popped q q' None p few = (let e = ap length p.1 in omega (arith, e))
few_popped q q' (Some x) p few = (let e = ap length p.0 in omega (arith, e, few))

at_snoc : {A : Type 0} (xs : List A) (a x : A) (k : ℕ) → slice_get (xs ++ a ∷ []) k ≡ Some x → (slice_get xs k ≡ Some x) ⊎ ((k ≡ length xs) × (x ≡ a))
at_snoc [] a x zero e = let same : x ≡ a = cc in inr (refl, same)
at_snoc [] a x (suc k) e = absurd (cc)
at_snoc (y ∷ ys) a x zero e = inl e
at_snoc (y ∷ ys) a x (suc k) e = go (at_snoc ys a x k e)
  where
    go : ((slice_get ys k ≡ Some x) ⊎ ((k ≡ length ys) × (x ≡ a))) → (slice_get ys k ≡ Some x) ⊎ ((suc k ≡ suc (length ys)) × (x ≡ a))
    go (inl t) = inl t
    go (inr t) = inr (ap suc t.0, t.1)

pub empty_more : (qs qs' : List Queue) (q : Queue) (i : ℕ) → length qs ≡ i → qs' ≡ qs ++ q ∷ [] → (q.waiting.items ≡ []) × (q.is_cut ≡ false) → AreEmpty qs → (length qs' ≡ i + 1) × AreEmpty qs'
empty_more qs qs' q i long now here all = (ap length now ∙ length-append qs (q ∷ []) ∙ (let l = long in omega arith), λ k x e. go k x (at_snoc qs q x k (ap (λ z. slice_get z k) (sym now) ∙ e)))
  where
    go : (k : ℕ) (x : Queue) → ((slice_get qs k ≡ Some x) ⊎ ((k ≡ length qs) × (x ≡ q))) → (x.waiting.items ≡ []) × (x.is_cut ≡ false)
    go k x (inl t) = all k x t
    go k x (inr t) = subst (λ (z : Queue). (z.waiting.items ≡ []) × (z.is_cut ≡ false)) (sym t.1) here

pub few_put : (q q' : Queue) (x : Outgoing) → q'.waiting.items ≡ x ∷ q.waiting.items → length q.waiting.items < most_queued → length q'.waiting.items ≤ most_queued
few_put q q' x e low = (let n = ap length e in omega (arith, n, low))
