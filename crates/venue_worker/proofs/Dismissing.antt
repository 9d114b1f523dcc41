-- Participants drained, one after another.
use Rattle.std.proofs.Common.{◌≡◌, ◌≢◌, ◌⊎◌, inl, inr, ℕ, zero, suc, ◌+◌, ◌≤◌, ◌<◌, Bool, true, false, List, [], ◌∷◌, ◌++◌, length, set, get_or, ◌-◌, refl, sym, ap, ◌∙◌, subst, arith, append_assoc, append-nil, length-append, length-set}
use Rattle.std.specs.Prelude.{◌||◌, ◌&&◌, if◌then◌else◌, nat_le, slice_get, Some}
use Rattle.std.specs.VecDeque.{deque_len}
use Rattle.std.proofs.lemmas.Bool.{false≢true}
use Rattle.std.proofs.lemmas.Bool.Decides.{nat_tests}
use Rattle.intake_seats.specs.Given.{HandEnd}
use Rattle.outbound_queue.specs.declared.outgoing.Outgoing.{Outgoing}
use Rattle.outbound_queue.specs.declared.queue.Queue.{Queue}
use Rattle.venue_worker.specs.Work.{Work}
use Rattle.venue_engine.specs.Queued.{IsCut}
use Rattle.venue_worker.specs.Calls.{IsDelivery, Delivers, DeliversUpTo, Cuts, IsSameElse, with_session, with_sessions}
use Rattle.venue_worker.specs.Turns.{IsServed, AreServed}
use Rattle.venue_worker.specs.Shutdown.{AreCutAfter, AreDrained, AreGiven, AreGivenNothing, AreLookedAt, AreRounds, AreServedUpTo, CutsWhere, Gives, HasShutDown, HasWaited, IsDrained, IsOneGiven, IsRound, IsSeenOff, SeesOff, are_shut_down, cut_token, is_cut_after, is_idle, is_over}
use Rattle.venue_worker.proofs.Lists.{at_set, at_below, below_at, get_set, other_set, some_at}
use Rattle.venue_worker.proofs.Turning.{looks_grow, served_by}

-- sentinels

no_cut_token : (b : Bool) → cut_token b b ≡ []
no_cut_token true = refl
no_cut_token false = refl

tokens_then : (a b c : Bool) → (a ≡ true → b ≡ true) → (b ≡ true → c ≡ true) → cut_token a b ++ cut_token b c ≡ cut_token a c
tokens_then true true true s t = refl
tokens_then true true false s t = absurd (false≢true (t refl))
tokens_then true false c s t = absurd (false≢true (s refl))
tokens_then false true true s t = refl
tokens_then false true false s t = absurd (false≢true (t refl))
tokens_then false false true s t = refl
tokens_then false false false s t = refl

-- nothing is added where a queue is cut no more than before
without_cuts : (w : List Outgoing) (b b' : Bool) → b' ≡ b → w ++ cut_token b b' ≡ w
without_cuts w b b' same = ap (λ z. w ++ cut_token b z) same ∙ ap (λ z. w ++ z) (no_cut_token b) ∙ append-nil w

-- one participant

seen_none : (q : Queue) (h : HandEnd Outgoing) → IsSeenOff q q h h
seen_none q h = record { next = []; given = sym (append-nil h.given); waiting = sym (without_cuts q.waiting.items q.is_cut q.is_cut refl); still = λ c. c }

pub seen_then : (q q' q'' : Queue) (h h' h'' : HandEnd Outgoing) → IsSeenOff q q' h h' → IsSeenOff q' q'' h' h'' → IsSeenOff q q'' h h''
seen_then q q' q'' h h' h'' s t = record {
  next = s.next ++ t.next;
  given = t.given ∙ ap (λ z. z ++ t.next) s.given ∙ append_assoc h.given s.next t.next;
  waiting = append_assoc s.next t.next q''.waiting.items ∙ ap (λ z. s.next ++ z) t.waiting ∙ sym (append_assoc s.next q'.waiting.items (cut_token q'.is_cut q''.is_cut))
      ∙ ap (λ z. z ++ cut_token q'.is_cut q''.is_cut) s.waiting ∙ append_assoc q.waiting.items (cut_token q.is_cut q'.is_cut) (cut_token q'.is_cut q''.is_cut)
      ∙ ap (λ z. q.waiting.items ++ z) (tokens_then q.is_cut q'.is_cut q''.is_cut s.still t.still);
  still = λ c. t.still (s.still c);
}

delivery_sees : (q q' : Queue) (h h' : HandEnd Outgoing) (moved : Bool) → q'.is_cut ≡ q.is_cut → IsDelivery q h q' h' moved → IsSeenOff q q' h h'
delivery_sees q q' h h' true same d = record { next = d.0 ∷ []; given = d.2; waiting = sym d.1 ∙ sym (without_cuts q.waiting.items q.is_cut q'.is_cut same); still = λ c. same ∙ c }
delivery_sees q q' h h' false same d = record { next = []; given = d.1 ∙ sym (append-nil h.given); waiting = d.0 ∙ sym (without_cuts q.waiting.items q.is_cut q'.is_cut same); still = λ c. same ∙ c }

-- a cut of a queue in which nothing waits
pub cut_tokens : (q q' : Queue) (b : Bool) → q.waiting.items ≡ [] → q.is_cut ≡ b → IsCut q q' b → (q'.waiting.items ≡ q.waiting.items ++ cut_token q.is_cut q'.is_cut) × (q.is_cut ≡ true → q'.is_cut ≡ true)
cut_tokens q q' true none was c = (c.0 ∙ sym (without_cuts q.waiting.items q.is_cut q'.is_cut (c.1 ∙ sym was)), λ z. c.1)
cut_tokens q q' false none was c = (c.0 ∙ (λ i. sym none i ++ cut_token (sym was i) (sym c.1 i)), λ z. c.1)

-- a worker whose participant is one of these

set_twice : {A : Type 0} (xs : List A) (j : ℕ) (a b : A) → set (set xs j a) j b ≡ set xs j b
set_twice [] j a b = refl
set_twice (x ∷ xs) zero a b = refl
set_twice (x ∷ xs) (suc j) a b = ap (λ z. x ∷ z) (set_twice xs j a b)

pub none_at : {A : Type 0} (xs : List A) → length xs ≡ 0 → xs ≡ []
none_at [] long = refl
none_at (x ∷ xs) long = absurd (omega arith)

at_itself : {A : Type 0} (xs : List A) (j : ℕ) (a x : A) → slice_get (set xs j a) j ≡ Some x → x ≡ a
at_itself xs j a x e = go (at_set xs j j a x e)
  where
    go : (((j ≡ j) × (x ≡ a)) ⊎ ((j ≢ j) × (slice_get xs j ≡ Some x))) → x ≡ a
    go (inl t) = t.1
    go (inr t) = absurd (t.0 refl)

set_same : {A : Type 0} (xs : List A) (j : ℕ) (a : A) → slice_get xs j ≡ Some a → set xs j a ≡ xs
set_same [] j a at = refl
set_same (x ∷ xs) zero a at = (let same : a ≡ x = cc in ap (λ z. z ∷ xs) same)
set_same (x ∷ xs) (suc j) a at = ap (λ z. x ∷ z) (set_same xs j a at)

-- cuts

or_false : (b : Bool) → (b || false) ≡ b
or_false true = refl
or_false false = refl

or_true : (b : Bool) → (b || true) ≡ true
or_true true = refl
or_true false = refl

and_right : (a b : Bool) → (a && b) ≡ true → b ≡ true
and_right true b e = e
and_right false b e = absurd (false≢true e)

is_cut_now : (q q' : Queue) (b : Bool) → IsCut q q' b → q'.is_cut ≡ true
is_cut_now q q' true c = c.1
is_cut_now q q' false c = c.1

none_waits : (q : Queue) → is_idle q ≡ true → q.waiting.items ≡ []
none_waits q idle =
    let empty : deque_len q.waiting ≡ 0 = grind (arith, nat_tests, idle) in
    let long = q.waiting.ok.0 in
    none_at q.waiting.items (omega (arith, long, empty))

pub not_cut : (w : Work) (j : ℕ) (may_cut : Bool) → length w.ledger.queues ≡ length w.hands → j < length w.hands → ((q : Queue) → slice_get w.ledger.queues j ≡ Some q → (may_cut && is_idle q) ≡ false) → CutsWhere may_cut w w j
not_cut w j may_cut long low busy =
    let q = some_at w.ledger.queues j (omega (arith, low, long)) in (
      (q.0, q.0, q.1, ap (λ (z : List Queue). record w { ledger = record w.ledger { queues = z } }) (sym (set_same w.ledger.queues j q.0 q.1)), sym (without_cuts q.0.waiting.items q.0.is_cut q.0.is_cut refl), λ c. c),
      sym (ap (λ (b : Bool). q.0.is_cut || b) (busy q.0 q.1) ∙ or_false q.0.is_cut),
    )

pub cut_served : (old new : Work) (j : ℕ) (may_cut : Bool) → ((q : Queue) → slice_get old.ledger.queues j ≡ Some q → (may_cut && is_idle q) ≡ true) → Cuts old new j → CutsWhere may_cut old new j
cut_served old new j may_cut idle c =
    let m = cut_tokens c.0 c.1 c.0.is_cut (none_waits c.0 (and_right may_cut (is_idle c.0) (idle c.0 c.2))) refl c.4 in
    ((c.0, c.1, c.2, c.3, m.0, m.1), is_cut_now c.0 c.1 c.0.is_cut c.4 ∙ sym (ap (λ (b : Bool). c.0.is_cut || b) (idle c.0 c.2) ∙ or_true c.0.is_cut))

gives_of : (q q' : Queue) (h h' : HandEnd Outgoing) (moved : Bool) → IsDelivery q h q' h' moved → Gives moved h h'
gives_of q q' h h' true d = (d.0, d.2)
gives_of q q' h h' false d = d.1

pub drains_then : (old mid new : Work) (j : ℕ) (may_cut moved : Bool) → CutsWhere may_cut old mid j → Delivers mid new j moved → IsDrained j may_cut moved old new
drains_then old mid new j may_cut moved w d = record {
  sees = record {
    was = w.0.0;
    had = d.1;
    is = d.2;
    has = d.3;
    queue = w.0.2;
    hand = ap (λ (w : Work). slice_get w.hands j) (sym w.0.3) ∙ d.5;
    other = d.6 ∙ ap (λ (w : Work). with_session w j d.2 d.3) w.0.3 ∙ ap (λ (z : List Queue). record old { ledger = record old.ledger { queues = z }; hands = set old.hands j d.3 }) (set_twice old.ledger.queues j w.0.1 d.2);
    seen = seen_then w.0.0 w.0.1 d.2 d.1 d.1 d.3
        (record { next = []; given = sym (append-nil d.1.given); waiting = w.0.4; still = w.0.5 })
        (subst (λ (z : Queue). IsSeenOff z d.2 d.1 d.3) here (delivery_sees d.0 d.2 d.1 d.3 moved d.7.0 d.8));
    looks = looks_grow d.0 d.2 d.1 d.3 moved d.8;
    served = served_by d.0 d.2 d.1 d.3 moved d.8;
  };
  cut = d.7.0 ∙ ap (λ (z : Queue). z.is_cut) here ∙ w.1;
  gives = gives_of d.0 d.2 d.1 d.3 moved d.8;
}
  where
    here : d.0 ≡ w.0.1
    here = at_itself old.ledger.queues j w.0.1 d.0 (ap (λ (w : Work). slice_get w.ledger.queues j) (sym w.0.3) ∙ d.4)

-- all participants

pub same_then : (a b c : Work) → IsSameElse a b → IsSameElse b c → IsSameElse a c
same_then a b c e f = (f.0 ∙ ap (λ (w : Work). with_sessions w c.ledger.queues c.hands) e.0, f.1 ∙ e.1, f.2 ∙ e.2)

pub sees_same : (j : ℕ) (old new : Work) → SeesOff j old new → IsSameElse old new
sees_same j old new s = subst (IsSameElse old) (sym s.other) (refl, length-set old.ledger.queues j s.is, length-set old.hands j s.has)

pub all_seen : (w : Work) → AreDrained w w
all_seen w j q q' h h' q_at q'_at h_at h'_at =
    let same_q : q ≡ q' = cc in
    let same_h : h ≡ h' = cc in
    subst (λ (z : Queue). IsSeenOff q z h h') same_q (subst (λ (z : HandEnd Outgoing). IsSeenOff q q h z) same_h (seen_none q h))

pub all_seen_then : (a b c : Work) → IsSameElse a b → AreDrained a b → AreDrained b c → AreDrained a c
all_seen_then a b c e s t j q q'' h h'' q_at q''_at h_at h''_at =
    let mid = get_or b.ledger.queues j q in
    let mid_at = at_below b.ledger.queues j q (subst (λ n. j < n) (sym e.1) (below_at a.ledger.queues j q q_at)) in
    let hand = get_or b.hands j h in
    let hand_at = at_below b.hands j h (subst (λ n. j < n) (sym e.2) (below_at a.hands j h h_at)) in
    seen_then q mid q'' h hand h'' (s j q mid h hand q_at mid_at h_at hand_at) (t j mid q'' hand h'' mid_at q''_at hand_at h''_at)

-- the element at a participant's place once one was drained
queue_seen : (j : ℕ) (old new : Work) (s : SeesOff j old new) (k : ℕ) (q' : Queue) → slice_get new.ledger.queues k ≡ Some q' → ((k ≡ j) × (q' ≡ s.is)) ⊎ ((k ≢ j) × (slice_get old.ledger.queues k ≡ Some q'))
queue_seen j old new s k q' at = at_set old.ledger.queues j k s.is q' (ap (λ (w : Work). slice_get w.ledger.queues k) (sym s.other) ∙ at)

hand_seen : (j : ℕ) (old new : Work) (s : SeesOff j old new) (k : ℕ) (h' : HandEnd Outgoing) → slice_get new.hands k ≡ Some h' → ((k ≡ j) × (h' ≡ s.has)) ⊎ ((k ≢ j) × (slice_get old.hands k ≡ Some h'))
hand_seen j old new s k h' at = at_set old.hands j k s.has h' (ap (λ (w : Work). slice_get w.hands k) (sym s.other) ∙ at)

pub sees_all : (j : ℕ) (old new : Work) → SeesOff j old new → AreDrained old new
sees_all j old new s k q q' h h' q_at q'_at h_at h'_at = go (queue_seen j old new s k q' q'_at) (hand_seen j old new s k h' h'_at)
  where
    go : (((k ≡ j) × (q' ≡ s.is)) ⊎ ((k ≢ j) × (slice_get old.ledger.queues k ≡ Some q'))) → (((k ≡ j) × (h' ≡ s.has)) ⊎ ((k ≢ j) × (slice_get old.hands k ≡ Some h'))) → IsSeenOff q q' h h'
    go (inl a) (inl b) =
        let same_q : s.was ≡ q = (let x = ap (slice_get old.ledger.queues) (sym a.0) ∙ q_at in let y = s.queue in cc) in
        let same_h : s.had ≡ h = (let x = ap (slice_get old.hands) (sym a.0) ∙ h_at in let y = s.hand in cc) in
        subst (λ (z : Queue). IsSeenOff q z h h') (sym a.1) (subst (λ (z : HandEnd Outgoing). IsSeenOff q s.is h z) (sym b.1)
        (subst (λ (z : Queue). IsSeenOff z s.is h s.has) same_q (subst (λ (z : HandEnd Outgoing). IsSeenOff s.was s.is z s.has) same_h s.seen)))
    go (inl a) (inr b) = absurd (b.0 a.0)
    go (inr a) (inl b) = absurd (a.0 b.0)
    go (inr a) (inr b) = all_seen old k q q' h h' q_at a.1 h_at b.1

pub looked_none : (w : Work) → AreLookedAt w w
looked_none w k h h' h_at h'_at = let same : h ≡ h' = cc in let l = ap (λ (z : HandEnd Outgoing). z.looks) same in omega arith

pub looked_more : (j : ℕ) (a b c : Work) → AreLookedAt a b → SeesOff j b c → AreLookedAt a c
looked_more j a b c l s k h h' h_at h'_at = go (hand_seen j b c s k h' h'_at)
  where
    go : (((k ≡ j) × (h' ≡ s.has)) ⊎ ((k ≢ j) × (slice_get b.hands k ≡ Some h'))) → h.looks ≤ h'.looks
    go (inl x) =
        let before = l j h s.had (ap (slice_get a.hands) (sym x.0) ∙ h_at) s.hand in
        let after = s.looks in
        let same = ap (λ (z : HandEnd Outgoing). z.looks) x.1 in
        omega (arith, before, after, same)
    go (inr x) = l k h h' h_at x.1

pub looked_then : (a b c : Work) → IsSameElse a b → AreLookedAt a b → AreLookedAt b c → AreLookedAt a c
looked_then a b c e l m k h h'' h_at h''_at =
    let hand = get_or b.hands k h in
    let hand_at = at_below b.hands k h (subst (λ n. k < n) (sym e.2) (below_at a.hands k h h_at)) in
    let x = l k h hand h_at hand_at in
    let y = m k hand h'' hand_at h''_at in
    omega (arith, x, y)

served_later : (q : Queue) (h h' h'' : HandEnd Outgoing) → h.looks ≤ h'.looks → IsServed q h' h'' → IsServed q h h''
served_later q h h' h'' low s = record { looked = (let x = s.looked in omega arith); found = s.found }

pub served_none : (w : Work) → AreServedUpTo 0 w w
served_none w k q' h h' low = absurd (omega arith)

pub served_more : (n : ℕ) (a b c : Work) → AreLookedAt a b → AreServedUpTo n a b → SeesOff n b c → AreServedUpTo (n + 1) a c
served_more n a b c l so_far s k q' h h' low q'_at h_at h'_at some = go (queue_seen n b c s k q' q'_at) (hand_seen n b c s k h' h'_at)
  where
    go : (((k ≡ n) × (q' ≡ s.is)) ⊎ ((k ≢ n) × (slice_get b.ledger.queues k ≡ Some q'))) → (((k ≡ n) × (h' ≡ s.has)) ⊎ ((k ≢ n) × (slice_get b.hands k ≡ Some h'))) → IsServed q' h h'
    go (inl x) (inl y) =
        let before = l n h s.had (ap (slice_get a.hands) (sym x.0) ∙ h_at) s.hand in
        subst (λ (z : Queue). IsServed z h h') (sym x.1) (subst (λ (z : HandEnd Outgoing). IsServed s.is h z) (sym y.1)
        (served_later s.is h s.had s.has before (s.served (λ none. some (ap (λ (z : Queue). z.waiting.items) x.1 ∙ none)))))
    go (inl x) (inr y) = absurd (y.0 x.0)
    go (inr x) (inl y) = absurd (x.0 y.0)
    go (inr x) (inr y) = so_far k q' h h' (let ne = x.0 in omega arith) x.1 h_at y.1 some

pub served_all : (n : ℕ) (a c : Work) → length a.hands ≤ n → AreServedUpTo n a c → AreServed a c
served_all n a c all s k q' h h' q'_at h_at h'_at = s k q' h h' (let low = below_at a.hands k h h_at in omega (arith, low, all)) q'_at h_at h'_at

pub served_then : (a b c : Work) → IsSameElse a b → AreLookedAt a b → AreServed b c → AreServed a c
served_then a b c e l s k q' h h'' q'_at h_at h''_at some =
    let hand = get_or b.hands k h in
    let hand_at = at_below b.hands k h (subst (λ n. k < n) (sym e.2) (below_at a.hands k h h_at)) in
    served_later q' h hand h'' (l k h hand h_at hand_at) (s k q' hand h'' q'_at hand_at h''_at some)

-- a round so far: who of the participants before the n-th was cut, and whether one of them was handed a message
pub record IsRoundTo (n : ℕ) (may_cut moved : Bool) (old new : Work) : Type 0 where
  pub cuts : AreCutAfter n may_cut old new
  pub gives : AreGiven n moved old new
  pub queues : (k : ℕ) → n ≤ k → slice_get new.ledger.queues k ≡ slice_get old.ledger.queues k
  pub hands : (k : ℕ) → n ≤ k → slice_get new.hands k ≡ slice_get old.hands k

pub given_none : (w : Work) → AreGivenNothing w w
given_none w k h h' h_at h'_at = (let same : h' ≡ h = cc in ap (λ (z : HandEnd Outgoing). z.given) same)

pub round_begins : (may_cut : Bool) (w : Work) → IsRoundTo 0 may_cut false w w
round_begins may_cut w = record {
  cuts = λ k q q' low q_at q'_at. absurd (omega (arith, low));
  gives = given_none w;
  queues = λ k high. refl;
  hands = λ k high. refl;
}

other_queues : (n : ℕ) (b c : Work) (s : SeesOff n b c) (k : ℕ) → k ≢ n → slice_get c.ledger.queues k ≡ slice_get b.ledger.queues k
other_queues n b c s k ne = ap (λ (w : Work). slice_get w.ledger.queues k) s.other ∙ other_set b.ledger.queues n k s.is ne

other_hands : (n : ℕ) (b c : Work) (s : SeesOff n b c) (k : ℕ) → k ≢ n → slice_get c.hands k ≡ slice_get b.hands k
other_hands n b c s k ne = ap (λ (w : Work). slice_get w.hands k) s.other ∙ other_set b.hands n k s.has ne

one_later : (n : ℕ) (a b c : Work) → IsOneGiven n a b → SeesOff n b c → IsOneGiven (n + 1) a c
one_later n a b c o s = record {
  k = o.k;
  low = (let l = o.low in omega (arith, l));
  had = o.had;
  has = o.has;
  was = o.was;
  is = other_hands n b c s o.k (λ e. (let l = o.low in omega (arith, l, e))) ∙ o.is;
  gives = o.gives;
}

one_now : (n : ℕ) (a b c : Work) → slice_get b.hands n ≡ slice_get a.hands n → (s : SeesOff n b c) → Gives true s.had s.has → IsOneGiven (n + 1) a c
one_now n a b c same s gives = record {
  k = n;
  low = omega arith;
  had = s.had;
  has = s.has;
  was = sym same ∙ s.hand;
  is = ap (λ (w : Work). slice_get w.hands n) s.other ∙ get_set b.hands n s.has (below_at b.hands n s.had s.hand);
  gives = gives;
}

nothing_more : (n : ℕ) (a b c : Work) → AreGivenNothing a b → (s : SeesOff n b c) → Gives false s.had s.has → AreGivenNothing a c
nothing_more n a b c none s same k h h' h_at h'_at = go (hand_seen n b c s k h' h'_at)
  where
    go : (((k ≡ n) × (h' ≡ s.has)) ⊎ ((k ≢ n) × (slice_get b.hands k ≡ Some h'))) → h'.given ≡ h.given
    go (inl x) = ap (λ (z : HandEnd Outgoing). z.given) x.1 ∙ same ∙ none n h s.had (ap (slice_get a.hands) (sym x.0) ∙ h_at) s.hand
    go (inr x) = none k h h' h_at x.1

gives_more : (n : ℕ) (so_far moved : Bool) (a b c : Work) → slice_get b.hands n ≡ slice_get a.hands n → AreGiven n so_far a b → (s : SeesOff n b c) → Gives moved s.had s.has → AreGiven (n + 1) (so_far || moved) a c
gives_more n true moved a b c same given s gives = one_later n a b c given s
gives_more n false true a b c same given s gives = one_now n a b c same s gives
gives_more n false false a b c same given s gives = nothing_more n a b c given s gives

-- the same of deliveries alone
abbrev delivery_sees_off : (old new : Work) (j : ℕ) (moved : Bool) → Delivers old new j moved → SeesOff j old new
delivery_sees_off old new j moved d = record {
  was = d.0;
  had = d.1;
  is = d.2;
  has = d.3;
  queue = d.4;
  hand = d.5;
  other = d.6;
  seen = delivery_sees d.0 d.2 d.1 d.3 moved d.7.0 d.8;
  looks = looks_grow d.0 d.2 d.1 d.3 moved d.8;
  served = served_by d.0 d.2 d.1 d.3 moved d.8;
}

pub given_more : (n : ℕ) (so_far moved : Bool) (a b c : Work) → DeliversUpTo n a b → AreGiven n so_far a b → Delivers b c n moved → AreGiven (n + 1) (so_far || moved) a c
given_more n so_far moved a b c up given d = gives_more n so_far moved a b c (up.5 n (omega arith)) given (delivery_sees_off b c n moved d) (gives_of d.0 d.2 d.1 d.3 moved d.8)

cuts_more : (n : ℕ) (may_cut moved : Bool) (a b c : Work) → slice_get b.ledger.queues n ≡ slice_get a.ledger.queues n → AreCutAfter n may_cut a b → IsDrained n may_cut moved b c → AreCutAfter (n + 1) may_cut a c
cuts_more n may_cut moved a b c same cuts d k q q' low q_at q'_at = go (queue_seen n b c d.sees k q' q'_at)
  where
    go : (((k ≡ n) × (q' ≡ d.sees.is)) ⊎ ((k ≢ n) × (slice_get b.ledger.queues k ≡ Some q'))) → q'.is_cut ≡ is_cut_after may_cut q
    go (inl x) =
        let was : d.sees.was ≡ q = (let y = sym d.sees.queue ∙ same ∙ ap (slice_get a.ledger.queues) (sym x.0) ∙ q_at in cc) in
        ap (λ (z : Queue). z.is_cut) x.1 ∙ d.cut ∙ ap (λ (z : Queue). is_cut_after may_cut z) was
    go (inr x) = cuts k q q' (let ne = x.0 in omega (arith, low, ne)) q_at x.1

pub round_more : (n : ℕ) (may_cut so_far moved : Bool) (a b c : Work) → IsRoundTo n may_cut so_far a b → IsDrained n may_cut moved b c → IsRoundTo (n + 1) may_cut (so_far || moved) a c
round_more n may_cut so_far moved a b c r d = record {
  cuts = cuts_more n may_cut moved a b c (r.queues n (omega arith)) r.cuts d;
  gives = gives_more n so_far moved a b c (r.hands n (omega arith)) r.gives d.sees d.gives;
  queues = λ k high. other_queues n b c d.sees k (λ e. omega (arith, high, e)) ∙ r.queues k (omega (arith, high));
  hands = λ k high. other_hands n b c d.sees k (λ e. omega (arith, high, e)) ∙ r.hands k (omega (arith, high));
}

pub round_done : (n : ℕ) (may_cut moved : Bool) (old new : Work) → n ≡ length old.hands → IsSameElse old new → AreDrained old new → AreLookedAt old new → AreServed old new → IsRoundTo n may_cut moved old new → IsRound may_cut moved old new
round_done n may_cut moved old new all only seen_off looked served r = record {
  only = only;
  seen_off = seen_off;
  looked = looked;
  served = served;
  cuts = subst (λ (z : ℕ). AreCutAfter z may_cut old new) all r.cuts;
  gives = subst (λ (z : ℕ). AreGiven z moved old new) all r.gives;
}

-- the last of these moments, or the first one where there is none
abbrev last_of : ℕ → List ℕ → ℕ
last_of first [] = first
last_of first (moment ∷ moments) = last_of moment moments

last_of_more : (first : ℕ) (moments : List ℕ) (moment : ℕ) → last_of first (moments ++ moment ∷ []) ≡ moment
last_of_more first [] moment = refl
last_of_more first (m ∷ moments) moment = last_of_more m moments moment

some_moment : (m : ℕ) (moments : List ℕ) → m ∷ moments ≢ []
some_moment m moments e = cc

-- after rounds at these moments it is not over
abbrev AreOn : ℕ → ℕ → List ℕ → Work → Type 0
AreOn since first moments w = moments ≢ [] → is_over (last_of first moments - since) w ≡ false

-- the rounds so far, with the moment of the last progress
pub record HasRounded (n since : ℕ) (answered answered' : List ℕ) (old new : Work) : Type 0 where
  pub first : ℕ
  pub moments : List ℕ
  pub clock : answered' ≡ answered ++ first ∷ moments
  pub count : length moments ≡ n
  pub rounded : AreRounds first moments since old new
  pub on : AreOn since first moments new

pub rounds_begin : (since : ℕ) (answered answered' : List ℕ) (w : Work) → answered' ≡ answered ++ since ∷ [] → HasRounded 0 since answered answered' w w
rounds_begin since answered answered' w is = record { first = since; moments = []; clock = is; count = refl; rounded = (refl, refl); on = λ some. absurd (some refl) }

rounds_more : (first : ℕ) (moments : List ℕ) (since moment : ℕ) (moved : Bool) (old mid new : Work) → AreRounds first moments since old mid → AreOn since first moments mid → IsRound (nat_le 500 (moment - since)) moved mid new
    → AreRounds first (moments ++ moment ∷ []) (if moved then moment else since) old new
rounds_more first [] since moment moved old mid new are on round = (
  moved,
  new,
  subst (λ (z : ℕ). IsRound (nat_le 500 (moment - z)) moved old new) are.0 (subst (λ (w : Work). IsRound (nat_le 500 (moment - since)) moved w new) are.1 round),
  (λ some. absurd (some refl)),
  (ap (λ (z : ℕ). if moved then moment else z) are.0, refl),
)
rounds_more first (m ∷ []) since moment moved old mid new are on round = (
  are.0,
  are.1,
  are.2,
  (λ _. subst (λ (w : Work). is_over (m - (if are.0 then m else first)) w ≡ false) are.4.1 (subst (λ (z : ℕ). is_over (m - z) mid ≡ false) are.4.0 (on (some_moment m [])))),
  rounds_more (if are.0 then m else first) [] since moment moved are.1 mid new are.4 (λ some. absurd (some refl)) round,
)
rounds_more first (m ∷ m' ∷ moments) since moment moved old mid new are on round =
    (are.0, are.1, are.2, (λ _. are.3 (some_moment m' moments)), rounds_more (if are.0 then m else first) (m' ∷ moments) since moment moved are.1 mid new are.4 (λ _. on (some_moment m (m' ∷ moments))) round)

-- a round more, at the clock's next answer
abbrev IsAnswered : ℕ → List ℕ → List ℕ → Type 0
IsAnswered moment mid answered' = answered' ≡ mid ++ moment ∷ []

clock_more : (first moment : ℕ) (moments answered mid answered' : List ℕ) → mid ≡ answered ++ first ∷ moments → IsAnswered moment mid answered' → answered' ≡ answered ++ first ∷ (moments ++ moment ∷ [])
clock_more first moment moments answered mid answered' so_far is = is ∙ ap (λ (l : List ℕ). l ++ moment ∷ []) so_far ∙ append_assoc answered (first ∷ moments) (moment ∷ [])

pub record HasNext (since since' moment idle : ℕ) (moved : Bool) (mid answered' : List ℕ) (w new : Work) : Type 0 where
  pub clock : IsAnswered moment mid answered'
  pub idle_is : idle ≡ moment - since
  pub round : IsRound (nat_le 500 idle) moved w new
  pub since_is : since' ≡ (if moved then moment else since)

next_round : (first : ℕ) (moments : List ℕ) (since since' moment idle : ℕ) (moved : Bool) (mid answered' : List ℕ) (old w new : Work) → AreRounds first moments since old w → AreOn since first moments w → HasNext since since' moment idle moved mid answered' w new
    → AreRounds first (moments ++ moment ∷ []) since' old new
next_round first moments since since' moment idle moved mid answered' old w new are on next =
    subst (λ (z : ℕ). AreRounds first (moments ++ moment ∷ []) z old new) (sym next.since_is)
    (rounds_more first moments since moment moved old w new are on (subst (λ (z : ℕ). IsRound (nat_le 500 z) moved w new) next.idle_is next.round))

pub rounds_next : (n since since' moment idle : ℕ) (moved : Bool) (answered mid answered' : List ℕ) (old w new : Work) → HasRounded n since answered mid old w → HasNext since since' moment idle moved mid answered' w new → is_over (moment - since') new ≡ false → HasRounded (n + 1) since' answered answered' old new
rounds_next n since since' moment idle moved answered mid answered' old w new h next on = record {
  first = h.first;
  moments = h.moments ++ moment ∷ [];
  clock = clock_more h.first moment h.moments answered mid answered' h.clock next.clock;
  count = length-append h.moments (moment ∷ []) ∙ ap (λ (k : ℕ). k + 1) h.count;
  rounded = next_round h.first h.moments since since' moment idle moved mid answered' old w new h.rounded h.on next;
  on = λ _. subst (λ (z : ℕ). is_over (z - since') new ≡ false) (sym (last_of_more h.first h.moments moment)) on;
}

-- the rounds end early
pub rounds_end : (n rounds since since' moment idle quiet : ℕ) (moved : Bool) (answered mid answered' : List ℕ) (old w new : Work) → HasRounded n since answered mid old w → HasNext since since' moment idle moved mid answered' w new
    → quiet ≡ moment - since' → is_over quiet new ≡ true → HasShutDown rounds answered answered' old new
rounds_end n rounds since since' moment idle quiet moved answered mid answered' old w new h next quiet_is over = record {
  first = h.first;
  moments = h.moments ++ moment ∷ [];
  clock = clock_more h.first moment h.moments answered mid answered' h.clock next.clock;
  since = since';
  rounded = next_round h.first h.moments since since' moment idle moved mid answered' old w new h.rounded h.on next;
  count = inr (why (nat_le 30000 quiet) refl over);
}
  where
    why : (long : Bool) → nat_le 30000 quiet ≡ long → (long || are_shut_down new.ledger.queues) ≡ true → (are_shut_down new.ledger.queues ≡ true) ⊎ HasWaited since' (h.moments ++ moment ∷ [])
    why false long or = inl or
    why true long or =
        let far : 30000 ≤ quiet = grind (arith, nat_tests, long) in
        inr (moment, h.moments, refl, omega (arith, far, quiet_is))

pub rounds_done : (n rounds since : ℕ) (answered answered' : List ℕ) (old new : Work) → n ≡ rounds → HasRounded n since answered answered' old new → HasShutDown rounds answered answered' old new
rounds_done n rounds since answered answered' old new all h = record { first = h.first; moments = h.moments; clock = h.clock; since = since; rounded = h.rounded; count = inl (h.count ∙ all) }
