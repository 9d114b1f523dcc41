-- Queueing one after another, and the first behind, at each place.
use Rattle.std.proofs.Common.{◌≡◌, ◌≢◌, ℕ, zero, suc, ◌+◌, ◌<◌, Bool, true, false, List, [], ◌∷◌, ◌++◌, length, refl, sym, ap, ◌∙◌, subst, arith, Option, Some, None, append-nil, append_assoc}
use Rattle.std.specs.Prelude.{◌==◌, slice_get, if◌then◌else◌}
use Rattle.std.proofs.lemmas.Bool.Decides.{nat_tests}
use Rattle.std.proofs.lemmas.List.{map-append}
use Rattle.fix_dictionary.specs.declared.messages.App.{App}
use Rattle.venue_rules.specs.declared.replies.Reply.{Reply}
use Rattle.venue_rules.specs.Messages.{message}
use Rattle.venue_rules.specs.MoreInputs.{said_to}
use Rattle.outbound_queue.specs.Owed.{added, is_behind as puts_behind}
use Rattle.outbound_queue.specs.declared.outgoing.Outgoing.{Outgoing}
use Rattle.outbound_queue.specs.declared.outgoing.Outgoing.TheVariants.{Message}
use Rattle.outbound_queue.specs.declared.queue.Queue.{Queue}
use Rattle.venue_engine.specs.Outbox.{Waiting, all_waits, at, first_behind, is_behind, posted, emitted, waits}
use Rattle.venue_engine.specs.Queued.{AreQueued, AreSameQueues, IsFirstBehind, NoneBehind}
use Rattle.venue_engine.proofs.Queues.{length-posted, length-ws}

-- the queue at a place after a function was applied at one
pub data IsAt (k i : ℕ) (f : Waiting → Waiting) (s s' : Waiting) : Type 0 where
  here : k ≡ i → s' ≡ f s → IsAt k i f s s'
  there : k ≢ i → s' ≡ s → IsAt k i f s s'

further : {k i : ℕ} {f : Waiting → Waiting} {s s' : Waiting} → IsAt k i f s s' → IsAt (suc k) (suc i) f s s'
further (here e is) = here (ap suc e) is
further (there ne is) = there (λ e. ne (omega arith)) is

place_at : (ws : List Waiting) (k i : ℕ) (f : Waiting → Waiting) (s' : Waiting) → slice_get (at k f ws) i ≡ Some s' → (s : Waiting) × (slice_get ws i ≡ Some s) × IsAt k i f s s'
place_at [] k i f s' e = absurd (cc)
place_at (s ∷ ws) zero zero f s' e = let same : s' ≡ f s = cc in (s, refl, here refl same)
place_at (s ∷ ws) zero (suc i) f s' e = (s', e, there (λ e. omega arith) refl)
place_at (s ∷ ws) (suc k) zero f s' e = let same : s' ≡ s = cc in (s, refl, there (λ e. omega arith) same)
place_at (s ∷ ws) (suc k) (suc i) f s' e = let rest = place_at ws k i f s' e in (rest.0, rest.1, further rest.2)

-- replies added to one participant's queue, unless it is cut
abbrev pub heard_by : ℕ → List Reply → Waiting → Waiting
heard_by who replies s = record s { items = s.items ++ added s.is_cut (said_to who replies) }

added-append : (b : Bool) (xs ys : List App) → added b (xs ++ ys) ≡ added b xs ++ added b ys
added-append true xs ys = refl
added-append false xs ys = map-append Message xs ys

said_first : (who : ℕ) (x : Reply) (rest : List Reply) → (x.to == who) ≡ true → said_to who (x ∷ rest) ≡ message x.what ∷ said_to who rest
said_first who x rest is = rw is refl

said_other : (who : ℕ) (x : Reply) (rest : List Reply) → (x.to == who) ≡ false → said_to who (x ∷ rest) ≡ said_to who rest
said_other who x rest is = rw is refl

said_none : (who : ℕ) → said_to who [] ≡ []
said_none who = refl

same_place : (k i : ℕ) → k ≡ i → (k == i) ≡ true
same_place k i e = grind (arith, nat_tests)

other_place : (k i : ℕ) → k ≢ i → (k == i) ≡ false
other_place k i ne = grind (arith, nat_tests)

-- no reply, no change
heard_nothing : (who : ℕ) (s : Waiting) → s ≡ heard_by who [] s
heard_nothing who s =
    ap (λ (q : List Outgoing). record s { items = q })
    (sym (ap (λ (l : List App). s.items ++ added s.is_cut l) (said_none who) ∙ ap (λ (l : List Outgoing). s.items ++ l) (nothing s.is_cut) ∙ append-nil s.items))
  where
    nothing : (b : Bool) → added b [] ≡ []
    nothing true = refl
    nothing false = refl

heard_one : (who : ℕ) (x : Reply) (rest : List Reply) (s : Waiting) → (x.to == who) ≡ true → heard_by who rest (emitted (message x.what) s) ≡ heard_by who (x ∷ rest) s
heard_one who x rest s is =
    ap (λ (q : List Outgoing). record s { items = q })
    (append_assoc s.items (added s.is_cut (message x.what ∷ [])) (added s.is_cut (said_to who rest))
    ∙ ap (λ (l : List Outgoing). s.items ++ l) (sym (added-append s.is_cut (message x.what ∷ []) (said_to who rest)))
    ∙ ap (λ (l : List App). s.items ++ added s.is_cut l) (sym (said_first who x rest is)))

heard_other : (who : ℕ) (x : Reply) (rest : List Reply) (s : Waiting) → (x.to == who) ≡ false → heard_by who rest s ≡ heard_by who (x ∷ rest) s
heard_other who x rest s is = ap (λ (l : List App). record s { items = s.items ++ added s.is_cut l }) (sym (said_other who x rest is))

place_posted : (replies : List Reply) (ws : List Waiting) (i : ℕ) (s' : Waiting) → slice_get (posted replies ws) i ≡ Some s' → (s : Waiting) × (slice_get ws i ≡ Some s) × (s' ≡ heard_by i replies s)
place_posted [] ws i s' e = (s', e, heard_nothing i s')
place_posted (x ∷ rest) ws i s' e = (
    let u = place_posted rest (at x.to (emitted (message x.what)) ws) i s' e in
    let v = place_at ws x.to i (emitted (message x.what)) u.0 u.1 in
    go u.0 v.0 v.1 u.2 v.2)
  where
    go : (z s : Waiting) → slice_get ws i ≡ Some s → s' ≡ heard_by i rest z → IsAt x.to i (emitted (message x.what)) s z → (s : Waiting) × (slice_get ws i ≡ Some s) × (s' ≡ heard_by i (x ∷ rest) s)
    go z s s_at is (here q was) = (s, s_at, is ∙ ap (heard_by i rest) was ∙ heard_one i x rest s (same_place x.to i q))
    go z s s_at is (there q was) = (s, s_at, is ∙ ap (heard_by i rest) was ∙ heard_other i x rest s (other_place x.to i q))

-- the queue at a place
waits_at : (qs : List Queue) (k : ℕ) (q : Queue) → slice_get qs k ≡ Some q → slice_get (all_waits qs) k ≡ Some (waits q)
waits_at [] k q e = absurd (cc)
waits_at (x ∷ qs) zero q e = let same : x ≡ q = cc in ap (λ (z : Queue). Some (waits z)) same
waits_at (x ∷ qs) (suc k) q e = waits_at qs k q e

same_waiting : (ws : List Waiting) (k : ℕ) (a b : Waiting) → slice_get ws k ≡ Some a → slice_get ws k ≡ Some b → a ≡ b
same_waiting ws k a b p q = cc

long_by : (old new : List Queue) → length (all_waits new) ≡ length (all_waits old) → length new ≡ length old
long_by old new e = sym (length-ws new) ∙ e ∙ length-ws old

pub queued_each : (replies : List Reply) (old new : List Queue) → all_waits new ≡ posted replies (all_waits old) → AreQueued replies old new
queued_each replies old new e = (long_by old new (ap length e ∙ length-posted replies (all_waits old)), each)
  where
    each : (k : ℕ) (o n : Queue) → slice_get old k ≡ Some o → slice_get new k ≡ Some n → (n.waiting.items ≡ o.waiting.items ++ added o.is_cut (said_to k replies)) × (n.is_cut ≡ o.is_cut)
    each k o n o_at n_at =
        let u = place_posted replies (all_waits old) k (waits n) (ap (λ (l : List Waiting). slice_get l k) (sym e) ∙ waits_at new k n n_at) in
        let is : waits n ≡ heard_by k replies (waits o) = u.2 ∙ ap (heard_by k replies) (same_waiting (all_waits old) k u.0 (waits o) u.1 (waits_at old k o o_at)) in
        (ap (λ (w : Waiting). w.items) is, ap (λ (w : Waiting). w.is_cut) is)

pub same_each : (old new : List Queue) → all_waits new ≡ all_waits old → AreSameQueues old new
same_each old new e = (long_by old new (ap length e), each)
  where
    each : (k : ℕ) (o n : Queue) → slice_get old k ≡ Some o → slice_get new k ≡ Some n → (n.waiting.items ≡ o.waiting.items) × (n.is_cut ≡ o.is_cut)
    each k o n o_at n_at =
        let is : waits n ≡ waits o = same_waiting (all_waits old) k (waits n) (waits o) (ap (λ (l : List Waiting). slice_get l k) (sym e) ∙ waits_at new k n n_at) (waits_at old k o o_at) in
        (ap (λ (w : Waiting). w.items) is, ap (λ (w : Waiting). w.is_cut) is)

-- nobody is behind

if_none : (b : Bool) (k : ℕ) (o : Option ℕ) → (if b then Some k else o) ≡ None → (b ≡ false) × (o ≡ None)
if_none true k o e = absurd (cc)
if_none false k o e = (refl, e)

none_from : (replies : List Reply) (qs : List Queue) (k : ℕ) → first_behind k replies (all_waits qs) ≡ None → (j : ℕ) (q : Queue) → slice_get qs j ≡ Some q → puts_behind (k + j) replies q.is_cut (length q.waiting.items) ≡ false
none_from replies [] k e j q q_at = absurd (cc)
none_from replies (x ∷ qs) k e zero q q_at =
    let same : x ≡ q = cc in
    let here = (if_none (is_behind k replies (waits x)) k (first_behind (k + 1) replies (all_waits qs)) e).0 in
    subst (λ (z : Queue). puts_behind (k + 0) replies z.is_cut (length z.waiting.items) ≡ false) same
    (subst (λ (n : ℕ). puts_behind n replies x.is_cut (length x.waiting.items) ≡ false) (let z : k ≡ k + 0 = omega arith in z) here)
none_from replies (x ∷ qs) k e (suc j) q q_at =
    subst (λ (n : ℕ). puts_behind n replies q.is_cut (length q.waiting.items) ≡ false) (let z : k + 1 + j ≡ k + suc j = omega arith in z)
    (none_from replies qs (k + 1) (if_none (is_behind k replies (waits x)) k (first_behind (k + 1) replies (all_waits qs)) e).1 j q q_at)

pub none_each : (replies : List Reply) (qs : List Queue) → first_behind 0 replies (all_waits qs) ≡ None → NoneBehind replies qs
none_each replies qs e k q q_at = subst (λ (n : ℕ). puts_behind n replies q.is_cut (length q.waiting.items) ≡ false) (let z : 0 + k ≡ k = omega arith in z) (none_from replies qs 0 e k q q_at)

-- or somebody is, and one is the first

record IsFirstFrom (replies : List Reply) (qs : List Queue) (k who : ℕ) : Type 0 where
  pub place : ℕ
  pub is : who ≡ k + place
  pub low : place < length qs
  pub behind : (q : Queue) → slice_get qs place ≡ Some q → puts_behind who replies q.is_cut (length q.waiting.items) ≡ true
  pub before : (j : ℕ) (q : Queue) → j < place → slice_get qs j ≡ Some q → puts_behind (k + j) replies q.is_cut (length q.waiting.items) ≡ false

before_more : (replies : List Reply) (x : Queue) (qs : List Queue) (k who : ℕ) → is_behind k replies (waits x) ≡ false → (r : IsFirstFrom replies qs (k + 1) who) → (j : ℕ) (q : Queue) → j < suc r.place → slice_get (x ∷ qs) j ≡ Some q → puts_behind (k + j) replies q.is_cut (length q.waiting.items) ≡ false
before_more replies x qs k who tested r zero q low q_at =
    let is : x ≡ q = cc in
    subst (λ (z : Queue). puts_behind (k + 0) replies z.is_cut (length z.waiting.items) ≡ false) is
    (subst (λ (n : ℕ). puts_behind n replies x.is_cut (length x.waiting.items) ≡ false) (let z : k ≡ k + 0 = omega arith in z) tested)
before_more replies x qs k who tested r (suc j) q low q_at =
    subst (λ (n : ℕ). puts_behind n replies q.is_cut (length q.waiting.items) ≡ false) (let z : k + 1 + j ≡ k + suc j = omega arith in z) (r.before j q (omega arith) q_at)

first_from : (replies : List Reply) (qs : List Queue) (k who : ℕ) → first_behind k replies (all_waits qs) ≡ Some who → IsFirstFrom replies qs k who
first_from replies [] k who e = absurd (cc)
first_from replies (x ∷ qs) k who e = go (λ found. first_from replies qs (k + 1) who found) (is_behind k replies (waits x)) refl e
  where
    go : (first_behind (k + 1) replies (all_waits qs) ≡ Some who → IsFirstFrom replies qs (k + 1) who) → (b : Bool) → is_behind k replies (waits x) ≡ b → (if b then Some k else first_behind (k + 1) replies (all_waits qs)) ≡ Some who → IsFirstFrom replies (x ∷ qs) k who
    go next true tested found =
        let same : k ≡ who = cc in
        record {
          place = 0;
          is = omega (arith, same);
          low = omega arith;
          behind = λ q q_at. (let is : x ≡ q = cc in subst (λ (z : Queue). puts_behind who replies z.is_cut (length z.waiting.items) ≡ true) is (subst (λ (n : ℕ). puts_behind n replies x.is_cut (length x.waiting.items) ≡ true) same tested));
          before = λ j q low q_at. absurd (omega arith);
        }
    go next false tested found =
        let r = next found in
        record {
          place = suc r.place;
          is = (let e = r.is in omega (arith, e));
          low = (let l = r.low in omega (arith, l));
          behind = λ q q_at. r.behind q q_at;
          before = before_more replies x qs k who tested r;
        }

pub first_each : (replies : List Reply) (qs : List Queue) (who : ℕ) → first_behind 0 replies (all_waits qs) ≡ Some who → IsFirstBehind replies qs who
first_each replies qs who e =
    let r = first_from replies qs 0 who e in
    let at : r.place ≡ who = (let i = r.is in omega (arith, i)) in (
      λ q q_at. r.behind q (ap (slice_get qs) at ∙ q_at),
      (let l = r.low in omega (arith, l, at)),
      λ k q low q_at. subst (λ (n : ℕ). puts_behind n replies q.is_cut (length q.waiting.items) ≡ false) (let z : 0 + k ≡ k = omega arith in z) (r.before k q (omega (arith, low, at)) q_at),
    )
