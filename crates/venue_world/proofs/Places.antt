-- The sides of a world, one of which changes.
use Rattle.std.proofs.Common.{◌≡◌, ℕ, zero, suc, ◌+◌, ◌≤◌, ◌<◌, List, [], ◌∷◌, ◌++◌, length, set, get_or, refl, sym, ap, ◌∙◌, arith, Some}
use Rattle.std.specs.Prelude.{slice_get}
use Rattle.venue_rules.specs.declared.replies.Reply.{Reply}
use Rattle.venue_rules.specs.Messages.{message}
use Rattle.outbound_queue.specs.declared.queue.Queue.{Queue}
use Rattle.venue_world.specs.declared.session_slot.SessionSlot.{SessionSlot}
use Rattle.venue_world.specs.Side.{Side}
use Rattle.venue_world.specs.Slots.{side_of, sides_of}
use Rattle.venue_world.specs.World.{at, posted, emitted}

pub at_same : (sides : List Side) (i : ℕ) → at i (λ s. s) sides ≡ sides
at_same [] i = refl
at_same (s ∷ sides) zero = refl
at_same (s ∷ sides) (suc i) = ap (λ (ss : List Side). s ∷ ss) (at_same sides i)

pub length-at : (sides : List Side) (i : ℕ) (f : Side → Side) → length (at i f sides) ≡ length sides
length-at [] i f = refl
length-at (s ∷ sides) zero f = refl
length-at (s ∷ sides) (suc i) f = ap suc (length-at sides i f)

pub length-posted : (replies : List Reply) (sides : List Side) → length (posted replies sides) ≡ length sides
length-posted [] sides = refl
length-posted (x ∷ rest) sides = length-posted rest (at x.to (emitted (message x.what)) sides) ∙ length-at sides x.to (emitted (message x.what))

pub length-sides : (slots : List SessionSlot) (queues : List Queue) → length slots ≡ length queues → length (sides_of slots queues) ≡ length slots
length-sides [] queues e = refl
length-sides (d ∷ slots) [] e = absurd (omega (arith, e))
length-sides (d ∷ slots) (q ∷ queues) e = ap suc (length-sides slots queues (omega (arith, e)))

-- a slot is written, and its queue
pub written : (slots : List SessionSlot) (queues : List Queue) (i : ℕ) (f : Side → Side) (d d' : SessionSlot) (q q' : Queue) → slice_get slots i ≡ Some d → slice_get queues i ≡ Some q → side_of d' q' ≡ f (side_of d q)
    → sides_of (set slots i d') (set queues i q') ≡ at i f (sides_of slots queues)
written [] queues i f d d' q q' d_at q_at e = absurd (cc)
written (x ∷ slots) [] i f d d' q q' d_at q_at e = absurd (cc)
written (x ∷ slots) (y ∷ queues) zero f d d' q q' d_at q_at e =
    let dx : d ≡ x = cc in
    let qy : q ≡ y = cc in
    ap (λ (s : Side). s ∷ sides_of slots queues) (e ∙ (λ j. f (side_of (dx j) (qy j))))
written (x ∷ slots) (y ∷ queues) (suc i) f d d' q q' d_at q_at e = ap (λ (ss : List Side). side_of x y ∷ ss) (written slots queues i f d d' q q' d_at q_at e)

-- a slot alone is written, whatever the queues
pub written_slot : (slots : List SessionSlot) (queues : List Queue) (i : ℕ) (f : Side → Side) (d d' : SessionSlot) → slice_get slots i ≡ Some d → ((q : Queue) → side_of d' q ≡ f (side_of d q)) → sides_of (set slots i d') queues ≡ at i f (sides_of slots queues)
written_slot [] queues i f d d' d_at e = absurd (cc)
written_slot (x ∷ slots) [] zero f d d' d_at e = refl
written_slot (x ∷ slots) [] (suc i) f d d' d_at e = refl
written_slot (x ∷ slots) (y ∷ queues) zero f d d' d_at e = let dx : d ≡ x = cc in ap (λ (s : Side). s ∷ sides_of slots queues) (e y ∙ ap (λ (z : SessionSlot). f (side_of z y)) dx)
written_slot (x ∷ slots) (y ∷ queues) (suc i) f d d' d_at e = ap (λ (ss : List Side). side_of x y ∷ ss) (written_slot slots queues i f d d' d_at e)

-- the side at a place
pub seen_at : (slots : List SessionSlot) (queues : List Queue) (i : ℕ) (d : SessionSlot) (q : Queue) → slice_get slots i ≡ Some d → slice_get queues i ≡ Some q → slice_get (sides_of slots queues) i ≡ Some (side_of d q)
seen_at [] queues i d q d_at q_at = absurd (cc)
seen_at (x ∷ slots) [] i d q d_at q_at = absurd (cc)
seen_at (x ∷ slots) (y ∷ queues) zero d q d_at q_at =
    let dx : x ≡ d = cc in
    let qy : y ≡ q = cc in
    (λ j. Some (side_of (dx j) (qy j)))
seen_at (x ∷ slots) (y ∷ queues) (suc i) d q d_at q_at = seen_at slots queues i d q d_at q_at

-- the side read at a place
pub parts_at : (slots : List SessionSlot) (queues : List Queue) (i : ℕ) (s : Side) → slice_get (sides_of slots queues) i ≡ Some s → (d : SessionSlot) × (q : Queue) × (slice_get slots i ≡ Some d) × (slice_get queues i ≡ Some q) × (s ≡ side_of d q)
parts_at [] queues i s e = absurd (cc)
parts_at (x ∷ slots) [] i s e = absurd (cc)
parts_at (x ∷ slots) (y ∷ queues) zero s e = let is : s ≡ side_of x y = cc in (x, y, refl, refl, is)
parts_at (x ∷ slots) (y ∷ queues) (suc i) s e = parts_at slots queues i s e

pub read_at : {A : Type 0} (xs : List A) (i : ℕ) (x : A) → i < length xs → x ≡ get_or xs i x → slice_get xs i ≡ Some x
read_at [] i x low e = absurd (omega arith)
read_at (y ∷ ys) zero x low e = ap Some (sym e)
read_at (y ∷ ys) (suc i) x low e = read_at ys i x (omega arith) e

pub some_at : {A : Type 0} (xs : List A) (i : ℕ) → i < length xs → (x : A) × (slice_get xs i ≡ Some x)
some_at [] i low = absurd (omega arith)
some_at (x ∷ xs) zero low = (x, refl)
some_at (x ∷ xs) (suc i) low = some_at xs i (omega arith)

pub below_at : {A : Type 0} (xs : List A) (i : ℕ) (x : A) → slice_get xs i ≡ Some x → i < length xs
below_at [] i x e = absurd (cc)
below_at (y ∷ ys) zero x e = omega arith
below_at (y ∷ ys) (suc i) x e = let r = below_at ys i x e in omega arith

pub set_same : {A : Type 0} (xs : List A) (i : ℕ) (x : A) → slice_get xs i ≡ Some x → set xs i x ≡ xs
set_same [] i x e = refl
set_same (y ∷ ys) zero x e = let same : y ≡ x = cc in ap (λ z. z ∷ ys) (sym same)
set_same (y ∷ ys) (suc i) x e = ap (λ l. y ∷ l) (set_same ys i x e)

-- lists that are the same at each place
pub all_same : {A : Type 0} (xs ys : List A) → length xs ≡ length ys → ((i : ℕ) (x y : A) → slice_get xs i ≡ Some x → slice_get ys i ≡ Some y → x ≡ y) → xs ≡ ys
all_same [] [] e f = refl
all_same [] (y ∷ ys) e f = absurd (omega (arith, e))
all_same (x ∷ xs) [] e f = absurd (omega (arith, e))
all_same (x ∷ xs) (y ∷ ys) e f = (λ j. f 0 x y refl refl j ∷ all_same xs ys (omega (arith, e)) (λ i a b. f (suc i) a b) j)

pub set_set : {A : Type 0} (xs : List A) (i : ℕ) (a b : A) → set (set xs i a) i b ≡ set xs i b
set_set [] i a b = refl
set_set (y ∷ ys) zero a b = refl
set_set (y ∷ ys) (suc i) a b = ap (λ l. y ∷ l) (set_set ys i a b)

pub get_set : {A : Type 0} (xs : List A) (i : ℕ) (a : A) → i < length xs → slice_get (set xs i a) i ≡ Some a
get_set [] i a low = absurd (omega arith)
get_set (y ∷ ys) zero a low = refl
get_set (y ∷ ys) (suc i) a low = get_set ys i a (omega arith)
