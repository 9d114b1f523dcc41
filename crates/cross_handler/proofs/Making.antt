use Rattle.std.proofs.Common.{◌≡◌, refl, sym, ap, subst, ℕ, ◌<◌, Bool, true, false, ◌&&◌, ◌||◌, nat_lt, List, [], ◌∷◌, arith, bytes_eq}
use Rattle.std.proofs.lemmas.Bool.Decides.{nat_tests}
use Rattle.fix_dictionary.specs.declared.messages.NewOrderCross.{NewOrderCross}
use Rattle.venue_rules.specs.declared.facts.Fact.{Fact}
use Rattle.venue_rules.specs.declared.facts.Fact.TheVariants.{Held}
use Rattle.venue_rules.specs.declared.facts.HeldSide.{HeldSide}
use Rattle.venue_rules.specs.Facts.{is_order_id_used}
use Rattle.venue_rules.specs.Crosses.{is_first, second_side}
use Rattle.price_book.specs.Contents.{Contents as Book}
use Rattle.price_book.specs.Steps.{IsPlanOf as IsBookPlan, Nothing as NoEntry}
use Rattle.cross_delay.specs.Contents.{Contents as Delay}
use Rattle.cross_delay.specs.Steps.{IsPlanOf as IsDelayPlan, Nothing as NoHold}
use Rattle.order_handler.specs.Made.{IsMade, are_listed}
use Rattle.order_handler.specs.Parts.{Parts}
use Rattle.cross_handler.specs.Crossing.{IsQuiet, are_ids_taken}

-- The plans of an answer may be applied.

pub no-entry : (book : Book) → IsBookPlan book []
no-entry book = record { step = NoEntry; allowed = tt; made = refl; headroom = omega arith }

no-hold : (delay : Delay) → IsDelayPlan delay []
no-hold delay = record { step = NoHold; allowed = tt; made = refl; headroom = omega arith }

pub quiet-book : (book : Book) (fs : List Fact) → fs ≡ [] → IsBookPlan book fs
quiet-book book fs e = let P : List Fact → Type 0 = λ gs. IsBookPlan book gs in subst P (sym e) (no-entry book)

pub quiet-listed : (count : ℕ) (fs : List Fact) → fs ≡ [] → are_listed count fs ≡ true
quiet-listed count fs e = ap (are_listed count) e

pub quiet-made : (count : ℕ) (book : Book) (delay : Delay) (a : Parts) → IsQuiet a → IsMade count book delay a
quiet-made count book delay a (e, f) = record {
  book_plan = quiet-book book a.book e;
  delay_plan = let P : List Fact → Type 0 = λ gs. IsDelayPlan delay gs in subst P (sym f) (no-hold delay);
  book_listed = quiet-listed count a.book e;
  delay_listed = quiet-listed count a.delay f;
}

and_true : (b : Bool) → b ≡ true → (b && true) ≡ true
and_true true e = refl
and_true false e = e

below : (x count : ℕ) → x < count → nat_lt x count ≡ true
below x count h = grind (arith, nat_tests)

pub held-listed : (count : ℕ) (k : HeldSide) → k.order.instrument < count → are_listed count (Held k ∷ []) ≡ true
held-listed count k h = and_true (nat_lt k.order.instrument count) (below k.order.instrument count h)

-- with both plans, in listed instruments
pub both-made : (count : ℕ) (book : Book) (delay : Delay) (first : Bool) (a b : Parts) (planned : List Fact) → IsBookPlan book a.book → IsDelayPlan delay planned → are_listed count a.book ≡ true → are_listed count planned ≡ true → b ≡ record { delay_first = first; delay = planned; book = a.book; replies = a.replies } → IsMade count book delay b
both-made count book delay first a b planned entry hold el hl same =
    let P : Parts → Type 0 = λ x. IsMade count book delay x in
    subst P (sym same) (record { book_plan = entry; delay_plan = hold; book_listed = el; delay_listed = hl })

-- the held side's identifier is new

second_free : (a b x y z : Bool) → ((a || x) || ((b || y) || z)) ≡ false → (x ≡ false) × (y ≡ false)
second_free false false false false z h = (refl, refl)
second_free true b x y z h = cc
second_free false true true y z h = cc
second_free false true false y z h = cc
second_free false false true y z h = cc
second_free false false false true z h = cc

chosen : (f : Bool) (delay : List Fact) (who : ℕ) (d : NewOrderCross) → is_first d d.first ≡ f → is_order_id_used delay who d.first.order_id ≡ false → is_order_id_used delay who d.second.order_id ≡ false → is_order_id_used delay who (second_side d).order_id ≡ false
chosen true delay who d e a b = rw e b
chosen false delay who d e a b = rw e a

pub second-unused : (book delay : List Fact) (who : ℕ) (d : NewOrderCross) → are_ids_taken book delay who d ≡ false → is_order_id_used delay who (second_side d).order_id ≡ false
second-unused book delay who d h =
    let free : (is_order_id_used delay who d.first.order_id ≡ false) × (is_order_id_used delay who d.second.order_id ≡ false) = second_free (is_order_id_used book who d.first.order_id) (is_order_id_used book who d.second.order_id) (is_order_id_used delay who d.first.order_id) (is_order_id_used delay who d.second.order_id) (bytes_eq d.first.order_id d.second.order_id) h in
    chosen (is_first d d.first) delay who d refl free.0 free.1
