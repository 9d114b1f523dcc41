-- What was traded in the book and in requests adds up.
use Rattle.std.specs.Prelude.{◌≡◌, ℕ, ◌+◌, Bool, true, false, ◌&&◌, ◌==◌, List, [], ◌∷◌, Option, Some, None, cond, if◌then◌else◌, refl}
use Rattle.std.specs.List.{sum_by}
use Rattle.std.proofs.Common.{sym, ◌∙◌, ap, arith}
use Rattle.std.proofs.lemmas.List.Sums.{sum_by-cons}
use Rattle.venue_rules.specs.declared.trail.TradeFact.{TradeFact}
use Rattle.day_tables.specs.declared.bulletin.Place.TheVariants.{Anywhere, Book, Request}
use Rattle.day_tables.specs.Bulletin.{is_at, is_of, moved}
use Rattle.day_tables.specs.Laws.{AllVolumesAddUp}

-- three sums whose terms add up
sums_add : (f g k : TradeFact → ℕ) → ((t : TradeFact) → f t + g t ≡ k t) → (ts : List TradeFact) → sum_by f ts + sum_by g ts ≡ sum_by k ts
sums_add f g k add [] = refl
sums_add f g k add (t ∷ ts) =
    let a : sum_by f (t ∷ ts) ≡ f t + sum_by f ts = sum_by-cons f t ts in
    let b : sum_by g (t ∷ ts) ≡ g t + sum_by g ts = sum_by-cons g t ts in
    let c : sum_by k (t ∷ ts) ≡ k t + sum_by k ts = sum_by-cons k t ts in
    let rest : sum_by f ts + sum_by g ts ≡ sum_by k ts = sums_add f g k add ts in
    let here : f t + g t ≡ k t = add t in
    omega (arith, a, b, c, rest, here)

-- a trade is in the book or in a request

at_adds : (room : Option ℕ) (q : ℕ) → (if is_at Book room then q else 0) + (if is_at Request room then q else 0) ≡ (if is_at Anywhere room then q else 0)
at_adds None q = omega arith
at_adds (Some r) q = omega arith

and_adds : (is : Bool) (room : Option ℕ) (q : ℕ) → (if is && is_at Book room then q else 0) + (if is && is_at Request room then q else 0) ≡ (if is && is_at Anywhere room then q else 0)
and_adds true room q = at_adds room q
and_adds false room q = omega arith

moved_adds : (x : Option ℕ) (t : TradeFact) → moved x Book t + moved x Request t ≡ moved x Anywhere t
moved_adds None t = at_adds t.room t.quantity
moved_adds (Some x) t = and_adds (t.instrument == x) t.room t.quantity

one_adds : (x : Option ℕ) (t : TradeFact) → cond (is_of x Book t) 1 0 + cond (is_of x Request t) 1 0 ≡ cond (is_of x Anywhere t) 1 0
one_adds None t = at_adds t.room 1
one_adds (Some x) t = and_adds (t.instrument == x) t.room 1

pub volumes_add_up : AllVolumesAddUp
volumes_add_up x ts = record {
  quantities = sums_add (moved x Book) (moved x Request) (moved x Anywhere) (moved_adds x) ts;
  numbers = sums_add (λ t. cond (is_of x Book t) 1 0) (λ t. cond (is_of x Request t) 1 0) (λ t. cond (is_of x Anywhere t) 1 0) (one_adds x) ts;
}
