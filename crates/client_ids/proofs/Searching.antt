use Rattle.std.proofs.Common.{◌≡◌, refl, ℕ, suc, zero, ◌+◌, ◌-◌, ◌/◌, ◌≤◌, ◌<◌, ◌^◌, subst, Bool, true, false, arith}
use Rattle.std.specs.declared.cmp.Ordering.{Ordering}
use Rattle.std.specs.declared.cmp.Ordering.TheVariants.{Less, Equal, Greater}
use Rattle.std.specs.Ordering.{is_lt, is_eq, ordering_index}
use Rattle.client_ids.specs.Search.{AreRising, IsPlace, IsFew}

-- comparisons left, and the range left to halve
pub record Left (n d before now size : ℕ) : Type 0 where
  pub left : ℕ
  pub all : now + left ≡ before + d
  pub fits : size < 2 ^ left

-- the state of a search between low and high
pub record Looking (answer : ℕ → Ordering) (n low high : ℕ) (found : Bool) (before now : ℕ) : Type 0 where
  pub order : low ≤ high
  pub within : high ≤ n
  pub below : (k : ℕ) → k < low → ordering_index (answer k) ≡ 0
  pub above : (k : ℕ) → high ≤ k → k < n → 1 ≤ ordering_index (answer k)
  pub here : found ≡ true → (high < n) × (ordering_index (answer high) ≡ 1)
  pub nowhere : found ≡ false → (k : ℕ) → high ≤ k → k < n → ordering_index (answer k) ≡ 2
  pub few : (d : ℕ) → n < 2 ^ d → Left n d before now (high - low)

pub looking-first : (answer : ℕ → Ordering) (n before : ℕ) → Looking answer n 0 n false before before
looking-first answer n before = record {
  order = omega arith;
  within = omega arith;
  below = λ k h. absurd (omega (arith, h));
  above = λ k h l. absurd (omega (arith, h, l));
  here = λ e. cc;
  nowhere = λ e k h l. absurd (omega (arith, h, l));
  few = λ d h. record { left = d; all = refl; fits = omega (arith, h) };
}

-- half of the range takes one comparison less
double : (l : ℕ) → 2 ^ (suc l) ≡ 2 ^ l + 2 ^ l
double l = omega arith

fewer : (l n d before now a b : ℕ) → now + l ≡ before + d → a < 2 ^ l → 0 < a → b + b ≤ a → Left n d before (now + 1) b
fewer zero n d before now a b all fits some half = absurd (omega (arith, fits, some))
fewer (suc l) n d before now a b all fits some half = record { left = l; all = omega (arith, all); fits = omega (arith, fits, double l, half) }

pub looked-less : (answer : ℕ → Ordering) (n low high : ℕ) (found : Bool) (before now middle : ℕ) → AreRising answer n → Looking answer n low high found before now → low < high → middle ≡ low + (high - low) / 2 → is_lt (answer middle) ≡ true → Looking answer n (middle + 1) high found before (now + 1)
looked-less answer n low high found before now middle rising l some at less =
    let zero_there : ordering_index (answer middle) ≡ 0 = lt-index (answer middle) less in
    record {
      order = omega (arith, some, at);
      within = l.within;
      below = λ k h. omega (arith, zero_there, rising k middle (omega (arith, h)) (omega (arith, some, at, l.within)));
      above = l.above;
      here = l.here;
      nowhere = l.nowhere;
      few = λ d h. let f = l.few d h in fewer f.left n d before now (high - low) (high - (middle + 1)) f.all f.fits (omega (arith, some)) (omega (arith, some, at));
    }
  where
    lt-index : (o : Ordering) → is_lt o ≡ true → ordering_index o ≡ 0
    lt-index Less e = refl
    lt-index Equal e = cc
    lt-index Greater e = cc

eq-index : (o : Ordering) → is_eq o ≡ true → ordering_index o ≡ 1
eq-index Less e = cc
eq-index Equal e = refl
eq-index Greater e = cc

not_less : (o : Ordering) → is_lt o ≡ false → 1 ≤ ordering_index o
not_less Less e = cc
not_less Equal e = omega arith
not_less Greater e = omega arith

greater-index : (o : Ordering) → is_lt o ≡ false → is_eq o ≡ false → ordering_index o ≡ 2
greater-index Less e f = cc
greater-index Equal e f = cc
greater-index Greater e f = refl

most : (o : Ordering) → ordering_index o ≤ 2
most Less = omega arith
most Equal = omega arith
most Greater = omega arith

pub looked-more : (answer : ℕ → Ordering) (n low high : ℕ) (found : Bool) (before now middle : ℕ) → AreRising answer n → Looking answer n low high found before now → low < high → middle ≡ low + (high - low) / 2 → is_lt (answer middle) ≡ false → Looking answer n low middle (is_eq (answer middle)) before (now + 1)
looked-more answer n low high found before now middle rising l some at less =
    record {
      order = omega (arith, at);
      within = omega (arith, some, at, l.within);
      below = l.below;
      above = λ k h m. omega (arith, not_less (answer middle) less, rising middle k h m);
      here = λ e. (omega (arith, some, at, l.within), eq-index (answer middle) e);
      nowhere = λ e k h m. omega (arith, greater-index (answer middle) less e, rising middle k h m, most (answer k));
      few = λ d h. let f = l.few d h in fewer f.left n d before now (high - low) (middle - low) f.all f.fits (omega (arith, some)) (omega (arith, some, at));
    }

pub looked-place : (answer : ℕ → Ordering) (n low high : ℕ) (found : Bool) (before now : ℕ) → Looking answer n low high found before now → high ≤ low → IsPlace answer n low found
looked-place answer n low high found before now l done =
    let same : high ≡ low = omega (arith, done, l.order) in
    record {
      within = omega (arith, l.within, same);
      below = l.below;
      above = λ k h m. l.above k (omega (arith, h, same)) m;
      here = λ e. let P : ℕ → Type 0 = λ p. (p < n) × (ordering_index (answer p) ≡ 1) in subst P same (l.here e);
      nowhere = λ e k h m. l.nowhere e k (omega (arith, h, same)) m;
    }

pub looked-few : (answer : ℕ → Ordering) (n low high : ℕ) (found : Bool) (before now : ℕ) → Looking answer n low high found before now → IsFew n before now
looked-few answer n low high found before now l d h = let f = l.few d h in omega (arith, f.all)

-- another comparison fits the bound
pub looked-headroom : (answer : ℕ → Ordering) (n low high : ℕ) (found : Bool) (before now : ℕ) → Looking answer n low high found before now → low < high → n < 2 ^ 64 → before + 64 < 2 ^ 64 → now + 1 < 2 ^ 64
looked-headroom answer n low high found before now l some fits headroom = let f = l.few 64 fits in counted f.left now before (high - low) f.all f.fits (omega (arith, some)) headroom
  where
    counted : (l now before size : ℕ) → now + l ≡ before + 64 → size < 2 ^ l → 0 < size → before + 64 < 2 ^ 64 → now + 1 < 2 ^ 64
    counted zero now before size all fits some headroom = absurd (omega (arith, fits, some))
    counted (suc l) now before size all fits some headroom = omega (arith, all, headroom)
