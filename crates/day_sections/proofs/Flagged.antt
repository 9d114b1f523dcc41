-- Lines that set flags one after another, and the flags of all.
use Rattle.std.proofs.Common.{◌≡◌, ℕ, zero, suc, ◌+◌, ◌<◌, ◌≤◌, ◌==◌, Bool, true, false, List, [], ◌∷◌, if◌then◌else◌, drop, get_or, length, map, replicate, set, refl, sym, ap, ◌∙◌, arith, eq-eqb, ne_eqb}
use Rattle.std.proofs.lemmas.List.{at_drop_all, at_drop_more}
use Rattle.std.specs.List.{range_with_len}
use Rattle.surveillance.specs.declared.pairs.LinkedTrade.{LinkedTrade}
use Rattle.day_sections.specs.declared.flags.Flag.{Flag}
use Rattle.day_sections.specs.declared.flags.Flag.TheVariants.{Unlinked}
use Rattle.day_sections.specs.Flags.{flag_by, flag_in, flag_of, flags}

abbrev pub with_lines : List LinkedTrade → List Flag → List Flag
with_lines [] ms = ms
with_lines (l ∷ ls) ms = with_lines ls (set ms l.trade (flag_in l))

-- each of some flags, from this number on, by the lines

abbrev each_by : List LinkedTrade → ℕ → List Flag → List Flag
each_by ls k [] = []
each_by ls k (m ∷ ms) = flag_by m ls k ∷ each_by ls (k + 1) ms

no_lines : (k : ℕ) (ms : List Flag) → ms ≡ each_by [] k ms
no_lines k [] = refl
no_lines k (m ∷ ms) = ap (λ (l : List Flag). m ∷ l) (no_lines (k + 1) ms)

kept_flag : (l : LinkedTrade) (m : Flag) (k : ℕ) (b : Bool) → (l.trade == k) ≡ b → b ≡ false → m ≡ (if l.trade == k then flag_in l else m)
kept_flag l m k false is other = rw is refl
kept_flag l m k true is other = cc

-- a line of an earlier trade changes none
passed : (l : LinkedTrade) (ls : List LinkedTrade) (k : ℕ) (ms : List Flag) → l.trade < k → each_by ls k ms ≡ each_by (l ∷ ls) k ms
passed l ls k [] below = refl
passed l ls k (m ∷ ms) below =
    ap (λ (x : Flag). flag_by x ls k ∷ each_by ls (k + 1) ms) (kept_flag l m k (l.trade == k) refl (ne_eqb l.trade k (λ e. absurd (omega (arith, e, below)))))
    ∙ ap (λ (r : List Flag). flag_by (if l.trade == k then flag_in l else m) ls k ∷ r) (passed l ls (k + 1) ms (omega (arith, below)))

-- a line sets that of its trade

set_flag : (l : LinkedTrade) (m : Flag) (k : ℕ) → l.trade ≡ k → flag_in l ≡ (if l.trade == k then flag_in l else m)
set_flag l m k is = rw (eq-eqb l.trade k is) refl

one_line : (l : LinkedTrade) (ls : List LinkedTrade) (k j : ℕ) (ms : List Flag) → l.trade ≡ k + j → each_by ls k (set ms j (flag_in l)) ≡ each_by (l ∷ ls) k ms
one_line l ls k j [] is = refl
one_line l ls k zero (m ∷ ms) is =
    ap (λ (x : Flag). flag_by x ls k ∷ each_by ls (k + 1) ms) (set_flag l m k (omega (arith, is)))
    ∙ ap (λ (r : List Flag). flag_by (if l.trade == k then flag_in l else m) ls k ∷ r) (passed l ls (k + 1) ms (omega (arith, is)))
one_line l ls k (suc j) (m ∷ ms) is =
    ap (λ (x : Flag). flag_by x ls k ∷ each_by ls (k + 1) (set ms j (flag_in l))) (kept_flag l m k (l.trade == k) refl (ne_eqb l.trade k (λ e. absurd (omega (arith, e, is)))))
    ∙ ap (λ (r : List Flag). flag_by (if l.trade == k then flag_in l else m) ls k ∷ r) (one_line l ls (k + 1) j ms (omega (arith, is)))

all_lines : (ls : List LinkedTrade) (ms : List Flag) → with_lines ls ms ≡ each_by ls 0 ms
all_lines [] ms = no_lines 0 ms
all_lines (l ∷ ls) ms = all_lines ls (set ms l.trade (flag_in l)) ∙ one_line l ls 0 l.trade ms (from_none l.trade)
  where
    from_none : (n : ℕ) → n ≡ 0 + n
    from_none n = omega arith

none_flagged : (ls : List LinkedTrade) (k n : ℕ) → each_by ls k (replicate n Unlinked) ≡ map (flag_of ls) (range_with_len k n)
none_flagged ls k zero = refl
none_flagged ls k (suc n) = ap (λ (r : List Flag). flag_of ls k ∷ r) (none_flagged ls (k + 1) n)

pub lines_are_flags : (ls : List LinkedTrade) (most : ℕ) → with_lines ls (replicate (most + 1) Unlinked) ≡ flags ls most
lines_are_flags ls most = all_lines ls (replicate (most + 1) Unlinked) ∙ none_flagged ls 0 (most + 1)

-- the loop over the lines

pub lines_on : (ls : List LinkedTrade) (i : ℕ) (l : LinkedTrade) (ms more whole : List Flag) → i < length ls → l ≡ get_or ls i l → more ≡ set ms l.trade (flag_in l)
    → with_lines (drop i ls) ms ≡ whole → with_lines (drop (i + 1) ls) more ≡ whole
lines_on ls i l ms more whole below is e h =
    let F : List LinkedTrade → List Flag = λ ys. with_lines ys ms in
    ap (λ (m : List Flag). with_lines (drop (i + 1) ls) m) e
    ∙ (ap (λ (y : LinkedTrade). F (y ∷ drop (i + 1) ls)) is
    ∙ (sym (at_drop_more F ls i l below) ∙ h))

pub lines_out : (ls : List LinkedTrade) (i : ℕ) (ms whole : List Flag) → length ls ≤ i → with_lines (drop i ls) ms ≡ whole → ms ≡ whole
lines_out ls i ms whole past h =
    let F : List LinkedTrade → List Flag = λ ys. with_lines ys ms in
    sym (at_drop_all F ls i past) ∙ h
