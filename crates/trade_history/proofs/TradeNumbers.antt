use Rattle.std.proofs.Common.{◌≡◌, refl, sym, ap, ◌∙◌, ℕ, suc, ◌+◌, ◌<◌, get_or, List, [], ◌∷◌, ◌++◌, length, drop, append_assoc, length-append, arith}
use Rattle.std.proofs.lemmas.List.Elements.{filter_map-append}
use Rattle.venue_rules.specs.declared.facts.Fact.{Fact}
use Rattle.venue_rules.specs.declared.facts.Trade.{Trade}
use Rattle.venue_rules.specs.declared.trail.TradeFact.{TradeFact}
use Rattle.venue_rules.specs.Facts.{trade_in, trades}
use Rattle.venue_rules.specs.Readings.{trade_fact, trade_facts}
use Rattle.trade_history.specs.Traded.{read_from}
use Rattle.trade_history.proofs.Lists.{drop-read}

one_on : (n k : ℕ) → n + 1 + k ≡ n + suc k
one_on n k = omega arith

pub read-length : (n : ℕ) (ts : List Trade) → length (read_from n ts) ≡ length ts
read-length n [] = refl
read-length n (t ∷ ts) = ap (λ k. suc k) (read-length (n + 1) ts)

pub read-both : (n : ℕ) (ts us : List Trade) → read_from n (ts ++ us) ≡ read_from n ts ++ read_from (n + length ts) us
read-both n [] us = ap (λ k. read_from k us) (omega arith)
read-both n (t ∷ ts) us = ap (λ fs. trade_fact n t ∷ fs) (read-both (n + 1) ts us ∙ ap (λ k. read_from (n + 1) ts ++ read_from k us) (one_on n (length ts)))

-- the trades among further facts come after the earlier ones
pub trades-read : (fs gs : List Fact) → trade_facts (fs ++ gs) ≡ trade_facts fs ++ read_from (length (trade_facts fs) + 1) (trades gs)
trades-read fs gs = ap (λ ts. read_from 1 ts) (filter_map-append trade_in fs gs) ∙ read-both 1 (trades fs) (trades gs) ∙ ap (λ k. trade_facts fs ++ read_from k (trades gs)) (turn (length (trades fs)) (length (trade_facts fs)) (read-length 1 (trades fs)))
  where
    turn : (a b : ℕ) → b ≡ a → 1 + a ≡ b + 1
    turn a b e = omega arith

pub trades-count : (fs : List Fact) → length (trade_facts fs) ≡ length (trades fs)
trades-count fs = read-length 1 (trades fs)

-- adding trades in two parts or at once
read-twice : (xs : List TradeFact) (ts us : List Trade) → (xs ++ read_from (length xs + 1) ts) ++ read_from (length (xs ++ read_from (length xs + 1) ts) + 1) us ≡ xs ++ read_from (length xs + 1) (ts ++ us)
read-twice xs ts us =
    append_assoc xs (read_from (length xs + 1) ts) (read_from (length (xs ++ read_from (length xs + 1) ts) + 1) us)
    ∙ ap (λ k. xs ++ (read_from (length xs + 1) ts ++ read_from k us)) (place (length xs) (length ts) (length (read_from (length xs + 1) ts)) (length (xs ++ read_from (length xs + 1) ts)) (read-length (length xs + 1) ts) (length-append xs (read_from (length xs + 1) ts)))
    ∙ ap (λ fs. xs ++ fs) (sym (read-both (length xs + 1) ts us))
  where
    place : (n k m l : ℕ) → m ≡ k → l ≡ n + m → l + 1 ≡ n + 1 + k
    place n k m l e h = omega arith

-- reading one fact
pub trades-rest : (fs : List Fact) (i : ℕ) (f : Fact) → i < length fs → f ≡ get_or fs i f → trades (drop i fs) ≡ trades (f ∷ []) ++ trades (drop (i + 1) fs)
trades-rest fs i f h e = ap trades (drop-read fs i f h e) ∙ filter_map-append trade_in (f ∷ []) (drop (i + 1) fs)

pub room-left : (fs : List Fact) (i : ℕ) (f : Fact) → i < length fs → f ≡ get_or fs i f → length (trades (drop i fs)) ≡ length (trades (f ∷ [])) + length (trades (drop (i + 1) fs))
room-left fs i f h e = ap length (trades-rest fs i f h e) ∙ length-append (trades (f ∷ [])) (trades (drop (i + 1) fs))

pub read-more : (xs ys : List TradeFact) (fs : List Fact) (i : ℕ) (f : Fact) → i < length fs → f ≡ get_or fs i f → ys ≡ xs ++ read_from (length xs + 1) (trades (f ∷ []))
    → ys ++ read_from (length ys + 1) (trades (drop (i + 1) fs)) ≡ xs ++ read_from (length xs + 1) (trades (drop i fs))
read-more xs ys fs i f h e k =
    ap (λ zs. zs ++ read_from (length zs + 1) (trades (drop (i + 1) fs))) k
    ∙ read-twice xs (trades (f ∷ [])) (trades (drop (i + 1) fs))
    ∙ ap (λ ts. xs ++ read_from (length xs + 1) ts) (sym (trades-rest fs i f h e))
