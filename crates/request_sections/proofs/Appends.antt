-- Lists that are appended one by one.
use Rattle.std.specs.Prelude.{◌≡◌, ℕ, ◌+◌, ◌<◌, ◌≤◌, List, ◌∷◌, ◌++◌, length, drop}
use Rattle.std.specs.List.{flat_map}
use Rattle.std.proofs.Common.{sym, ◌∙◌, ap, append-nil, append_assoc, get_or}
use Rattle.std.proofs.lemmas.List.{at_drop_more, at_drop_all}

pub appends_on : {X Y : Type 0} (f : X → List Y) (xs : List X) (i : ℕ) (x : X) (kept more whole : List Y) → i < length xs → x ≡ get_or xs i x → more ≡ kept ++ f x
    → kept ++ flat_map f (drop i xs) ≡ whole → more ++ flat_map f (drop (i + 1) xs) ≡ whole
appends_on {X} {Y} f xs i x kept more whole below is e h =
    let F : List X → List Y = λ ys. kept ++ flat_map f ys in
    let rest : List X = drop (i + 1) xs in
    ap (λ (l : List Y). l ++ flat_map f rest) e
    ∙ (append_assoc kept (f x) (flat_map f rest)
    ∙ (ap (λ (y : X). F (y ∷ rest)) is
    ∙ (sym (at_drop_more F xs i x below) ∙ h)))

pub appends_out : {X Y : Type 0} (f : X → List Y) (xs : List X) (i : ℕ) (kept whole : List Y) → length xs ≤ i → kept ++ flat_map f (drop i xs) ≡ whole → kept ≡ whole
appends_out {X} {Y} f xs i kept whole past h =
    let F : List X → List Y = λ ys. kept ++ flat_map f ys in
    sym (append-nil kept) ∙ (sym (at_drop_all F xs i past) ∙ h)
