use Rattle.std.specs.Prelude.{⊤, ◌≡◌, ℕ, suc, List, [], ◌∷◌}

-- consecutive numbers from n
abbrev pub AreFrom : ℕ → List ℕ → Type 0
AreFrom n [] = ⊤
AreFrom n (m ∷ ms) = (m ≡ n) × AreFrom (suc n) ms
