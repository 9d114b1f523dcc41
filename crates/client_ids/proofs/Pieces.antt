use Rattle.std.proofs.Common.{◌≡◌, refl, ℕ, ◌≤◌, ◌<◌, List, [], ◌∷◌, take, drop, length, arith}
use Rattle.client_ids.specs.Pieces.{pieces}

pub pieces_more : (bs : List ℕ) → 4 ≤ length bs → pieces bs ≡ take 4 bs ∷ pieces (drop 4 bs)
pieces_more [] h = absurd (omega (arith, h))
pieces_more (a ∷ []) h = absurd (omega (arith, h))
pieces_more (a ∷ b ∷ []) h = absurd (omega (arith, h))
pieces_more (a ∷ b ∷ c ∷ []) h = absurd (omega (arith, h))
pieces_more (a ∷ b ∷ c ∷ d ∷ bs) h = refl

pub pieces_last : (bs : List ℕ) → length bs < 4 → pieces bs ≡ bs ∷ []
pieces_last [] h = refl
pieces_last (a ∷ []) h = refl
pieces_last (a ∷ b ∷ []) h = refl
pieces_last (a ∷ b ∷ c ∷ []) h = refl
pieces_last (a ∷ b ∷ c ∷ d ∷ bs) h = absurd (omega (arith, h))
