use Rattle.std.specs.Prelude.{⊤, ℕ, ◌≤◌, not, nat_lt, nat_le, List, [], ◌∷◌, filter, Option, Some, None, if◌then◌else◌}
use Rattle.venue_rules.specs.declared.facts.Fact.{Fact}
use Rattle.venue_rules.specs.declared.facts.Fact.TheVariants.{Held, Unheld}
use Rattle.venue_rules.specs.declared.facts.HeldSide.{HeldSide}
use Rattle.venue_rules.specs.Delay.{releases}

-- Held sides, by due moment, then by arrival.

-- the first to arrive, before those that fall due no earlier
abbrev pub put_first : HeldSide → List HeldSide → List HeldSide
put_first h [] = h ∷ []
put_first h (k ∷ ks) = if nat_lt k.due h.due then k ∷ put_first h ks else h ∷ k ∷ ks

-- sides in order of arrival, sorted by due moment
abbrev pub by_due : List HeldSide → List HeldSide
by_due [] = []
by_due (h ∷ hs) = put_first h (by_due hs)

-- the last to arrive, behind those that fall due no later
abbrev pub put_last : HeldSide → List HeldSide → List HeldSide
put_last h [] = h ∷ []
put_last h (k ∷ ks) = if nat_le k.due h.due then k ∷ put_last h ks else h ∷ k ∷ ks

-- no side falls due earlier than those before it
abbrev pub AreRising : ℕ → List HeldSide → Type 0
AreRising low [] = ⊤
AreRising low (h ∷ hs) = (low ≤ h.due) × AreRising h.due hs

-- the first side, if due at t
abbrev pub first_due : ℕ → List HeldSide → Option HeldSide
first_due t [] = None
first_due t (h ∷ hs) = if nat_le h.due t then Some h else None

-- the effect of a fact
abbrev pub step : List HeldSide → Fact → List HeldSide
step hs (Held h) = put_last h hs
step hs (Unheld u) = filter (λ h. not (releases h (Unheld u))) hs
step hs _ = hs

abbrev pub steps : List HeldSide → List Fact → List HeldSide
steps hs [] = hs
steps hs (f ∷ fs) = steps (step hs f) fs
