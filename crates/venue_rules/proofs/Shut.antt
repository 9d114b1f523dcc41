use Rattle.std.proofs.Common.{◌≡◌, ap, Bool, true, false, List, [], ◌∷◌, ◌++◌}
use Rattle.venue_rules.specs.declared.facts.Fact.{Fact}
use Rattle.venue_rules.specs.declared.facts.Fact.TheVariants.{Entered, Traded, Removed, Held, Unheld, Asked, Quoted, Withdrawn, Closed}
use Rattle.venue_rules.specs.declared.facts.TradeSource.{TradeSource}
use Rattle.venue_rules.specs.declared.facts.TradeSource.TheVariants.{Book as InBook, Room as InRoom}
use Rattle.venue_rules.specs.Answer.{Answer, first_of}

-- A room closes right after its trade.

-- the facts after a trade close its room
abbrev pub ShutBy : TradeSource → List Fact → Type 0
ShutBy (InBook old new) fs = Unit {0}
ShutBy (InRoom room quote) fs = (rest : List Fact) × (fs ≡ Closed (record { room = room }) ∷ rest)

abbrev pub Shut : List Fact → Type 0
Shut [] = Unit {0}
Shut (Traded t ∷ fs) = ShutBy t.place fs × Shut fs
Shut (Entered x ∷ fs) = Shut fs
Shut (Removed x ∷ fs) = Shut fs
Shut (Held x ∷ fs) = Shut fs
Shut (Unheld x ∷ fs) = Shut fs
Shut (Asked x ∷ fs) = Shut fs
Shut (Quoted x ∷ fs) = Shut fs
Shut (Withdrawn x ∷ fs) = Shut fs
Shut (Closed x ∷ fs) = Shut fs

ShutBy-append : (p : TradeSource) (fs gs : List Fact) → ShutBy p fs → ShutBy p (fs ++ gs)
ShutBy-append (InBook old new) fs gs k = tt
ShutBy-append (InRoom room quote) fs gs k = (k.0 ++ gs, ap (λ xs. xs ++ gs) k.1)

pub Shut-append : (fs gs : List Fact) → Shut fs → Shut gs → Shut (fs ++ gs)
Shut-append [] gs a b = b
Shut-append (Traded t ∷ fs) gs a b = (ShutBy-append t.place fs gs a.0, Shut-append fs gs a.1 b)
Shut-append (Entered x ∷ fs) gs a b = Shut-append fs gs a b
Shut-append (Removed x ∷ fs) gs a b = Shut-append fs gs a b
Shut-append (Held x ∷ fs) gs a b = Shut-append fs gs a b
Shut-append (Unheld x ∷ fs) gs a b = Shut-append fs gs a b
Shut-append (Asked x ∷ fs) gs a b = Shut-append fs gs a b
Shut-append (Quoted x ∷ fs) gs a b = Shut-append fs gs a b
Shut-append (Withdrawn x ∷ fs) gs a b = Shut-append fs gs a b
Shut-append (Closed x ∷ fs) gs a b = Shut-append fs gs a b

-- a suffix of the facts
pub Shut-behind : (fs gs : List Fact) → Shut (fs ++ gs) → Shut gs
Shut-behind [] gs k = k
Shut-behind (Traded t ∷ fs) gs k = Shut-behind fs gs k.1
Shut-behind (Entered x ∷ fs) gs k = Shut-behind fs gs k
Shut-behind (Removed x ∷ fs) gs k = Shut-behind fs gs k
Shut-behind (Held x ∷ fs) gs k = Shut-behind fs gs k
Shut-behind (Unheld x ∷ fs) gs k = Shut-behind fs gs k
Shut-behind (Asked x ∷ fs) gs k = Shut-behind fs gs k
Shut-behind (Quoted x ∷ fs) gs k = Shut-behind fs gs k
Shut-behind (Withdrawn x ∷ fs) gs k = Shut-behind fs gs k
Shut-behind (Closed x ∷ fs) gs k = Shut-behind fs gs k

-- every refusal keeps this
abbrev pub AllShut : List (Bool × Answer) → Type 0
AllShut [] = Unit {0}
AllShut (r ∷ rs) = Shut r.1.facts × AllShut rs

abbrev IsShut : Answer → Type 0
IsShut a = Shut a.facts

first_case : (b : Bool) (x y : Answer) → IsShut x → IsShut y → IsShut (elim b [ true ↦ x | false ↦ y ])
first_case true x y k l = k
first_case false x y k l = l

pub first_of-Shut : (rs : List (Bool × Answer)) (x : Answer) → AllShut rs → Shut x.facts → Shut (first_of rs x).facts
first_of-Shut [] x n k = k
first_of-Shut (r ∷ rs) x n k = first_case r.0 r.1 (first_of rs x) n.0 (first_of-Shut rs x n.1 k)
