use Rattle.std.proofs.Common.{◌≡◌, ℕ, List, [], ◌∷◌, length, drop, min, refl, arith, length-drop}
use Rattle.desk_log.specs.declared.owed.Owed.{Owed}
use Rattle.desk_log.specs.Comparing.{agreed}
use Rattle.desk_log.specs.Numbered.{Logged}
use Rattle.desk_log.proofs.comparing.agreed.Goals as goal

at_an_end : (log : List ℕ) (ls : List Logged) (os : List Owed) → min (length ls) (length os) ≡ 0 → agreed log ls os ≡ 0
at_an_end log [] os short = refl
at_an_end log (l ∷ ls) [] short = refl
at_an_end log (l ∷ ls) (o ∷ os) short = absurd (omega arith)

pub returns : goal.returns
returns c =
    let k = c.loop-count.count in
    let once = c.args.once.now in
    let owed = c.args.owed.now in
    let done : agreed c.args.log.now (drop k once) (drop k owed) ≡ 0 = at_an_end c.args.log.now (drop k once) (drop k owed) (omega (arith, length-drop k once, length-drop k owed, c.min-least.ensures)) in
    omega (arith, done, c.loop-count.invariant)
