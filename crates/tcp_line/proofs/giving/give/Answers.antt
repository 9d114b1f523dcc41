use Rattle.std.proofs.Common.{◌≡◌, ℕ, ◌-◌, List, [], ◌++◌, rules, refl, length, take, drop, sym, ap, ◌∙◌, subst, append_assoc, append-nil, take-append-drop, drop_of_length-le}
use Rattle.std.proofs.lemmas.List.{take_rest}
use Rattle.std.specs.Io.KnownBytes.{Appends}
use Rattle.std.proofs.KnownBytes.{Appends-nil, Appends-trans, Appends-kept}
use Rattle.tcp_line.proofs.giving.give.Goals as goal
use Rattle.tcp_line.proofs.giving.give.Goals.{in-Ok, in-Err+else-not-may_try_again}

moves_front : (all done park : List ℕ) (n : ℕ) → all ≡ done ++ park → all ≡ (done ++ take n park) ++ take (length park - n) (drop n park)
moves_front all done park n e =
    e ∙ ap (λ l. done ++ l) (sym (take-append-drop n park)) ∙ sym (append_assoc done (take n park) (drop n park)) ∙ ap (λ l. (done ++ take n park) ++ l) (sym (take_rest park n))

pub loop-init : goal.loop-init
loop-init g c = ([], refl, Appends-nil _)

pub returns-then-is_empty : goal.returns-then-is_empty
returns-then-is_empty g c =
    let (done, split, appended) = c.loop.invariant in
    let park = c.loop.park.now in
    let empty : park ≡ [] = drop_of_length-le park {i = 0} (search rules) in
    subst (Appends _ _) (sym (split ∙ ap (λ l. done ++ l) empty ∙ append-nil done)) appended

pub returns-in-Ok-eq0 : goal.returns-in-Ok-eq0
returns-in-Ok-eq0 g c =
    let (done, split, appended) = c.loop.invariant in
    let park = c.loop.park.now in
    let n = c.in-Ok-eq0.field-0 in
    (done ++ take n park, take (length park - n) (drop n park), moves_front c.args.bytes.now done park n split, Appends-trans _ _ _ done (take n park) appended c.in-Ok-eq0.ensures.bytes)

pub returns-then-not-may_try_again : goal.returns-then-not-may_try_again
returns-then-not-may_try_again g c =
    let (done, split, appended) = c.loop.invariant in
    (done, c.loop.park.now, split, Appends-kept _ _ _ _ appended c.in-Err.ensures.bytes)

pub loop-preserved : goal.loop-preserved
loop-preserved g c =
    let (done, split, appended) = c.loop.invariant in
    let park = c.loop.park.now in
    elim c.match-write.branch [
      | in-Ok w ↦ rw w.park-is (done ++ take w.in-Ok.count park, moves_front c.args.bytes.now done park w.in-Ok.count split, Appends-trans _ _ _ done (take w.in-Ok.count park) appended w.in-Ok.ensures.bytes)
      | in-Err+else-not-may_try_again w ↦ rw w.park-is (done, split, Appends-kept _ _ _ _ appended w.in-Err.ensures.bytes)
    ]

pub returns : goal.returns
returns g c = let (done, split, appended) = c.loop.invariant in (done, c.loop.park.now, split, appended)
