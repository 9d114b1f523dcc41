use Rattle.std.proofs.Common.{◌≡◌, ◌∙◌, sym, ◌≤◌, true, false, arith}
use Rattle.std.specs.Result.{is_ok}
use Rattle.std.specs.HashSet.{keys}
use Rattle.client_ids.specs.Used.{known}
use Rattle.client_ids.proofs.Hashed.{given-ok, Gains, one-more, one-more_first, one-more_second, still-none}
use Rattle.client_ids.proofs.used.UsedIds.add.Goals.{then-is_short, else-is_short}
use Rattle.client_ids.proofs.used.UsedIds.add.Goals as goal

pub invariant_of-self : goal.invariant_of-self
invariant_of-self c =
    let headroom : 1 ≤ (known c.self.inside).headroom = rw (← c.self.view_is) at c.requires in
    elim c.if-is_short.branch [
      | then-is_short w ↦
          let ok : is_ok w.insert-added.result ≡ true = w.insert-added.ensures.succeeds (omega (arith, headroom)) in
          let gains : Gains c.args.name (keys c.self.inside.short) (keys w.insert-added.new.self) = rw (← w.new.ensures) (one-more w.new.result _ _ (given-ok _ w.insert-added.result ok w.insert-added.ensures.updates).0) in
          rw w.self-inside-is (record { few = omega (arith, headroom); short = still-none false c.args.name _ _ (sym c.is_short.ensures ∙ w.if-is_short.true) c.self.invariant.short gains; others = c.self.invariant.others })
      | else-is_short w ↦
          let ok : is_ok w.insert-added-else-is_short.result ≡ true = w.insert-added-else-is_short.ensures.succeeds (omega (arith, headroom)) in
          let gains : Gains c.args.name (keys c.self.inside.others) (keys w.insert-added-else-is_short.new.self) = one-more c.args.name _ _ (given-ok _ w.insert-added-else-is_short.result ok w.insert-added-else-is_short.ensures.updates).0 in
          rw w.self-inside-is (record { few = omega (arith, headroom); short = c.self.invariant.short; others = still-none true c.args.name _ _ (sym c.is_short.ensures ∙ w.if-is_short.false) c.self.invariant.others gains })
    ]

pub returns-clause-names : goal.returns-clause-names
returns-clause-names c = λ who id.
    let headroom : 1 ≤ (known c.self.inside).headroom = rw (← c.self.view_is) at c.requires in
    elim c.if-is_short.branch [
      | then-is_short w ↦
          let ok : is_ok w.insert-added.result ≡ true = w.insert-added.ensures.succeeds (omega (arith, headroom)) in
          let gains : Gains c.args.name (keys c.self.inside.short) (keys w.insert-added.new.self) = rw (← w.new.ensures) (one-more w.new.result _ _ (given-ok _ w.insert-added.result ok w.insert-added.ensures.updates).0) in
          rw (← c.self.view_is) (rw w.self-inside-is (one-more_first c.args.name _ _ (keys c.self.inside.others) gains who id))
      | else-is_short w ↦
          let ok : is_ok w.insert-added-else-is_short.result ≡ true = w.insert-added-else-is_short.ensures.succeeds (omega (arith, headroom)) in
          let gains : Gains c.args.name (keys c.self.inside.others) (keys w.insert-added-else-is_short.new.self) = one-more c.args.name _ _ (given-ok _ w.insert-added-else-is_short.result ok w.insert-added-else-is_short.ensures.updates).0 in
          rw (← c.self.view_is) (rw w.self-inside-is (one-more_second c.args.name (keys c.self.inside.short) _ _ gains who id))
    ]
