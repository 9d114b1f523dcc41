use Rattle.std.proofs.Common.{◌≡◌, ◌∙◌, sym, ap, ℕ, ◌+◌, ◌||◌, List, length, nat_eq, take, arith}
use Rattle.venue_rules.specs.declared.facts.Fact.{Fact}
use Rattle.rfq_room.specs.Flags.{Known, is_set}
use Rattle.rfq_room.specs.Flagged.{is_flagged, number_in}
use Rattle.rfq_room.proofs.Flagging.{any-some, any-none, number-given, number-not_given}
use Rattle.rfq_room.proofs.room_index.add_flags.Goals.{else-is_numbered, in-Some, in_default, then-is_numbered}
use Rattle.rfq_room.proofs.room_index.add_flags.Goals as goal

pub loop-fact-preserved : goal.loop-fact-preserved
loop-fact-preserved c =
    let fs : List Fact = c.args.facts.now in
    let m = c.args.flag in
    let i = c.loop-fact.fact-index in
    let f : Fact = c.fact-item.result in
    let old : Known = c.args.flags.now in
    let before : Known = c.loop-fact.flags in
    let between : Known = c.match-number_in.flags in
    let flagged : (n : ℕ) → is_set between.flags n ≡ (is_flagged m (take (i + 1) fs) n || is_set old.flags n) = elim c.match-number_in.branch [
      | in-Some w ↦ λ n. any-some (nat_eq n) (number_in m) fs i f w.in-Some.number _ _ c.loop-fact-test.true c.fact-item.is (sym c.number_in.ensures ∙ w.in-Some.is) (ap (λ (u : Known). is_set u.flags n) w.flags-is ∙ w.set.ensures.flags n ∙ ap (λ b. nat_eq n w.in-Some.number || b) (c.loop-fact.invariant.flags n))
      | in_default w ↦ λ n. any-none (nat_eq n) (number_in m) fs i f _ _ c.loop-fact-test.true c.fact-item.is (sym c.number_in.ensures ∙ w.in_default.is) (ap (λ (u : Known). is_set u.flags n) w.flags-is ∙ c.loop-fact.invariant.flags n)
    ] in
    let as_many : (length between.flags ≡ length before.flags) × (between.headroom ≡ before.headroom) = elim c.match-number_in.branch [
      | in-Some w ↦ (ap (λ (u : Known). length u.flags) w.flags-is ∙ w.set.ensures.count, ap (λ (u : Known). u.headroom) w.flags-is ∙ w.set.ensures.headroom)
      | in_default w ↦ (ap (λ (u : Known). length u.flags) w.flags-is, ap (λ (u : Known). u.headroom) w.flags-is)
    ] in
    elim c.if-is_numbered.branch [
      | then-is_numbered w ↦
          let given = number-given m fs i f c.loop-fact-test.true c.fact-item.is (sym c.is_numbered.ensures ∙ w.if-is_numbered.true) in record {
            flags = λ n. ap (λ (u : Known). is_set u.flags n) w.flags-is ∙ w.push.ensures.flags n ∙ flagged n;
            count = omega (arith, ap (λ (u : Known). length u.flags) w.flags-is, w.push.ensures.count, as_many.0, c.loop-fact.invariant.count, given);
            headroom = omega (arith, ap (λ (u : Known). u.headroom) w.flags-is, w.push.ensures.headroom, as_many.1, c.loop-fact.invariant.headroom);
          }
      | else-is_numbered w ↦
          let given = number-not_given m fs i f c.loop-fact-test.true c.fact-item.is (sym c.is_numbered.ensures ∙ w.if-is_numbered.false) in record {
            flags = λ n. ap (λ (u : Known). is_set u.flags n) w.flags-is ∙ flagged n;
            count = omega (arith, ap (λ (u : Known). length u.flags) w.flags-is, as_many.0, c.loop-fact.invariant.count, given);
            headroom = omega (arith, ap (λ (u : Known). u.headroom) w.flags-is, as_many.1, c.loop-fact.invariant.headroom);
          }
    ]
