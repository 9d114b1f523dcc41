use Rattle.std.proofs.Common.{◌≡◌, ℕ, Bool, true, false, length, sym, subst, ◌∙◌, rules}
use Rattle.std.specs.Prelude.{IsTrue}
use Rattle.std.proofs.lemmas.List.{length-map}
use Rattle.fix_fields.specs.Views.{entry, entries}
use Rattle.fix_fields.specs.Groups.{IsInRange, kept, cut_before}
use Rattle.fix_fields.specs.GroupParts.{is_whole}
use Rattle.fix_fields.proofs.GroupLemmas.{group-of, no_group_of, some_own, instances_in}
use Rattle.fix_fields.proofs.group.group_among.Goals as goal

not_true : (b : Bool) → b ≡ false → IsTrue b → ⊥
not_true true e h = cc
not_true false e h = search (h, rules)

is_true : (b : Bool) → b ≡ true → IsTrue b
is_true true e = search rules
is_true false e = cc

pub returns-then-not-is_whole : goal.returns-then-not-is_whole
returns-then-not-is_whole c =
    let g = c.args.group.now in
    let parts = c.in-Some.parts in
    let test : is_whole g (entry parts.count) (entries parts.body.now) (entries parts.rest.now) (length (cut_before g.first (entries parts.body.now))) ≡ false =
    subst (λ (n : ℕ). is_whole g (entry parts.count) (entries parts.body.now) (entries parts.rest.now) n ≡ false) c.number-number.ensures (sym c.is_whole.ensures ∙ c.if-not-is_whole.true) in (
      some_own g (entries c.args.fields.now) (entry parts.count) (entries parts.body.now) (entries parts.rest.now) c.in-Some.ensures,
      λ instances. no_group_of g (entries c.args.fields.now) (entry parts.count) (entries parts.body.now) (entries parts.rest.now) instances c.requires c.in-Some.ensures test,
    )

pub returns-then-not-is_in_range : goal.returns-then-not-is_in_range
returns-then-not-is_in_range c =
    let g = c.args.group.now in
    let parts = c.in-Some.parts in
    let test : is_whole g (entry parts.count) (entries parts.body.now) (entries parts.rest.now) (length (cut_before g.first (entries parts.body.now))) ≡ true =
    subst (λ (n : ℕ). is_whole g (entry parts.count) (entries parts.body.now) (entries parts.rest.now) n ≡ true) c.number-number.ensures (sym c.is_whole.ensures ∙ c.if-not-is_whole.false) in
    let many = c.number-number.ensures ∙ sym (length-map (cut_before g.first (entries parts.body.now)) (kept g)) in
    let outside : IsInRange g c.number-number.result → ⊥ = λ within. absurd (not_true c.is_in_range.result c.if-not-is_in_range.true (c.is_in_range.ensures.1 within)) in (
      instances_in g (entries parts.body.now),
      (group-of g (entries c.args.fields.now) (entry parts.count) (entries parts.body.now) (entries parts.rest.now) c.in-Some.ensures test, subst (λ (n : ℕ). IsInRange g n → ⊥) many outside),
    )

pub returns : goal.returns
returns c =
    let g = c.args.group.now in
    let parts = c.in-Some.parts in
    let test : is_whole g (entry parts.count) (entries parts.body.now) (entries parts.rest.now) (length (cut_before g.first (entries parts.body.now))) ≡ true =
    subst (λ (n : ℕ). is_whole g (entry parts.count) (entries parts.body.now) (entries parts.rest.now) n ≡ true) c.number-number.ensures (sym c.is_whole.ensures ∙ c.if-not-is_whole.false) in
    let within : IsInRange g c.number-number.result = c.is_in_range.ensures.0 (is_true c.is_in_range.result c.if-not-is_in_range.false) in (
      group-of g (entries c.args.fields.now) (entry parts.count) (entries parts.body.now) (entries parts.rest.now) c.in-Some.ensures test,
      subst (λ (n : ℕ). IsInRange g n) c.number-number.ensures within,
    )
