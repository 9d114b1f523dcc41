use Rattle.std.proofs.Common.{◌≡◌, ◌∙◌, ap, subst, sym, List, ℕ, true}
use Rattle.toml.specs.View.{view}
use Rattle.toml.specs.declared.value.Value.{Value}
use Rattle.participants.specs.Names.{is_name}
use Rattle.participants.specs.Reading.{named}
use Rattle.config_format.proofs.ListLemmas.{all-at, pushed-more}
use Rattle.participants.proofs.reading.pairs_in.Goals as goal

pub from_slice-requires : goal.from_slice-requires
from_slice-requires c =
    subst (λ (text : List ℕ). is_name text ≡ true) (sym c.text_at.ensures)
    (all-at (λ (entry : Value). is_name (named (view entry)).0) c.args.list.now c.loop-entry.entry-index c.entry-item.result c.requires.first c.entry-item.is c.loop-entry-test.true)

pub from_slice-requires-in-loop-entry : goal.from_slice-requires-in-loop-entry
from_slice-requires-in-loop-entry c =
    subst (λ (text : List ℕ). is_name text ≡ true) (sym c.text_at-in-loop-entry.ensures)
    (all-at (λ (entry : Value). is_name (named (view entry)).1) c.args.list.now c.loop-entry.entry-index c.entry-item.result c.requires.second c.entry-item.is c.loop-entry-test.true)

pub loop-entry-preserved : goal.loop-entry-preserved
loop-entry-preserved c =
    let a = c.in_ok-a.ensures ∙ c.text_at.ensures in
    let b = c.in_ok-b.ensures ∙ c.text_at-in-loop-entry.ensures in
    let both = ap (λ (x : List ℕ). (x, c.in_ok-b.b)) a ∙ ap (λ (y : List ℕ). ((named (view c.entry-item.result)).0, y)) b in
    pushed-more (λ (entry : Value). named (view entry)) c.args.list.now c.loop-entry.entry-index c.entry-item.result c.loop-entry.pairs.items c.push.new.self.items _ c.loop-entry.invariant c.in_ok-push.ensures.items both c.entry-item.is
    c.loop-entry-test.true
