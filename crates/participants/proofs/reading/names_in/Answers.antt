use Rattle.std.proofs.Common.{◌≡◌, ◌∙◌, subst, sym, codes, List, ℕ, true}
use Rattle.toml.specs.View.{view}
use Rattle.toml.specs.declared.value.Value.{Value}
use Rattle.participants.specs.Names.{is_name}
use Rattle.config_format.specs.Document.{text_at}
use Rattle.config_format.proofs.ListLemmas.{all-at, pushed-more}
use Rattle.participants.proofs.reading.names_in.Goals as goal

-- the name of an entry
abbrev name_at : Value → List ℕ
name_at entry = text_at (codes "name") (view entry)

pub from_slice-requires : goal.from_slice-requires
from_slice-requires c =
    subst (λ (text : List ℕ). is_name text ≡ true) (sym c.text_at.ensures) (all-at (λ (entry : Value). is_name (name_at entry)) c.args.list.now c.loop-entry.entry-index c.entry-item.result c.requires c.entry-item.is c.loop-entry-test.true)

pub loop-entry-preserved : goal.loop-entry-preserved
loop-entry-preserved c =
    pushed-more name_at c.args.list.now c.loop-entry.entry-index c.entry-item.result c.loop-entry.names.items c.push.new.self.items _ c.loop-entry.invariant c.in_ok-push.ensures.items (c.in_ok-name.ensures ∙ c.text_at.ensures) c.entry-item.is
    c.loop-entry-test.true
