use Rattle.std.proofs.Common.{◌≡◌, ◌≤◌, ◌++◌, length}
use Rattle.fix_fields.specs.Fields.{AreFields, fields_text}
use Rattle.fix_fields.specs.Views.{entries}
use Rattle.fix_fields.proofs.fields.Fields.read.Given as goal

abbrev pub invariant-loop-rest : goal.invariant-loop-rest
invariant-loop-rest l = record {
  fields : AreFields (entries l.self-inside.items.items);
  headroom : 64 ≤ l.self-inside.items.capacity;
  text : l.fn.body ≡ fields_text (entries l.self-inside.items.items) ++ l.rest;
}

abbrev pub decreases-loop-rest : goal.decreases-loop-rest
decreases-loop-rest l = length l.rest
