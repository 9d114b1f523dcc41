use Rattle.std.proofs.Common.{◌≡◌, ◌+◌, ◌≤◌, ◌++◌, length, take, drop, vec_len, vec_capacity}
use Rattle.fix_fields.specs.Views.{joined}
use Rattle.fix_fields.proofs.append.append_parts.Given as goal

abbrev pub invariant-loop-part : goal.invariant-loop-part
invariant-loop-part l = record {
  text : l.bytes.items ≡ l.fn.bytes.items ++ joined (take l.part-index l.parts);
  headroom : vec_len l.bytes + length (joined (drop l.part-index l.parts)) ≤ vec_capacity l.bytes;
  capacity : vec_capacity l.fn.bytes ≤ vec_capacity l.bytes;
}
