use Rattle.std.proofs.Common.{◌≡◌, ◌-◌, length}
use Rattle.page_text.specs.Parts.{with_parts}
use Rattle.day_tables.specs.Parts.{each_from}
use Rattle.rule_counts.specs.Rules.{adjusted_parts}
use Rattle.rule_counts.proofs.rules.add_each.Given as goal

-- the parts so far, and then those of the others, are all
abbrev pub invariant-loop-instrument : goal.invariant-loop-instrument
invariant-loop-instrument l = with_parts l.page (each_from (adjusted_parts l.instruments) l.instrument (length l.instruments - l.instrument)) ≡ with_parts l.fn.page (each_from (adjusted_parts l.instruments) 0 (length l.instruments))
