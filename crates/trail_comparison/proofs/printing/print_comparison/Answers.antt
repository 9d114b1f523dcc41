use Rattle.std.proofs.Common.{sym, ◌∙◌}
use Rattle.std.proofs.lemmas.List.Elements.{All-take}
use Rattle.venue_core.specs.Replay.{IsItem}
use Rattle.trail_comparison.specs.Comparison.{side_of}
use Rattle.trail_comparison.proofs.SideBySide.{all_same, others_follow}
use Rattle.trail_comparison.proofs.printing.print_comparison.Goals as goal

pub returns-then-are_same_rules-clause-emitted : goal.returns-then-are_same_rules-clause-emitted
returns-then-are_same_rules-clause-emitted g c =
    all_same (side_of c.args.a) (side_of c.args.b) c.in_ok-shared.shared (g.W.Write.contents c.args.writer.now) (g.W.Write.contents c.print_sides.new.writer) c.in_ok-shared.ensures.shared
    (sym c.are_same_rules.ensures ∙ c.if-are_same_rules.true) c.in_ok-shared.ensures.written

pub print_answers-requires-clause-kept : goal.print_answers-requires-clause-kept
print_answers-requires-clause-kept g c = All-take IsItem c.in_ok-shared.shared c.args.a.contents.rows.now c.requires.kept

pub returns-clause-emitted : goal.returns-clause-emitted
returns-clause-emitted g c =
    others_follow (side_of c.args.a) (side_of c.args.b) c.in_ok-shared.shared (g.W.Write.contents c.args.writer.now) (g.W.Write.contents c.print_sides.new.writer) (g.W.Write.contents c.print_answers.new.writer)
    c.in_ok-shared.ensures.shared (sym c.are_same_rules.ensures ∙ c.if-are_same_rules.false) c.in_ok-shared.ensures.written c.in_ok-print_answers.ensures.emitted
