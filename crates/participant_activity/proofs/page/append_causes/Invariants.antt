use Rattle.std.proofs.Common.{◌≡◌, ◌++◌}
use Rattle.std.specs.List.{flat_map}
use Rattle.participant_activity.specs.Figures.{cause_figure, ranked, text_of}
use Rattle.participant_activity.proofs.page.append_causes.Given as goal

abbrev pub invariant-loop-rank : goal.invariant-loop-rank
invariant-loop-rank l = l.text.items ++ flat_map (λ r. text_of l.form (cause_figure r)) l.rank-iterator ≡ l.fn.text.items ++ flat_map (λ r. text_of l.form (cause_figure r)) (ranked l.causes.entries)
