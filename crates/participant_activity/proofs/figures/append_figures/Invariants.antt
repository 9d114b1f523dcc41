use Rattle.std.proofs.Common.{◌≡◌, ◌++◌, take}
use Rattle.std.specs.List.{flat_map}
use Rattle.participant_activity.specs.Figures.{lent_text}
use Rattle.participant_activity.proofs.figures.append_figures.Given as goal

abbrev pub invariant-loop-figure : goal.invariant-loop-figure
invariant-loop-figure l = l.text.items ≡ l.fn.text.items ++ flat_map (lent_text l.form) (take l.figure-index l.figures)
