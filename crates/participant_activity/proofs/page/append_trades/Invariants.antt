use Rattle.std.proofs.Common.{◌≡◌, ◌++◌}
use Rattle.std.specs.List.{flat_map}
use Rattle.participant_activity.specs.Figures.{figures_text, trade_figures}
use Rattle.participant_activity.proofs.page.append_trades.Given as goal

abbrev pub invariant-loop-name : goal.invariant-loop-name
invariant-loop-name l = l.text.items ++ flat_map (λ d. figures_text l.form (trade_figures d)) l.name-iterator ≡ l.fn.text.items ++ flat_map (λ d. figures_text l.form (trade_figures d)) l.trades.entries
