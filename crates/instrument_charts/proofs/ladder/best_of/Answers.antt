use Rattle.instrument_charts.specs.Ladders.{most_levels}
use Rattle.instrument_charts.proofs.Walks.{all_taken}
use Rattle.instrument_charts.proofs.ladder.best_of.Goals as goal

pub returns-else-levels-gt-MOST_LEVELS : goal.returns-else-levels-gt-MOST_LEVELS
returns-else-levels-gt-MOST_LEVELS c = all_taken most_levels c.args.levels.now c.if-levels-gt-MOST_LEVELS.false
