use Rattle.toml.specs.View.{table_view}
use Rattle.surveillance.proofs.Stating.{refuses, states}
use Rattle.surveillance.proofs.thresholds.thresholds_in.Goals as goal

pub returns-in-Ok-clause-read : goal.returns-in-Ok-clause-read
returns-in-Ok-clause-read c = states c.args.text.now (table_view c.in-Ok.table) c.bounds_in.result c.in-Ok.ensures.ok.0 c.in-Ok.ensures.ok.1 c.bounds_in.ensures.read

pub returns-in-Ok-clause-fault : goal.returns-in-Ok-clause-fault
returns-in-Ok-clause-fault c = refuses c.args.text.now (table_view c.in-Ok.table) c.bounds_in.result c.in-Ok.ensures.ok.0 c.in-Ok.ensures.ok.1 c.bounds_in.ensures.fault
