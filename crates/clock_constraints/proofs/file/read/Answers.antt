use Rattle.toml.specs.View.{table_view}
use Rattle.clock_constraints.proofs.FitFiles.{gives-fit}
use Rattle.clock_constraints.proofs.file.read.Goals as goal

pub returns-clause-fit : goal.returns-clause-fit
returns-clause-fit c = gives-fit c.constraints.result (table_view c.in-Ok.table) c.constraints.ensures
