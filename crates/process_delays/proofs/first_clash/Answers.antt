use Rattle.std.proofs.Common.{sym, ◌∙◌}
use Rattle.verilog_reading.specs.StmtTree.{stmt_tree_of}
use Rattle.process_delays.proofs.Undelayed.{undelayed}
use Rattle.process_delays.proofs.first_clash.Goals as goal

pub returns-then-not-has_delay : goal.returns-then-not-has_delay
returns-then-not-has_delay c = sym (undelayed (stmt_tree_of c.args.body.now) (sym c.has_delay.ensures ∙ c.if-not-has_delay.true))
