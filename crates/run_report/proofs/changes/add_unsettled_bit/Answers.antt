use Rattle.std.specs.Prelude.{codes}
use Rattle.report.specs.Names.{bit_of}
use Rattle.run_report.proofs.Lines.{three-pieces}
use Rattle.run_report.proofs.changes.add_unsettled_bit.Goals as goal

pub returns : goal.returns
returns c =
    three-pieces c.add-2.result c.args.text.now c.add.new.self c.add_bit.new.text c.add-2.new.self (codes "  unsettled ") (bit_of c.args.net.now.graph.signals c.args.bit) (codes "\n")
    c.in_ok-add.ensures c.in_ok-add_bit.ensures c.add-2.ensures
