use Rattle.std.specs.Prelude.{codes}
use Rattle.std.specs.Fmt.{decimal}
use Rattle.report.proofs.Lines.{three-pieces}
use Rattle.report.proofs.finding.add_fewer.Goals as goal

pub returns : goal.returns
returns c =
    three-pieces c.add-2.result c.args.line.now c.add.new.self c.add_number.new.self c.add-2.new.self (codes ": fewer than ") (decimal c.args.flops) (codes " flops")
    c.in_ok-add.ensures c.in_ok-add_number.ensures c.add-2.ensures
