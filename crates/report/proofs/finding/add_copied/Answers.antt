use Rattle.std.proofs.Common.{◌∙◌, ◌++◌, ap, []}
use Rattle.std.specs.Prelude.{codes}
use Rattle.std.specs.Fmt.{decimal}
use Rattle.report.specs.Findings.{bits_copied}
use Rattle.report.proofs.Lines.{three-pieces}
use Rattle.report.proofs.finding.add_copied.Goals as goal

pub returns : goal.returns
returns c =
    three-pieces c.add-2.result c.args.line.now c.add.new.self c.add_number.new.self c.add-2.new.self (codes ": ") (decimal (bits_copied [] c.args.flops.now))
    (codes " bits by first flops and no Gray register")
    c.in_ok-add.ensures (c.in_ok-add_number.ensures ∙ ap (λ n. c.add.new.self ++ decimal n) c.count_bits.ensures) c.add-2.ensures
