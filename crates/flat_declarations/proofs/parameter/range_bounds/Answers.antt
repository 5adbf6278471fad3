use Rattle.verilog_reading.specs.SourceTree.{bounds_of}
use Rattle.flat_unfolding.specs.Expressions.{read}
use Rattle.flat_names.proofs.Options.{ok-map}
use Rattle.flat_declarations.proofs.Rules.{bounds-noted}
use Rattle.flat_declarations.proofs.parameter.range_bounds.Goals as goal

pub returns : goal.returns
returns c = λ l shows is formed.
    let b = bounds_of c.args.range.now in
    let x = c.in_ok-left.ensures l shows is formed.0 in
    let y = c.in_ok-right.ensures l shows is formed.1 in
    ok-map c.bounds_of.result (λ o h. (h.0, bounds-noted l b c.args.faults.now c.resolve_constant.new.faults c.resolve_constant-2.new.faults c.bounds_of.new.faults is formed.1 x.1 y.1 h.1))
    (c.bounds_of.ensures (read l b.left) (read l b.right) x.0 y.0)
