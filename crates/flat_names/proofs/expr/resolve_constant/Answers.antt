use Rattle.verilog_reading.specs.ExprTree.{tree_of}
use Rattle.flat_names.specs.Pieces.{piece}
use Rattle.flat_names.proofs.Fit.{fit}
use Rattle.flat_names.proofs.Options.{ok-map, ok-both}
use Rattle.flat_names.proofs.Written.{constant-after}
use Rattle.flat_names.proofs.expr.resolve_constant.Goals as goal

pub returns : goal.returns
returns c = λ l shows is formed.
    let e = tree_of c.args.expr.now in
    let h = c.in_ok-resolved.ensures l shows is formed in
    let f = fit l is e formed in
    let read = ok-both _ _ c.settled_constant.result (c.settled_constant.ensures.read (piece l e) h.0 f) (c.settled_constant.ensures.counted (piece l e) h.0 f) in
    ok-map c.settled_constant.result (λ r i. (i.0.0.0, constant-after c.args.faults.now c.part_of.new.faults c.settled_constant.new.faults (piece l e) h.1 i.0.0.1, i.0.1, i.1))
    (ok-both _ _ c.settled_constant.result read (c.settled_constant.ensures.signs (piece l e) h.0 f))
