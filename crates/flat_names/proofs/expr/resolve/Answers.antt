use Rattle.std.proofs.Common.{is_some, sym, ap, subst, ◌∙◌}
use Rattle.verilog_reading.specs.ExprTree.{tree_of}
use Rattle.flat_unfolding.specs.Expressions.{read}
use Rattle.flat_names.specs.declared.resolved.Resolved.{Resolved}
use Rattle.flat_names.specs.Pieces.{piece, IsRead}
use Rattle.flat_names.proofs.Fit.{fit}
use Rattle.flat_names.proofs.Options.{ok-map}
use Rattle.flat_names.proofs.Written.{settled-after, counted-same}
use Rattle.flat_names.proofs.expr.resolve.Goals as goal

pub returns : goal.returns
returns c = λ l shows is formed.
    let e = tree_of c.args.expr.now in
    let h = c.in_ok-resolved.ensures l shows is formed in
    ok-map c.settled.result
    (λ r i. (
      subst (IsRead (read l e)) (sym i.0) h.0.is,
      settled-after c.args.faults.now c.part_of.new.faults c.settled.new.faults (piece l e) h.1 i.1,
      ap (λ (x : Resolved). is_some x.count) i.0 ∙ counted-same (piece l e) c.in_ok-resolved.resolved h.0,
      ap (λ (x : Resolved). x.signs) i.0 ∙ h.0.signs,
    ))
    (c.settled.ensures (piece l e) h.0 (fit l is e formed))
