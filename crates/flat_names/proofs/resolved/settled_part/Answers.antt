use Rattle.std.proofs.Common.{sym, subst}
use Rattle.flat_names.specs.Pieces.{IsPiece}
use Rattle.flat_names.proofs.Counted.{part-unsized}
use Rattle.flat_names.proofs.resolved.settled_part.Goals as goal

pub returns-then-part : goal.returns-then-part
returns-then-part c = λ p is fits.
    let h = c.in_ok-part.ensures p is fits in
    let part = subst (IsPiece p) (sym h.0) is in
    part-unsized c.args.faults.now c.settled.new.faults c.note.new.self p c.in_ok-part.part part h.1 c.in_ok-note.ensures c.if-part.true
