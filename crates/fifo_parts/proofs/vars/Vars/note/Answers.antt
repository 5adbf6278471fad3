-- The signal's place has the cell.
use Rattle.std.proofs.Common.{◌∙◌, sym, subst, arith, ◌<◌, length}
use Rattle.fifo_parts.specs.Sides.{AreVarsBelow}
use Rattle.fifo_parts.proofs.Kept.{vars_more}
use Rattle.fifo_parts.proofs.vars.Vars.note.Goals as goal

pub returns-then-place-len : goal.returns-then-place-len
returns-then-place-len c = λ inside are.
    let g = c.args.net.now.graph in
    let cells = c.self.inside.cells in
    let lt : c.in-Var.sig < length cells.items = omega (arith, cells.ok.0, c.len.ensures) in
    vars_more g c.args.cell inside cells.items (subst (AreVarsBelow g c.args.cell.0) (sym c.self.view_is) are) c.in-Var.sig (sym c.cell.ensures
    ∙ c.in-Var.is) lt
