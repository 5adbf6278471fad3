-- The register's own cell has its bits.
use Rattle.std.proofs.Common.{◌≡◌, ◌∙◌, sym, subst, arith, true}
use Rattle.fifo_parts.specs.Sides.{AreNodes, holds}
use Rattle.fifo_parts.proofs.CodeNodes.{held_all, own_nodes, own_width, var_kept}
use Rattle.fifo_parts.proofs.side.held_now.Goals as goal

pub returns : goal.returns
returns c = λ well vars two wide.
    let g = c.args.net.now.graph in
    let var = var_kept g c.args.vars.now vars c.args.reg.gray c.in-Some.cell (sym c.of.ensures ∙ c.in-Some.is) in
    let w = own_width g well c.in-Some.cell c.args.reg.gray c.args.width var.1 var.0 (omega arith) wide in
    let yes : holds c.args.reg.shape ≡ true = sym c.holds.ensures ∙ c.if-not-holds.false in
    subst (AreNodes g c.in_ok-held.held) (own_nodes g well c.in-Some.cell c.args.reg.gray c.args.width var.1 var.0 (omega arith) wide
    ∙ held_all c.args.reg.shape yes _)
    (c.in_ok-held.ensures well var.1 (omega (arith, w)))
