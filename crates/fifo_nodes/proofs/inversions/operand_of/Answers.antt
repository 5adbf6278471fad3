-- The operand of a Not, or of an exclusive or beside a known one.
use Rattle.std.proofs.Common.{◌∙◌, sym}
use Rattle.fifo_nodes.proofs.BareNodes.{not_seen, sides, xor_seen, other_seen}
use Rattle.fifo_nodes.proofs.inversions.operand_of.Goals as goal

pub returns-in-Not : goal.returns-in-Not
returns-in-Not c = λ plain shown own. not_seen c.args.net.now.graph plain.well c.args.node own c.in-Not.a (sym c.cell.ensures ∙ c.in-Not.is)

pub returns-in-Xor : goal.returns-in-Xor
returns-in-Xor c = λ plain shown own.
    let g = c.args.net.now.graph in
    let m = sym c.cell.ensures ∙ c.in-Xor.is in
    let both = sides g plain.well c.args.node own c.in-Xor.a c.in-Xor.b m in
    xor_seen g plain.well c.args.node own c.in-Xor.a c.in-Xor.b m c.operand_beside.result (c.operand_beside.ensures c.args.net.now shown both.0 both.1)

pub returns-in_default : goal.returns-in_default
returns-in_default c = λ plain shown own.
    other_seen c.args.net.now.graph plain.well c.args.node own (λ a e. c.in_default.not-Not a (c.cell.ensures ∙ e)) (λ a b e. c.in_default.not-Xor a b (c.cell.ensures ∙ e))
