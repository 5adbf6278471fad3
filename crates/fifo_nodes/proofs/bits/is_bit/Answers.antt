-- A node is the bit of a signal where its cell is that signal's.
use Rattle.std.proofs.Common.{◌∙◌, sym, ap, subst, option_map}
use Rattle.cell_graph.specs.Unfolded.{bit_of}
use Rattle.fifo_terms.specs.Takes.{is_own}
use Rattle.gray_pointer.specs.Words.{IsIn}
use Rattle.fifo_nodes.proofs.SignalBits.{same_signal, other_signal, other_own, told_bit}
use Rattle.fifo_nodes.proofs.bits.is_bit.Goals as goal

pub returns-then-sig-bit-clause-own : goal.returns-then-sig-bit-clause-own
returns-then-sig-bit-clause-own c = λ plain is.
    let g = c.args.net.now.graph in
    let node = subst (IsIn g) c.in-Some.is is in
    sym (ap (λ o. is_own c.args.bit (option_map (bit_of g) o)) c.in-Some.is
    ∙ same_signal g plain.well c.args.bit c.in-Some.node node c.in-Var.sig (sym c.cell.ensures ∙ c.in-Var.is) c.if-sig-bit.true)

pub returns-then-sig-bit-clause-exact : goal.returns-then-sig-bit-clause-exact
returns-then-sig-bit-clause-exact c = λ plain is.
    told_bit c.args.net.now.graph plain.well c.args.bit c.args.node _ is (returns-then-sig-bit-clause-own c plain is)

pub returns-else-sig-bit-clause-own : goal.returns-else-sig-bit-clause-own
returns-else-sig-bit-clause-own c = λ plain is.
    let g = c.args.net.now.graph in
    let node = subst (IsIn g) c.in-Some.is is in
    sym (ap (λ o. is_own c.args.bit (option_map (bit_of g) o)) c.in-Some.is
    ∙ other_signal g plain.well c.args.bit c.in-Some.node node c.in-Var.sig (sym c.cell.ensures ∙ c.in-Var.is) c.if-sig-bit.false)

pub returns-else-sig-bit-clause-exact : goal.returns-else-sig-bit-clause-exact
returns-else-sig-bit-clause-exact c = λ plain is.
    told_bit c.args.net.now.graph plain.well c.args.bit c.args.node _ is (returns-else-sig-bit-clause-own c plain is)

pub returns-in_default-clause-own : goal.returns-in_default-clause-own
returns-in_default-clause-own c = λ plain is.
    let g = c.args.net.now.graph in
    let node = subst (IsIn g) c.in-Some.is is in
    sym (ap (λ o. is_own c.args.bit (option_map (bit_of g) o)) c.in-Some.is
    ∙ other_own g plain.well c.args.bit c.in-Some.node node (λ sig e. c.in_default.not-Var sig (c.cell.ensures ∙ e)))

pub returns-in_default-clause-exact : goal.returns-in_default-clause-exact
returns-in_default-clause-exact c = λ plain is.
    told_bit c.args.net.now.graph plain.well c.args.bit c.args.node _ is (returns-in_default-clause-own c plain is)
