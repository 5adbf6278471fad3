-- The whole is a multiplexer, or the word is no choice.
use Rattle.std.proofs.Common.{◌∙◌, sym, subst}
use Rattle.gray_pointer.specs.Words.{IsWhole}
use Rattle.gray_pointer.proofs.Wholes.{in_graph, other_choice, cond_node, choice_found}
use Rattle.gray_pointer.proofs.word.choice_of.Goals as goal

pub returns-in-Mux : goal.returns-in-Mux
returns-in-Mux c = λ plain has.
    let g = c.args.net.now.graph in
    let id = c.args.cell in
    let w = c.args.width in
    let whole = c.in_ok-whole.whole in
    let is = subst (IsWhole g id w) c.in_ok-whole.was (c.whole_origin.ensures plain has) in
    let at = sym c.cell.ensures ∙ c.in-Mux.is in
    let node = cond_node g plain id w has whole is c.in-Mux.cond c.in-Mux.yes c.in-Mux.other at in
    choice_found g plain id w has whole is c.in-Mux.cond c.in-Mux.yes c.in-Mux.other at c.origin.result (c.origin.ensures.exact plain.well node)
    (in_graph g c.origin.result (λ n e. (c.origin.ensures.within plain.well node n e).0))

pub returns-in_default : goal.returns-in_default
returns-in_default c = λ plain has.
    let g = c.args.net.now.graph in
    let id = c.args.cell in
    let w = c.args.width in
    let is = subst (IsWhole g id w) c.in_ok-whole.was (c.whole_origin.ensures plain has) in
    other_choice g plain id w has c.in_ok-whole.whole is (λ p x y e. c.in_default.not-Mux p x y (c.cell.ensures ∙ e))
