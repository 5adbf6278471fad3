use Rattle.std.proofs.Common.{◌∙◌, sym, ap, refl, true, false, None, eq-eqb}
use Rattle.cell_graph.specs.Feeds.{passed_by}
use Rattle.cofactor.specs.Shown.{same_passed}
use Rattle.cofactor.proofs.SameRows.{neq-eqb, var-same, const-same, not-same, and-same, or-same, xor-same, add-same, sub-same, eq-same, lt-same, shl-same, shl-not, shr-same, shr-not, mux-same, concat-same, slice-same, extend-same, reduce-same}
use Rattle.cofactor.proofs.table.Table.same_of.Goals as goal

pub returns-in-Var : goal.returns-in-Var
returns-in-Var c = λ cube well is shown sames masks.
    var-same c.args.graph.now well cube c.args.self.now c.args.node.cell is.0 c.args.node.at is.1 shown sames c.args.masks masks c.in-Var.sig (sym c.cell.ensures ∙ c.in-Var.is) c.unless_known.result c.unless_known.ensures

pub returns-in-Const : goal.returns-in-Const
returns-in-Const c = λ cube well is shown sames masks.
    const-same c.args.graph.now well cube c.args.self.now c.args.node.cell is.0 c.args.node.at is.1 shown sames c.in-Const.width c.in-Const.value (sym c.cell.ensures ∙ c.in-Const.is)

pub returns-in-Not : goal.returns-in-Not
returns-in-Not c = λ cube well is shown sames masks.
    not-same c.args.graph.now well cube c.args.self.now c.args.node.cell is.0 c.args.node.at is.1 shown sames c.in-Not.a (sym c.cell.ensures ∙ c.in-Not.is)

pub returns-in-And : goal.returns-in-And
returns-in-And c = λ cube well is shown sames masks.
    and-same c.args.graph.now well cube c.args.self.now c.args.node.cell is.0 c.args.node.at is.1 shown sames c.args.masks masks c.in-And.a c.in-And.b (sym c.cell.ensures ∙ c.in-And.is)
    c.same_side.result c.unless_known-in-And.result c.same_side.ensures c.unless_known-in-And.ensures

pub returns-in-Or : goal.returns-in-Or
returns-in-Or c = λ cube well is shown sames masks.
    or-same c.args.graph.now well cube c.args.self.now c.args.node.cell is.0 c.args.node.at is.1 shown sames c.args.masks masks c.in-Or.a c.in-Or.b (sym c.cell.ensures ∙ c.in-Or.is)
    c.same_side-in-Or.result c.unless_known-in-Or.result c.same_side-in-Or.ensures c.unless_known-in-Or.ensures

pub returns-in-Xor : goal.returns-in-Xor
returns-in-Xor c = λ cube well is shown sames masks.
    xor-same c.args.graph.now well cube c.args.self.now c.args.node.cell is.0 c.args.node.at is.1 shown sames c.args.masks masks c.in-Xor.a c.in-Xor.b (sym c.cell.ensures ∙ c.in-Xor.is)
    c.same_side-in-Xor.result c.unless_known-in-Xor.result c.same_side-in-Xor.ensures c.unless_known-in-Xor.ensures

pub returns-in-Add : goal.returns-in-Add
returns-in-Add c = λ cube well is shown sames masks.
    add-same c.args.graph.now well cube c.args.self.now c.args.node.cell is.0 c.args.node.at is.1 shown sames c.in-Add.a c.in-Add.b (sym c.cell.ensures ∙ c.in-Add.is)

pub returns-in-Sub : goal.returns-in-Sub
returns-in-Sub c = λ cube well is shown sames masks.
    sub-same c.args.graph.now well cube c.args.self.now c.args.node.cell is.0 c.args.node.at is.1 shown sames c.in-Sub.a c.in-Sub.b (sym c.cell.ensures ∙ c.in-Sub.is)

pub returns-in-Eq : goal.returns-in-Eq
returns-in-Eq c = λ cube well is shown sames masks.
    eq-same c.args.graph.now well cube c.args.self.now c.args.node.cell is.0 c.args.node.at is.1 shown sames c.in-Eq.a c.in-Eq.b (sym c.cell.ensures ∙ c.in-Eq.is)

pub returns-in-Lt : goal.returns-in-Lt
returns-in-Lt c = λ cube well is shown sames masks.
    lt-same c.args.graph.now well cube c.args.self.now c.args.node.cell is.0 c.args.node.at is.1 shown sames c.in-Lt.a c.in-Lt.b (sym c.cell.ensures ∙ c.in-Lt.is)

pub returns-in-Some : goal.returns-in-Some
returns-in-Some c = λ cube well is shown sames masks.
    shl-same c.args.graph.now well cube c.args.self.now c.args.node.cell is.0 c.args.node.at is.1 shown sames c.in-Shl.a c.in-Shl.by (sym c.cell.ensures ∙ c.in-Shl.is) c.amount.result c.in-Some.amount c.in-Some.is c.amount.ensures
    c.same_passed.result (c.same_passed.ensures ∙ ap (same_passed c.args.self.now) c.shifted_left.ensures)

pub returns-in-None : goal.returns-in-None
returns-in-None c = λ cube well is shown sames masks.
    shl-not c.args.graph.now well cube c.args.self.now c.args.node.cell is.0 c.args.node.at is.1 shown sames c.in-Shl.a c.in-Shl.by (sym c.cell.ensures ∙ c.in-Shl.is) c.amount.result c.in-None.is c.amount.ensures

pub returns-in-Some-amount : goal.returns-in-Some-amount
returns-in-Some-amount c = λ cube well is shown sames masks.
    shr-same c.args.graph.now well cube c.args.self.now c.args.node.cell is.0 c.args.node.at is.1 shown sames c.in-Shr.a c.in-Shr.by (sym c.cell.ensures ∙ c.in-Shr.is) c.amount-in-Shr.result c.in-Some-amount.amount c.in-Some-amount.is c.amount-in-Shr.ensures
    c.same_passed-in-Some-amount.result (c.same_passed-in-Some-amount.ensures ∙ ap (same_passed c.args.self.now) c.shifted_right.ensures)

pub returns-in-None-amount : goal.returns-in-None-amount
returns-in-None-amount c = λ cube well is shown sames masks.
    shr-not c.args.graph.now well cube c.args.self.now c.args.node.cell is.0 c.args.node.at is.1 shown sames c.in-Shr.a c.in-Shr.by (sym c.cell.ensures ∙ c.in-Shr.is) c.amount-in-Shr.result c.in-None-amount.is c.amount-in-Shr.ensures

pub returns-in-Mux : goal.returns-in-Mux
returns-in-Mux c = λ cube well is shown sames masks.
    mux-same c.args.graph.now well cube c.args.self.now c.args.node.cell is.0 c.args.node.at is.1 shown sames c.args.masks masks c.in-Mux.cond c.in-Mux.yes c.in-Mux.other (sym c.cell.ensures ∙ c.in-Mux.is)
    c.same_choice.result c.unless_known-in-Mux.result c.same_choice.ensures c.unless_known-in-Mux.ensures

pub returns-in-Concat : goal.returns-in-Concat
returns-in-Concat c = λ cube well is shown sames masks.
    concat-same c.args.graph.now well cube c.args.self.now c.args.node.cell is.0 c.args.node.at is.1 shown sames c.in-Concat.high c.in-Concat.low (sym c.cell.ensures ∙ c.in-Concat.is) c.same_passed-in-Concat.result
    (c.same_passed-in-Concat.ensures ∙ ap (same_passed c.args.self.now) (c.passed.ensures ∙ ap (λ d. passed_by c.args.graph.now d c.args.node.at) (sym c.cell.ensures ∙ c.in-Concat.is)))

pub returns-in-Slice : goal.returns-in-Slice
returns-in-Slice c = λ cube well is shown sames masks.
    slice-same c.args.graph.now well cube c.args.self.now c.args.node.cell is.0 c.args.node.at is.1 shown sames c.in-Slice.a c.in-Slice.at c.in-Slice.width (sym c.cell.ensures ∙ c.in-Slice.is) c.same_passed-in-Slice.result
    (c.same_passed-in-Slice.ensures ∙ ap (same_passed c.args.self.now) (c.passed-in-Slice.ensures ∙ ap (λ d. passed_by c.args.graph.now d c.args.node.at) (sym c.cell.ensures ∙ c.in-Slice.is)))

pub returns-in-Extend : goal.returns-in-Extend
returns-in-Extend c = λ cube well is shown sames masks.
    extend-same c.args.graph.now well cube c.args.self.now c.args.node.cell is.0 c.args.node.at is.1 shown sames c.in-Extend.a c.in-Extend.width (sym c.cell.ensures ∙ c.in-Extend.is) c.same_passed-in-Extend.result
    (c.same_passed-in-Extend.ensures ∙ ap (same_passed c.args.self.now) (c.passed-in-Extend.ensures ∙ ap (λ d. passed_by c.args.graph.now d c.args.node.at) (sym c.cell.ensures ∙ c.in-Extend.is)))

pub returns-then-width-eq1 : goal.returns-then-width-eq1
returns-then-width-eq1 c = λ cube well is shown sames masks.
    reduce-same c.args.graph.now well cube c.args.self.now c.args.node.cell is.0 c.args.node.at is.1 shown sames c.in-Reduce.kind c.in-Reduce.a (sym c.cell.ensures ∙ c.in-Reduce.is) c.width.result c.width.ensures true (eq-eqb c.width.result 1 c.if-width-eq1.true) c.same.result c.same.ensures

pub returns-else-width-eq1 : goal.returns-else-width-eq1
returns-else-width-eq1 c = λ cube well is shown sames masks.
    reduce-same c.args.graph.now well cube c.args.self.now c.args.node.cell is.0 c.args.node.at is.1 shown sames c.in-Reduce.kind c.in-Reduce.a (sym c.cell.ensures ∙ c.in-Reduce.is) c.width.result c.width.ensures false (neq-eqb c.width.result 1 c.if-width-eq1.false) None refl
