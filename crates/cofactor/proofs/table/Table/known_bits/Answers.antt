use Rattle.std.proofs.Common.{◌∙◌, sym, arith}
use Rattle.cell_graph.specs.Cofactor.{fixed}
use Rattle.cofactor.specs.Cubes.{bit, cube_of}
use Rattle.cofactor.proofs.Rows.{own-64, var-row, const-row, not-row, and-row, or-row, xor-row, add-row, sub-row, eq-row, lt-row, shl-row, shl-none, shr-row, shr-none, mux-row, concat-row, slice-row, extend-row, reduce-row}
use Rattle.cofactor.proofs.table.Table.known_bits.Goals as goal

pub returns-in-Var : goal.returns-in-Var
returns-in-Var c = λ well lt shown.
    var-row c.args.graph.now well (cube_of c.args.cube.now) c.args.self.now c.args.id lt shown c.in-Var.sig (sym c.cell.ensures ∙ c.in-Var.is) c.width-width.result c.width-width.ensures
    c.sliced.result
    (c.sliced.ensures (λ i. fixed (cube_of c.args.cube.now) (bit c.in-Var.sig i)) 64 (omega arith) (let l = own-64 c.args.graph.now well (cube_of c.args.cube.now) c.args.self.now c.args.id lt shown c.width-width.result c.width-width.ensures in omega arith) c.fixed_bits-fixed.ensures)

pub returns-in-Const : goal.returns-in-Const
returns-in-Const c = λ well lt shown.
    const-row c.args.graph.now well (cube_of c.args.cube.now) c.args.self.now c.args.id lt shown c.in-Const.width c.in-Const.value (sym c.cell.ensures ∙ c.in-Const.is) c.width-width.result c.width-width.ensures
    c.of_word.result
    c.of_word.ensures

pub returns-in-Not : goal.returns-in-Not
returns-in-Not c = λ well lt shown.
    not-row c.args.graph.now well (cube_of c.args.cube.now) c.args.self.now c.args.id lt shown c.in-Not.a (sym c.cell.ensures ∙ c.in-Not.is)
    c.not_of.result
    (λ k w small h. c.not_of.ensures k w small (c.masks.ensures ∙ h))

pub returns-in-And : goal.returns-in-And
returns-in-And c = λ well lt shown.
    and-row c.args.graph.now well (cube_of c.args.cube.now) c.args.self.now c.args.id lt shown c.in-And.a c.in-And.b (sym c.cell.ensures ∙ c.in-And.is)
    c.and_of.result
    (λ k l w small h g. c.and_of.ensures k l w small (c.masks-in-And.ensures ∙ h) (c.masks-in-And-2.ensures ∙ g))

pub returns-in-Or : goal.returns-in-Or
returns-in-Or c = λ well lt shown.
    or-row c.args.graph.now well (cube_of c.args.cube.now) c.args.self.now c.args.id lt shown c.in-Or.a c.in-Or.b (sym c.cell.ensures ∙ c.in-Or.is)
    c.or_of.result
    (λ k l w small h g. c.or_of.ensures k l w small (c.masks-in-Or.ensures ∙ h) (c.masks-in-Or-2.ensures ∙ g))

pub returns-in-Xor : goal.returns-in-Xor
returns-in-Xor c = λ well lt shown.
    xor-row c.args.graph.now well (cube_of c.args.cube.now) c.args.self.now c.args.id lt shown c.in-Xor.a c.in-Xor.b (sym c.cell.ensures ∙ c.in-Xor.is)
    c.xor_of.result
    (λ k l w small h g. c.xor_of.ensures k l w small (c.masks-in-Xor.ensures ∙ h) (c.masks-in-Xor-2.ensures ∙ g))

pub returns-in-Add : goal.returns-in-Add
returns-in-Add c = λ well lt shown.
    add-row c.args.graph.now well (cube_of c.args.cube.now) c.args.self.now c.args.id lt shown c.in-Add.a c.in-Add.b (sym c.cell.ensures ∙ c.in-Add.is) c.width-width.result c.width-width.ensures
    c.sum_of.result
    (λ k l small h g. c.sum_of.ensures k l small (c.masks-in-Add.ensures ∙ h) (c.masks-in-Add-2.ensures ∙ g))

pub returns-in-Sub : goal.returns-in-Sub
returns-in-Sub c = λ well lt shown.
    sub-row c.args.graph.now well (cube_of c.args.cube.now) c.args.self.now c.args.id lt shown c.in-Sub.a c.in-Sub.b (sym c.cell.ensures ∙ c.in-Sub.is) c.width-width.result c.width-width.ensures
    c.difference_of.result
    (λ k l small h g. c.difference_of.ensures k l small (c.masks-in-Sub.ensures ∙ h) (c.masks-in-Sub-2.ensures ∙ g))

pub returns-in-Eq : goal.returns-in-Eq
returns-in-Eq c = λ well lt shown.
    eq-row c.args.graph.now well (cube_of c.args.cube.now) c.args.self.now c.args.id lt shown c.in-Eq.a c.in-Eq.b (sym c.cell.ensures ∙ c.in-Eq.is) c.width.result c.width.ensures
    c.equal_of.result
    (λ k l small h g. c.equal_of.ensures k l small (c.masks-in-Eq.ensures ∙ h) (c.masks-in-Eq-2.ensures ∙ g))

pub returns-in-Lt : goal.returns-in-Lt
returns-in-Lt c = λ well lt shown.
    lt-row c.args.graph.now well (cube_of c.args.cube.now) c.args.self.now c.args.id lt shown c.in-Lt.a c.in-Lt.b (sym c.cell.ensures ∙ c.in-Lt.is) c.width-in-Lt.result c.width-in-Lt.ensures
    c.less_of.result
    (λ k l small h g. c.less_of.ensures k l small (c.masks-in-Lt.ensures ∙ h) (c.masks-in-Lt-2.ensures ∙ g))

pub returns-in-Some : goal.returns-in-Some
returns-in-Some c = λ well lt shown.
    shl-row c.args.graph.now well (cube_of c.args.cube.now) c.args.self.now c.args.id lt shown c.in-Shl.a c.in-Shl.by (sym c.cell.ensures ∙ c.in-Shl.is) c.width-width.result c.width-width.ensures
    c.moved_up.result c.amount.result c.in-Some.amount c.in-Some.is
    c.amount.ensures
    (λ k small h. c.moved_up.ensures k small (c.masks-in-Some.ensures ∙ h))

pub returns-in-None : goal.returns-in-None
returns-in-None c = λ well lt shown.
    shl-none c.args.graph.now well (cube_of c.args.cube.now) c.args.self.now c.args.id lt shown c.in-Shl.a c.in-Shl.by (sym c.cell.ensures ∙ c.in-Shl.is)
    c.amount.result c.in-None.is
    c.amount.ensures

pub returns-in-Some-amount : goal.returns-in-Some-amount
returns-in-Some-amount c = λ well lt shown.
    shr-row c.args.graph.now well (cube_of c.args.cube.now) c.args.self.now c.args.id lt shown c.in-Shr.a c.in-Shr.by (sym c.cell.ensures ∙ c.in-Shr.is) c.width-width.result c.width-width.ensures
    c.moved_down.result c.amount-in-Shr.result c.in-Some-amount.amount c.in-Some-amount.is
    c.amount-in-Shr.ensures
    (λ k small h. c.moved_down.ensures k small (c.masks-in-Some-amount.ensures ∙ h))

pub returns-in-None-amount : goal.returns-in-None-amount
returns-in-None-amount c = λ well lt shown.
    shr-none c.args.graph.now well (cube_of c.args.cube.now) c.args.self.now c.args.id lt shown c.in-Shr.a c.in-Shr.by (sym c.cell.ensures ∙ c.in-Shr.is)
    c.amount-in-Shr.result c.in-None-amount.is
    c.amount-in-Shr.ensures

pub returns-in-Mux : goal.returns-in-Mux
returns-in-Mux c = λ well lt shown.
    mux-row c.args.graph.now well (cube_of c.args.cube.now) c.args.self.now c.args.id lt shown c.in-Mux.cond c.in-Mux.yes c.in-Mux.other (sym c.cell.ensures ∙ c.in-Mux.is)
    c.choice_of.result c.condition.result
    c.condition.ensures
    (λ k l w small h g. c.choice_of.ensures k l w small (c.masks-in-Mux.ensures ∙ h) (c.masks-in-Mux-2.ensures ∙ g))

pub returns-in-Concat : goal.returns-in-Concat
returns-in-Concat c = λ well lt shown.
    concat-row c.args.graph.now well (cube_of c.args.cube.now) c.args.self.now c.args.id lt shown c.in-Concat.high c.in-Concat.low (sym c.cell.ensures ∙ c.in-Concat.is) c.width-in-Concat.result c.width-in-Concat.ensures
    c.joined.result
    (λ k l w small h g. c.joined.ensures k l w small (c.masks-in-Concat.ensures ∙ h) (c.masks-in-Concat-2.ensures ∙ g))

pub returns-in-Slice : goal.returns-in-Slice
returns-in-Slice c = λ well lt shown.
    slice-row c.args.graph.now well (cube_of c.args.cube.now) c.args.self.now c.args.id lt shown c.in-Slice.a c.in-Slice.at c.in-Slice.width (sym c.cell.ensures ∙ c.in-Slice.is) c.width-width.result c.width-width.ensures
    c.sliced-in-Slice.result
    (λ k u small fits h. c.sliced-in-Slice.ensures k u small fits (c.masks-in-Slice.ensures ∙ h))

pub returns-in-Extend : goal.returns-in-Extend
returns-in-Extend c = λ well lt shown.
    extend-row c.args.graph.now well (cube_of c.args.cube.now) c.args.self.now c.args.id lt shown c.in-Extend.a c.in-Extend.width (sym c.cell.ensures ∙ c.in-Extend.is) c.width-width.result c.width-width.ensures c.width-in-Extend.result c.width-in-Extend.ensures
    c.extended.result
    (λ k le small h. c.extended.ensures k le small (c.masks-in-Extend.ensures ∙ h))

pub returns-in-Reduce : goal.returns-in-Reduce
returns-in-Reduce c = λ well lt shown.
    reduce-row c.args.graph.now well (cube_of c.args.cube.now) c.args.self.now c.args.id lt shown c.in-Reduce.kind c.in-Reduce.a (sym c.cell.ensures ∙ c.in-Reduce.is) c.width-in-Reduce.result c.width-in-Reduce.ensures
    c.reduced.result
    (λ k small h. c.reduced.ensures k small (c.masks-in-Reduce.ensures ∙ h))
