use Rattle.std.proofs.Common.{sym, subst, true, false}
use Rattle.cofactor.specs.Shown.{row_at, HasNoSames}
use Rattle.cofactor.proofs.Beside.{beside-rows}
use Rattle.cofactor.proofs.table.Table.may_have_same.Goals as goal

pub returns-in-And : goal.returns-in-And
returns-in-And c = λ z.
    let t = c.args.self.now in
    subst (HasNoSames t) (sym c.in-And.is) (beside-rows c.row.result c.row-in-And.result (row_at t c.in-And.a) (row_at t c.in-And.b) true c.row.ensures c.row-in-And.ensures (c.passes_beside.ensures z))

pub returns-in-Or : goal.returns-in-Or
returns-in-Or c = λ z.
    let t = c.args.self.now in
    subst (HasNoSames t) (sym c.in-Or.is) (beside-rows c.row-in-Or.result c.row-in-Or-2.result (row_at t c.in-Or.a) (row_at t c.in-Or.b) false c.row-in-Or.ensures c.row-in-Or-2.ensures (c.passes_beside-in-Or.ensures z))

pub returns-in-Xor : goal.returns-in-Xor
returns-in-Xor c = λ z.
    let t = c.args.self.now in
    subst (HasNoSames t) (sym c.in-Xor.is) (beside-rows c.row-in-Xor.result c.row-in-Xor-2.result (row_at t c.in-Xor.a) (row_at t c.in-Xor.b) false c.row-in-Xor.ensures c.row-in-Xor-2.ensures (c.passes_beside-in-Xor.ensures z))
