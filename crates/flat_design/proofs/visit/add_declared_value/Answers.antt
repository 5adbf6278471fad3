use Rattle.std.proofs.Common.{sym, ◌∙◌}
use Rattle.flat_design.proofs.HeaderValues.{wire-meets, start-meets, value-formed}
use Rattle.flat_design.proofs.visit.add_declared_value.Goals as goal

pub returns-in-Some-clause-exact : goal.returns-in-Some-clause-exact
returns-in-Some-clause-exact c = λ pins s shows fit formed.
    let d = c.args.decl.now in let e = c.in-Some.value in
    wire-meets pins c.args.names.now s c.args.place d.name d.init e c.in-Some.is d.kind c.add_wire_value.result c.add_wire_value.new.design (sym c.eq.ensures ∙ c.if-eq.true)
    (c.add_wire_value.ensures.meets pins s shows fit (value-formed pins c.args.names.now s c.args.place d.name d.init e c.in-Some.is d.kind c.add_wire_value.result c.add_wire_value.new.design formed))

pub returns-in-Some-2-clause-exact : goal.returns-in-Some-2-clause-exact
returns-in-Some-2-clause-exact c = λ pins s shows fit formed.
    let d = c.args.decl.now in let e = c.in-Some-2.value in
    start-meets pins c.args.names.now s c.args.place d.name d.init e c.in-Some-2.is d.kind c.add_declared_start.result c.add_declared_start.new.design (sym c.eq.ensures ∙ c.if-eq.false)
    (c.add_declared_start.ensures.meets pins s shows fit (value-formed pins c.args.names.now s c.args.place d.name d.init e c.in-Some-2.is d.kind c.add_declared_start.result c.add_declared_start.new.design formed))
