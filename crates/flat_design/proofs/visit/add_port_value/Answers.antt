use Rattle.flat_design.proofs.HeaderValues.{port-meets, port-formed}
use Rattle.flat_design.proofs.visit.add_port_value.Goals as goal

pub returns-in-Some-clause-exact : goal.returns-in-Some-clause-exact
returns-in-Some-clause-exact c = λ pins s shows fit formed.
    let d = c.in-Some.decl in let is = c.in-Some.is in
    port-meets pins c.args.names.now s c.args.place c.args.port.now d is c.add_declared_value.result c.add_declared_value.new.design
    (c.add_declared_value.ensures.exact pins s shows fit (port-formed pins c.args.names.now s c.args.place c.args.port.now d is formed))
