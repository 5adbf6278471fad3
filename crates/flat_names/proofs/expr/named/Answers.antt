use Rattle.std.proofs.Common.{◌≡◌, Some, sym, ap, subst, ◌∙◌}
use Rattle.verilog_reading.specs.ExprTree.{name}
use Rattle.flat_names.specs.declared.scope.Meaning.TheVariants.{Param, Signal}
use Rattle.flat_names.specs.Looks.{meant}
use Rattle.flat_names.proofs.Named.{Reads, param-fit, name-param, name-signal}
use Rattle.flat_names.proofs.expr.named.Goals as goal

pub returns-in-Some-Param : goal.returns-in-Some-Param
returns-in-Some-Param c = λ l shows is.
    let k = c.args.look.now in
    let x = c.args.name.now in
    let param = c.in-Some-Param.param in
    let as_is : Some (Param param) ≡ meant k.names.now x = ap Some (sym c.in-Some-Param.field-0-is) ∙ c.in-Some-Param.ensures in
    name-param k l x param c.args.faults.now c.parameter.result shows is as_is (c.parameter.ensures l x (param-fit k l x param shows is as_is))

pub returns-in-Some-Signal : goal.returns-in-Some-Signal
returns-in-Some-Signal c = λ l shows is.
    let k = c.args.look.now in
    let x = c.args.name.now in
    let sig = c.in-Some-Signal.sig in
    let as_is : Some (Signal sig) ≡ meant k.names.now x = ap Some (sym c.in-Some-Signal.field-0-is) ∙ c.in-Some-Signal.ensures in
    subst (Reads l (name x) c.args.faults.now c.args.faults.now) (sym c.variable.ensures)
    (name-signal k l x sig c.width.result c.read.result c.args.faults.now shows is as_is c.width.ensures c.read.ensures)
