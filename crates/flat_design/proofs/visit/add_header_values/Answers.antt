use Rattle.std.proofs.Common.{◌≡◌, ◌+◌, ◌∷◌, map, drop, refl, sym, ap, subst, ◌∙◌, rules}
use Rattle.std.specs.Prelude.{Err}
use Rattle.std.proofs.lemmas.List.{drop_more, drop_all}
use Rattle.verilog_ast.specs.declared.Port.{Port}
use Rattle.verilog_reading.specs.SourceTree.{port_of}
use Rattle.flat_unfolding.specs.Formed.{IsPortFormed}
use Rattle.flat_names.specs.Designs.{Meets}
use Rattle.flat_design.proofs.Joints.{item-at}
use Rattle.flat_design.proofs.HeaderValues.{values_of, value-done, value-refused, values-done}
use Rattle.flat_design.proofs.visit.add_header_values.Goals as goal

pub loop-port-init : goal.loop-port-init
loop-port-init c = λ pins s shows fit formed. (s, refl, shows, fit)

pub loop-port-preserved : goal.loop-port-preserved
loop-port-preserved c = λ pins s shows fit formed.
    let all = c.args.header.now in let k = c.loop-port.port-index in let p = c.port-item.result in
    let h = c.loop-port.invariant pins s shows fit formed in
    let next = ap (map port_of) (drop_more all k p c.loop-port-test.true ∙ ap (λ (z : Port). z ∷ drop (k + 1) all) (sym c.port-item.is)) in
    value-done c.args.place pins c.args.names.now c.loop-port.design (values_of c.args.place (map port_of all) s) (port_of p) (map port_of (drop (k + 1) all)) (map port_of (drop k all)) next h c.add_port_value.new.design
    (c.in_ok-add_port_value.ensures.exact pins h.0 h.2 h.3 (item-at IsPortFormed port_of all k p formed c.loop-port-test.true c.port-item.is))

pub returns-in_err-add_port_value-clause-exact : goal.returns-in_err-add_port_value-clause-exact
returns-in_err-add_port_value-clause-exact c = λ pins s shows fit formed.
    let all = c.args.header.now in let k = c.loop-port.port-index in let p = c.port-item.result in
    let h = c.loop-port.invariant pins s shows fit formed in
    let next = ap (map port_of) (drop_more all k p c.loop-port-test.true ∙ ap (λ (z : Port). z ∷ drop (k + 1) all) (sym c.port-item.is)) in
    let e = c.in_err-add_port_value.field-0.0 in
    let same : c.from_residual.result ≡ Err e = search rules in
    subst (λ r. Meets pins c.args.names.now (values_of c.args.place (map port_of all) s) r c.add_port_value.new.design) (sym same)
    (value-refused c.args.place pins c.args.names.now c.loop-port.design (values_of c.args.place (map port_of all) s) (port_of p) (map port_of (drop (k + 1) all)) (map port_of (drop k all)) next h c.add_port_value.new.design e
    (c.in_err-add_port_value.ensures.exact pins h.0 h.2 h.3 (item-at IsPortFormed port_of all k p formed c.loop-port-test.true c.port-item.is)))

pub returns-clause-exact : goal.returns-clause-exact
returns-clause-exact c = λ pins s shows fit formed.
    let all = c.args.header.now in let k = c.loop-port.port-index in
    values-done c.args.place pins c.args.names.now c.loop-port.design (values_of c.args.place (map port_of all) s) (map port_of (drop k all)) (ap (map port_of) (drop_all k all c.loop-port-test.false))
    (c.loop-port.invariant pins s shows fit formed)
