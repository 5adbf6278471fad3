use Rattle.std.proofs.Common.{Some, ◌+◌, ◌∷◌, List, map, drop, sym, ap, subst, ◌∙◌}
use Rattle.std.proofs.lemmas.List.{drop_more, drop_all}
use Rattle.verilog_ast.specs.declared.Port.{Port}
use Rattle.verilog_reading.specs.SourceTree.{PortTree, port_of}
use Rattle.flat_unfolding.specs.Outcome.{Text}
use Rattle.flat_unfolding.specs.Names.{a_signal}
use Rattle.flat_unfolding.specs.Unfolding.{top_port, top_ports}
use Rattle.flat_names.specs.declared.design.Design.{Design}
use Rattle.flat_names.specs.Designs.{ShowsDesign, ShowsStage}
use Rattle.flat_design.proofs.TopPorts.{IsPortDone, port-done, port-passed}
use Rattle.flat_design.proofs.top_ports.set_top_ports.Goals as goal
use Rattle.flat_design.proofs.top_ports.set_top_ports.Goals.{in-Some+in_ok-set_top_port, in_default}

pub loop-port-preserved : goal.loop-port-preserved
loop-port-preserved c = λ pins s shows fit.
    let all = c.as_slice-port-items.result.now in let k = c.loop-port.port-index in let p = c.port-item.result in
    let h = c.loop-port.invariant pins s shows fit in
    let rest = map (λ (q : PortTree). q.name) (map port_of (drop (k + 1) all)) in
    let next = ap (λ (ps : List Port). map (λ (q : PortTree). q.name) (map port_of ps)) (drop_more all k p c.loop-port-test.true ∙ ap (λ (z : Port). z ∷ drop (k + 1) all) (sym c.port-item.is)) in
    let done : IsPortDone pins c.args.names.now c.loop-port.design c.match-port_signal.design p.name rest h.0 h.2 h.3 = elim c.match-port_signal.branch [
      | in-Some+in_ok-set_top_port w ↦ port-done pins c.args.names.now c.loop-port.design c.match-port_signal.design p.name rest h.0 h.2 h.3 w.in-Some.sig (w.in-Some.ensures h.0.names h.2.names)
          (subst (λ (d : Design). ShowsDesign pins d (top_port h.0.design (Some (a_signal w.in-Some.sig)))) (sym w.design-is) (w.in_ok-set_top_port.ensures pins h.0.design h.2.design))
      | in_default w ↦ port-passed pins c.args.names.now c.loop-port.design c.match-port_signal.design p.name rest h.0 h.2 h.3 (w.in_default.ensures h.0.names h.2.names) w.design-is
    ] in
    (done.0, h.1 ∙ ap (λ (xs : List Text). top_ports xs h.0) next ∙ done.1, done.2, done.3)

pub returns : goal.returns
returns c = λ pins s shows fit.
    let all = c.as_slice-port-items.result.now in
    let h = c.loop-port.invariant pins s shows fit in
    let same = h.1 ∙ ap (λ (ps : List Port). top_ports (map (λ (q : PortTree). q.name) (map port_of ps)) h.0) (drop_all c.loop-port.port-index all c.loop-port-test.false) in
    subst (ShowsStage pins c.args.names.now c.loop-port.design) (sym (ap (λ (ps : List Port). top_ports (map (λ (q : PortTree). q.name) (map port_of ps)) s) (sym c.as_slice-port-items.ensures) ∙ same)) h.2
