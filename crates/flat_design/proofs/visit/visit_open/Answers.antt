use Rattle.std.proofs.Common.{◌≡◌, Bool, map, sym, subst, rules}
use Rattle.std.specs.Prelude.{Ok, Err}
use Rattle.verilog_reading.specs.SourceTree.{module_of}
use Rattle.flat_names.specs.Designs.{Ends}
use Rattle.flat_design.specs.Visiting.{rest_of, IsGrown, Steps}
use Rattle.flat_design.proofs.Going.{goes-further, all-done, stops}
use Rattle.flat_design.proofs.visit.visit_open.Goals as goal

pub returns-in_err-step-clause-exact : goal.returns-in_err-step-clause-exact
returns-in_err-step-clause-exact c = λ pins frames d lib pinned formed h.
    let modules = c.args.library.now.modules.now in let wires = c.args.library.now.wires_only in let o = rest_of wires (map module_of modules) frames d in
    let g = c.loop.invariant pins frames d lib pinned formed h in
    let e = c.in_err-step.field-0.0 in
    let failed : c.from_residual.result ≡ Err e = search rules in
    subst (Ends (IsGrown pins c.step.new.visit.design) o) (sym failed) (stops wires pins modules o c.loop.visit g c.step.new.visit e (IsGrown pins c.step.new.visit.design) (c.in_err-step.ensures.exact pins g.0 g.1 lib pinned formed g.3))

pub returns-then-not-branch-clause-exact : goal.returns-then-not-branch-clause-exact
returns-then-not-branch-clause-exact c = λ pins frames d lib pinned formed h.
    let modules = c.args.library.now.modules.now in let wires = c.args.library.now.wires_only in let o = rest_of wires (map module_of modules) frames d in
    let g = c.loop.invariant pins frames d lib pinned formed h in
    let done = subst (λ (b : Bool). Steps wires pins modules g.0 g.1 (Ok b) c.step.new.visit) c.if-not-branch.true (c.in_ok-step.ensures.exact pins g.0 g.1 lib pinned formed g.3) in
    all-done wires pins modules o c.loop.visit g c.step.new.visit done.0 done.1

pub loop-preserved : goal.loop-preserved
loop-preserved c = λ pins frames d lib pinned formed h.
    let modules = c.args.library.now.modules.now in let wires = c.args.library.now.wires_only in let o = rest_of wires (map module_of modules) frames d in
    let g = c.loop.invariant pins frames d lib pinned formed h in
    goes-further wires pins modules o c.loop.visit g c.step.new.visit
    (subst (λ (b : Bool). Steps wires pins modules g.0 g.1 (Ok b) c.step.new.visit) c.if-not-branch.false (c.in_ok-step.ensures.exact pins g.0 g.1 lib pinned formed g.3))
