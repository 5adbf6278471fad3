use Rattle.std.proofs.Common.{◌≡◌, ℕ, None, [], length, sym, subst, ◌∙◌, rules}
use Rattle.std.specs.Prelude.{Ok, Err}
use Rattle.std.specs.declared.hash.BuildHasherDefault.{BuildHasherDefault}
use Rattle.std.specs.declared.hash.FoldHasher.{FoldHasher}
use Rattle.verilog_ast.specs.declared.Module.{Module}
use Rattle.verilog_reading.specs.SourceTree.{module_of}
use Rattle.flat_unfolding.specs.Outcome.{Text}
use Rattle.flat_unfolding.specs.Design.{Stage}
use Rattle.flat_unfolding.specs.Unfolding.{with_resets}
use Rattle.flat_unfolding.specs.Formed.{IsModuleFormed}
use Rattle.flat_unfolding.proofs.Steps.{some_is}
use Rattle.flat_names.specs.Looks.{kept_in}
use Rattle.flat_names.specs.Designs.{ShowsStage, ShowsDesign}
use Rattle.flat_design.specs.Visiting.{prefix_of, begun, Begins}
use Rattle.flat_design.proofs.Begun.{no-names, no-names-fit, parameters-refused, declarations-refused, module-begun}
use Rattle.flat_design.proofs.DeclaredResets.{entries-counted}
use Rattle.flat_design.proofs.visit.begin.Goals as goal

pub returns-in_err-add_parameters-clause-exact : goal.returns-in_err-add_parameters-clause-exact
returns-in_err-add_parameters-clause-exact c = λ pins m given d at formed pinned shows fit overrides fine.
    let q = c.in-Some.module.now in
    let same : q ≡ m = some_is q m (c.in-Some.ensures ∙ at) in
    let well = subst (λ (z : Module). IsModuleFormed (module_of z)) (sym same) formed in
    let first : Stage = record { names = []; design = d } in
    let prefix = prefix_of c.args.library.now.modules.now c.args.visit.now.open.items in
    let empty : (x : Text) → kept_in c.new-names.result x ≡ None = λ x. search (rules, c.new-names.ensures.empty) in
    let started : ShowsStage pins c.new-names.result c.args.visit.now.design first = record { names = no-names c.new-names.result empty; design = shows } in
    let e = c.in_err-add_parameters.field-0.0 in
    let failed : c.from_residual.result ≡ Err e = search rules in
    subst (λ (z : Module). Begins pins (begun given prefix (module_of z) d) c.from_residual.result c.args.visit.now.design) same
    (subst (λ r. Begins pins (begun given prefix (module_of q) d) r c.args.visit.now.design) (sym failed)
    (parameters-refused pins given prefix (module_of q) d (BuildHasherDefault FoldHasher) c.add_parameters.new.names c.args.visit.now.design c.args.visit.now.design e (c.in_err-add_parameters.ensures.exact pins first given started (no-names-fit d fit) overrides fine well)))

pub returns-in_err-declare-clause-exact : goal.returns-in_err-declare-clause-exact
returns-in_err-declare-clause-exact c = λ pins m given d at formed pinned shows fit overrides fine.
    let q = c.in-Some.module.now in
    let same : q ≡ m = some_is q m (c.in-Some.ensures ∙ at) in
    let well = subst (λ (z : Module). IsModuleFormed (module_of z)) (sym same) formed in
    let first : Stage = record { names = []; design = d } in
    let prefix = prefix_of c.args.library.now.modules.now c.args.visit.now.open.items in
    let empty : (x : Text) → kept_in c.new-names.result x ≡ None = λ x. search (rules, c.new-names.ensures.empty) in
    let started : ShowsStage pins c.new-names.result c.args.visit.now.design first = record { names = no-names c.new-names.result empty; design = shows } in
    let params = c.in_ok-add_parameters.ensures.exact pins first given started (no-names-fit d fit) overrides fine well in
    let e = c.in_err-declare.field-0.0 in
    let failed : c.from_residual-in_err-declare.result ≡ Err e = search rules in
    let new = c.declare.new.visit.design in
    subst (λ (z : Module). Begins pins (begun given prefix (module_of z) d) c.from_residual-in_err-declare.result new) same
    (subst (λ r. Begins pins (begun given prefix (module_of q) d) r new) (sym failed)
    (declarations-refused pins given prefix (module_of q) d params.0 params.1 (BuildHasherDefault FoldHasher) c.declare.new.names new e (c.in_err-declare.ensures.exact pins params.0 params.2 params.3 well)))

pub returns-clause-exact : goal.returns-clause-exact
returns-clause-exact c = λ pins m given d at formed pinned shows fit overrides fine.
    let q = c.in-Some.module.now in
    let same : q ≡ m = some_is q m (c.in-Some.ensures ∙ at) in
    let well = subst (λ (z : Module). IsModuleFormed (module_of z)) (sym same) formed in
    let first : Stage = record { names = []; design = d } in
    let prefix = prefix_of c.args.library.now.modules.now c.args.visit.now.open.items in
    let empty : (x : Text) → kept_in c.new-names.result x ≡ None = λ x. search (rules, c.new-names.ensures.empty) in
    let started : ShowsStage pins c.new-names.result c.args.visit.now.design first = record { names = no-names c.new-names.result empty; design = shows } in
    let params = c.in_ok-add_parameters.ensures.exact pins first given started (no-names-fit d fit) overrides fine well in
    let all : c.len-first.result ≡ length c.args.visit.now.design.entries.items = search rules in
    let counted = all ∙ entries-counted pins c.args.visit.now.design d shows in
    let kept = c.declare.new.visit.design in let new = c.resolve_resets.new.design in
    subst (λ (z : Module). Begins pins (begun given prefix (module_of z) d) (Ok c.declare.new.names) new) same
    (module-begun pins given prefix (module_of q) d params.0 params.1 c.declare.new.names kept new (c.in_ok-declare.ensures.exact pins params.0 params.2 params.3 well)
    (λ t h. subst (λ (k : ℕ). ShowsDesign pins new (with_resets k t).design) counted (c.resolve_resets.ensures pins t pinned h)))
