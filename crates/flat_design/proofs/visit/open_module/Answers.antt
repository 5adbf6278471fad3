use Rattle.std.proofs.Common.{◌≡◌, ◌∷◌, ◌++◌, [], sym, ap, subst, ◌∙◌, rules}
use Rattle.std.specs.Prelude.{Ok, Err}
use Rattle.verilog_reading.specs.SourceTree.{module_of}
use Rattle.flat_unfolding.specs.Unfolding.{header_values}
use Rattle.flat_names.specs.declared.design.Design.{Design}
use Rattle.flat_names.specs.Designs.{Meets}
use Rattle.flat_design.specs.Visiting.{Enters}
use Rattle.flat_design.proofs.Entering.{enters-refused}
use Rattle.flat_design.proofs.visit.open_module.Goals as goal

pub returns-in_err-add_module_values-clause-exact : goal.returns-in_err-add_module_values-clause-exact
returns-in_err-add_module_values-clause-exact c = λ pins m s at formed shows fit.
    let e = c.in_err-add_module_values.field-0.0 in let o = header_values (module_of m) s in
    let same : c.from_residual.result ≡ Err e = search rules in
    subst (λ r. Enters pins c.args.module c.args.names c.args.given c.args.visit.now o r (record c.args.visit.now { design = c.add_module_values.new.design })) (sym same)
    (enters-refused pins c.args.module c.args.names c.args.given c.args.visit.now o c.add_module_values.new.design (record c.args.visit.now { design = c.add_module_values.new.design }) e
    (c.in_err-add_module_values.ensures.exact pins m s at formed shows fit))

pub returns-clause-exact : goal.returns-clause-exact
returns-clause-exact c = λ pins m s at formed shows fit.
    let h : Meets pins c.args.names (header_values (module_of m) s) (Ok tt) c.mark.new.self.design =
    subst (λ (d : Design). Meets pins c.args.names (header_values (module_of m) s) (Ok tt) d) (sym c.mark.ensures.design) (c.in_ok-add_module_values.ensures.exact pins m s at formed shows fit) in
    (h.0, h.1, h.2, c.in_ok-push.ensures.pushed ∙ ap (λ v. v.items ++ (record { «module» = c.args.module; names = c.args.names; next = 0; given = c.args.given }) ∷ []) c.mark.ensures.stack, c.mark.ensures.marks)
