use Rattle.std.proofs.Common.{◌≡◌, [], ◌++◌, map, None, refl, sym, ap, ap₂, subst, ◌∙◌, rules}
use Rattle.std.specs.Prelude.{Ok, Err}
use Rattle.std.specs.declared.hash.BuildHasherDefault.{BuildHasherDefault}
use Rattle.std.specs.declared.hash.FoldHasher.{FoldHasher}
use Rattle.verilog_reading.specs.SourceTree.{module_of}
use Rattle.flat_unfolding.specs.Outcome.{Text}
use Rattle.flat_unfolding.specs.Declarations.{header_of}
use Rattle.flat_unfolding.specs.Design.{no_design}
use Rattle.flat_unfolding.specs.Unfolding.{top_ports}
use Rattle.flat_names.specs.Designs.{Ends}
use Rattle.flat_declarations.specs.Declaring.{given_in}
use Rattle.flat_design.specs.declared.instance.Given.{Given}
use Rattle.flat_design.specs.declared.visit.Visit.{Visit}
use Rattle.flat_design.specs.Visiting.{leaning_in, prefix_of, IsGrown, begun, Begins}
use Rattle.flat_design.proofs.Fits.{names-fit, top-fit}
use Rattle.flat_design.proofs.Going.{formed-at}
use Rattle.flat_design.proofs.Top.{top_visit, top-not-begun, top-refused, top-entered, no-overrides, no-overrides-fit, nothing-fit}
use Rattle.flat_design.proofs.visit.visit_top.Goals as goal

pub returns-in_err-names-clause-exact : goal.returns-in_err-names-clause-exact
returns-in_err-names-clause-exact c = λ pins m lib pinned formed at none marks shows.
    let modules = c.args.library.now.modules.now in let wires = c.args.library.now.wires_only in let t = module_of m in
    let well = formed-at modules c.args.top m formed at in
    let empty : (x : Text) → given_in c.new-none.result x ≡ None = λ x. search (rules, c.new-none.ensures.empty) in
    let overrides = no-overrides c.new-none.result empty in
    let prefix : prefix_of modules c.args.visit.now.open.items ≡ [] = ap (prefix_of modules) none in
    let e = c.in_err-names.field-0.0 in
    let failed : c.from_residual.result ≡ Err e = search rules in
    let new = c.begin.new.visit.design in
    let entry = subst (λ (p : Text). Begins {S = BuildHasherDefault FoldHasher} pins (begun [] p t (no_design pins)) (Err e) new) prefix
    (c.in_err-names.ensures.exact pins m [] (no_design pins) at well pinned shows (nothing-fit pins) overrides no-overrides-fit) in
    subst (Ends (IsGrown pins new) (top_visit wires pins modules lib.distinct c.args.top m at)) (sym failed) (top-not-begun wires pins modules lib.distinct c.args.top m at (BuildHasherDefault FoldHasher) e new (IsGrown pins new) entry)

pub returns-in_err-open_module-clause-exact : goal.returns-in_err-open_module-clause-exact
returns-in_err-open_module-clause-exact c = λ pins m lib pinned formed at none marks shows.
    let modules = c.args.library.now.modules.now in let wires = c.args.library.now.wires_only in let t = module_of m in
    let well = formed-at modules c.args.top m formed at in
    let empty : (x : Text) → given_in c.new-none.result x ≡ None = λ x. search (rules, c.new-none.ensures.empty) in
    let overrides = no-overrides c.new-none.result empty in
    let prefix : prefix_of modules c.args.visit.now.open.items ≡ [] = ap (prefix_of modules) none in
    let entry = subst (λ (p : Text). Begins pins (begun [] p t (no_design pins)) (Ok c.in_ok-names.names) c.begin.new.visit.design) prefix
    (c.in_ok-names.ensures.exact pins m [] (no_design pins) at well pinned shows (nothing-fit pins) overrides no-overrides-fit) in
    let s = entry.0 in
    let ports = c.in_ok-set_ports.ensures pins m s at entry.2 (names-fit s entry.3) in
    let stack = ap (λ v. v.items) c.in_ok-names.ensures.stack ∙ none in
    let flags = ap (λ v. v.items) c.in_ok-names.ensures.marks ∙ marks in
    let old : Visit = record c.begin.new.visit { design = c.set_ports.new.design } in
    let given : Given = record { place = None; params = c.new.result; ports = c.new-2.result } in
    let e = c.in_err-open_module.field-0.0 in
    let failed : c.from_residual-in_err-open_module.result ≡ Err e = search rules in
    let new = c.open_module.new.visit in
    subst (Ends (IsGrown pins new.design) (top_visit wires pins modules lib.distinct c.args.top m at)) (sym failed)
    (top-refused wires pins modules lib.distinct c.args.top m at s entry.1 entry.3 c.in_ok-names.names given old new e (IsGrown pins new.design)
    (c.in_err-open_module.ensures.exact pins m (top_ports (header_of t) s) at well ports (top-fit (header_of t) s entry.3)))

pub returns-clause-exact : goal.returns-clause-exact
returns-clause-exact c = λ pins m lib pinned formed at none marks shows.
    let modules = c.args.library.now.modules.now in let wires = c.args.library.now.wires_only in let t = module_of m in
    let well = formed-at modules c.args.top m formed at in
    let empty : (x : Text) → given_in c.new-none.result x ≡ None = λ x. search (rules, c.new-none.ensures.empty) in
    let overrides = no-overrides c.new-none.result empty in
    let prefix : prefix_of modules c.args.visit.now.open.items ≡ [] = ap (prefix_of modules) none in
    let entry = subst (λ (p : Text). Begins pins (begun [] p t (no_design pins)) (Ok c.in_ok-names.names) c.begin.new.visit.design) prefix
    (c.in_ok-names.ensures.exact pins m [] (no_design pins) at well pinned shows (nothing-fit pins) overrides no-overrides-fit) in
    let s = entry.0 in
    let ports = c.in_ok-set_ports.ensures pins m s at entry.2 (names-fit s entry.3) in
    let stack = ap (λ v. v.items) c.in_ok-names.ensures.stack ∙ none in
    let flags = ap (λ v. v.items) c.in_ok-names.ensures.marks ∙ marks in
    let old : Visit = record c.begin.new.visit { design = c.set_ports.new.design } in
    let given : Given = record { place = None; params = c.new.result; ports = c.new-2.result } in
    let new = c.open_module.new.visit in
    let leans = ap₂ (λ a b. map leaning_in a ++ map leaning_in b) c.new.ensures.items c.new-2.ensures.items in
    let goes = top-entered wires pins modules lib.distinct c.args.top m at s entry.1 entry.3 c.in_ok-names.names given old new leans refl stack flags
    (c.in_ok-open_module.ensures.exact pins m (top_ports (header_of t) s) at well ports (top-fit (header_of t) s entry.3)) in
    subst (λ o. Ends (IsGrown pins c.visit_open.new.visit.design) o c.visit_open.result) (sym goes.2) (c.visit_open.ensures.exact pins goes.0 goes.1 lib pinned formed goes.3)
