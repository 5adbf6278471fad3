use Rattle.std.proofs.Common.{◌≡◌, ◌==◌, List, [], ◌∷◌, ◌++◌, cond, map, Some, refl, sym, ap, ap₂, subst, ◌∙◌, rules}
use Rattle.std.specs.Prelude.{Ok, Err, slice_get}
use Rattle.std.specs.Cmp.Lexicographic.{pointwise}
use Rattle.std.specs.declared.hash.BuildHasherDefault.{BuildHasherDefault}
use Rattle.std.specs.declared.hash.FoldHasher.{FoldHasher}
use Rattle.verilog_reading.specs.SourceTree.{conns_of, module_of}
use Rattle.flat_unfolding.specs.Outcome.{Text}
use Rattle.flat_unfolding.specs.Instances.{override_rules, connection_rules, overrides_of, links_of}
use Rattle.flat_unfolding.specs.Design.{Stage, look_of}
use Rattle.flat_unfolding.proofs.Steps.{none_of_both}
use Rattle.flat_names.specs.declared.scope.Meaning.TheVariants as m
use Rattle.flat_names.specs.Looks.{kept_in}
use Rattle.flat_design.specs.declared.instance.Given.{Given}
use Rattle.flat_design.specs.declared.visit.Open.{Open}
use Rattle.flat_design.specs.Visiting.{visited, prefix_of, begun, Begins, Goes, next_of, instance_tree}
use Rattle.flat_design.proofs.Counted.{overrides-fit}
use Rattle.flat_design.proofs.Going.{formed-at, stage-shown, named-instance, not-found, found-is, not-joined, not-begun, goes-in}
use Rattle.flat_design.proofs.visit.add_instance.Goals as goal

pub returns-in_err-number-clause-exact : goal.returns-in_err-number-clause-exact
returns-in_err-number-clause-exact c = λ pins frames f d lib pinned formed h part params ports.
    let modules = c.args.library.now.modules.now in let wires = c.args.library.now.wires_only in let i = c.args.instance.now in let o = c.args.outer in let now = c.args.visit.now in
    let s : Stage = record { names = f.names; design = d } in
    let gs = conns_of i.params.now in let cs = conns_of i.ports.now in
    let st = stage-shown pins modules lib.distinct now.open.items o now.is_open.items now.design f frames d h in
    let e = c.in_err-number.field-0.0 in
    let failed : c.from_residual.result ≡ Err e = search rules in
    subst (λ r. Goes wires pins modules (next_of wires (map module_of modules) f frames d (instance_tree i)) r now) (sym failed)
    (not-found wires pins modules f frames d i.place i.module.now i.name.now gs cs now e (c.in_err-number.ensures.exact (visited (f ∷ frames)) s lib h.marks_are st.0.names))

pub returns-in_default-clause-exact : goal.returns-in_default-clause-exact
returns-in_default-clause-exact c = λ pins frames f d lib pinned formed h part params ports.
    let modules = c.args.library.now.modules.now in let i = c.args.instance.now in let o = c.args.outer in let now = c.args.visit.now in
    let s : Stage = record { names = f.names; design = d } in
    let gs = conns_of i.params.now in let cs = conns_of i.ports.now in
    let st = stage-shown pins modules lib.distinct now.open.items o now.is_open.items now.design f frames d h in
    let finds = c.in_ok-number.ensures.exact (visited (f ∷ frames)) s lib h.marks_are st.0.names in
    absurd (let e = c.in_default.ensures ∙ finds.1 in search (rules, e))

pub returns-in_err-overridden-clause-exact : goal.returns-in_err-overridden-clause-exact
returns-in_err-overridden-clause-exact c = λ pins frames f d lib pinned formed h part params ports.
    let modules = c.args.library.now.modules.now in let wires = c.args.library.now.wires_only in let i = c.args.instance.now in let o = c.args.outer in let now = c.args.visit.now in
    let s : Stage = record { names = f.names; design = d } in
    let gs = conns_of i.params.now in let cs = conns_of i.ports.now in
    let st = stage-shown pins modules lib.distinct now.open.items o now.is_open.items now.design f frames d h in
    let number = c.in_ok-number.number in
    let finds = c.in_ok-number.ensures.exact (visited (f ∷ frames)) s lib h.marks_are st.0.names in
    let k = c.in-Some.module.now in
    let at : slice_get modules number ≡ Some k = sym c.in-Some.ensures in
    let found = found-is wires pins modules f frames d i.place i.module.now i.name.now gs cs number k at finds in
    let e = c.in_err-overridden.field-0.0 in
    let failed : c.from_residual-in_err-overridden.result ≡ Err e = search rules in
    subst (λ r. Goes wires pins modules (next_of wires (map module_of modules) f frames d (instance_tree i)) r now) (sym failed)
    (not-joined wires pins modules f frames d i.place i.module.now i.name.now gs cs number k found (BuildHasherDefault FoldHasher) c.in_ok-ports.ports now e
    (c.in_err-overridden.ensures.exact pins s st.0 st.1 c.in_ok-ports.ensures (sym found.name) params ports))

pub returns-in_err-names-clause-exact : goal.returns-in_err-names-clause-exact
returns-in_err-names-clause-exact c = λ pins frames f d lib pinned formed h part params ports.
    let modules = c.args.library.now.modules.now in let wires = c.args.library.now.wires_only in let i = c.args.instance.now in let o = c.args.outer in let now = c.args.visit.now in
    let s : Stage = record { names = f.names; design = d } in
    let gs = conns_of i.params.now in let cs = conns_of i.ports.now in
    let st = stage-shown pins modules lib.distinct now.open.items o now.is_open.items now.design f frames d h in
    let number = c.in_ok-number.number in
    let finds = c.in_ok-number.ensures.exact (visited (f ∷ frames)) s lib h.marks_are st.0.names in
    let k = c.in-Some.module.now in
    let at : slice_get modules number ≡ Some k = sym c.in-Some.ensures in
    let found = found-is wires pins modules f frames d i.place i.module.now i.name.now gs cs number k at finds in
    let ends = c.in_ok-overridden.ensures.exact pins s st.0 st.1 c.in_ok-ports.ensures (sym found.name) params ports in
    let fine = overrides-fit (look_of s) st.1 (module_of k) gs params (none_of_both (override_rules (look_of s) (module_of k) gs) (connection_rules (look_of s) (module_of k) cs) ends.0).0 in
    let names = c.define.new.names in
    let named = subst (λ (x : Text). (y : Text) → kept_in names y ≡ cond (pointwise ◌==◌ x y) (Some m.NoValue) (kept_in o.names y)) c.as_str.ensures c.in_ok-define.ensures in
    let shows = named-instance o.names names f.names i.name.now st.0.names found.fresh named in
    let well = formed-at modules number k formed at in
    let given = overrides_of (look_of s) (module_of k) gs in
    let e = c.in_err-names.field-0.0 in
    let failed : c.from_residual-in_err-names.result ≡ Err e = search (rules, c.in_err-names.was, c.from_residual-in_err-names.ensures.0, c.from_residual-in_err-names.ensures.1) in
    let new = c.begin.new.visit in
    let entry = subst (λ (os : List Open). Begins {S = BuildHasherDefault FoldHasher} pins (begun given (prefix_of modules os) (module_of k) d) (Err e) new.design) c.in_ok-push.ensures.pushed
    (c.in_err-names.ensures.exact pins k given d at well pinned h.design h.fit ends.1.0 fine) in
    subst (λ r. Goes wires pins modules (next_of wires (map module_of modules) f frames d (instance_tree i)) r new) (sym failed)
    (not-begun wires pins modules f frames d i.place i.module.now i.name.now gs cs number k found lib.distinct now.open.items o now.is_open.items now.design h part names shows ends.0 (BuildHasherDefault FoldHasher) new e new.design entry)

pub returns-clause-exact : goal.returns-clause-exact
returns-clause-exact c = λ pins frames f d lib pinned formed h part params ports.
    let modules = c.args.library.now.modules.now in let wires = c.args.library.now.wires_only in let i = c.args.instance.now in let o = c.args.outer in let now = c.args.visit.now in
    let s : Stage = record { names = f.names; design = d } in
    let gs = conns_of i.params.now in let cs = conns_of i.ports.now in
    let st = stage-shown pins modules lib.distinct now.open.items o now.is_open.items now.design f frames d h in
    let number = c.in_ok-number.number in
    let finds = c.in_ok-number.ensures.exact (visited (f ∷ frames)) s lib h.marks_are st.0.names in
    let k = c.in-Some.module.now in
    let at : slice_get modules number ≡ Some k = sym c.in-Some.ensures in
    let found = found-is wires pins modules f frames d i.place i.module.now i.name.now gs cs number k at finds in
    let ends = c.in_ok-overridden.ensures.exact pins s st.0 st.1 c.in_ok-ports.ensures (sym found.name) params ports in
    let fine = overrides-fit (look_of s) st.1 (module_of k) gs params (none_of_both (override_rules (look_of s) (module_of k) gs) (connection_rules (look_of s) (module_of k) cs) ends.0).0 in
    let names = c.define.new.names in
    let named = subst (λ (x : Text). (y : Text) → kept_in names y ≡ cond (pointwise ◌==◌ x y) (Some m.NoValue) (kept_in o.names y)) c.as_str.ensures c.in_ok-define.ensures in
    let shows = named-instance o.names names f.names i.name.now st.0.names found.fresh named in
    let well = formed-at modules number k formed at in
    let given = overrides_of (look_of s) (module_of k) gs in
    let new = c.begin.new.visit in
    let entry = subst (λ (os : List Open). Begins pins (begun given (prefix_of modules os) (module_of k) d) (Ok c.in_ok-names.names) new.design) c.in_ok-push.ensures.pushed
    (c.in_ok-names.ensures.exact pins k given d at well pinned h.design h.fit ends.1.0 fine) in
    let given_in : Given = record { place = Some i.place; params = c.in_ok-overridden.overridden.leaning; ports = c.in_ok-overridden.connected.leaning } in
    goes-in wires pins modules f frames d i.place i.module.now i.name.now gs cs number k found lib.distinct now.open.items o now.is_open.items now.design h part names shows ends.0
    entry.0 entry.1 entry.3 c.in_ok-names.names given_in new c.enter_module.new.visit c.enter_module.result (ap₂ (λ a b. a ++ b) ends.1.1 ends.2.1) refl
    (ap (λ v. v.items) c.in_ok-names.ensures.stack ∙ c.in_ok-push.ensures.pushed) (ap (λ v. v.items) c.in_ok-names.ensures.marks)
    (c.enter_module.ensures.exact pins k entry.0 (links_of (look_of s) (module_of k) cs) at well entry.2 entry.3 ends.2.0)
