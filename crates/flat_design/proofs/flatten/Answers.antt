use Rattle.std.proofs.Common.{◌≡◌, List, map, None, sym, subst, rules}
use Rattle.std.specs.Prelude.{Ok, Err}
use Rattle.verilog_ast.specs.declared.Module.{Module}
use Rattle.verilog_reading.specs.SourceTree.{module_of}
use Rattle.flat_unfolding.specs.Outcome.{Text, good}
use Rattle.flat_unfolding.specs.Formed.{IsSourceFormed}
use Rattle.flat_unfolding.specs.Unfolding.{modules_differ, unfolded, IsUnfolding}
use Rattle.flat_names.specs.Designs.{Ends}
use Rattle.flat_names.specs.Noting.{Refuses}
use Rattle.flat_design.specs.Visiting.{IsLibrary, IsGrown}
use Rattle.flat_design.proofs.Flattened.{fact}
use Rattle.flat_design.proofs.Unfolded.{not-listed, no-top, not-visited, visited-is, whole-visit}
use Rattle.flat_design.proofs.flatten.Goals as goal

pub returns-in_err-library-clause-exact : goal.returns-in_err-library-clause-exact
returns-in_err-library-clause-exact c = λ formed.
    let e = c.in_err-library.field-0.0 in
    let failed : c.from_residual.result ≡ Err e = search rules in
    let modules = c.args.source.now.modules in
    subst (IsUnfolding (unfolded (map module_of modules) c.args.top.now c.args.resets.now c.args.named.now)) (sym failed) (not-listed modules c.args.top.now c.args.resets.now c.args.named.now e c.in_err-library.ensures.exact)

pub returns-in_default-clause-exact : goal.returns-in_default-clause-exact
returns-in_default-clause-exact c = λ formed.
    let made = c.in_ok-library.ensures.exact in
    let all = c.in_ok-library.library.modules.now in
    let lib = subst (λ (ms : List Module). IsLibrary ms c.in_ok-library.library.by_name) (sym made.1) made.2 in
    let differ = subst (λ (ms : List Module). modules_differ (map module_of ms) ≡ good tt) (sym made.1) made.0 in
    let well = subst (λ (ms : List Module). IsSourceFormed (map module_of ms)) (sym made.1) formed in
    let top = c.args.top.now in
    subst (λ (ms : List Module). IsUnfolding (unfolded (map module_of ms) top c.args.resets.now c.args.named.now) c.refused.result) made.1
    (no-top all top c.args.resets.now c.args.named.now differ (c.in_default.ensures lib) c.refused.result
    (subst (λ (x : Text). Refuses (record { number = 301; place = None; name = x }) c.refused.result) c.as_str.ensures c.refused.ensures.exact))

pub returns-in_err-visit_top-clause-exact : goal.returns-in_err-visit_top-clause-exact
returns-in_err-visit_top-clause-exact c = λ formed.
    let made = c.in_ok-library.ensures.exact in
    let all = c.in_ok-library.library.modules.now in
    let lib = subst (λ (ms : List Module). IsLibrary ms c.in_ok-library.library.by_name) (sym made.1) made.2 in
    let differ = subst (λ (ms : List Module). modules_differ (map module_of ms) ≡ good tt) (sym made.1) made.0 in
    let well = subst (λ (ms : List Module). IsSourceFormed (map module_of ms)) (sym made.1) formed in
    let top = c.args.top.now in let resets = c.args.resets.now in let names = c.args.named.now in
    let number = c.in-Some.ensures lib in
    let new = c.in_ok-visit.ensures resets in
    let e = c.in_err-visit_top.field-0.0 in
    let failed : c.from_residual-in_err-visit_top.result ≡ Err e = search rules in
    subst (λ (ms : List Module). IsUnfolding (unfolded (map module_of ms) top resets names) c.from_residual-in_err-visit_top.result) made.1
    (subst (IsUnfolding (unfolded (map module_of all) top resets names)) (sym failed)
    (not-visited all top resets names differ number.0 number.3 e (IsGrown resets c.visit_top.new.visit.design)
    (subst (λ o. Ends (IsGrown resets c.visit_top.new.visit.design) o (Err e)) (whole-visit all top resets names differ number.0 number.3 c.in_ok-library.library.wires_only c.in_ok-library.ensures.wires) (c.in_err-visit_top.ensures.exact resets number.0 lib (c.in_ok-library.ensures.pins) well number.1 new.0 new.1 new.2))))

pub returns-clause-exact : goal.returns-clause-exact
returns-clause-exact c = λ formed.
    let made = c.in_ok-library.ensures.exact in
    let all = c.in_ok-library.library.modules.now in
    let lib = subst (λ (ms : List Module). IsLibrary ms c.in_ok-library.library.by_name) (sym made.1) made.2 in
    let differ = subst (λ (ms : List Module). modules_differ (map module_of ms) ≡ good tt) (sym made.1) made.0 in
    let well = subst (λ (ms : List Module). IsSourceFormed (map module_of ms)) (sym made.1) formed in
    let top = c.args.top.now in let resets = c.args.resets.now in let names = c.args.named.now in
    let number = c.in-Some.ensures lib in
    let new = c.in_ok-visit.ensures resets in
    let grown = subst (λ o. Ends (IsGrown resets c.visit_top.new.visit.design) o (Ok tt)) (whole-visit all top resets names differ number.0 number.3 c.in_ok-library.library.wires_only c.in_ok-library.ensures.wires)
    (c.in_ok-visit_top.ensures.exact resets number.0 lib (c.in_ok-library.ensures.pins) well number.1 new.0 new.1 new.2) in
    subst (λ (ms : List Module). IsUnfolding (unfolded (map module_of ms) top resets names) c.checked.result) made.1
    (subst (λ o. IsUnfolding o c.checked.result) (sym (visited-is all top resets names differ number.0 number.3 grown.0 grown.1)) (c.checked.ensures.exact grown.0 grown.2.0 grown.2.1))

pub returns-clause-sizes : goal.returns-clause-sizes
returns-clause-sizes c = λ formed.
    let made = c.in_ok-library.ensures.exact in
    let all = c.in_ok-library.library.modules.now in
    let lib = subst (λ (ms : List Module). IsLibrary ms c.in_ok-library.library.by_name) (sym made.1) made.2 in
    let differ = subst (λ (ms : List Module). modules_differ (map module_of ms) ≡ good tt) (sym made.1) made.0 in
    let well = subst (λ (ms : List Module). IsSourceFormed (map module_of ms)) (sym made.1) formed in
    let resets = c.args.resets.now in
    let number = c.in-Some.ensures lib in
    let new = c.in_ok-visit.ensures resets in
    let grown = c.in_ok-visit_top.ensures.exact resets number.0 lib (c.in_ok-library.ensures.pins) well number.1 new.0 new.1 new.2 in
    c.checked.ensures.sizes grown.0 grown.2.0

pub returns-clause-fact : goal.returns-clause-fact
returns-clause-fact c = λ formed visible.
    fact (map module_of c.args.source.now.modules) formed visible c.args.top.now c.args.resets.now c.args.named.now c.checked.result (returns-clause-exact c formed) (returns-clause-sizes c formed)
