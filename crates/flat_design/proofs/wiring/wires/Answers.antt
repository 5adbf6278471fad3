use Rattle.std.proofs.Common.{◌≡◌, List, [], map, None, sym, subst, rules}
use Rattle.std.specs.Prelude.{Ok, Err}
use Rattle.verilog_ast.specs.declared.Module.{Module}
use Rattle.verilog_reading.specs.SourceTree.{module_of}
use Rattle.flat_unfolding.specs.Outcome.{Text, good}
use Rattle.flat_unfolding.specs.Formed.{IsSourceFormed}
use Rattle.flat_unfolding.specs.Unfolding.{modules_differ}
use Rattle.flat_names.specs.Designs.{Ends}
use Rattle.flat_names.specs.Noting.{Refuses}
use Rattle.flat_design.specs.Chosen.{wires_of}
use Rattle.flat_design.specs.Visiting.{IsLibrary, IsGrown, AreWires}
use Rattle.flat_design.proofs.Unfolded.{no-wires, wires-of-none, wires-refused, wires-found, wires-visit}
use Rattle.flat_design.proofs.WiresSized.{values_sized}
use Rattle.flat_design.proofs.wiring.wires.Goals as goal

pub returns-in_err-library-clause-exact : goal.returns-in_err-library-clause-exact
returns-in_err-library-clause-exact c = λ formed.
    let e = c.in_err-library.field-0.0 in
    let failed : c.from_residual.result ≡ Err e = search rules in
    let modules = c.args.source.now.modules in
    subst (AreWires (wires_of (map module_of modules) c.args.top.now)) (sym failed) (no-wires modules c.args.top.now e c.in_err-library.ensures.exact)

pub returns-in_default-clause-exact : goal.returns-in_default-clause-exact
returns-in_default-clause-exact c = λ formed.
    let made = c.in_ok-library.ensures.exact in
    let all = c.in_ok-library.library.modules.now in
    let lib = subst (λ (ms : List Module). IsLibrary ms c.in_ok-library.library.by_name) (sym made.1) made.2 in
    let differ = subst (λ (ms : List Module). modules_differ (map module_of ms) ≡ good tt) (sym made.1) made.0 in
    let top = c.args.top.now in
    subst (λ (ms : List Module). AreWires (wires_of (map module_of ms) top) c.refused.result) made.1
    (wires-of-none all top differ (c.in_default.ensures lib) c.refused.result
    (subst (λ (x : Text). Refuses (record { number = 301; place = None; name = x }) c.refused.result) c.as_str.ensures c.refused.ensures.exact))

pub returns-in_err-visit_top-clause-exact : goal.returns-in_err-visit_top-clause-exact
returns-in_err-visit_top-clause-exact c = λ formed.
    let made = c.in_ok-library.ensures.exact in
    let all = c.in_ok-library.library.modules.now in
    let lib = subst (λ (ms : List Module). IsLibrary ms c.in_ok-library.library.by_name) (sym made.1) made.2 in
    let differ = subst (λ (ms : List Module). modules_differ (map module_of ms) ≡ good tt) (sym made.1) made.0 in
    let well = subst (λ (ms : List Module). IsSourceFormed (map module_of ms)) (sym made.1) formed in
    let top = c.args.top.now in
    let number = c.in-Some.ensures lib in
    let new = c.in_ok-visit.ensures [] in
    let kept = c.visit_top.new.visit.design in
    let e = c.in_err-visit_top.field-0.0 in
    let failed : c.from_residual-in_err-visit_top.result ≡ Err e = search rules in
    subst (λ (ms : List Module). AreWires (wires_of (map module_of ms) top) c.from_residual-in_err-visit_top.result) made.1
    (subst (AreWires (wires_of (map module_of all) top)) (sym failed)
    (wires-refused all top differ number.0 number.3 e (IsGrown [] kept)
    (subst (λ o. Ends (IsGrown [] kept) o (Err e)) (wires-visit all top differ number.0 number.3 c.in_ok-library.library.wires_only c.in_ok-library.ensures.wires)
    (c.in_err-visit_top.ensures.exact [] number.0 lib (c.in_ok-library.ensures.pins) well number.1 new.0 new.1 new.2))))

pub returns-clause-exact : goal.returns-clause-exact
returns-clause-exact c = λ formed.
    let made = c.in_ok-library.ensures.exact in
    let all = c.in_ok-library.library.modules.now in
    let lib = subst (λ (ms : List Module). IsLibrary ms c.in_ok-library.library.by_name) (sym made.1) made.2 in
    let differ = subst (λ (ms : List Module). modules_differ (map module_of ms) ≡ good tt) (sym made.1) made.0 in
    let well = subst (λ (ms : List Module). IsSourceFormed (map module_of ms)) (sym made.1) formed in
    let top = c.args.top.now in
    let number = c.in-Some.ensures lib in
    let new = c.in_ok-visit.ensures [] in
    let kept = c.visit_top.new.visit.design in
    subst (λ (ms : List Module). AreWires (wires_of (map module_of ms) top) (Ok kept)) made.1
    (wires-found all top differ number.0 number.3 kept
    (subst (λ o. Ends (IsGrown [] kept) o (Ok tt)) (wires-visit all top differ number.0 number.3 c.in_ok-library.library.wires_only c.in_ok-library.ensures.wires)
    (c.in_ok-visit_top.ensures.exact [] number.0 lib (c.in_ok-library.ensures.pins) well number.1 new.0 new.1 new.2)))

pub returns-clause-sized : goal.returns-clause-sized
returns-clause-sized c = λ formed. values_sized (map module_of c.args.source.now.modules) formed c.args.top.now (Ok c.visit_top.new.visit.design) (returns-clause-exact c formed)
