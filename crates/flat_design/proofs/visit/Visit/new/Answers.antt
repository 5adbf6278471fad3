use Rattle.std.proofs.Common.{false, List, ◌++◌, map, sym, ap, ◌∙◌, append-nil}
use Rattle.std.proofs.lemmas.List.{drop_all}
use Rattle.verilog_ast.specs.declared.Module.{Module}
use Rattle.flat_design.proofs.visit.Visit.new.Goals as goal

pub returns : goal.returns
returns c = λ pins.
    let all = c.args.library.now.modules.now in
    let none = drop_all c.loop-module._module-index all c.loop-module-test.false in
    (c.new.ensures.items, sym (c.loop-module.invariant ∙ ap (λ (ms : List Module). c.loop-module.is_open.items ++ map (λ (m : Module). false) ms) none ∙ append-nil c.loop-module.is_open.items), c.new-2.ensures pins)
