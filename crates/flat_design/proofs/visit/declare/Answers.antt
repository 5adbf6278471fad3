use Rattle.std.proofs.Common.{◌≡◌, false, rules}
use Rattle.verilog_reading.specs.SourceTree.{module_of}
use Rattle.flat_design.specs.Visiting.{declares, prefix_of}
use Rattle.flat_design.proofs.Begun.{declares-nothing}
use Rattle.flat_design.proofs.visit.declare.Goals as goal

pub returns-then-not-declares-clause-exact : goal.returns-then-not-declares-clause-exact
returns-then-not-declares-clause-exact c = λ pins s shows fit formed.
    let t = module_of c.args.module.now in
    let none : declares t ≡ false = search (rules, c.declares.ensures, c.if-not-declares.true) in
    (s, declares-nothing (prefix_of c.args.library.now.modules.now c.args.visit.now.open.items) t s none, shows, fit)
