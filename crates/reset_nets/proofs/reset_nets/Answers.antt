use Rattle.std.proofs.Common.{◌∙◌, length, sym, subst, eqb-true}
use Rattle.verilog_reading.specs.SourceTree.{source_of}
use Rattle.reset_nets.specs.Designs.{AreResetNets}
use Rattle.reset_nets.proofs.Designs.{no_resets}
use Rattle.reset_nets.proofs.reset_nets.Goals as goal

pub returns-then-is_empty : goal.returns-then-is_empty
returns-then-is_empty c = λ formed.
    let modules = source_of c.args.source.now in let top = c.args.top.now in let resets = c.args.resets.now in
    let none = eqb-true (length resets) 0 (sym c.is_empty.ensures ∙ c.if-is_empty.true) in
    subst (AreResetNets modules top resets) (sym c.new.ensures.items) (no_resets modules top resets none)
