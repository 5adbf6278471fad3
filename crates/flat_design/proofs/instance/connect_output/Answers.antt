use Rattle.std.proofs.Common.{refl, sym, ap, ◌∙◌}
use Rattle.verilog_reading.specs.ExprTree.{tree_of}
use Rattle.flat_names.specs.Noting.{all_noted}
use Rattle.flat_statements.proofs.Sizes.{target-sized-keeps}
use Rattle.flat_targets.proofs.Aimed.{ok-then}
use Rattle.flat_design.specs.declared.instance.Connection.{Connection}
use Rattle.flat_design.specs.declared.instance.Connected.{Connected}
use Rattle.flat_design.specs.declared.instance.End.TheVariants as ends
use Rattle.flat_design.proofs.Links.{linked-out, noted-out}
use Rattle.flat_design.proofs.instance.connect_output.Goals as goal

pub returns : goal.returns
returns c = λ pins l m ports x js h is at side formed given.
    let v = tree_of c.args.value.now in
    let target = c.in_ok-target.target in
    let told = c.in_ok-target.ensures l h is formed in
    let old = c.args.connected.now in
    let connection : Connection = record { port = c.args.port; end = ends.Output target.target } in
    let new : Connected = record old { connections = c.push.new.items } in
    ok-then c.push.result _ _
    (λ u pushed. (linked-out pins l m ports js old given x v connection new at side (told.0.target, target-sized-keeps target.target told.0.sized) pushed refl, told.1 ∙ ap (all_noted c.args.faults.now) (sym (noted-out l m x v side))))
    c.push.ensures.pushed
