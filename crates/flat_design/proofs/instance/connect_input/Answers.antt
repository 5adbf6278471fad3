use Rattle.std.proofs.Common.{refl, sym, ap, ◌∙◌}
use Rattle.verilog_reading.specs.ExprTree.{tree_of}
use Rattle.flat_names.specs.Noting.{all_noted}
use Rattle.flat_targets.proofs.Aimed.{ok-then}
use Rattle.flat_design.specs.declared.instance.Connection.{Connection}
use Rattle.flat_design.specs.declared.instance.Connected.{Connected}
use Rattle.flat_design.specs.declared.instance.End.TheVariants as ends
use Rattle.flat_design.proofs.Links.{linked-in, noted-in}
use Rattle.flat_design.proofs.instance.connect_input.Goals as goal

pub returns : goal.returns
returns c = λ pins l m x js h resets is at side formed given.
    let v = tree_of c.args.value.now in
    let r = c.in_ok-value.value in
    let told = c.in_ok-value.ensures l h is formed in
    let old = c.args.connected.now in
    let connection : Connection = record { port = c.args.port; end = ends.Input r.expr c.reset_of-reset.result } in
    let new : Connected = record { connections = c.push.new.items; leaning = c.note_input.new.leaning } in
    ok-then c.push.result _ _
    (λ u pushed. (
      linked-in pins l m c.args.ports.now js old given x v r c.reset_of-reset.result connection new at side refl (c.reset_of-reset.ensures pins l h resets) told.0 told.3 pushed (c.in_ok-note_input.ensures x at),
      told.1 ∙ ap (all_noted c.args.faults.now) (sym (noted-in l m x v side)),
    ))
    c.push.ensures.pushed
