use Rattle.std.proofs.Common.{◌++◌, map}
use Rattle.std.specs.Prelude.{flat_map}
use Rattle.verilog_reading.specs.ExprTree.{tree_of}
use Rattle.flat_unfolding.specs.Expressions.{read}
use Rattle.flat_unfolding.specs.Targets.{driven}
use Rattle.flat_unfolding.specs.Wires.{output_rule, input_rules, gate_value}
use Rattle.flat_names.proofs.Notes.{then-noted}
use Rattle.flat_process.proofs.Wires.{made-gate}
use Rattle.flat_process.proofs.assign.gate.Goals as goal

pub returns : goal.returns
returns c = λ l h fit output inputs.
    let kind = c.args.kind in
    let a = driven l (tree_of c.args.output.now) in
    let vs = map (read l) (map tree_of c.args.inputs.now) in
    let os = output_rule kind a.bits in
    let bs = flat_map (input_rules kind) vs in
    let is = c.in_ok-target.ensures l h fit output in
    let value = c.in_ok-value.ensures l h fit inputs in (
      made-gate kind a c.in_ok-target.target (gate_value kind vs) os bs c.in_ok-value.value is.0 value.0,
      then-noted c.args.faults.now c.note_output.new.faults c.gate_value.new.faults (a.broken ++ os) bs
          (then-noted c.args.faults.now c.driven_target.new.faults c.note_output.new.faults a.broken os is.1 (c.in_ok-note_output.ensures a is.0)) value.1,
    )
