use Rattle.std.proofs.Common.{Some, sym, ap, ◌∙◌}
use Rattle.verilog_reading.specs.ExprTree.{tree_of}
use Rattle.flat_unfolding.specs.Expressions.{read}
use Rattle.flat_names.specs.declared.scope.Meaning.TheVariants as m
use Rattle.flat_targets.proofs.Aimed.{meaning-at}
use Rattle.flat_process.proofs.Started.{declared-signal}
use Rattle.flat_process.proofs.start.declared.Goals as goal

pub returns-in-Some-Signal : goal.returns-in-Some-Signal
returns-in-Some-Signal c = λ l h is formed.
    let x = c.args.name.now in
    let s = c.in-Some-Signal in
    let e = meaning-at c.args.look.now l h x (Some (m.Signal s.sig)) (sym (s.is ∙ ap Some s.field-0-is) ∙ c.meaning.ensures) in
    let g = c.in_ok-start.ensures l h is formed (is.signals x s.sig e) in
    declared-signal l x c.as_str.result.now s.sig (read l (tree_of c.args.value.now)) c.in_ok-start.start c.args.faults.now c.start_value.new.faults e c.as_str.ensures g.0 g.1
