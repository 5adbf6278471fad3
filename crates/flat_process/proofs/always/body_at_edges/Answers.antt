use Rattle.std.proofs.Common.{ap, ◌∙◌}
use Rattle.verilog_reading.specs.StmtTree.{stmt_tree_of}
use Rattle.flat_unfolding.specs.Statements.{done}
use Rattle.flat_unfolding.specs.Processes.{wrong_name, delay_rules}
use Rattle.flat_names.specs.Noting.{all_noted}
use Rattle.flat_names.proofs.Notes.{then-noted}
use Rattle.flat_statements.specs.Statements.{kind_of}
use Rattle.flat_process.proofs.always.body_at_edges.Goals as goal

pub returns : goal.returns
returns c = λ l h fit formed.
    let t = stmt_tree_of c.args.body.now in
    let f = c.statement.new.faults in
    let is = c.in_ok-resolved.ensures l h fit formed in (
      is.0,
      then-noted c.args.faults.now f c.note_wrong.new.faults (done l (kind_of c.args.mode) t).broken (delay_rules t) is.1
          (c.in_ok-note_wrong.ensures ∙ ap (λ o. all_noted f (wrong_name o)) c.in_ok-first_clash.ensures),
    )
