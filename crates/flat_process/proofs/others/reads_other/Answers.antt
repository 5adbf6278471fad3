use Rattle.std.proofs.Common.{◌≡◌, ◌++◌, Bor, List, map, ap, ◌∙◌}
use Rattle.verilog_reading.specs.StmtTree.{stmt_tree_of}
use Rattle.flat_unfolding.specs.Outcome.{Text}
use Rattle.flat_unfolding.specs.Mentions.{read_names}
use Rattle.flat_unfolding.specs.Resets.{reads_other}
use Rattle.flat_names.proofs.Options.{ok-map}
use Rattle.flat_process.proofs.others.reads_other.Goals as goal

pub returns : goal.returns
returns c = λ l h.
    let now = λ (n : Bor Text). n.now in
    let names = read_names (stmt_tree_of c.args.stmt.now) in
    let all : map now c.as_slice.result.now ≡ names = ap (map now) c.as_slice.ensures.value ∙ c.in_ok-add_read_names.ensures ∙ ap (λ (ns : List (Bor Text)). map now ns ++ names) c.new-names.ensures.items in
    ok-map c.name_other.result (λ b k. k ∙ ap (reads_other l c.args.signals.now) all) (c.name_other.ensures l h)
