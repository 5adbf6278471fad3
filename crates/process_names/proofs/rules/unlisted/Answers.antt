use Rattle.std.proofs.Common.{◌≡◌, ◌++◌, not, Bor, List, map, ap, ◌∙◌}
use Rattle.std.specs.Prelude.{filter}
use Rattle.std.proofs.lemmas.Result.{IfOk-weaker}
use Rattle.verilog_ast.specs.declared.Edge.{Edge}
use Rattle.verilog_reading.specs.StmtTree.{stmt_tree_of}
use Rattle.flat_unfolding.specs.Outcome.{Text}
use Rattle.flat_unfolding.specs.Mentions.{read_names, target_names}
use Rattle.process_names.specs.Sets.{has}
use Rattle.process_names.proofs.Keys.{listed-left}
use Rattle.process_names.proofs.rules.unlisted.Goals as goal

pub returns : goal.returns
returns c =
    let now = λ (n : Bor Text). n.now in let s = stmt_tree_of c.args.body.now in let keys = c.in_ok-named.named.keys in let named = map now c.as_slice.result.now in
    let listed = map (λ (e : Edge). e.name) c.args.edges.now in
    let edges = c.in_ok-add_edge_names.ensures ∙ ap (λ (ns : List (Bor Text)). map now ns ++ listed) c.new-named.ensures.items in
    let all : named ≡ listed ++ target_names s = ap (map now) c.as_slice.ensures.value ∙ c.in_ok-add_assigned_names.ensures ∙ ap (λ (ns : List Text). ns ++ target_names s) edges in
    let read : map now c.as_slice-2.result.now ≡ read_names s = ap (map now) c.as_slice-2.ensures.value ∙ c.in_ok-add_read_names.ensures
    ∙ ap (λ (ns : List (Bor Text)). map now ns ++ read_names s) c.new-read.ensures.items in
    IfOk-weaker c.without.result _ _ (λ v k. k ∙ ap (filter (λ x. not (has keys x))) read ∙ listed-left s keys listed named (λ x. c.in_ok-named.ensures x) all (read_names s)) c.without.ensures
