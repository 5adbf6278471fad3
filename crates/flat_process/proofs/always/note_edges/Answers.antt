use Rattle.std.proofs.Common.{◌+◌, List, drop, refl, sym, ap, ◌∙◌}
use Rattle.std.specs.Prelude.{flat_map}
use Rattle.std.proofs.lemmas.List.{drop_all}
use Rattle.verilog_ast.specs.declared.Edge.{Edge}
use Rattle.flat_unfolding.specs.Processes.{edge_rules}
use Rattle.flat_names.specs.Noting.{all_noted}
use Rattle.flat_names.proofs.Notes.{noted-both}
use Rattle.flat_statements.proofs.Lefts.{left-is}
use Rattle.flat_process.proofs.always.note_edges.Goals as goal

pub loop-edge-preserved : goal.loop-edge-preserved
loop-edge-preserved c = λ k h.
    let all = c.args.edges.now in
    let i = c.loop-edge.edge-index in
    let e = c.edge-item.result in
    let f = c.loop-edge.faults in
    let rules = edge_rules k c.first_edge-first.result.now in
    let left = left-is all i e c.loop-edge-test.true c.edge-item.is in
    ap (λ n. all_noted n (flat_map rules (drop (i + 1) all))) (c.in_ok-note_edge.ensures k e h refl) ∙ sym (noted-both f (rules e) (flat_map rules (drop (i + 1) all)))
    ∙ ap (λ (es : List Edge). all_noted f (flat_map rules es)) (sym left) ∙ c.loop-edge.invariant k h

pub returns : goal.returns
returns c = λ l h.
    let all = c.args.edges.now in
    let f = c.loop-edge.faults in
    let rules = edge_rules l c.first_edge-first.result.now in
    ap (λ (es : List Edge). all_noted f (flat_map rules es)) (sym (drop_all c.loop-edge.edge-index all c.loop-edge-test.false)) ∙ c.loop-edge.invariant l h
    ∙ ap (λ x. all_noted c.args.faults.now (flat_map (edge_rules l x) all)) c.first_edge-first.ensures
