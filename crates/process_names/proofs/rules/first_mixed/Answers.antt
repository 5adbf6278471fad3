use Rattle.std.proofs.Common.{◌≡◌, ◌++◌, Bor, List, map, ap, ◌∙◌}
use Rattle.verilog_reading.specs.StmtTree.{stmt_tree_of}
use Rattle.flat_unfolding.specs.Outcome.{Text}
use Rattle.flat_unfolding.specs.Mentions.{read_names, blocking_names, later_names, delayed_names, first_named}
use Rattle.process_names.specs.Sets.{has}
use Rattle.process_names.proofs.Keys.{mixed-first}
use Rattle.process_names.proofs.rules.first_mixed.Goals as goal

pub returns : goal.returns
returns c =
    let now = λ (n : Bor Text). n.now in let s = stmt_tree_of c.args.body.now in let keys = c.in_ok-others.others.keys in let others = map now c.as_slice.result.now in
    let read = c.in_ok-add_read_names.ensures ∙ ap (λ (ns : List (Bor Text)). map now ns ++ read_names s) c.new-others.ensures.items in
    let both = c.in_ok-add_assigned_names.ensures ∙ ap (λ (ns : List Text). ns ++ blocking_names s) read in
    let all : others ≡ (read_names s ++ blocking_names s) ++ delayed_names s = ap (map now) c.as_slice.ensures.value ∙ c.in_ok-add_assigned_names-2.ensures ∙ ap (λ (ns : List Text). ns ++ delayed_names s) both in
    let later : map now c.as_slice-2.result.now ≡ later_names s = ap (map now) c.as_slice-2.ensures.value ∙ c.in_ok-add_assigned_names-3.ensures
    ∙ ap (λ (ns : List (Bor Text)). map now ns ++ later_names s) c.new-later.ensures.items in
    c.first_in.ensures ∙ ap (first_named (has keys)) later ∙ mixed-first s keys others (λ x. c.in_ok-others.ensures x) all (later_names s)
