use Rattle.std.proofs.Common.{ℕ, ◌++◌, ◌∷◌, [], List, sym, ap, subst, ◌∙◌}
use Rattle.std.specs.Prelude.{unwrap_or}
use Rattle.verilog_reading.specs.StmtTree.{stmt_tree_of}
use Rattle.flat_unfolding.specs.Names.{reset_at}
use Rattle.flat_unfolding.specs.Outcome.{by_number}
use Rattle.flat_unfolding.specs.Processes as told
use Rattle.flat_unfolding.specs.Processes.{clock_of, form_of, clocked_rules, taking_rules, clocked_body, reset_gives}
use Rattle.flat_unfolding.specs.Design as u
use Rattle.flat_unfolding.specs.Design.{look_of}
use Rattle.flat_names.specs.declared.design.Entry.{Entry}
use Rattle.flat_names.specs.Noting.{all_noted}
use Rattle.flat_names.specs.Designs.{ShowsNames, IsReset, reset_of}
use Rattle.flat_process.proofs.Ended.{with_more, look-shown, stage-ends}
use Rattle.flat_process.proofs.always.add_clocked_process.Goals as goal

pub returns-clause-meets : goal.returns-clause-meets
returns-clause-meets c = λ pins s sh fit formed.
    let l = look_of s in
    let t = stmt_tree_of c.args.body.now in
    let edges = c.args.edges.now in
    let clock = unwrap_or (clock_of l edges) 0 in
    let x = clocked_body l edges t in
    let r = told.reset_of l edges t in
    let us = reset_gives l (form_of l edges t) in
    let bs = clocked_rules l edges t in
    let ts = taking_rules l edges t in
    let next : u.Design = record s.design { clocked = s.design.clocked ++ (clock, x) ∷ []; resets = s.design.resets ++ r ∷ []; givens = s.design.givens ++ us; late = with_more s.design.late c.args.place ts } in
    let shows = look-shown pins c.look-look.result c.args.design.now s (subst (λ k. ShowsNames k s.names) (sym c.look-look.ensures.names) sh.names) sh.design c.look-look.ensures.entries c.look-look.ensures.active in
    let pinned = subst (λ (es : List Entry). (i : ℕ) → IsReset pins (reset_of es i) (reset_at l.entries i)) (sym c.look-look.ensures.entries) sh.design.resets in
    let is = c.in_ok-process.ensures pins l shows fit pinned formed in
    stage-ends pins c.args.names.now c.keep_clocked_process.new.design s by_number c.args.place bs next c.keep_clocked_process.result sh.names
    (c.keep_clocked_process.ensures.kept pins s.design clock x r us bs ts sh.design (is.1 ∙ ap (λ n. all_noted n bs) c.new-faults.ensures) (is.2 ∙ ap (λ n. all_noted n ts) c.new-late.ensures) is.0)
