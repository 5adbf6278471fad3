-- The first branch of a multiplexer is a count word, of a lower cell.
use Rattle.std.proofs.Common.{◌≡◌, ◌∙◌, sym, ap, arith, ◌<◌, ◌≤◌, option_map}
use Rattle.cell_graph.specs.declared.cell.Node.{Node}
use Rattle.cell_graph.specs.Unfolded.{bit_of}
use Rattle.gray_pointer.proofs.Leaves.{branch_lower, branch_node, branch_there, branch_at, branch_itself}
use Rattle.gray_pointer.proofs.candidates.first_leaf.Goals as goal

pub returns-in_err-node-2 : goal.returns-in_err-node-2
returns-in_err-node-2 c = λ plain sig w start e is lt counts.
    let g = c.args.net.now.graph in
    let node = c.loop.node in
    let h = c.loop.invariant plain sig w start e is lt counts in
    let same = h.1 in
    let l : 1 ≤ w = omega arith in
    let n : node.at < w = omega arith in
    let m = sym c.cell.ensures ∙ c.in-Mux.is in
    absurd (branch_there g plain sig w l node h.0 n h.2 c.in-Mux.cond c.in-Mux.yes c.in-Mux.other m
    (c.origin.ensures.exact plain.well (branch_node g plain sig w l node h.0 n h.2 c.in-Mux.cond c.in-Mux.yes c.in-Mux.other m) ∙ ap (option_map (bit_of g)) c.in_err-node-2.was))

pub loop-preserved : goal.loop-preserved
loop-preserved c = λ plain sig w start e is lt counts.
    let g = c.args.net.now.graph in
    let node = c.loop.node in
    let h = c.loop.invariant plain sig w start e is lt counts in
    let same = h.1 in
    let l : 1 ≤ w = omega arith in
    let n : node.at < w = omega arith in
    let m = sym c.cell.ensures ∙ c.in-Mux.is in
    let there = branch_node g plain sig w l node h.0 n h.2 c.in-Mux.cond c.in-Mux.yes c.in-Mux.other m in
    let passed = c.origin.ensures.exact plain.well there ∙ ap (option_map (bit_of g)) c.in_ok-node-2.was in
    let within = c.origin.ensures.within plain.well there c.in_ok-node-2.node c.in_ok-node-2.was in
    let lower = branch_lower g plain sig w l node h.0 n h.2 c.in-Mux.cond c.in-Mux.yes c.in-Mux.other m in
    let a = within.1 in
    let b = h.3 in (
      within.0,
      branch_at g plain sig w l node h.0 n h.2 c.in-Mux.cond c.in-Mux.yes c.in-Mux.other m c.in_ok-node-2.node passed ∙ h.1,
      branch_itself g plain sig w l node h.0 n h.2 c.in-Mux.cond c.in-Mux.yes c.in-Mux.other m c.in_ok-node-2.node passed,
      (omega arith),
    )

pub returns-after-loop : goal.returns-after-loop
returns-after-loop c = λ plain sig w start e is lt counts.
    let g = c.args.net.now.graph in
    let node = c.loop.node in
    let h = c.loop.invariant plain sig w start e is lt counts in
    let same = h.1 in
    let l : 1 ≤ w = omega arith in
    let n : node.at < w = omega arith in
    let both = sym c.in_ok-node.was ∙ e in
    let first : c.in_ok-node.node ≡ start = cc in
    let k : c.in_ok-node.node.cell.0 ≡ start.cell.0 = ap (λ (x : Node). x.cell.0) first in
    let end = c.loop-test.false in
    let b = h.3 in
    (h.0, h.1, h.2, λ x y z m. let lower = branch_lower g plain sig w l node h.0 n h.2 x y z m in absurd (omega arith))
