-- The terms of one pair more.
use Rattle.std.proofs.Common.{◌≡◌, ◌+◌, ◌<◌, ap, refl, subst, arith, ℕ, suc}
use Rattle.cell_graph.specs.Cells.{cell_width}
use Rattle.cell_graph.specs.Feeds.{node}
use Rattle.fifo_terms.specs.Terms.{each_below}
use Rattle.fifo_nodes.specs.Searches.{Covers}
use Rattle.fifo_nodes.specs.Terms.{unequal}
use Rattle.fifo_nodes.proofs.Searches.{covers_nothing, covers_then, covers_same}
use Rattle.fifo_nodes.proofs.search.Search.ask_pairs.Goals as goal

pub loop-at-init : goal.loop-at-init
loop-at-init c = λ n plain shown within. covers_nothing c.args.net.now.graph n c.args.self.now

pub loop-at-preserved : goal.loop-at-preserved
loop-at-preserved c = λ n plain shown within.
    let g = c.args.net.now.graph in
    let each = λ (j : ℕ). unequal g (node c.args.one j) (node c.args.another j) c.args.value in
    let at = c.loop-at.at in
    let e : suc at ≡ at + 1 = omega arith in
    let w = c.width-at-end.ensures in
    let lt : at < cell_width g c.args.one = (let l = c.loop-at-test.true in omega arith) in
    covers_same g n (each_below each (suc at)) (each_below each (at + 1)) c.args.self.now c.ask_unequal.new.self (ap (each_below each) e)
    (covers_then g n (each_below each at) (unequal g (node c.args.one at) (node c.args.another at) c.args.value) c.args.self.now c.loop-at.self c.ask_unequal.new.self
    (c.loop-at.invariant n plain shown within) (c.in_ok-ask_unequal.ensures n plain shown (within at lt).0 (within at lt).1 refl))

pub returns : goal.returns
returns c = λ n plain shown within.
    let g = c.args.net.now.graph in
    let each = λ (j : ℕ). unequal g (node c.args.one j) (node c.args.another j) c.args.value in
    let w = c.width-at-end.ensures in
    let e : c.loop-at.at ≡ cell_width g c.args.one = (let l = c.loop-at-test.false in omega arith) in
    subst (λ k. Covers g n (each_below each k) c.args.self.now c.loop-at.self) e (c.loop-at.invariant n plain shown within)
