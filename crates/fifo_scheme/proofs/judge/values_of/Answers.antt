-- The column of one node more, and in the end of all.
use Rattle.std.proofs.Common.{◌≡◌, Some, arith, get_or}
use Rattle.std.proofs.lemmas.List.Elements.{Contains-get_or}
use Rattle.cell_graph.specs.declared.cell.Node.{Node}
use Rattle.fifo_scheme.specs.declared.found.Column.{Column}
use Rattle.fifo_scheme.specs.Met.{column_at}
use Rattle.fifo_scheme.proofs.Gathered.{gathered_add, gathered_all, in_taken}
use Rattle.fifo_scheme.proofs.judge.values_of.Goals as goal

abbrev none : Node
none = record { cell = record { 0 = 0 }; at = 0 }

pub loop-node-preserved : goal.loop-node-preserved
loop-node-preserved c = λ one.
    let ns = c.args.nodes.now in
    let k = c.loop-node.node-index in
    let so_far = c.loop-node.invariant one in
    gathered_add (λ (n : Node) (e : Column). column_at c.args.index.now c.args.reads.now n ≡ Some e) ns k none _ _ c.loop-node-test.true so_far
    (c.in_ok-add_column.ensures (λ e d h at same.
    let n = (so_far e).0 h in
    one n.0 (get_or ns k none) e d (in_taken ns k n.0 n.1) (Contains-get_or ns k none c.loop-node-test.true) n.2 at same))

pub returns : goal.returns
returns c = λ one.
    gathered_all (λ (n : Node) (e : Column). column_at c.args.index.now c.args.reads.now n ≡ Some e) c.args.nodes.now c.loop-node.node-index _ (let l = c.loop-node-test.false in omega arith) (c.loop-node.invariant one)
