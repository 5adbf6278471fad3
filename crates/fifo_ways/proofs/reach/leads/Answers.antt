-- The sought nodes of multiplexers among those that are fed are the reads to which ways lead.
use Rattle.std.proofs.Common.{◌↔◌, ◌∙◌, sym, ap, subst, List}
use Rattle.std.specs.HashSet as set
use Rattle.std.specs.Prelude.{filter}
use Rattle.std.specs.List.{Contains}
use Rattle.cell_graph.specs.declared.cell.Node.{Node}
use Rattle.cofactor.proofs.Places.{if_ok}
use Rattle.fifo_ways.specs.Feeds.{IsFed}
use Rattle.fifo_ways.specs.Marked.{same_node}
use Rattle.fifo_ways.specs.Reads.{is_sought_read}
use Rattle.fifo_ways.proofs.Fed.{leads-exact}
use Rattle.fifo_ways.proofs.RowBits.{listed}
use Rattle.fifo_ways.proofs.Sames.{equal_nodes, same_node-is}
use Rattle.fifo_ways.proofs.reach.leads.Goals as goal

pub returns : goal.returns
returns c = record {
  exact = if_ok c.reads_among.result (λ found e plain of_reads of_roots.
      let g = c.args.net.now.graph in
      let nodes = c.into_nodes-fed.result.items in
      leads-exact g plain c.args.reads.now c.args.roots.now nodes found (set.contains same_node c.in_ok-sought.sought)
      (λ n. listed equal_nodes same_node-is n c.args.reads.now _ (c.in_ok-sought.ensures n))
      (subst (λ (l : List Node). (n : Node) → Contains l n ↔ IsFed g c.args.roots.now n) (sym c.into_nodes-fed.ensures) c.in_ok-find.ensures)
      (e ∙ ap (filter (is_sought_read g c.in_ok-sought.sought)) c.as_slice.ensures.value) of_reads of_roots)
      c.reads_among.ensures;
}
