-- The node that was reached, and the terms of the conditions.
use Rattle.std.proofs.Common.{◌∙◌, sym, subst}
use Rattle.cell_graph.specs.Unfolded.{tree_of}
use Rattle.fifo_terms.specs.Takes.{taken}
use Rattle.fifo_nodes.specs.Takes.{condition_terms}
use Rattle.fifo_nodes.specs.Terms.{AreTerms}
use Rattle.fifo_nodes.proofs.Choices.{taken_found}
use Rattle.fifo_nodes.proofs.takes.taken_by.Goals as goal

pub returns : goal.returns
returns c = record {
  taken = λ plain shown is are.
      let g = c.args.net.now.graph in
      let k = taken c.args.bit (tree_of g c.args.next.cell) c.args.next.at in
      let qs = c.follow.new.conditions in
      let f = c.in_ok-node.ensures plain is c.new-conditions.ensures in
      let so = c.in_ok-renew.ensures plain shown f.2 are in
      let same = sym (c.in_ok-under.ensures ∙ c.as_slice.ensures) in
      taken_found g k c.in_ok-node.node qs c.in_ok-under.under f (subst (AreTerms g (condition_terms g qs)) same
      (subst (λ xs. AreTerms g (condition_terms g xs) c.renew.new.self.terms) so.1 so.0));
  known = λ plain shown is are. (c.in_ok-renew.ensures plain shown (c.in_ok-node.ensures plain is c.new-conditions.ensures).2 are).0;
}
