-- The pairs of one synchronizer more, and in the end all pairs, in order.
use Rattle.std.proofs.Common.{◌∙◌, sym, subst, []}
use Rattle.cdc_model.specs.Tables.{ShowsNet}
use Rattle.handshake.specs.Pairs.{IsPairFrom}
use Rattle.handshake.proofs.Pairs.{one_below_more, pairs_all, both_iff, few_entries, in_none}
use Rattle.handshake.proofs.candidates.pairs.Goals as goal

pub loop-there-preserved : goal.loop-there-preserved
loop-there-preserved c = record {
  same = c.in_ok-add_pairs.ensures.unchanged ∙ c.loop-there.invariant.same;
  found = λ is has shown ss are own within p.
      one_below_more _ _ _ (λ i. IsPairFrom c.args.net.now c.args.domains.now ss i p) c.loop-there.there (c.loop-there.invariant.found is has shown ss are own within p)
      (c.in_ok-add_pairs.ensures.added is has (subst (ShowsNet c.args.net.now []) (sym c.loop-there.invariant.same) shown) ss are own within (λ b. c.in_ok-ends.ensures ss are b) p);
}

pub returns-clause-exact : goal.returns-clause-exact
returns-clause-exact c = λ is has shown ss are own within p.
    both_iff (c.into_order.ensures.same p)
    (pairs_all c.args.net.now c.args.domains.now ss c.loop-there.there _ _ p (few_entries c.args.syncs.now ss are c.loop-there.there c.loop-there-test.false)
    (in_none c.new-found.result.items p c.new-found.ensures.items) (c.loop-there.invariant.found is has shown ss are own within p))
