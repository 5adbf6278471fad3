-- All of them are there, in whatever order.
use Rattle.std.proofs.Common.{◌∙◌, ◌++◌, sym, ap, subst, Contains}
use Rattle.mux_recirc.proofs.Added.{both_iff, in_permuted}
use Rattle.cert_check.specs.Served.{sync_passages, load_passages, crossing_passages}
use Rattle.cert_check.proofs.served.served.Goals as goal

pub returns-clause-listed : goal.returns-clause-listed
returns-clause-listed c = λ p.
    let syncs = c.in_ok-add_first_flops.ensures ∙ ap (λ xs. xs ++ sync_passages c.args.syncs.now) c.new-served.ensures.items in
    let loads = c.in_ok-add_loads.ensures ∙ ap (λ xs. xs ++ load_passages c.args.loads.now) syncs in
    let all = c.in_ok-add_crossings.ensures ∙ ap (λ xs. xs ++ crossing_passages c.args.extra.now) loads in
    both_iff (in_permuted c.add_crossings.new.served.items c.sort_unstable.new.self.items p c.sort_unstable.ensures.permutation)
    ((λ i. subst (λ xs. Contains xs p) all i), λ i. subst (λ xs. Contains xs p) (sym all) i)
