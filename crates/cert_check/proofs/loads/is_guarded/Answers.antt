-- All else holds, so the last answer decides.
use Rattle.std.proofs.Common.{◌∙◌, [], not, sym}
use Rattle.cofactor.proofs.Places.{if_ok}
use Rattle.cell_graph.specs.Cofactor.{reads}
use Rattle.cdc_model.specs.Nets.{next_tree}
use Rattle.cdc_model.specs.Syncs.{copies}
use Rattle.mux_recirc.specs.Blind.{reads_shut}
use Rattle.mux_recirc.specs.Held.{keeps_between}
use Rattle.cert_check.proofs.ListedLoads.{last_asked}
use Rattle.cert_check.proofs.loads.is_guarded.Goals as goal

pub returns-clause-exact : goal.returns-clause-exact
returns-clause-exact c = if_ok c.is_blind.result
    (λ answer exact is has shown from to.
    let net = c.args.net.now in
    let l = c.args.load in
    exact is has to
    ∙ sym (last_asked (copies net l.to l.from) (reads [] (next_tree net l.to.sig) l.to.at l.from) (keeps_between net c.args.ends.request c.args.ends.last l.from)
    (not (reads_shut net c.args.gate.one c.args.gate.next l.to l.from))
    (sym (c.is_copy.ensures is has shown to) ∙ c.if-is_copy.false) (sym (c.in_ok-reads_bit.ensures.exact is has shown to) ∙ c.if-not-branch.false)
    (sym (c.in_ok-is_held.ensures is has from) ∙ c.if-not-branch-2.false)))
    c.is_blind.ensures
