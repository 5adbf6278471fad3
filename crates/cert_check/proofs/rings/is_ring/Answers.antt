-- By each condition of a ring.
use Rattle.std.proofs.Common.{◌≡◌, ◌∙◌, ◌↔◌, sym, ap, subst, true, []}
use Rattle.cofactor.proofs.Places.{if_ok}
use Rattle.cdc_base.specs.declared.bit.Bit.{Bit}
use Rattle.cell_graph.specs.Cofactor.{reads}
use Rattle.cdc_model.specs.declared.scheme.Sync.{Sync as SyncEntry}
use Rattle.cdc_model.specs.Nets.{design_of, is_register_bit, net_trees, next_tree}
use Rattle.cdc_model.specs.Schemes.{last_flop, IsRing}
use Rattle.cert_check.proofs.FirstFlops.{not_so}
use Rattle.cert_check.proofs.ListedRings.{turn_registers, no_turn, ring_if}
use Rattle.cert_check.proofs.rings.is_ring.Goals as goal

pub returns-then-not-may_turn-clause-exact : goal.returns-then-not-may_turn-clause-exact
returns-then-not-may_turn-clause-exact c = λ is has fit shown grays ss are s b p q i j.
    not_so (no_turn c.args.net.now c.args.domains.now is fit grays ss are s b i j (sym (c.may_turn.ensures is s b p q) ∙ c.if-not-may_turn.true))

pub returns-clause-exact : goal.returns-clause-exact
returns-clause-exact c = if_ok c.turns.result
    (λ answer exact is has fit shown grays ss are s b p q i j.
    let net = c.args.net.now in
    let domains = c.args.domains.now in
    let may = sym (c.may_turn.ensures is s b p q) ∙ c.if-not-may_turn.false in
    let regs = turn_registers net domains is fit grays ss are s b i j may in
    let from : c.args.there.now.from ≡ s.from = ap (λ (x : SyncEntry). x.from) p in
    let reg = subst (λ (x : Bit). is_register_bit net x ≡ true) (sym from) regs.0 in
    let read : reads [] (next_tree net s.from.sig) s.from.at (last_flop b) ≡ true = ap (λ (x : Bit). reads [] (next_tree net x.sig) x.at (last_flop b)) (sym from)
    ∙ ap (reads [] (next_tree net c.args.there.now.from.sig) c.args.there.now.from.at) (sym (c.last_flop.ensures b q))
    ∙ sym (c.in_ok-reads_bit.ensures.exact is has shown reg) ∙ c.if-not-branch.false in
    subst (λ v. (v ≡ true) ↔ IsRing (design_of net domains) (net_trees net grays) ss (record { there = s; back = b })) (sym (exact is has s b p q regs.0 regs.1))
    (ring_if net domains is fit grays ss are s b i j may read))
    c.turns.ensures
