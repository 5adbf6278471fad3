-- By the load's ring, the groups, the gate, and what is guarded there.
use Rattle.std.proofs.Common.{◌≡◌, ◌∙◌, Some, sym, ap, true}
use Rattle.std.proofs.lemmas.Option.{slice_get-get_or}
use Rattle.cofactor.proofs.Places.{if_ok}
use Rattle.cert_check.specs.declared.loads.Ends.{Ends}
use Rattle.cert_check.specs.Loads.{ends_of, is_between, is_guarded}
use Rattle.cert_check.proofs.FirstFlops.{not_so}
use Rattle.cert_check.proofs.ListedLoads.{entry_ring, between_registers, not_between, no_gate, load_if}
use Rattle.cert_check.proofs.loads.is_load_item.Goals as goal

some_ends : (a b : Ends) → Some a ≡ Some b → a ≡ b
some_ends a b h = cc

pub returns-then-not-is_between-clause-exact : goal.returns-then-not-is_between-clause-exact
returns-then-not-is_between-clause-exact c = λ is has fit shown grays ss rs same are.
    let net = c.args.net.now in
    let domains = c.args.domains.now in
    let l = c.args.load in
    let r = entry_ring net domains fit grays ss rs are l c.args.rings.now same c.in-Some.ring.now
    (slice_get-get_or c.args.rings.now l.ring c.in-Some.ring.now c.in-Some.ensures.lookup.3.0 ∙ ap Some (sym c.in-Some.ensures.lookup.1)) in
    let ends = some_ends c.in-Some-ends_of.ends (ends_of r.0) (c.in-Some-ends_of.ensures r.0 r.2) in
    not_so (not_between net domains fit grays ss rs are l r.0 r.1 c.args.rings.now same
    (ap (λ (e : Ends). is_between net domains e l) (sym ends) ∙ sym (c.is_between.ensures is) ∙ c.if-not-is_between.true))

pub returns-in_default-gate_of-clause-exact : goal.returns-in_default-gate_of-clause-exact
returns-in_default-gate_of-clause-exact c = λ is has fit shown grays ss rs same are.
    let net = c.args.net.now in
    let domains = c.args.domains.now in
    let l = c.args.load in
    let r = entry_ring net domains fit grays ss rs are l c.args.rings.now same c.in-Some.ring.now
    (slice_get-get_or c.args.rings.now l.ring c.in-Some.ring.now c.in-Some.ensures.lookup.3.0 ∙ ap Some (sym c.in-Some.ensures.lookup.1)) in
    not_so (no_gate net domains fit grays ss rs are l r.0 r.1 c.args.rings.now same (λ p q g. c.in_default-gate_of.ensures r.0 p q r.2 g))

pub returns-clause-exact : goal.returns-clause-exact
returns-clause-exact c = if_ok c.is_guarded.result
    (λ answer exact is has fit shown grays ss rs same are.
    let net = c.args.net.now in
    let domains = c.args.domains.now in
    let l = c.args.load in
    let r = entry_ring net domains fit grays ss rs are l c.args.rings.now same c.in-Some.ring.now
    (slice_get-get_or c.args.rings.now l.ring c.in-Some.ring.now c.in-Some.ensures.lookup.3.0 ∙ ap Some (sym c.in-Some.ensures.lookup.1)) in
    let ends = some_ends c.in-Some-ends_of.ends (ends_of r.0) (c.in-Some-ends_of.ensures r.0 r.2) in
    let gate = c.in-Some-gate_of.gate in
    let between : is_between net domains (ends_of r.0) l ≡ true = ap (λ (e : Ends). is_between net domains e l) (sym ends) ∙ sym (c.is_between.ensures is) ∙ c.if-not-is_between.false in
    let regs = between_registers net domains fit grays ss rs are l r.0 r.1 between in
    load_if net domains fit grays ss rs are l r.0 r.1 c.args.rings.now same gate (c.in-Some-gate_of.ensures r.0 r.2) between answer
    (exact is has shown regs.0 regs.1 ∙ ap (λ (e : Ends). is_guarded net e gate l) ends))
    c.is_guarded.ensures.exact
