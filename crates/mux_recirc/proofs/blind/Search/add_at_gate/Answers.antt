-- The blindnesses of one end more, and in the end of all; none where the gate isn't there.
use Rattle.std.proofs.Common.{◌∙◌, sym, subst, false, true, get_or}
use Rattle.std.proofs.lemmas.List.Elements.{Contains-get_or}
use Rattle.cdc_base.specs.declared.bit.Bit.{Bit}
use Rattle.cdc_model.specs.Tables.{ShowsNext}
use Rattle.mux_recirc.specs.declared.blind.Shut.{Shut}
use Rattle.mux_recirc.specs.Blind.{ShowsShut, IsBlindInto}
use Rattle.mux_recirc.specs.Shown.{equal}
use Rattle.mux_recirc.proofs.Added.{item_more}
use Rattle.mux_recirc.proofs.Shutting.{gate_all, no_gate}
use Rattle.mux_recirc.proofs.blind.Search.add_at_gate.Goals as goal

abbrev none : Bit
none = record { sig = 0; at = 0 }

pub returns-in_default : goal.returns-in_default
returns-in_default c = λ is has sorted within b.
    no_gate c.args.self.now.net.now c.args.self.now.domains.now c.args.self.now.crossings.now c.args.ring.now c.args.gate c.args.ends.now b
    (subst (ShowsShut c.args.self.now.net.now c.args.ring.now c.args.gate.place c.args.ends.now) c.in_default.is (c.in_ok-shut.ensures is has))

pub loop-end-preserved : goal.loop-end-preserved
loop-end-preserved c = record {
  same = c.in_ok-add_into.ensures.unchanged ∙ c.loop-end.invariant.same;
  found = λ p q is has sorted within low high b.
      let net = c.args.self.now.net.now in
      let ends = c.args.ends.now in
      let i = c.loop-end.end-index in
      let there = Contains-get_or ends i none c.loop-end-test.true in
      item_more ends (λ x. IsBlindInto net c.args.self.now.domains.now c.args.self.now.crossings.now c.args.gate p q x b) i none c.loop-end-test.true
      (c.loop-end.invariant.found p q is has sorted within low high b)
      (c.in_ok-add_into.ensures.added p q ends is has sorted (subst (λ (s : Shut). ShowsNext net (equal p q false) s.low ends) (sym c.loop-end.invariant.same) low)
      (subst (λ (s : Shut). ShowsNext net (equal p q true) s.high ends) (sym c.loop-end.invariant.same) high) there (within (get_or ends i none) there) b);
}

pub returns : goal.returns
returns c = λ is has sorted within b.
    let shut = subst (ShowsShut c.args.self.now.net.now c.args.ring.now c.args.gate.place c.args.ends.now) c.in-Some.is (c.in_ok-shut.ensures is has) in
    gate_all c.args.self.now.net.now c.args.self.now.domains.now c.args.self.now.crossings.now c.args.ring.now c.args.gate c.args.ends.now c.loop-end.end-index shut.0 shut.1 b
    c.loop-end-test.false shut.2 shut.3 (c.loop-end.invariant.found shut.0 shut.1 is has sorted within shut.4 shut.5 b)
