use Rattle.std.proofs.Common.{◌≡◌, sym, ap, subst, ◌∙◌, rules}
use Rattle.std.specs.Prelude.{Err}
use Rattle.verilog_reading.specs.SourceTree.{conns_of, module_of}
use Rattle.flat_unfolding.specs.Instances.{override_rules, connection_rules}
use Rattle.flat_unfolding.specs.Design.{look_of}
use Rattle.flat_unfolding.proofs.Steps.{none_of_both}
use Rattle.flat_names.specs.Noting.{Noted, all_noted}
use Rattle.flat_names.proofs.Notes.{then-noted}
use Rattle.flat_design.specs.Visiting.{end_rules, AreEnds}
use Rattle.flat_design.proofs.Joined.{none_noted, none-raised, one-raised, stage-looks, stage-resets, ends-refused}
use Rattle.flat_design.proofs.visit.ends_of.Goals as goal

pub returns-in_err-raise-clause-exact : goal.returns-in_err-raise-clause-exact
returns-in_err-raise-clause-exact c = λ pins s shows fit sides word params ports.
    let l = look_of s in let t = module_of c.args.module.now in let look = c.look-look.result in
    let gs = conns_of c.args.instance.now.params.now in let cs = conns_of c.args.instance.now.ports.now in
    let looks = stage-looks pins c.args.names.now c.args.design.now s shows look c.look-look.ensures.entries c.look-look.ensures.names c.look-look.ensures.active in
    let resets = stage-resets pins c.args.names.now c.args.design.now s shows look c.look-look.ensures.entries in
    let a = c.in_ok-overridden.ensures l looks fit params (c.as_str-word.ensures ∙ word) in
    let b = c.in_ok-connected.ensures pins l looks resets fit ports (c.as_str-word.ensures ∙ word) sides in
    let noted = then-noted none_noted c.overrides_of.new.faults c.connections_of.new.faults (override_rules l t gs) (connection_rules l t cs) (a.0 ∙ ap (λ (n : Noted). all_noted n (override_rules l t gs)) c.new-faults.ensures) b.0 in
    let e = c.in_err-raise.field-0.0 in
    let bad = one-raised c.args.instance.now.place (end_rules s t gs cs) c.connections_of.new.faults e noted c.in_err-raise.ensures.exact in
    let failed : c.from_residual-in_err-raise.result ≡ Err e = search rules in
    subst (AreEnds pins c.args.ports.now s c.args.instance.now.place t gs cs) (sym failed) (ends-refused pins c.args.ports.now s c.args.instance.now.place t gs cs e bad)

pub returns-clause-exact : goal.returns-clause-exact
returns-clause-exact c = λ pins s shows fit sides word params ports.
    let l = look_of s in let t = module_of c.args.module.now in let look = c.look-look.result in
    let gs = conns_of c.args.instance.now.params.now in let cs = conns_of c.args.instance.now.ports.now in
    let looks = stage-looks pins c.args.names.now c.args.design.now s shows look c.look-look.ensures.entries c.look-look.ensures.names c.look-look.ensures.active in
    let resets = stage-resets pins c.args.names.now c.args.design.now s shows look c.look-look.ensures.entries in
    let a = c.in_ok-overridden.ensures l looks fit params (c.as_str-word.ensures ∙ word) in
    let b = c.in_ok-connected.ensures pins l looks resets fit ports (c.as_str-word.ensures ∙ word) sides in
    let noted = then-noted none_noted c.overrides_of.new.faults c.connections_of.new.faults (override_rules l t gs) (connection_rules l t cs) (a.0 ∙ ap (λ (n : Noted). all_noted n (override_rules l t gs)) c.new-faults.ensures) b.0 in
    let right = none-raised c.args.instance.now.place (end_rules s t gs cs) c.connections_of.new.faults tt noted c.in_ok-raise.ensures.exact in
    let each = none_of_both (override_rules l t gs) (connection_rules l t cs) right in
    (right, a.1 each.0, b.1 each.1)
