use Rattle.std.proofs.Common.{◌≡◌, ◌==◌, cond, Err, Some, rules, ap, sym, ◌∙◌, subst}
use Rattle.std.specs.Cmp.Lexicographic.{pointwise}
use Rattle.verilog_reading.specs.SourceTree.{param_of as tree_of_param}
use Rattle.flat_unfolding.specs.Parameters as law
use Rattle.flat_unfolding.specs.Design.{look_of}
use Rattle.flat_names.specs.declared.fault.Order.TheVariants as k
use Rattle.flat_names.specs.declared.scope.Meaning.TheVariants as m
use Rattle.flat_names.specs.Noting.{all_noted}
use Rattle.flat_names.specs.Looks.{kept_in}
use Rattle.flat_names.specs.Designs.{ShowsNames}
use Rattle.flat_declarations.specs.Declaring.{MeetsFit, parameter_rules}
use Rattle.flat_declarations.proofs.Held.{override-local, sized-local}
use Rattle.flat_declarations.proofs.Ended.{none_yet, raise-none, parameter-err, look-shown, parameter-meets}
use Rattle.flat_declarations.proofs.parameter.add_parameter.Goals as goal

pub returns-in_err-raise-clause-exact : goal.returns-in_err-raise-clause-exact
returns-in_err-raise-clause-exact c = λ pins s given sh is fo formed outer sized.
    let q = tree_of_param c.args.param.now in
    let rules_of = parameter_rules given (look_of s) q in
    let shows = look-shown pins c.look-look.result c.args.design.now s (subst (λ t. ShowsNames t s.names) (sym c.look-look.ensures.names) sh.names) sh.design c.look-look.ensures.entries c.look-look.ensures.active in
    let meant = c.in_ok-meaning.ensures (look_of s) given shows is formed (override-local q.local _ _ _ c.override_for.ensures outer) (sized-local q.local _ _ c.override_for.ensures sized) in
    let noted : c.parameter_meaning.new.faults ≡ all_noted (none_yet k.Parameter) rules_of = meant.0 ∙ ap (λ n. all_noted n rules_of) c.new-faults.ensures in
    let same : c.from_residual-in_err-raise.result ≡ Err c.in_err-raise.field-0.0 = search rules in
    subst (λ r. MeetsFit pins c.args.names.now (law.parameter given s (c.args.place, q)) r c.args.design.now) (sym same)
    (parameter-err pins c.args.names.now c.args.design.now given s c.args.place q c.parameter_meaning.new.faults c.in_err-raise.field-0.0 noted c.in_err-raise.ensures.exact)

pub returns-clause-exact : goal.returns-clause-exact
returns-clause-exact c = λ pins s given sh is fo formed outer sized.
    let q = tree_of_param c.args.param.now in
    let rules_of = parameter_rules given (look_of s) q in
    let shows = look-shown pins c.look-look.result c.args.design.now s (subst (λ t. ShowsNames t s.names) (sym c.look-look.ensures.names) sh.names) sh.design c.look-look.ensures.entries c.look-look.ensures.active in
    let meant = c.in_ok-meaning.ensures (look_of s) given shows is formed (override-local q.local _ _ _ c.override_for.ensures outer) (sized-local q.local _ _ c.override_for.ensures sized) in
    let noted : c.parameter_meaning.new.faults ≡ all_noted (none_yet k.Parameter) rules_of = meant.0 ∙ ap (λ n. all_noted n rules_of) c.new-faults.ensures in
    let none = raise-none k.Parameter c.args.place rules_of tt c.parameter_meaning.new.faults noted c.in_ok-raise.ensures.exact in
    parameter-meets pins c.args.names.now c.define.new.names c.args.design.now s given c.args.place q c.in_ok-meaning.meaning tt sh is fo formed none (meant.1 none)
    (λ y. c.in_ok-define.ensures y ∙ ap (λ x. cond (pointwise ◌==◌ x y) (Some (m.Param c.in_ok-meaning.meaning)) (kept_in c.args.names.now y)) c.as_str.ensures)
