use Rattle.std.proofs.Common.{◌≡◌, ◌≤◌, Err, map, ap, sym, subst, ◌∙◌, rules}
use Rattle.verilog_reading.specs.SourceTree.{decl_of}
use Rattle.flat_unfolding.specs.Names.{width_of}
use Rattle.flat_unfolding.specs.Parameters.{range_read}
use Rattle.flat_unfolding.specs.Declarations.{again, array_read, declaration_rules, declaration}
use Rattle.flat_unfolding.specs.Design.{look_of}
use Rattle.flat_names.specs.declared.design.Entry.{Entry}
use Rattle.flat_names.specs.declared.fault.Order.TheVariants as k
use Rattle.flat_names.specs.Noting.{all_noted, Raises}
use Rattle.flat_names.specs.Designs.{ShowsNames}
use Rattle.flat_declarations.specs.Declaring.{MeetsFit, Declares}
use Rattle.flat_declarations.proofs.Ended.{none_yet, raise-none, look-shown}
use Rattle.flat_declarations.proofs.Declares.{declaration-err, again-inner, count-depth, narrow, free, untaken, again-meets, signal-meets, memory-meets}
use Rattle.flat_declarations.proofs.declare.add_declaration.Goals as goal

pub returns-in_err-raise-clause-exact : goal.returns-in_err-raise-clause-exact
returns-in_err-raise-clause-exact c = λ pins s at sh is formed here header placed.
    let x = decl_of c.args.decl.now in let l = look_of s in let rules_of = declaration_rules l at x in let stop = c.in_err-raise.field-0.0 in
    let shows = look-shown pins c.look-look.result c.args.design.now s (subst (λ t. ShowsNames t s.names) (sym c.look-look.ensures.names) sh.names) sh.design c.look-look.ensures.entries c.look-look.ensures.active in
    let may = ap (map (λ (y : Entry). y.is_open)) c.look-look.ensures.entries ∙ sh.design.may_repeat in
    let meant = c.in_ok-declared.ensures l at shows may is formed here header in
    let noted : c.judged.new.faults ≡ all_noted (none_yet k.Declaration) rules_of = meant.0 ∙ ap (λ n. all_noted n rules_of) c.new-faults.ensures in
    let same : c.from_residual-in_err-raise.result ≡ Err stop = search rules in
    subst (λ r. MeetsFit pins c.args.names.now (declaration s (at, x)) r c.args.design.now) (sym same)
    (declaration-err pins c.args.names.now c.args.design.now s at x c.judged.new.faults stop noted (subst (λ p. Raises c.judged.new.faults.found p (Err stop)) (sym placed) c.in_err-raise.ensures.exact))

pub returns-in-Again-clause-exact : goal.returns-in-Again-clause-exact
returns-in-Again-clause-exact c = λ pins s at sh is formed here header placed.
    let x = decl_of c.args.decl.now in let l = look_of s in let rules_of = declaration_rules l at x in
    let shows = look-shown pins c.look-look.result c.args.design.now s (subst (λ t. ShowsNames t s.names) (sym c.look-look.ensures.names) sh.names) sh.design c.look-look.ensures.entries c.look-look.ensures.active in
    let may = ap (map (λ (y : Entry). y.is_open)) c.look-look.ensures.entries ∙ sh.design.may_repeat in
    let meant = c.in_ok-declared.ensures l at shows may is formed here header in
    let noted : c.judged.new.faults ≡ all_noted (none_yet k.Declaration) rules_of = meant.0 ∙ ap (λ n. all_noted n rules_of) c.new-faults.ensures in
    let none = raise-none k.Declaration c.args.place rules_of tt c.judged.new.faults noted c.in_ok-raise.ensures.exact in
    let more = subst (λ q. Declares q (range_read l x.name x.range).range (again l x) (array_read l x x.array).count) c.in-Again.is (meant.1 none) in
    again-meets s at x none pins c.args.names.now c.declare_again.new.design is c.in-Again.sig tt more sh.names (c.declare_again.ensures pins s.design sh.design (again-inner l x c.in-Again.sig more))

pub returns-in-Signal-clause-exact : goal.returns-in-Signal-clause-exact
returns-in-Signal-clause-exact c = λ pins s at sh is formed here header placed.
    let x = decl_of c.args.decl.now in let l = look_of s in let rules_of = declaration_rules l at x in
    let shows = look-shown pins c.look-look.result c.args.design.now s (subst (λ t. ShowsNames t s.names) (sym c.look-look.ensures.names) sh.names) sh.design c.look-look.ensures.entries c.look-look.ensures.active in
    let may = ap (map (λ (y : Entry). y.is_open)) c.look-look.ensures.entries ∙ sh.design.may_repeat in
    let meant = c.in_ok-declared.ensures l at shows may is formed here header in
    let noted : c.judged.new.faults ≡ all_noted (none_yet k.Declaration) rules_of = meant.0 ∙ ap (λ n. all_noted n rules_of) c.new-faults.ensures in
    let none = raise-none k.Declaration c.args.place rules_of tt c.judged.new.faults noted c.in_ok-raise.ensures.exact in
    let more = subst (λ q. Declares q (range_read l x.name x.range).range (again l x) (array_read l x x.array).count) c.in-Signal.is (meant.1 none) in
    signal-meets s at x none pins c.add_named_signal.new.names c.add_named_signal.new.design is c.in-Signal.bounds c.add_named_signal.result more.0 more.1 more.2
    (c.add_named_signal.ensures.exact pins s at sh here header placed (subst (λ o. width_of o ≤ 64) (sym more.2) (narrow s at x none)) (free s at x none more.0))

pub returns-in-Memory-clause-exact : goal.returns-in-Memory-clause-exact
returns-in-Memory-clause-exact c = λ pins s at sh is formed here header placed.
    let x = decl_of c.args.decl.now in let l = look_of s in let rules_of = declaration_rules l at x in let words = c.in-Memory.words in
    let shows = look-shown pins c.look-look.result c.args.design.now s (subst (λ t. ShowsNames t s.names) (sym c.look-look.ensures.names) sh.names) sh.design c.look-look.ensures.entries c.look-look.ensures.active in
    let may = ap (map (λ (y : Entry). y.is_open)) c.look-look.ensures.entries ∙ sh.design.may_repeat in
    let meant = c.in_ok-declared.ensures l at shows may is formed here header in
    let noted : c.judged.new.faults ≡ all_noted (none_yet k.Declaration) rules_of = meant.0 ∙ ap (λ n. all_noted n rules_of) c.new-faults.ensures in
    let none = raise-none k.Declaration c.args.place rules_of tt c.judged.new.faults noted c.in_ok-raise.ensures.exact in
    let more = subst (λ q. Declares q (range_read l x.name x.range).range (again l x) (array_read l x x.array).count) c.in-Memory.is (meant.1 none) in
    memory-meets s at x none pins c.add_memory.new.names c.add_memory.new.design is c.in-Memory.bounds words c.add_memory.result more.0 more.1 more.2
    (c.add_memory.ensures.exact pins s at sh here placed (subst (λ o. width_of o ≤ 64) (sym more.2) (narrow s at x none)) (free s at x none more.0) (count-depth l x x.array words more.1) (untaken s at x none words more.1))
