use Rattle.std.proofs.Common.{◌≡◌, ◌++◌, Some, IfOk, sym, ap, subst, ◌∙◌}
use Rattle.verilog_reading.specs.ExprTree.{tree_of}
use Rattle.verilog_reading.specs.SourceTree.{maybe}
use Rattle.flat_unfolding.specs.Formed.{IsFormedIf}
use Rattle.flat_names.specs.Noting.{all_noted}
use Rattle.flat_design.specs.Visiting.{joint_if, side_named, IsPlace, AreLinked, read_of}
use Rattle.flat_design.proofs.Links.{linked-only, placed-none, placed-some, named-place}
use Rattle.flat_design.proofs.instance.connect.Goals as goal

pub returns-in-Some-default-true : goal.returns-in-Some-default-true
returns-in-Some-default-true c = λ pins l m x js h resets is shown place formed given.
    let ports = c.args.ports.now in let old = c.args.faults.now in let k = c.in-Some-default-true in
    let v = tree_of c.in-Some.value in
    let some : maybe tree_of c.args.value.now ≡ Some v = ap (maybe tree_of) c.in-Some.is in
    let found = placed-some ports m c.args.port x k.port k.field-0-1 (sym k.is ∙ c.directed.ensures m x shown place) in
    let named = named-place ports m x k.port (subst (λ o. IsPlace ports o x) found.0 place) in
    let new = c.connect_input.new.connected in let noted = c.connect_input.new.faults in
    subst (λ z. IfOk c.connect_input.result (λ u. AreLinked pins l m ports (js ++ joint_if z (maybe tree_of c.args.value.now)) new × (noted ≡ all_noted old (read_of l m (joint_if z (maybe tree_of c.args.value.now)))))) (sym named.1)
    (subst (λ w. IfOk c.connect_input.result (λ u. AreLinked pins l m ports (js ++ joint_if (Some named.0) w) new × (noted ≡ all_noted old (read_of l m (joint_if (Some named.0) w))))) (sym some)
    (c.connect_input.ensures pins l m named.0 js h resets is named.2 (ap (side_named m) (sym named.1) ∙ found.1 ∙ ap Some k.field-0-1-test) (subst IsFormedIf some formed) given))

pub returns-in-Some-default-false : goal.returns-in-Some-default-false
returns-in-Some-default-false c = λ pins l m x js h resets is shown place formed given.
    let ports = c.args.ports.now in let old = c.args.faults.now in let k = c.in-Some-default-false in
    let v = tree_of c.in-Some.value in
    let some : maybe tree_of c.args.value.now ≡ Some v = ap (maybe tree_of) c.in-Some.is in
    let found = placed-some ports m c.args.port x k.port k.field-0-1 (sym k.is ∙ c.directed.ensures m x shown place) in
    let named = named-place ports m x k.port (subst (λ o. IsPlace ports o x) found.0 place) in
    let new = c.connect_output.new.connected in let noted = c.connect_output.new.faults in
    subst (λ z. IfOk c.connect_output.result (λ u. AreLinked pins l m ports (js ++ joint_if z (maybe tree_of c.args.value.now)) new × (noted ≡ all_noted old (read_of l m (joint_if z (maybe tree_of c.args.value.now)))))) (sym named.1)
    (subst (λ w. IfOk c.connect_output.result (λ u. AreLinked pins l m ports (js ++ joint_if (Some named.0) w) new × (noted ≡ all_noted old (read_of l m (joint_if (Some named.0) w))))) (sym some)
    (c.connect_output.ensures pins l m ports named.0 js h is named.2 (ap (side_named m) (sym named.1) ∙ found.1 ∙ ap Some k.field-0-1-test) (subst IsFormedIf some formed) given))

pub returns-in_ok-resolve-in-None : goal.returns-in_ok-resolve-in-None
returns-in_ok-resolve-in-None c = λ pins l m x js h resets is shown place formed given.
    let ports = c.args.ports.now in
    let now = c.args.connected.now in
    let old = c.args.faults.now in
    let v = tree_of c.in-Some.value in
    let some : maybe tree_of c.args.value.now ≡ Some v = ap (maybe tree_of) c.in-Some.is in
    let side = placed-none ports m c.args.port x place (sym c.in-None.is ∙ c.directed.ensures m x shown place) in
    let k = linked-only pins l m ports js now given x v side in
    subst (λ w. AreLinked pins l m ports (js ++ joint_if x w) now × (c.resolve.new.faults ≡ all_noted old (read_of l m (joint_if x w)))) (sym some)
    (k.0, (c.in_ok-resolve-in-None.ensures l h is (subst IsFormedIf some formed)).1 ∙ ap (all_noted old) (sym k.1))
