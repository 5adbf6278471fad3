use Rattle.std.proofs.Common.{◌≡◌, Some, None, ap, subst}
use Rattle.std.specs.Prelude.{option_copied}
use Rattle.verilog_reading.specs.ExprTree.{tree_of}
use Rattle.verilog_reading.specs.SourceTree.{maybe}
use Rattle.flat_unfolding.specs.Formed.{IsFormedIf}
use Rattle.flat_targets.proofs.Aimed.{ok-then}
use Rattle.flat_design.proofs.Overrides.{override-unnamed, override-more, is-given, given-value}
use Rattle.flat_design.proofs.instance.add_override.Goals as goal

pub returns-in-Some-name : goal.returns-in-Some-name
returns-in-Some-name c = λ l js h is formed given.
    let v = tree_of c.in-Some.value in
    let some : maybe tree_of c.args.value.now ≡ Some v = ap (maybe tree_of) c.in-Some.is in
    let x = c.in-Some-name.name.now in
    let named : option_copied c.args.name ≡ Some x = ap option_copied c.in-Some-name.is in
    let old = c.args.overridden.now in
    let new = c.give.new.overridden in
    let f = c.args.faults.now in
    let g = c.resolve_constant.new.faults in
    let r = c.in_ok-value.value in
    let told = c.in_ok-value.ensures l h is (subst IsFormedIf some formed) in
    ok-then c.give.result _ _
    (λ u set. is-given l js new f g _ _ _ _ named some (given-value l js new f g (Some x) v (override-more l js old given new x v r set.0 set.1 told.0 told.2 told.3) told.1))
    c.give.ensures

pub returns-in-None : goal.returns-in-None
returns-in-None c = λ l js h is formed given.
    let v = tree_of c.in-Some.value in
    let some : maybe tree_of c.args.value.now ≡ Some v = ap (maybe tree_of) c.in-Some.is in
    let old = c.args.overridden.now in
    let f = c.args.faults.now in
    let g = c.resolve_constant.new.faults in
    let told = c.in_ok-value.ensures l h is (subst IsFormedIf some formed) in
    is-given l js old f g _ _ _ _ (ap option_copied c.in-None.is) some (given-value l js old f g None v (override-unnamed l js old given v) told.1)
