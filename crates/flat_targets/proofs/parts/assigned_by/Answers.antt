use Rattle.std.proofs.Common.{◌+◌, ◌++◌, ◌∷◌, [], Bor, List, map, take, sym, subst}
use Rattle.flat_meaning.specs.Flat.{Target}
use Rattle.flat_form.specs.declared.flat.FTarget.{FTarget}
use Rattle.flat_form.specs.View.{target_of}
use Rattle.flat_targets.specs.Parts.{width_among, IsPart, Holds}
use Rattle.flat_targets.proofs.Shared.{taken-more, all-at, holds-more}
use Rattle.flat_targets.proofs.parts.assigned_by.Goals as goal

pub loop-part-preserved : goal.loop-part-preserved
loop-part-preserved c = λ all.
    let wid = width_among c.args.entries.now in
    let f = λ (p : Bor FTarget). target_of p.now in
    let ps = c.args.parts.now in
    let k = c.loop-part.part-index in
    let x = c.part-item.result in
    let part = all-at IsPart f ps k x c.loop-part-test.true c.part-item.is all in
    subst (λ (ts : List Target). Holds wid ts c.add_part.new.assigned) (sym (taken-more f ps k x c.loop-part-test.true c.part-item.is))
    (holds-more wid (take k (map f ps)) (f x) c.loop-part.assigned c.add_part.new.assigned (c.loop-part.invariant all) (c.in_ok-add_part.ensures part))
