use Rattle.std.proofs.Common.{sym, subst, arith, ◌+◌}
use Rattle.std.specs.List.{Contains}
use Rattle.std.proofs.lemmas.List.{take_all}
use Rattle.driver_loops.proofs.Turned.{AreJoined, none_joined, more_joined}
use Rattle.driver_loops.proofs.links.Links.joined.Goals as goal

pub loop-pair-init : goal.loop-pair-init
loop-pair-init c = λ rise all. subst (AreJoined c.args.pairs.now c.args.count 0) (sym c.new-links.ensures) (none_joined c.args.pairs.now c.args.count)

pub loop-pair-preserved : goal.loop-pair-preserved
loop-pair-preserved c = λ rise all.
    subst (AreJoined c.args.pairs.now c.args.count (c.loop-pair.pair-index + 1)) (sym c.in_ok-add.ensures)
    (more_joined c.args.pairs.now c.args.count c.loop-pair.pair-index c.loop-pair.links c.begin_up_to.new.self (0, 0) c.loop-pair-test.true (c.loop-pair.invariant rise all) rise all
    c.in_ok-begin_up_to.ensures.count c.in_ok-begin_up_to.ensures.ends)

pub returns : goal.returns
returns c = λ rise all.
    let is = c.loop-pair.invariant rise all in
    let same = take_all c.loop-pair.pair-index c.args.pairs.now c.loop-pair-test.false in
    let size = c.in_ok-begin_up_to-2.ensures.count in
    let ends = c.in_ok-begin_up_to-2.ensures.ends in (
      (let w = is.within in omega arith),
      λ w v. (
        λ h. subst (λ ps. Contains ps (w, v)) same ((is.ends w v).0 (subst (λ es. Contains es v) (ends w) h)),
        λ h. subst (λ es. Contains es v) (sym (ends w)) ((is.ends w v).1 (subst (λ ps. Contains ps (w, v)) (sym same) h)),
      ),
    )
