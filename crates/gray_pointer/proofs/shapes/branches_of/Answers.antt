-- The conditions differ, or they are one.
use Rattle.std.proofs.Common.{◌≡◌, ◌∙◌, sym, subst, true, false}
use Rattle.gray_pointer.specs.Words.{IsChoice}
use Rattle.gray_pointer.proofs.Joints.{no_branches}
use Rattle.gray_pointer.proofs.shapes.branches_of.Goals as goal

pub returns-then-not-are_same : goal.returns-then-not-are_same
returns-then-not-are_same c = λ plain has.
    let g = c.args.net.now.graph in
    let w = c.args.width in
    no_branches g plain c.args.both w has.0.1 c.in_ok-count.count c.in_ok-gray.gray
    (subst (IsChoice g c.args.both.count w) c.in_ok-count.was (c.choice_of.ensures plain has.0))
    (subst (IsChoice g c.args.both.gray w) c.in_ok-gray.was (c.choice_of-2.ensures plain has.1))
    (λ e. let t : true ≡ false = sym (c.are_same.ensures.1 e) ∙ c.if-not-are_same.true in cc)
