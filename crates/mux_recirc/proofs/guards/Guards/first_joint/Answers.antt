-- The first ring that joins the groups.
use Rattle.std.proofs.Common.{◌∙◌, sym, ap, slice_get}
use Rattle.mux_recirc.proofs.Joining.{some_joint, no_joint}
use Rattle.mux_recirc.proofs.guards.Guards.first_joint.Goals as goal

pub returns-in-Some : goal.returns-in-Some
returns-in-Some c = λ sorted.
    some_joint c.args.self.now.joints.items c.args.sides sorted c.in-Some.joint.now (sym (c.in-Some.ensures.value ∙ ap (λ xs. slice_get xs 0) (c.joints_at.ensures sorted)))

pub returns-in-None : goal.returns-in-None
returns-in-None c = λ sorted.
    no_joint c.args.self.now.joints.items c.args.sides (sym (c.in-None.ensures.value ∙ ap (λ xs. slice_get xs 0) (c.joints_at.ensures sorted)))
