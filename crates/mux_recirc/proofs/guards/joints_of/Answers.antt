-- One ring more, and in the end all.
use Rattle.mux_recirc.specs.declared.guards.Sides.{Sides}
use Rattle.mux_recirc.proofs.Added.{both_iff, in_permuted}
use Rattle.mux_recirc.proofs.Joining.{joint_more, joints_all}
use Rattle.std.proofs.Common.{None}
use Rattle.mux_recirc.proofs.guards.joints_of.Goals as goal

abbrev none : Sides
none = record { request = None; acknowledge = None }

pub loop-ring-preserved : goal.loop-ring-preserved
loop-ring-preserved c = λ j.
    joint_more c.args.sides.now c.loop-ring.ring none c.loop-ring.joints.items c.add_joint.new.joints.items j c.loop-ring-test.true c.in_ok-add_joint.ensures (c.loop-ring.invariant j)

pub returns-clause-exact : goal.returns-clause-exact
returns-clause-exact c = λ j.
    both_iff (in_permuted c.loop-ring.joints.items c.sort_unstable.new.self.items j c.sort_unstable.ensures.permutation)
    (joints_all c.args.sides.now c.loop-ring.ring j c.loop-ring-test.false (c.loop-ring.invariant j))
