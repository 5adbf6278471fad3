-- By whether the source always keeps its value.
use Rattle.std.proofs.Common.{◌∙◌, sym, subst}
use Rattle.mux_recirc.specs.Given.{IsFirstJoint, IsFirstPair}
use Rattle.mux_recirc.specs.declared.guards.Sides.{Sides}
use Rattle.mux_recirc.proofs.Joining.{constant_first, pair_first}
use Rattle.mux_recirc.proofs.Search.{other}
use Rattle.mux_recirc.proofs.guards.Guards.first_held.Goals as goal

pub returns-then-is_constant : goal.returns-then-is_constant
returns-then-is_constant c = record {
  exact = λ net crossings rings are there.
      constant_first net c.args.domains.now crossings rings c.args.self.now are c.args.crossing.now there ((c.is_constant.ensures are.constant_sorted).0 c.if-is_constant.true) c.first_joint.result
      (subst (λ (s : Sides). IsFirstJoint c.args.self.now.joints.items s c.first_joint.result) c.sides_between-sides.ensures (c.first_joint.ensures are.joints_sorted));
}

pub returns-else-is_constant : goal.returns-else-is_constant
returns-else-is_constant c = record {
  exact = λ net crossings rings are there.
      pair_first net c.args.domains.now crossings rings c.args.self.now are c.args.crossing.now there (λ i. other (sym c.if-is_constant.false ∙ (c.is_constant.ensures are.constant_sorted).1 i)) c.first_pair.result
      (subst (λ (s : Sides). IsFirstPair c.args.self.now.held.pairs.items c.args.self.now.sides.items c.args.crossing.now.from s c.first_pair.result) c.sides_between-sides.ensures (c.first_pair.ensures are.pairs_sorted));
}
