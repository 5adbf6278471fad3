use Rattle.std.proofs.Common.{arith, inl, inr, sym, subst}
use Rattle.std.specs.List.{Contains}
use Rattle.cell_graph.specs.declared.cell.CellId.{CellId}
use Rattle.std.proofs.lemmas.List.Elements.{Contains-get_or}
use Rattle.cell_graph.proofs.Cones.{take_all, take_cases}
use Rattle.cell_graph.proofs.cone.Cone.of_roots.Goals as goal

pub loop-root-preserved : goal.loop-root-preserved
loop-root-preserved c =
    let none : CellId = record { 0 = 0 } in
    let lt = c.loop-root-test.true in
    record {
      there = λ x h. elim (take_cases c.args.roots.now c.loop-root.root-index none x lt h) [
        | inl k ↦ c.in_ok-meet.ensures.kept x (c.loop-root.invariant.there x k)
        | inr e ↦ subst (λ y. Contains c.meet.new.self y) e c.in_ok-meet.ensures.there
      ];
      only = λ x h. elim (c.in_ok-meet.ensures.only x h) [
        | inl k ↦ c.loop-root.invariant.only x k
        | inr e ↦ subst (λ y. Contains c.args.roots.now y) (sym e) (Contains-get_or c.args.roots.now c.loop-root.root-index none lt)
      ];
    }

pub returns-clause-there : goal.returns-clause-there
returns-clause-there c = λ x h. c.loop-root.invariant.there x (subst (λ ys. Contains ys x) (sym (take_all c.args.roots.now c.loop-root.root-index (omega arith))) h)
