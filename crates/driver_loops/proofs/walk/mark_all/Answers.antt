-- Each vertex is marked.
use Rattle.std.proofs.Common.{◌∙◌, ◌⊎◌, ◌↔◌, ◌<◌, sym, ap, subst, refl, ℕ, ◌+◌, true, length, get_or}
use Rattle.std.specs.List.{Contains}
use Rattle.std.proofs.lemmas.List.{take_all, length-set}
use Rattle.driver_loops.specs.Walks.{IsMarked}
use Rattle.driver_loops.proofs.Members.{AreMarkedUpTo, none_more_marked, one_more_marked}
use Rattle.driver_loops.proofs.walk.mark_all.Goals as goal

pub loop-vertex-init : goal.loop-vertex-init
loop-vertex-init c = record { size = refl; exact = none_more_marked c.args.marks.now.items c.args.vertices.now }

pub loop-vertex-preserved : goal.loop-vertex-preserved
loop-vertex-preserved c =
    let is = c.loop-vertex.invariant in
    let x = get_or c.args.vertices.now c.loop-vertex.vertex-index 0 in
    record {
      size = ap length c.mark.ensures ∙ length-set c.loop-vertex.marks.items x true ∙ is.size;
      exact = subst (AreMarkedUpTo c.args.marks.now.items c.args.vertices.now (c.loop-vertex.vertex-index + 1)) (sym c.mark.ensures)
          (one_more_marked c.args.marks.now.items c.args.vertices.now c.loop-vertex.vertex-index c.loop-vertex.marks.items c.loop-vertex-test.true is.size is.exact);
    }

pub returns-clause-exact : goal.returns-clause-exact
returns-clause-exact c =
    subst (λ vs. (v : ℕ) → IsMarked c.loop-vertex.marks.items v ↔ (IsMarked c.args.marks.now.items v ⊎ (Contains vs v × (v < length c.args.marks.now.items))))
    (take_all c.loop-vertex.vertex-index c.args.vertices.now c.loop-vertex-test.false) c.loop-vertex.invariant.exact
