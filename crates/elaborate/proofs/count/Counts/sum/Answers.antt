use Rattle.std.proofs.Common.{◌≡◌, ◌∙◌, ◌+◌, refl, sym, ap, arith, drop, get_or, length}
use Rattle.std.proofs.lemmas.List.{drop_more}
use Rattle.elaborate.specs.Counts.{added, capped}
use Rattle.elaborate.proofs.Counts.{one-added}
use Rattle.elaborate.proofs.NetTrees.{drop-whole}
use Rattle.elaborate.proofs.count.Counts.sum.Goals as goal

pub loop-vertex-preserved : goal.loop-vertex-preserved
loop-vertex-preserved c =
    let counts = c.args.self.now.cells.items in let vs = c.args.vertices.now in let k = c.loop-vertex.vertex-index in
    let v = get_or vs k 0 in
    let inv = c.loop-vertex.invariant in
    let sum : capped (c.loop-vertex.cells + added counts (drop k vs)) ≡ capped (c.loop-vertex.cells + (c.at.result + added counts (drop (k + 1) vs))) =
    ap (λ xs. capped (c.loop-vertex.cells + added counts xs)) (drop_more vs k 0 c.loop-vertex-test.true) ∙ ap (λ n. capped (c.loop-vertex.cells + (n + added counts (drop (k + 1) vs)))) (sym c.at.ensures.exact) in
    record {
      small = omega (arith, c.saturating_add-cells.ensures);
      summed = one-added c.loop-vertex.cells c.saturating_add-cells.result c.at.result (added counts (drop (k + 1) vs)) (capped (added counts vs)) (omega (arith, c.saturating_add-cells.ensures)) (sym sum ∙ inv.summed);
    }

pub returns : goal.returns
returns c =
    let counts = c.args.self.now.cells.items in let vs = c.args.vertices.now in let k = c.loop-vertex.vertex-index in
    let inv = c.loop-vertex.invariant in
    let none : added counts (drop k vs) ≡ 0 = ap (added counts) (drop-whole vs k (omega (arith, c.loop-vertex-test.false))) in
    let whole : c.loop-vertex.cells ≡ capped (c.loop-vertex.cells + added counts (drop k vs)) = omega (arith, inv.small, none) in
    whole ∙ inv.summed
