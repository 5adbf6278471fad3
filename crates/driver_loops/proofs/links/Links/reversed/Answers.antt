-- All links of the vertices are collected, sorted and joined.
use Rattle.std.proofs.Common.{◌∙◌, ◌↔◌, ◌<◌, sym, subst, rules, ℕ}
use Rattle.std.specs.Cmp.Rules.{comparing}
use Rattle.std.specs.List.{All, Contains}
use Rattle.std.specs.List.Sorted.{IsNonDecreasingBy}
use Rattle.std.proofs.lemmas.List.Sorted.{IsNonDecreasingBy-from_sort_by_key}
use Rattle.std.proofs.lemmas.Result.{IfOk-weaker}
use Rattle.driver_loops.specs.Links.{ends_of, IsReversed}
use Rattle.driver_loops.proofs.Turned.{one_vertex_more, all_below, reversed_all}
use Rattle.driver_loops.proofs.links.Links.reversed.Goals as goal

pub loop-vertex-preserved : goal.loop-vertex-preserved
loop-vertex-preserved c = one_vertex_more c.args.self.now c.args.vertices.now c.loop-vertex.vertex-index c.loop-vertex-test.true c.loop-vertex.turned.items c.turn.new.turned.items c.loop-vertex.invariant c.in_ok-turn.ensures

pub returns : goal.returns
returns c =
    let ls = c.args.self.now in
    let vs = c.args.vertices.now in
    let sorted = c.sort_unstable_by_key.new.self.items in
    let same = c.sort_unstable_by_key.ensures.permutation in
    let rise : IsNonDecreasingBy (λ (p : ℕ × ℕ). p.0) sorted =
    IsNonDecreasingBy-from_sort_by_key (λ (p : ℕ × ℕ). p.0) sorted c.sort_unstable_by_key.ensures.sorted (λ a r f k. search (comparing, rules)) in
    let below : All (λ (p : ℕ × ℕ). p.0 < c.len.result) sorted =
    subst (λ n. All (λ (p : ℕ × ℕ). p.0 < n) sorted) (sym c.len.ensures) (all_below ls vs c.loop-vertex.vertex-index c.loop-vertex.turned.items sorted same c.loop-vertex.invariant) in
    IfOk-weaker c.joined.result _ (IsReversed ls vs)
    (λ back h.
    let is = h (subst (IsNonDecreasingBy (λ (p : ℕ × ℕ). p.0)) (sym c.as_slice.ensures.value) rise) (subst (All (λ (p : ℕ × ℕ). p.0 < c.len.result)) (sym c.as_slice.ensures.value) below) in
    record {
      size = is.0 ∙ c.len.ensures;
      turned = reversed_all ls vs c.loop-vertex.vertex-index c.loop-vertex.turned.items sorted back c.loop-vertex-test.false same c.loop-vertex.invariant
          (subst (λ ps. (w v : ℕ) → Contains (ends_of back w) v ↔ Contains ps (w, v)) c.as_slice.ensures.value is.1);
    })
    c.joined.ensures
