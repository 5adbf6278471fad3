use Rattle.std.proofs.Common.{◌≡◌, ◌∙◌, ◌+◌, sym, ap, subst, arith, length, get_or}
use Rattle.std.specs.List.{Contains}
use Rattle.std.proofs.lemmas.Option.{slice_get-get_or}
use Rattle.elaborate.proofs.NetTrees.{next-known, take-whole}
use Rattle.elaborate.proofs.Roots.{roots-counted}
use Rattle.elaborate.proofs.cells_of.Goals as goal

pub loop-vertex-init : goal.loop-vertex-init
loop-vertex-init c = record {
  counted = c.in_ok-counts.ensures
      ∙ (let e : c.in-Some.count ≡ length c.args.sketch.now.drafts + length c.args.sketch.now.pieces.items = omega (arith, c.in-Some.ensures, ap length c.as_slice-drafts.ensures, ap length c.as_slice-pieces.ensures.value) in e);
  known = λ f sel can sorted v has. absurd (let l = has.1 in omega arith);
}

pub loop-vertex-preserved : goal.loop-vertex-preserved
loop-vertex-preserved c =
    let inv = c.loop-vertex.invariant in
    let lt = c.loop-vertex-test.true in
    let k = c.loop-vertex.vertex-index in
    let order = c.args.order.now in
    record {
      counted = c.meet.ensures.counted ∙ inv.counted;
      known = λ f sel can sorted v has.
          c.meet.ensures.met f sel can inv.counted
          (λ e leads. inv.known f sel can sorted e (sorted k (get_or order k 0) e (slice_get-get_or order k 0 lt) leads)) v
          (next-known order k v _ lt (inv.known f sel can sorted) has);
    }

pub returns : goal.returns
returns c = λ f sel can sorted roots.
    let ds = c.args.sketch.now.drafts in let ps = c.args.sketch.now.pieces.items in
    let all = take-whole c.args.order.now c.loop-vertex.vertex-index (omega (arith, c.loop-vertex-test.false)) in
    c.sum.ensures ∙ roots-counted sel ds ps c.loop-vertex.counts.cells.items c.args.roots.now
    (λ v has. (c.loop-vertex.invariant.known f sel can sorted v (subst (λ xs. Contains xs v) (sym all) (roots v has).0), (roots v has).1))
