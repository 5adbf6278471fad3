use Rattle.std.proofs.Common.{◌≡◌, ◌∙◌, ◌+◌, sym, ap, subst, arith, length, get_or}
use Rattle.std.specs.List.{Contains}
use Rattle.std.proofs.lemmas.Option.{slice_get-get_or}
use Rattle.cell_graph.specs.Nets.{AreSized}
use Rattle.elaborate.proofs.Fits.{words-sized}
use Rattle.elaborate.proofs.NetTrees.{next-known, take-whole}
use Rattle.elaborate.proofs.lowered.Goals as goal

pub new-requires : goal.new-requires
new-requires c = subst AreSized (sym c.in_ok-words.ensures) (words-sized c.args.signals.now)

pub loop-vertex-init : goal.loop-vertex-init
loop-vertex-init c = record {
  signals = c.in_ok-lowering.ensures.signals ∙ c.in_ok-words.ensures;
  counted = c.in_ok-lowering.ensures.counted
      ∙ (let e : c.in-Some.count ≡ length c.args.sketch.now.drafts + length c.args.sketch.now.pieces.items = omega (arith, c.in-Some.ensures, ap length c.as_slice-drafts.ensures, ap length c.as_slice-pieces.ensures.value) in e);
  known = λ f sel can sorted v has. absurd (let l = has.1 in omega arith);
}

pub loop-vertex-preserved : goal.loop-vertex-preserved
loop-vertex-preserved c =
    let inv = c.loop-vertex.invariant in
    let lt = c.loop-vertex-test.true in
    let k = c.loop-vertex.vertex-index in
    let order = c.args.order.now in
    record {
      signals = c.in_ok-meet.ensures.signals ∙ inv.signals;
      counted = c.in_ok-meet.ensures.counted ∙ inv.counted;
      known = λ f sel can sorted v has.
          c.in_ok-meet.ensures.met f sel (record { words = inv.signals ∙ can.words; trees = can.trees; sketch = can.sketch }) inv.counted
          (λ e leads. inv.known f sel can sorted e (sorted k (get_or order k 0) e (slice_get-get_or order k 0 lt) leads)) v
          (next-known order k v _ lt (inv.known f sel can sorted) has);
    }

pub returns-clause-known : goal.returns-clause-known
returns-clause-known c = λ f sel can sorted v has.
    c.loop-vertex.invariant.known f sel can sorted v
    (subst (λ xs. Contains xs v) (sym (take-whole c.args.order.now c.loop-vertex.vertex-index (omega arith))) has)
