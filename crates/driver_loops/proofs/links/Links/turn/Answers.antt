-- A link more is added, unless its end is no vertex.
use Rattle.std.proofs.Common.{◌≡◌, ◌+◌, [], ◌∷◌, ◌++◌, sym, subst, get_or}
use Rattle.driver_loops.proofs.Turned.{AreTurned, one_passed, one_turned, all_turned}
use Rattle.driver_loops.proofs.links.Links.turn.Goals as goal
use Rattle.driver_loops.proofs.links.Links.turn.Goals.{then-end-count+in_ok-grow, else-end-count}

pub loop-end-preserved : goal.loop-end-preserved
loop-end-preserved c =
    let ends = c.from-end-items.result.now in
    let n = c.len-count.result in
    let i = c.loop-end.end-index in
    let old = c.args.turned.now.items in
    let now = c.loop-end.turned.items in
    elim c.if-end-count.branch [
      | then-end-count+in_ok-grow w ↦
          let e : c.if-end-count.turned.items ≡ now ++ (get_or ends i 0, c.args.vertex) ∷ [] = cc (w.turned-is, w.in_ok-grow.ensures.grown) in
          subst (AreTurned ends n c.args.vertex old (i + 1)) (sym e) (one_turned ends n c.args.vertex old i c.loop-end-test.true now c.loop-end.invariant w.if-end-count.true)
      | else-end-count w ↦
          let e : c.if-end-count.turned.items ≡ now = cc (w.turned-is) in
          subst (AreTurned ends n c.args.vertex old (i + 1)) (sym e) (one_passed ends n c.args.vertex old i c.loop-end-test.true now c.loop-end.invariant w.if-end-count.false)
    ]

pub returns : goal.returns
returns c =
    all_turned c.args.self.now c.args.vertex c.args.turned.now.items c.loop-end.turned.items c.from-end-items.result.now c.len-count.result c.loop-end.end-index
    c.from-end-items.ensures c.len-count.ensures c.loop-end-test.false c.loop-end.invariant
