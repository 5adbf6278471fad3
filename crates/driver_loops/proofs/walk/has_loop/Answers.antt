-- A vertex that leads past those before it is found, or there is none.
use Rattle.std.proofs.Common.{◌∙◌, sym, ap, subst, refl, ◌+◌, get_or, arith}
use Rattle.std.specs.List.{list_any}
use Rattle.std.proofs.lemmas.Option.{slice_get-get_or, slice_get_within}
use Rattle.driver_loops.specs.Links.{ends_of}
use Rattle.driver_loops.specs.Walks.{is_unmarked}
use Rattle.driver_loops.proofs.Loops.{AreDone, past_found, more_done, loop_found, no_loop}
use Rattle.driver_loops.proofs.walk.has_loop.Goals as goal

pub returns-then-leads_past-clause-before : goal.returns-then-leads_past-clause-before
returns-then-leads_past-clause-before c =
    let is = c.loop-vertex.invariant in
    let i = c.loop-vertex.vertex-index in
    let v = get_or c.args.order.now i 0 in
    let at = slice_get-get_or c.args.order.now i 0 c.loop-vertex-test.true in
    let p = past_found c.args.links.now c.args.order.now i v c.loop-vertex.done.items is (ap (λ marks. list_any (is_unmarked marks) (ends_of c.args.links.now v)) (sym c.as_slice.ensures.value) ∙ sym c.leads_past.ensures ∙ c.if-leads_past.true) in
    (λ e. absurd (cc), λ before. absurd (p.past (before i v p.end at p.link)))

pub returns-then-leads_past-clause-loops : goal.returns-then-leads_past-clause-loops
returns-then-leads_past-clause-loops c = λ once depth.
    let is = c.loop-vertex.invariant in
    let i = c.loop-vertex.vertex-index in
    let v = get_or c.args.order.now i 0 in
    let at = slice_get-get_or c.args.order.now i 0 c.loop-vertex-test.true in
    let p = past_found c.args.links.now c.args.order.now i v c.loop-vertex.done.items is (ap (λ marks. list_any (is_unmarked marks) (ends_of c.args.links.now v)) (sym c.as_slice.ensures.value) ∙ sym c.leads_past.ensures ∙ c.if-leads_past.true) in
    loop_found c.args.links.now c.args.order.now i v p.end depth at p.link p.past

pub loop-vertex-preserved : goal.loop-vertex-preserved
loop-vertex-preserved c =
    let is = c.loop-vertex.invariant in
    let i = c.loop-vertex.vertex-index in
    let v = get_or c.args.order.now i 0 in
    let at = slice_get-get_or c.args.order.now i 0 c.loop-vertex-test.true in
    subst (AreDone c.args.links.now c.args.order.now (i + 1)) (sym c.mark.ensures)
    (more_done c.args.links.now c.args.order.now i v c.loop-vertex.done.items is at (ap (λ marks. list_any (is_unmarked marks) (ends_of c.args.links.now v)) (sym c.as_slice.ensures.value) ∙ sym c.leads_past.ensures ∙ c.if-leads_past.false))

pub returns-clause-before : goal.returns-clause-before
returns-clause-before c = (λ e i v w at l. c.loop-vertex.invariant.before i v w (let lt = slice_get_within c.args.order.now i v at in omega arith) at l, λ before. refl)

pub returns-clause-loops : goal.returns-clause-loops
returns-clause-loops c = λ once depth. no_loop c.args.links.now c.args.order.now (λ i v w at l. c.loop-vertex.invariant.before i v w (let lt = slice_get_within c.args.order.now i v at in omega arith) at l) once
