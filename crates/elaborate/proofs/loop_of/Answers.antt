use Rattle.std.proofs.Common.{◌↔◌, Bool, List, sym, subst}
use Rattle.std.specs.List.{Contains}
use Rattle.driver_loops.specs.Orders.{LeadsBack}
use Rattle.driver_loops.specs.Walks.{IsMarked}
use Rattle.elaborate.proofs.Refusals.{first-back, tells-also}
use Rattle.elaborate.specs.Refusals.{NamesPiece, NamesSignal}
use Rattle.elaborate.proofs.loop_of.Goals as goal

pub returns-in-Some-clause-told : goal.returns-in-Some-clause-told
returns-in-Some-clause-told c =
    let s = c.args.sketch.now in let links = c.args.links.now in let order = c.args.order.now in
    tells-also (NamesSignal c.in-Some.signal.now) (NamesPiece c.args.signals.now s links order)
    (first-back c.args.signals.now s links order c.as_slice.result.now c.in-Some.signal.now c.in-Some.ensures
    (λ roots of v. subst (λ (marks : List Bool). IsMarked marks v ↔ (Contains order v × LeadsBack links v)) (sym c.as_slice.ensures.value) (c.in_ok-on_loops.ensures.exact roots of v)))
    c.combinational_loop.result c.combinational_loop.ensures.told
