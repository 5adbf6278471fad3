use Rattle.std.proofs.Common.{◌≡◌, ◌∙◌, ◌+◌, ◌++◌, sym, ap, List, [], ◌∷◌, Bool, drop, get_or, arith}
use Rattle.std.proofs.lemmas.Grind.{common_steps}
use Rattle.std.proofs.lemmas.List.{drop_more}
use Rattle.std.proofs.lemmas.Option.{unwrap_or-slice_get}
use Rattle.cell_graph.specs.declared.cell.Cell.{Cell}
use Rattle.cell_graph.specs.declared.cell.Cell.TheVariants.{Const}
use Rattle.cell_graph.specs.Cells.{in_order}
use Rattle.domains.specs.Cones.{stands_on_pin}
use Rattle.domains.proofs.register.cells_on_pins.Goals as goal

pub loop-place-preserved : goal.loop-place-preserved
loop-place-preserved c =
    let cells = c.args.graph.now.cells in
    let place = c.loop-place.place in
    let cell = c.cell.result in
    let below = c.loop-place.below.items in
    let answer = stands_on_pin c.args.roles.now in
    let here : cell ≡ get_or cells place (Const 1 0) = c.cell.ensures ∙ unwrap_or-slice_get cells place (Const 1 0) in
    let next : drop place cells ≡ cell ∷ drop (place + 1) cells = drop_more cells place (Const 1 0) (omega arith) ∙ ap (λ (d : Cell). d ∷ drop (place + 1) cells) (sym here) in
    let items : c.push.new.self.items ≡ below ++ answer below cell ∷ [] = grind (arith, common_steps) in
    c.loop-place.invariant ∙ ap (in_order answer below) next ∙ ap (λ (bs : List Bool). in_order answer bs (drop (place + 1) cells)) (sym items)
