-- The table below the next values of these bits shows what the two fixed bits leave known.
use Rattle.std.proofs.Common.{◌∙◌, sym, ap, subst, List, [], ◌∷◌, ◌++◌}
use Rattle.cell_graph.specs.declared.cell.CellId.{CellId}
use Rattle.cell_graph.specs.Below.{AreIn, IsBelow}
use Rattle.cofactor.specs.Cubes.{fixings}
use Rattle.cofactor.specs.declared.cube.Fixed.{Fixed}
use Rattle.cofactor.proofs.Places.{if_ok}
use Rattle.cdc_model.specs.Tables.{ShowsNext}
use Rattle.cdc_model.proofs.Found.{net_ascends}
use Rattle.cdc_model.proofs.Tables.{cells_in, below_next}
use Rattle.cdc_model.proofs.view.pair_table.Goals as goal

pub returns : goal.returns
returns c = if_ok c.open_below.result
    (λ table shown is has.
    let net = c.args.net.now in
    let roots = c.in_ok-roots.ensures (net_ascends net is) in
    let roots_are = c.as_slice.ensures.value ∙ roots in
    let fixed = c.in_ok-push-2.ensures.pushed ∙ ap (λ (fs : List Fixed). fs ++ c.args.another ∷ []) (c.in_ok-push.ensures.pushed ∙ ap (λ (fs : List Fixed). fs ++ c.args.one ∷ []) c.new-fixed.ensures) in
    subst (λ fs. ShowsNext net (fixings fs) table c.args.bits.now) fixed
    (λ x cell id i e b. shown is.graph (subst (AreIn net.graph) (sym roots_are) (cells_in net has c.args.bits.now)) id (subst (λ (cells : List CellId). IsBelow net.graph cells id) (sym roots_are) (below_next net c.args.bits.now x cell id i e b))))
    c.open_below.ensures.shown
