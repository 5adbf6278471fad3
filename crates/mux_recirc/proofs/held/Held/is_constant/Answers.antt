-- By where the search ends.
use Rattle.std.proofs.Common.{◌∙◌, sym, subst, Contains}
use Rattle.std.specs.List.Sorted.{IsSorted}
use Rattle.cdc_base.specs.contracts.bit.BitOrd.TheImpl as bit_order
use Rattle.mux_recirc.proofs.Search.{found_bit}
use Rattle.mux_recirc.proofs.held.Held.is_constant.Goals as goal

pub returns : goal.returns
returns c = λ sorted.
    let f = found_bit c.deref.result.now c.args.bit c.binary_search.result c.binary_search.ensures.bound c.binary_search.ensures.position
    (subst (IsSorted bit_order.ghosts.cmp) (sym c.deref.ensures.value) sorted) in (
      λ e. subst (λ bs. Contains bs c.args.bit) c.deref.ensures.value (f.0 (sym c.is_ok.ensures.value ∙ e)),
      λ i. c.is_ok.ensures.value ∙ f.1 (subst (λ bs. Contains bs c.args.bit) (sym c.deref.ensures.value) i),
    )
