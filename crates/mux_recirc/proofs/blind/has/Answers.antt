-- By where the search ends.
use Rattle.std.proofs.Common.{◌∙◌, sym}
use Rattle.mux_recirc.proofs.Search.{found_bit, ascending_sorted}
use Rattle.mux_recirc.proofs.blind.has.Goals as goal

pub returns : goal.returns
returns c = λ asc.
    let f = found_bit c.args.bits.now c.args.bit c.binary_search.result c.binary_search.ensures.bound c.binary_search.ensures.position (ascending_sorted c.args.bits.now asc) in (
      λ e. f.0 (sym c.is_ok.ensures.value ∙ e),
      λ i. c.is_ok.ensures.value ∙ f.1 i,
    )
