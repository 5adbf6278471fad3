-- The node fits by the cell, and the cell counts.
use Rattle.std.proofs.Common.{sym, subst, option_map}
use Rattle.cell_graph.specs.Unfolded.{bit_of}
use Rattle.cofactor.proofs.Places.{if_ok}
use Rattle.gray_pointer.specs.Words.{IsIn}
use Rattle.fifo_nodes.specs.Codes.{FitsBy}
use Rattle.fifo_nodes.specs.Terms.{terms_of}
use Rattle.fifo_nodes.proofs.codes.fits_cell.Goals as goal

pub returns : goal.returns
returns c = if_ok c.counts_under.result
    (λ t h plain shown code under inside met low.
    let g = c.args.net.now.graph in
    let by = FitsBy g c.args.code.now.count c.args.code.now.width (terms_of g c.args.under.now) c.args.at (option_map (bit_of g) c.args.node) in
    let is = subst (IsIn g) c.in-Some.is met in
    let fits = c.fits.ensures plain shown is.0 inside low in
    let counts = h plain shown code under is.0 in
    (λ r. subst by (sym c.in-Some.is) (counts.0 r, fits.0 c.if-not-fits.false), λ f. counts.1 (subst by c.in-Some.is f).0))
    c.counts_under.ensures
