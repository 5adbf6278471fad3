-- By the table under the two fixed bits.
use Rattle.std.proofs.Common.{◌≡◌, ◌∙◌, ◌↔◌, true, sym, subst, [], ◌∷◌, Contains}
use Rattle.cell_graph.specs.Cofactor.{reads}
use Rattle.cdc_model.specs.Nets.{next_tree}
use Rattle.cdc_model.proofs.Ascending.{here}
use Rattle.mux_recirc.specs.Shown.{equal}
use Rattle.cert_check.proofs.FirstFlops.{any_read, register_within}
use Rattle.cert_check.proofs.loads.reads_at.Goals as goal

pub returns : goal.returns
returns c = λ is has reg.
    let net = c.args.net.now in
    let to = c.args.load.to in
    let from = c.args.load.from in
    let cube = equal c.args.gate.one c.args.gate.next c.args.value in
    c.contains.ensures.value
    ∙ any_read c.as_slice.result.now from (reads cube (next_tree net to.sig) to.at from)
    (subst (λ xs. Contains xs from ↔ (reads cube (next_tree net to.sig) to.at from ≡ true)) (sym c.as_slice.ensures)
    (c.in_ok-reads.ensures.exact cube (to ∷ []) is has (c.in_ok-table.ensures is has) (here to []) (register_within net to reg) from))
