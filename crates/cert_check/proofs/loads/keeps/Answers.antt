-- By the table under the two fixed bits.
use Rattle.std.proofs.Common.{[], ◌∷◌}
use Rattle.cdc_model.proofs.Ascending.{here}
use Rattle.mux_recirc.specs.Shown.{differing}
use Rattle.cert_check.proofs.FirstFlops.{register_within}
use Rattle.cert_check.proofs.loads.keeps.Goals as goal

pub returns : goal.returns
returns c = λ is has reg.
    c.keeps_value.ensures (differing c.args.ends.request c.args.ends.last c.args.value) (c.args.bit ∷ []) is has (c.in_ok-table.ensures is has) (here c.args.bit [])
    (register_within c.args.net.now c.args.bit reg)
