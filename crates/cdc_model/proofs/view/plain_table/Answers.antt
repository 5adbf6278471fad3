-- A cube without fixings fixes nothing.
use Rattle.std.proofs.Common.{subst}
use Rattle.cofactor.specs.Cubes.{cube_of}
use Rattle.cofactor.specs.declared.cube.Cube.{Cube}
use Rattle.cofactor.proofs.Places.{if_ok}
use Rattle.cdc_model.specs.Tables.{ShowsNet}
use Rattle.cdc_model.proofs.view.plain_table.Goals as goal

pub returns : goal.returns
returns c = if_ok c.open.result
    (λ table shown well. subst (λ fixed. ShowsNet c.args.net.now (cube_of (let cube : Cube = record { fixed = fixed } in cube)) table) c.new.ensures (shown well))
    c.open.ensures.shown
