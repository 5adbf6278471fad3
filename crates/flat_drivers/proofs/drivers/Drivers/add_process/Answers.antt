use Rattle.std.proofs.lemmas.Result.{IfOk-weaker}
use Rattle.flat_meaning.specs.Design.{width_in}
use Rattle.flat_drivers.proofs.Counted.{one-process}
use Rattle.flat_drivers.proofs.drivers.Drivers.add_process.Goals as goal

pub returns : goal.returns
returns c =
    let wid = width_in c.args.signals.now in
    let again = c.taken_bits-again.result in
    IfOk-weaker c.add.result _ _ (λ _ h. one-process wid c.args.self.now c.add_some.new.masks c.add.new.self c.args.sig again (record { bits = c.taken_bits-again.ensures }) c.in_ok-add_some.ensures h) c.add.ensures.added
