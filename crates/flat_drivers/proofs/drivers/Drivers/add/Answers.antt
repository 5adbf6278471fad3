use Rattle.std.proofs.Common.{bit_and}
use Rattle.std.proofs.lemmas.Result.{IfOk-weaker}
use Rattle.cell_graph.proofs.Words.{bit_and-bit}
use Rattle.flat_drivers.proofs.Counted.{one-more, once-more}
use Rattle.flat_drivers.proofs.drivers.Drivers.add.Goals as goal

pub returns : goal.returns
returns c = λ wid.
    let old = c.args.self.now in
    let again = bit_and c.of.result c.args.mask in
    IfOk-weaker c.add.result _ _ (λ _ h. one-more wid old c.add.new.self c.add_some.new.masks c.args.sig c.args.mask again
    (once-more old c.args.sig c.args.mask c.of.result again (λ i. bit_and-bit c.of.result c.args.mask i) c.of.ensures.bits) c.in_ok-add_some.ensures h) c.add.ensures.added
