use Rattle.flat_unfolding.specs.Design.{look_of}
use Rattle.flat_design.proofs.Joined.{stage-looks}
use Rattle.flat_design.proofs.Wired.{port-reads}
use Rattle.flat_design.proofs.instance.port_value.Goals as goal

pub returns : goal.returns
returns c = λ pins s shows few.
    let look = c.look-look.result in
    let looks = stage-looks pins c.args.inner.now c.args.design.now s shows look c.look-look.ensures.entries c.look-look.ensures.names c.look-look.ensures.active in
    port-reads look (look_of s) looks c.look-look.ensures.active c.args.sig c.width.result c.read.result few c.width.ensures c.read.ensures
