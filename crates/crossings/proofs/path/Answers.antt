-- Each crossing is one whose end reads its source.
use Rattle.cofactor.proofs.Places.{if_ok}
use Rattle.crossings.proofs.Ends.{crossing-reads}
use Rattle.crossings.proofs.path.Goals as goal

pub returns : goal.returns
returns c = if_ok c.path.result
    (λ path exact is has there.
    let k = crossing-reads c.args.net.now c.args.domains.now is c.args.crossing.now there in
    exact is has (c.in_ok-plain.ensures is.graph) c.in_ok-paths.ensures k.0 k.1)
    c.path.ensures.exact
