use Rattle.cofactor.specs.Cubes.{cube_of}
use Rattle.cofactor.proofs.Places.{if_ok, root-within}
use Rattle.cofactor.proofs.nodes.reads.Goals as goal

pub returns-clause-exact : goal.returns-clause-exact
returns-clause-exact c = if_ok c.reads.result (λ bits exact well is.
    exact (cube_of c.args.cube.now) well is (λ id below. c.in_ok-table.ensures.shown well (root-within c.args.net.now.graph c.args.node.cell is.0) id below)) c.reads.ensures.exact
