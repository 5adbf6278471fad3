-- By the guards that have a test.
use Rattle.std.proofs.Common.{refl}
use Rattle.fifo_scheme.proofs.MetReaders.{tests_over}
use Rattle.fifo_scheme.proofs.judge.sought_of.Goals as goal

pub returns-clause-tests : goal.returns-clause-tests
returns-clause-tests c = λ shown write read pair nodes.
    tests_over c.args.shown.net.now c.args.shown.domains.now write read c.in_ok-tests.tests c.as_slice.result.now c.args.words c.args.roots.now c.args.roots.now c.as_slice.ensures refl (c.in_ok-tests.ensures shown write read pair nodes)
