use Rattle.std.proofs.Common.{rules, arith}
use Rattle.fifo_scheme.specs.Candidates.{IsAt}
use Rattle.fifo_scheme.proofs.Growing.{grows_more, grows_all, grows_start}
use Rattle.fifo_scheme.proofs.finder.add_reads.Goals as goal

pub loop-read-preserved : goal.loop-read-preserved
loop-read-preserved c =
    grows_more c.args.index.now.sides.items (IsAt c.args.index.now.sides.items c.args.write) c.args.reads.now c.loop-read.read-index 0 c.args.candidates.now c.loop-read.candidates c.add_pair.new.candidates
    (omega arith) c.loop-read.invariant (search rules)

pub loop-read-init : goal.loop-read-init
loop-read-init c = grows_start c.args.index.now.sides.items (IsAt c.args.index.now.sides.items c.args.write) c.args.reads.now c.args.candidates.now

pub returns : goal.returns
returns c = grows_all c.args.index.now.sides.items (IsAt c.args.index.now.sides.items c.args.write) c.args.reads.now c.loop-read.read-index c.args.candidates.now c.loop-read.candidates (omega arith) c.loop-read.invariant
