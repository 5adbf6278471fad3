use Rattle.std.proofs.Common.{arith}
use Rattle.fifo_scheme.specs.Candidates.{AreBy, IsAt, OfOne}
use Rattle.fifo_scheme.proofs.Growing.{grows_all, grows_as, grows_more, grows_start}
use Rattle.fifo_scheme.proofs.Led.{at_places}
use Rattle.fifo_scheme.proofs.finder.add_sides.Goals as goal

pub loop-write-init : goal.loop-write-init
loop-write-init c = grows_start c.args.index.now.sides.items (λ m. OfOne (IsAt c.args.index.now.sides.items m) c.sides_of-reads.result.now) c.sides_of-writes.result.now c.args.candidates.now

pub loop-write-preserved : goal.loop-write-preserved
loop-write-preserved c =
    grows_more c.args.index.now.sides.items (λ m. OfOne (IsAt c.args.index.now.sides.items m) c.sides_of-reads.result.now) c.sides_of-writes.result.now c.loop-write.write-index 0
    c.args.candidates.now c.loop-write.candidates c.add_reads.new.candidates (omega arith) c.loop-write.invariant c.in_ok-add_reads.ensures

pub returns : goal.returns
returns c = λ by.
    let i = c.args.index.now in
    let writes = c.sides_of-writes.result.now in
    let reads = c.sides_of-reads.result.now in
    grows_as i.sides.items (OfOne (λ m. OfOne (IsAt i.sides.items m) reads) writes) (AreBy i.sides.items c.args.wb c.args.rb) c.args.candidates.now c.loop-write.candidates
    (at_places i by c.args.wb c.args.rb writes reads c.sides_of-writes.ensures c.sides_of-reads.ensures)
    (grows_all i.sides.items (λ m. OfOne (IsAt i.sides.items m) reads) writes c.loop-write.write-index c.args.candidates.now c.loop-write.candidates (omega arith) c.loop-write.invariant)
