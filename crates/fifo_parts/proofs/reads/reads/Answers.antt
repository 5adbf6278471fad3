-- All cells were looked at.
use Rattle.std.proofs.Common.{◌<◌, ◌≤◌, arith, length}
use Rattle.gray_pointer.specs.Words.{IsPlain}
use Rattle.fifo_parts.proofs.ReadCells.{reads_end}
use Rattle.fifo_parts.proofs.reads.reads.Goals as goal

pub returns : goal.returns
returns c = λ domains shown.
    let net = c.args.net.now in
    let plain : IsPlain net.graph = record { well = shown.is_net.graph; shared = shown.is_shared } in
    let l : length net.graph.cells ≤ c.loop-place.place = omega (arith, c.loop-place-test.false, c.cell_count-place-end.ensures) in
    reads_end net domains plain c.loop-place.place l c.loop-place.reads (c.loop-place.invariant domains shown).1

pub loop-place-preserved : goal.loop-place-preserved
loop-place-preserved c = λ domains shown.
    let net = c.args.net.now in
    let lt : c.loop-place.place < length net.graph.cells = omega (arith, c.loop-place-test.true, c.cell_count-place-end.ensures) in
    let so = c.loop-place.invariant domains shown in
    (c.in_ok-add_cell.ensures.counts shown lt so.0, c.in_ok-add_cell.ensures.reads domains shown lt so.0 so.1)
