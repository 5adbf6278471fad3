use Rattle.std.proofs.Common.{refl}
use Rattle.flat_meaning.specs.Design.{width_in}
use Rattle.flat_form.specs.View.{stmt_of}
use Rattle.flat_form.specs.Masks.{bits_in}
use Rattle.flat_form.specs.Uses.{stmt_reads}
use Rattle.flat_drivers.proofs.Reading.{clocked_read, clocked-step, adds-clock, reads-end}
use Rattle.flat_drivers.proofs.reads.add_clocked_reads.Goals as goal

pub loop-process-preserved : goal.loop-process-preserved
loop-process-preserved c =
    let wid = width_in c.args.signals.now in
    let x = c.process-item.result in
    clocked-step wid (bits_in c.args.reads.now) c.loop-process.reads c.add.new.self c.args.clocked.now c.loop-process.process-index x c.loop-process-test.true c.process-item.is c.loop-process.invariant
    (adds-clock c.loop-process.reads c.add_statement_reads.new.reads c.add.new.self x.clock (stmt_reads wid (stmt_of x.body)) c.in_ok-add_statement_reads.ensures.added c.in_ok-add.ensures.added)

pub returns : goal.returns
returns c =
    let wid = width_in c.args.signals.now in
    let all = c.args.clocked.now in
    reads-end (clocked_read wid) c.args.reads.now c.loop-process.reads (clocked_read wid all) all c.loop-process.process-index c.loop-process-test.false refl c.loop-process.invariant
