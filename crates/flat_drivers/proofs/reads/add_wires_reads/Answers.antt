use Rattle.std.proofs.Common.{List, refl}
use Rattle.flat_meaning.specs.Design.{width_in}
use Rattle.flat_form.specs.declared.flat.FlatComb.{FlatComb}
use Rattle.flat_form.specs.View.{stmt_of}
use Rattle.flat_form.specs.Masks.{bits_in}
use Rattle.flat_form.specs.Uses.{stmt_reads}
use Rattle.flat_form.proofs.ExprUses.{list-step}
use Rattle.flat_drivers.proofs.Reading.{reads-end}
use Rattle.flat_drivers.specs.Driving.{wires_in, bodies_read}
use Rattle.flat_drivers.proofs.reads.add_wires_reads.Goals as goal

pub loop-process-preserved : goal.loop-process-preserved
loop-process-preserved c =
    let wid = width_in c.args.signals.now in
    let rs = λ (xs : List FlatComb). bodies_read wid (wires_in xs) in
    let all = c.args.combs.now in
    list-step rs (λ (p : FlatComb). stmt_reads wid (stmt_of p.body)) (bits_in c.args.reads.now) c.loop-process.reads c.add_statement_reads.new.reads (rs all) all c.loop-process.process-index c.process-item.result
    c.loop-process-test.true c.process-item.is refl c.loop-process.invariant c.in_ok-add_statement_reads.ensures.added

pub returns : goal.returns
returns c =
    let wid = width_in c.args.signals.now in
    let rs = λ (xs : List FlatComb). bodies_read wid (wires_in xs) in
    let all = c.args.combs.now in
    reads-end rs c.args.reads.now c.loop-process.reads (rs all) all c.loop-process.process-index c.loop-process-test.false refl c.loop-process.invariant
