use Rattle.std.proofs.Common.{refl}
use Rattle.cdc_base.specs.declared.bit.Bit.{Bit}
use Rattle.run_report.specs.Lines.{unsettled_line, unsettled_lines}
use Rattle.run_report.proofs.Lines.{line-goes}
use Rattle.run_report.proofs.changes.add_unsettled.Goals as goal

abbrev none : Bit
none = record { sig = 0; at = 0 }

pub loop-bit-preserved : goal.loop-bit-preserved
loop-bit-preserved c =
    line-goes (unsettled_lines c.args.net.now.graph.signals) (unsettled_line c.args.net.now.graph.signals) (λ b bs. refl) c.args.bits.now c.loop-bit.bit-index none c.loop-bit-test.true
    _ c.loop-bit.text c.add_unsettled_bit.new.text c.loop-bit.invariant c.in_ok-add_unsettled_bit.ensures
