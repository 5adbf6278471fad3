-- One bit more.
use Rattle.std.proofs.Common.{◌∙◌, ◌≡◌, sym, ap, true}
use Rattle.std.specs.HashSet as set
use Rattle.std.specs.Result.{is_ok}
use Rattle.cdc_base.specs.declared.bit.Bit.{Bit}
use Rattle.fifo_ways.specs.Marked.{same_bit}
use Rattle.fifo_scheme.proofs.Items.{bit_added, when_ok}
use Rattle.fifo_scheme.proofs.judge.add_words.Goals as goal

abbrev none : Bit
none = record { sig = 0; at = 0 }

pub loop-bit-preserved : goal.loop-bit-preserved
loop-bit-preserved c = λ b.
    bit_added c.args.bits.now c.loop-bit.bit-index none (set.contains same_bit c.args.words.now b ≡ true) (set.contains same_bit c.loop-bit.words b) (set.contains same_bit c.insert.new.self b) b c.loop-bit-test.true (c.loop-bit.invariant b)
    ((when_ok c.insert.result (sym c.map_err.ensures.variant ∙ ap is_ok c.in_ok-map_err.was) c.insert.ensures.updates).0 b)
