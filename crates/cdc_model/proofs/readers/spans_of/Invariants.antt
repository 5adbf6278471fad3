-- The spans so far follow one another, and all widths are theirs and those of the signals to come.
use Rattle.std.proofs.Common.{◌≡◌, ◌++◌, map, drop}
use Rattle.cdc_model.specs.Readers.{state_width, AreLaid}
use Rattle.cdc_model.proofs.readers.spans_of.Given as goal

abbrev pub invariant-loop-signal : goal.invariant-loop-signal
invariant-loop-signal l = record {
  laid : AreLaid 0 l.spans.items l.start;
  widths : map state_width l.signals ≡ map (λ span. span.width) l.spans.items ++ map state_width (drop l.signal-index l.signals);
}
