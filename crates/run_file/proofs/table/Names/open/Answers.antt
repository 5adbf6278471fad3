use Rattle.std.proofs.Common.{◌≡◌, ◌∙◌, ◌≤◌, ◌^◌, List, length, ap, subst}
use Rattle.cdc_base.specs.declared.signal.Signal.{Signal}
use Rattle.clock_constraints.specs.declared.ClockPin.{ClockPin}
use Rattle.clock_constraints.specs.Refusals.{Text}
use Rattle.domains.specs.Tables.{found_in, named, first_signal, first_clock}
use Rattle.run_file.proofs.Tables.{bits-are}
use Rattle.run_file.proofs.table.Names.open.Goals as goal

pub returns : goal.returns
returns c = λ can are. record {
  statics = can.statics;
  signals = subst (λ (ss : List Signal). length ss ≤ 2 ^ 32 → (q : Text) → found_in c.in_ok-signal_table.field-0 q ≡ first_signal ss q) c.signals.ensures c.in_ok-signal_table.ensures can.signals;
  clocks = subst (λ (cs : List ClockPin). length cs ≤ 2 ^ 32 → (q : Text) → found_in c.in_ok-clock_table.field-0 q ≡ first_clock cs q) c.as_slice.ensures c.in_ok-clock_table.ensures can.clocks;
  bits = λ q. c.in_ok-bit_table.ensures q ∙ ap (λ ps. named ps q) are ∙ bits-are c.args.net.now.graph.signals q;
}
