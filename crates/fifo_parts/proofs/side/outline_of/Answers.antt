-- The register has next values, or hasn't.
use Rattle.std.proofs.Common.{◌≡◌, ◌∙◌, sym, ap, arith, None, Some, option_map}
use Rattle.cdc_base.specs.declared.bit.Bit.{Bit}
use Rattle.cell_graph.specs.declared.cell.CellId.{CellId}
use Rattle.cell_graph.specs.declared.cell.Node.{Node}
use Rattle.cdc_model.specs.Nets.{settle_at}
use Rattle.cdc_model.proofs.Found.{net_ascends}
use Rattle.cdc_model.proofs.ReadBits.{cell-of}
use Rattle.fifo_parts.proofs.side.outline_of.Goals as goal

pub returns-in_err-next_node-clause-exact : goal.returns-in_err-next_node-clause-exact
returns-in_err-next_node-clause-exact c = λ net none o is.
    let at = λ (k : CellId). let n : Node = record { cell = k; at = 0 } in n in
    let both : None ≡ Some (at o.next) = sym c.in_err-next_node.was ∙ c.next_node.ensures (net_ascends c.args.net.now net)
    ∙ ap (option_map at) is.next in
    cc

pub returns-in_err-next_node-2-clause-exact : goal.returns-in_err-next_node-2-clause-exact
returns-in_err-next_node-2-clause-exact c = λ net none o is.
    let at = λ (k : CellId). let n : Node = record { cell = k; at = 0 } in n in
    let both : None ≡ Some (at o.gray_next) = sym c.in_err-next_node-2.was ∙ c.next_node-2.ensures (net_ascends c.args.net.now net)
    ∙ ap (option_map at) is.gray_next in
    cc

pub returns-clause-sound : goal.returns-clause-sound
returns-clause-sound c = λ net.
    let up = net_ascends c.args.net.now net in
    let count : Bit = record { sig = c.args.reg.count; at = 0 } in
    let gray : Bit = record { sig = c.args.reg.gray; at = 0 } in
    let low = c.if-width-lt2.false in
    let high = c.if-width-gt-MAX_WIDTH.false in
    let same = c.if-width_of-width.false in
    let clock = sym c.clock_of.ensures ∙ c.in_ok-clock_of.was in
    let settles = c.if-settle_of-ne1.false in record {
      wide = (omega arith, omega arith);
      count_width = sym c.width_of-width.ensures;
      gray_width = sym c.width_of.ensures ∙ same;
      clock = clock;
      settles = sym (ap (settle_at c.args.domains.now) clock) ∙ sym c.settle_of.ensures ∙ settles;
      start = (
        c.starts_at_zero.ensures.0 c.if-not-starts_at_zero.false,
        c.starts_at_zero-else-not-starts_at_zero.ensures.0
            c.if-not-starts_at_zero-2.false,
      );
      next = cell-of c.args.net.now count c.in_ok-next_node.field-0 (sym (c.next_node.ensures up) ∙ c.in_ok-next_node.was);
      gray_next = cell-of c.args.net.now gray c.in_ok-next_node-2.field-0 (sym (c.next_node-2.ensures up) ∙ c.in_ok-next_node-2.was);
    }
