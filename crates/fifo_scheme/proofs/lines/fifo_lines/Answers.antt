-- One line more.
use Rattle.std.proofs.Common.{rules, ◌∙◌}
use Rattle.fifo_scheme.proofs.Numbered.{one_line_more}
use Rattle.fifo_scheme.proofs.lines.fifo_lines.Goals as goal

pub loop-fifo-preserved : goal.loop-fifo-preserved
loop-fifo-preserved c = c.loop-fifo.invariant
    ∙ one_line_more c.args.net.now.graph.signals c.args.fifos.now.fifos c.loop-fifo.fifo-index c.loop-fifo.number c.loop-fifo.lines c.push.new.self
    c.fifo-item.result c.in_ok-line_of.field-0 c.in-Some.next (search rules)
    (search rules) c.in_ok-line_of.ensures c.in_ok-push.ensures.pushed c.in-Some.ensures.1
