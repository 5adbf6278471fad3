use Rattle.std.proofs.Common.{◌∙◌, ◌++◌, ap, append_assoc}
use Rattle.std.specs.Prelude.{codes}
use Rattle.std.specs.Fmt.{decimal}
use Rattle.report.specs.Names.{bit_of, group_of}
use Rattle.report.specs.Findings.{crossing_of, entry_of, ring_number, what_of}
use Rattle.report.proofs.Lines.{two-pieces, three-parts}
use Rattle.report.proofs.finding.add_what.Goals as goal

pub returns-in_ok-add_group-in-V4 : goal.returns-in_ok-add_group-in-V4
returns-in_ok-add_group-in-V4 c =
    three-parts c.add-in-V4-2.result c.args.line.now c.add-in-V4.new.self c.add_group.new.line c.add-in-V4-2.new.self
    (bit_of c.args.net.now.graph.signals c.in-V4.from ++ codes " -> ") (group_of c.args.domains.now.groups c.in-V4.group) (codes ": several first flops") _
    (ap (what_of c.args.net.now c.args.domains.now) c.in-V4.is)
    (c.in_ok-add-in-V4.ensures ∙ ap (λ t. t ++ codes " -> ") c.in_ok-add_bit-in-V4.ensures ∙ append_assoc c.args.line.now _ _)
    c.in_ok-add_group-in-V4.ensures c.add-in-V4-2.ensures

pub returns-in_ok-add_entry-in-V5 : goal.returns-in_ok-add_entry-in-V5
returns-in_ok-add_entry-in-V5 c =
    two-pieces c.add-in-V5.result c.args.line.now c.add_entry-in-V5.new.line c.add-in-V5.new.self
    (entry_of c.args.net.now c.args.domains.now c.in-V5.word c.in-V5.group) (codes ": several clocks") _
    (ap (what_of c.args.net.now c.args.domains.now) c.in-V5.is) c.in_ok-add_entry-in-V5.ensures c.add-in-V5.ensures

pub returns-in_ok-add-in-V6 : goal.returns-in_ok-add-in-V6
returns-in_ok-add-in-V6 c =
    three-parts c.add_group-in-V6.result c.args.line.now c.add_bit-in-V6.new.line c.add-in-V6.new.self c.add_group-in-V6.new.line
    (bit_of c.args.net.now.graph.signals c.in-V6.to) (codes ": arrivals of several families from ") (group_of c.args.domains.now.groups c.in-V6.group) _
    (ap (what_of c.args.net.now c.args.domains.now) c.in-V6.is) c.in_ok-add_bit-in-V6.ensures c.in_ok-add-in-V6.ensures c.add_group-in-V6.ensures

pub returns-in_ok-add_crossing-in-V8 : goal.returns-in_ok-add_crossing-in-V8
returns-in_ok-add_crossing-in-V8 c =
    two-pieces c.add_ring-in-V8.result c.args.line.now c.add_crossing-in-V8.new.line c.add_ring-in-V8.new.line
    (crossing_of c.args.net.now.graph.signals c.in-V8.from c.in-V8.to) (codes ": not gated by ring " ++ decimal (ring_number c.in-V8.ring)) _
    (ap (what_of c.args.net.now c.args.domains.now) c.in-V8.is) c.in_ok-add_crossing-in-V8.ensures c.add_ring-in-V8.ensures
