use Rattle.std.proofs.Common.{◌≡◌, nat_lt, [], length, map, sym, ap, ap₂, subst, ◌∙◌}
use Rattle.std.specs.Prelude.{filter_map}
use Rattle.std.proofs.lemmas.List.{length-map}
use Rattle.verilog_reading.specs.ExprTree.{tree_of}
use Rattle.verilog_reading.specs.SourceTree.{maybe, ordered, named, conn_of, conns_of, port_of, module_of}
use Rattle.flat_unfolding.specs.Outcome.{breaks_if}
use Rattle.flat_unfolding.specs.Declarations.{header_of}
use Rattle.flat_unfolding.specs.Instances.{ordered_joints, named_joint, unmet, joint_rules}
use Rattle.flat_unfolding.specs.Formed.{AreConnsFormed}
use Rattle.flat_names.specs.Noting.{all_noted}
use Rattle.flat_design.specs.Visiting.{AreLinked}
use Rattle.flat_design.proofs.Links.{linked-start, connections-are}
use Rattle.flat_design.proofs.Places.{header-count}
use Rattle.flat_design.proofs.instance.connections_of.Goals as goal
use Rattle.flat_design.proofs.instance.connections_of.Goals.{in-Ordered+in_ok-note_excess-in-Ordered+in_ok-connect_ordered-in-Ordered, in-Named+in_ok-note_unknown_ports-in-Named+in_ok-connect_named-in-Named}

pub returns : goal.returns
returns c = λ pins l h resets is formed word shown.
    let m = module_of c.args.module.now in
    let ports = c.args.ports.now in
    let f = c.args.faults.now in
    let x = c.args.word.now in
    let g = c.match-given.faults in
    let cs = c.match-given.connected in
    let none = linked-start pins l m ports (record { connections = c.new.result; leaning = c.new-2.result }) c.new.ensures.items c.new-2.ensures.items in
    elim c.match-given.branch [
      | in-Ordered+in_ok-note_excess-in-Ordered+in_ok-connect_ordered-in-Ordered w ↦
          let header = w.as_slice-header.result.now in
          let values = map (maybe tree_of) w.as_slice.result.now in
          let js = ordered_joints (header_of m) values in
          let same : conns_of c.args.given.now ≡ ordered values = ap conns_of w.in-Ordered.is ∙ ap (λ es. ordered (map (maybe tree_of) es)) (sym w.as_slice.ensures) in
          let all : m.ports ≡ map port_of header = ap (map port_of) (sym w.as_slice-header.ensures) in
          let many : w.len.result ≡ length values = w.len.ensures ∙ ap length (sym w.as_slice.ensures) ∙ sym (length-map w.as_slice.result.now (maybe tree_of)) in
          let excess : w.note_excess.new.faults ≡ all_noted f (joint_rules m.name (header_of m) (ordered values)) =
          w.in_ok-note_excess-in-Ordered.ensures ∙ ap₂ (λ i j. all_noted f (breaks_if (nat_lt i j) 306 x)) (header-count m header all) many
          ∙ ap (λ y. all_noted f (breaks_if (nat_lt (length (header_of m)) (length values)) 306 y)) word in
          let linked = w.in_ok-connect_ordered-in-Ordered.ensures pins l m h resets is shown all (subst AreConnsFormed same formed) none in
          let here = subst (AreLinked pins l m ports js) (sym w.connected-is) linked.0 in
          connections-are pins l m ports cs f w.note_excess.new.faults g (conns_of c.args.given.now) (ordered values) same excess (here, w.faults-is ∙ linked.1)
      | in-Named+in_ok-note_unknown_ports-in-Named+in_ok-connect_named-in-Named w ↦
          let conns = map conn_of w.as_slice-in-Named-2.result.now in
          let js = filter_map (named_joint (header_of m)) conns in
          let same : conns_of c.args.given.now ≡ named conns = ap conns_of w.in-Named.is ∙ ap (λ ks. named (map conn_of ks)) (sym w.as_slice-in-Named-2.ensures) in
          let met : w.note_unknown_ports.new.faults ≡ all_noted f (joint_rules m.name (header_of m) (named conns)) =
          w.in_ok-note_unknown_ports-in-Named.ensures m shown ∙ ap (λ ks. all_noted f (unmet x (header_of m) [] (map conn_of ks))) (w.as_slice-in-Named.ensures ∙ sym w.as_slice-in-Named-2.ensures)
          ∙ ap (λ y. all_noted f (unmet y (header_of m) [] conns)) word in
          let linked = w.in_ok-connect_named-in-Named.ensures pins l m h resets is shown (subst AreConnsFormed same formed) none in
          let here = subst (AreLinked pins l m ports js) (sym w.connected-is) linked.0 in
          connections-are pins l m ports cs f w.note_unknown_ports.new.faults g (conns_of c.args.given.now) (named conns) same met (here, w.faults-is ∙ linked.1)
    ]
