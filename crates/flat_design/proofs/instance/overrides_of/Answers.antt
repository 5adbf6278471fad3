use Rattle.std.proofs.Common.{◌≡◌, nat_lt, [], length, map, sym, ap, ap₂, subst, ◌∙◌}
use Rattle.std.specs.Prelude.{filter_map}
use Rattle.std.proofs.lemmas.List.{length-map}
use Rattle.verilog_reading.specs.ExprTree.{tree_of}
use Rattle.verilog_reading.specs.SourceTree.{maybe, ordered, named, conn_of, conns_of, module_of}
use Rattle.flat_unfolding.specs.Outcome.{breaks_if}
use Rattle.flat_unfolding.specs.Instances.{ordered_joints, named_joint, unmet, joint_rules}
use Rattle.flat_unfolding.specs.Formed.{AreConnsFormed}
use Rattle.flat_names.specs.Noting.{all_noted}
use Rattle.flat_design.specs.Visiting.{AreOverridden}
use Rattle.flat_design.proofs.Overrides.{overrides-none, overrides-are}
use Rattle.flat_design.proofs.instance.overrides_of.Goals as goal
use Rattle.flat_design.proofs.instance.overrides_of.Goals.{in-Ordered+in_ok-note_excess-in-Ordered+in_ok-add_ordered-in-Ordered, in-Named+in_ok-known-in-Named+in_ok-note_unmet-in-Named+in_ok-add_named-in-Named}

pub returns : goal.returns
returns c = λ l h is formed word.
    let m = module_of c.args.module.now in
    let f = c.args.faults.now in
    let x = c.args.word.now in
    let none = overrides-none l (record { overrides = c.new.result; leaning = c.new-2.result }) c.new.ensures.empty c.new-2.ensures.items in
    elim c.match-given.branch [
      | in-Ordered+in_ok-note_excess-in-Ordered+in_ok-add_ordered-in-Ordered w ↦
          let names = w.as_slice.result.now in
          let values = map (maybe tree_of) w.as_slice-in-Ordered.result.now in
          let same : conns_of c.args.given.now ≡ ordered values = ap conns_of w.in-Ordered.is ∙ ap (λ es. ordered (map (maybe tree_of) es)) (sym w.as_slice-in-Ordered.ensures) in
          let few : w.len.result ≡ length names = w.len.ensures ∙ sym w.as_slice.ensures.len in
          let many : w.len-in-Ordered.result ≡ length values = w.len-in-Ordered.ensures ∙ ap length (sym w.as_slice-in-Ordered.ensures) ∙ sym (length-map w.as_slice-in-Ordered.result.now (maybe tree_of)) in
          let excess : w.note_excess.new.faults ≡ all_noted f (joint_rules m.name names (ordered values)) =
          w.in_ok-note_excess-in-Ordered.ensures ∙ ap₂ (λ i j. all_noted f (breaks_if (nat_lt i j) 306 x)) few many ∙ ap (λ y. all_noted f (breaks_if (nat_lt (length names) (length values)) 306 y)) word in
          let given = w.in_ok-add_ordered-in-Ordered.ensures l h is (subst AreConnsFormed same formed) none in
          overrides-are l m c.match-given.overridden f w.note_excess.new.faults c.match-given.faults names (conns_of c.args.given.now) (ordered values) (w.as_slice.ensures.value ∙ c.in_ok-names.ensures) same excess
          (subst (AreOverridden l (ordered_joints names values)) (sym w.overridden-is) given.0, w.faults-is ∙ given.1)
      | in-Named+in_ok-known-in-Named+in_ok-note_unmet-in-Named+in_ok-add_named-in-Named w ↦
          let names = w.as_slice-in-Named.result.now in
          let conns = map conn_of w.as_slice-in-Named-3.result.now in
          let same : conns_of c.args.given.now ≡ named conns = ap conns_of w.in-Named.is ∙ ap (λ cs. named (map conn_of cs)) (sym w.as_slice-in-Named-3.ensures) in
          let header = w.in_ok-known-in-Named.ensures in
          let met : w.note_unmet.new.faults ≡ all_noted f (joint_rules m.name names (named conns)) =
          w.in_ok-note_unmet-in-Named.ensures names header ∙ ap (λ cs. all_noted f (unmet x names [] (map conn_of cs))) (w.as_slice-in-Named-2.ensures ∙ sym w.as_slice-in-Named-3.ensures) ∙ ap (λ y. all_noted f (unmet y names [] conns)) word in
          let given = w.in_ok-add_named-in-Named.ensures l names h is header (subst AreConnsFormed same formed) none in
          overrides-are l m c.match-given.overridden f w.note_unmet.new.faults c.match-given.faults names (conns_of c.args.given.now) (named conns) (w.as_slice-in-Named.ensures.value ∙ c.in_ok-names.ensures) same met
          (subst (AreOverridden l (filter_map (named_joint names) conns)) (sym w.overridden-is) given.0, w.faults-is ∙ given.1)
    ]
