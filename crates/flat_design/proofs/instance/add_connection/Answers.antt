use Rattle.std.proofs.Common.{◌++◌, ◌∷◌, [], sym, ap, subst, ◌∙◌}
use Rattle.flat_form.specs.declared.flat.FlatAssign.{FlatAssign}
use Rattle.flat_unfolding.specs.Instances.{resolving_to}
use Rattle.flat_unfolding.specs.Design.{change_entry}
use Rattle.flat_names.specs.Designs.{ShowsDesign}
use Rattle.flat_targets.proofs.Aimed.{ok-then}
use Rattle.flat_design.specs.Visiting.{IsEnd}
use Rattle.flat_design.proofs.Wired.{drives-port, port-drives}
use Rattle.flat_design.proofs.instance.add_connection.Goals as goal
use Rattle.flat_design.proofs.instance.add_connection.Goals.{in-Input, in-Output}

pub returns : goal.returns
returns c = λ pins names e link named h end few.
    let d = c.match-end.design in
    let v = c.push.new.items in
    let sig = c.args.sig in
    ok-then c.push.result _ _
    (λ u pushed. elim c.match-end.branch [
      | in-Input w ↦
          drives-port pins d v sig e link w.in-Input.value w.in-Input.reset (subst (λ z. IsEnd pins z link) w.in-Input.is end) (λ r k. subst (λ z. ShowsDesign pins z (record e { entries = change_entry (resolving_to r) sig e.entries })) (sym w.design-is) (w.set_reset.ensures pins e r h k))
          (pushed ∙ ap (λ (z : FlatAssign). d.assigns.items ++ z ∷ []) w.assign-is)
      | in-Output w ↦
          port-drives pins d v sig e link w.in-Output.target w.port_value.result (subst (λ z. IsEnd pins z link) w.in-Output.is end) (subst (λ z. ShowsDesign pins z e) (sym w.design-is) h)
          (w.port_value.ensures pins (record { names = names; design = e }) (record { names = named; design = h }) few)
          (pushed ∙ ap (λ (z : FlatAssign). d.assigns.items ++ z ∷ []) w.assign-is)
    ])
    c.push.ensures.pushed
