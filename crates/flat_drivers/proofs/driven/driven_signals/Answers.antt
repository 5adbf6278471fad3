use Rattle.std.proofs.Common.{◌||◌, map, ap, ◌∙◌}
use Rattle.flat_form.specs.View.{reset_of}
use Rattle.flat_drivers.specs.Driving.{assigned_in, wires_in, clocked_in}
use Rattle.flat_drivers.specs.Driven.{are_targets_of, are_assigned_by, are_set_by, are_clocked_by}
use Rattle.flat_drivers.proofs.Assigned.{in-order}
use Rattle.flat_drivers.proofs.driven.driven_signals.Goals as goal

pub returns : goal.returns
returns c = λ s.
    let targets = are_targets_of (assigned_in c.args.assigns.now) s in
    let wired = are_assigned_by (wires_in c.args.combs.now) s in
    let set = are_set_by (map reset_of c.args.resets.now) s in
    c.in_ok-add_branches.ensures s ∙ ap (λ b. b || set) (c.in_ok-add_wires.ensures s
    ∙ ap (λ b. b || wired) (c.in_ok-add_targets.ensures s ∙ ap (λ b. b || targets) (c.in_ok-driven.ensures s)))
    ∙ in-order (are_clocked_by (clocked_in c.args.clocked.now) s) targets wired set
