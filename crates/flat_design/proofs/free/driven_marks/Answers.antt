use Rattle.std.proofs.Common.{◌||◌, List, map, ap, ◌∙◌}
use Rattle.std.specs.Prelude.{is_some, option_map, slice_get}
use Rattle.flat_form.specs.declared.flat.FlatAssign.{FlatAssign}
use Rattle.flat_form.specs.declared.flat.FlatComb.{FlatComb}
use Rattle.flat_form.specs.declared.flat.FlatClocked.{FlatClocked}
use Rattle.flat_form.specs.declared.flat.FlatReset.{FlatReset}
use Rattle.flat_form.specs.View.{reset_of}
use Rattle.flat_names.specs.declared.design.Entry.{Entry}
use Rattle.flat_drivers.specs.Driving.{assigned_in, wires_in, clocked_in}
use Rattle.flat_drivers.specs.Driven.{is_assigned_in}
use Rattle.flat_design.specs.Freeing.{is_assigned_at, mark_if}
use Rattle.flat_design.proofs.FreeSignals.{all-marked}
use Rattle.flat_design.proofs.free.driven_marks.Goals as goal

pub returns : goal.returns
returns c = λ s.
    let d = c.args.design.now in let xs = c.as_slice-2.result.now in let ys = c.as_slice-3.result.now in let zs = c.as_slice-4.result.now in
    let rs = c.as_slice-5.result.now in
    let marks = c.in_ok-marks.marks.items in
    c.mark_driven.ensures s
    ∙ ap (λ b. option_map (mark_if b) (slice_get marks s)) (c.signals.ensures.exact s ∙ c.in_ok-driven.ensures s
    ∙ ap (λ (v : List FlatAssign). is_assigned_in (assigned_in v) (wires_in ys) (map reset_of rs) (clocked_in zs) s) c.as_slice-2.ensures.value
    ∙ ap (λ (v : List FlatComb). is_assigned_in (assigned_in d.assigns.items) (wires_in v) (map reset_of rs)
    (clocked_in zs) s) c.as_slice-3.ensures.value
    ∙ ap (λ (v : List FlatReset). is_assigned_in (assigned_in d.assigns.items) (wires_in d.combs.items) (map reset_of v)
    (clocked_in zs) s) c.as_slice-5.ensures.value
    ∙ ap (λ (v : List FlatClocked). is_assigned_in (assigned_in d.assigns.items) (wires_in d.combs.items) (map reset_of d.resets.items)
    (clocked_in v) s) c.as_slice-4.ensures.value)
    ∙ ap (λ v. option_map (mark_if (is_assigned_at d s)) (slice_get v s)) c.in_ok-marks.ensures
    ∙ all-marked (λ (x : Entry). is_some x.start) (is_assigned_at d) c.as_slice-6.result.now s
    ∙ ap (λ (v : List Entry). option_map (λ (x : Entry). is_some x.start || is_assigned_at d s) (slice_get v s)) c.as_slice-6.ensures.value
