use Rattle.std.proofs.Common.{◌&&◌, ◌==◌, subst, sym, ap, ◌∙◌}
use Rattle.cell_graph.specs.Tree.{bit_at}
use Rattle.flat_meaning.specs.Flat.{Target, Part}
use Rattle.flat_meaning.specs.Assigned.{reaches}
use Rattle.flat_form.specs.View.{target_of}
use Rattle.flat_form.proofs.Folds.{target_of-Part}
use Rattle.flat_targets.specs.Parts.{width_among, within}
use Rattle.flat_targets.proofs.Shared.{part-mask}
use Rattle.flat_targets.proofs.parts.may_assign.Goals as goal

pub returns-in-Part : goal.returns-in-Part
returns-in-Part c = λ part s i l.
    let wid = width_among c.args.entries.now in
    let x = c.in-Part in
    part-mask wid x.sig x.at x.width c.bits.result c.all_bits.result c.bits.ensures c.all_bits.ensures s i l
    ∙ ap (λ (t : Target). within wid (reaches wid t) s i) (sym (ap target_of x.is ∙ target_of-Part x.sig x.at x.width))
