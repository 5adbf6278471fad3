use Rattle.std.proofs.Common.{sym, ap, ◌∙◌}
use Rattle.flat_form.specs.View.{target_of}
use Rattle.flat_unfolding.specs.Outcome.{breaks}
use Rattle.flat_names.specs.Noting.{all_noted}
use Rattle.flat_targets.proofs.Aimed.{ok-then}
use Rattle.flat_process.proofs.Wires.{own-is, picked-some}
use Rattle.flat_process.proofs.assign.note_variable_index.Goals as goal

pub returns-in-Some : goal.returns-in-Some
returns-in-Some c = λ l h.
    let f = c.args.faults.now in
    ok-then c.note.result _ _
    (λ x e. e ∙ ap (λ y. all_noted f (breaks 313 y)) (c.own_name.ensures ∙ own-is c.args.look.now l h c.in-Some.sig)
    ∙ ap (all_noted f) (sym (picked-some l (target_of c.args.fixed.now.target) c.in-Some.sig c.in-Some.ensures)))
    c.note.ensures
