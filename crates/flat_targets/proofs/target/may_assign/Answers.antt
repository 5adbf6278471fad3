use Rattle.std.proofs.Common.{Some, sym, ap, ◌∙◌}
use Rattle.flat_unfolding.specs.Targets.{is_assignable}
use Rattle.flat_names.specs.declared.scope.Meaning.TheVariants as m
use Rattle.flat_targets.specs.Aims.{use_of}
use Rattle.flat_targets.proofs.Aimed.{meaning-at}
use Rattle.flat_targets.proofs.target.may_assign.Goals as goal

pub returns-in-Some-Signal : goal.returns-in-Some-Signal
returns-in-Some-Signal c = λ l h. let s = c.in-Some-Signal in
    c.is_assignable.ensures l h ∙ ap (is_assignable (use_of c.args.assigned) l.entries) (sym (meaning-at c.args.look.now l h c.args.name.now (Some (m.Signal s.sig)) (sym (s.is ∙ ap Some s.field-0-is) ∙ c.meaning.ensures)))
