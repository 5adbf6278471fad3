use Rattle.std.proofs.Common.{◌==◌, true, cond, not, ap, ap₂, ◌∙◌}
use Rattle.std.specs.Cmp.Lexicographic.{pointwise}
use Rattle.indexmap.specs.IndexSet.{contains_by}
use Rattle.flat_design.proofs.instance.is_new.Goals as goal
use Rattle.flat_design.proofs.instance.is_new.Goals.{in-Ok, in-Err}

pub returns : goal.returns
returns c = λ before h. elim c.match-insert.branch [
  | in-Ok w ↦
      let copied = c.in_ok-copy.ensures in
      let u = w.in-Ok.ensures.updates in
      rw w.result-is (
        λ x. u.0 x ∙ ap₂ (λ n b. cond (pointwise ◌==◌ n x) true b) copied (h x),
        w.in-Ok.ensures.added ∙ ap not (ap (λ n. contains_by (pointwise ◌==◌ n) c.args.seen.now) copied ∙ h c.args.name.now),
      )
  | in-Err w ↦ rw w.result-is tt
]
