use Rattle.std.proofs.Common.{◌∙◌, sym, ap, subst, [], ◌∷◌, length}
use Rattle.std.proofs.lemmas.List.{length_push}
use Rattle.std.proofs.lemmas.Result.{on_ok_weaker}
use Rattle.driver_loops.specs.Links.{rows, extended, AreStarts}
use Rattle.driver_loops.proofs.Members.{on_either}
use Rattle.driver_loops.proofs.Rows.{starts-add, rows-add}
use Rattle.driver_loops.proofs.links.Links.add.Goals as goal

pub invariant_of-self : goal.invariant_of-self
invariant_of-self c =
    let ss = c.self.inside.starts.items in
    let es = c.self.inside.ends.items in
    on_either c.grow.result
    (λ e. subst (AreStarts ss) (sym (ap length e ∙ length_push es c.args.end)) (starts-add ss (length es) c.self.invariant))
    (λ e. subst (AreStarts ss) (sym (ap length e)) c.self.invariant)
    c.grow.ensures.grown c.grow.ensures.unchanged

pub returns : goal.returns
returns c =
    let ss = c.self.inside.starts.items in
    on_ok_weaker c.grow.result
    (λ e. ap (rows ss) e ∙ rows-add ss c.self.inside.ends.items c.args.end c.self.invariant ∙ ap (λ rs. extended rs (c.args.end ∷ [])) c.self.view_is)
    c.grow.ensures.grown
