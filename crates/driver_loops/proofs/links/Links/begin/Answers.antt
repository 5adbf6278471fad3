use Rattle.std.proofs.Common.{◌≡◌, ◌∙◌, sym, ap, subst, rules, [], ◌∷◌, ◌++◌, length}
use Rattle.std.proofs.lemmas.Result.{on_ok_weaker}
use Rattle.driver_loops.specs.Links.{rows, AreStarts}
use Rattle.driver_loops.proofs.Members.{on_either}
use Rattle.driver_loops.proofs.Rows.{starts-begin, rows-begin}
use Rattle.driver_loops.proofs.links.Links.begin.Goals as goal

pub invariant_of-self : goal.invariant_of-self
invariant_of-self c =
    let ss = c.self.inside.starts.items in
    let n = length c.self.inside.ends.items in
    let l : c.len.result ≡ n = search rules in
    on_either c.grow.result
    (λ e. subst (λ starts. AreStarts starts n) (sym (e ∙ ap (λ k. ss ++ k ∷ []) l)) (starts-begin ss n c.self.invariant))
    (λ e. subst (λ starts. AreStarts starts n) (sym e) c.self.invariant)
    c.grow.ensures.grown c.grow.ensures.unchanged

pub returns : goal.returns
returns c =
    let ss = c.self.inside.starts.items in
    let es = c.self.inside.ends.items in
    let l : c.len.result ≡ length es = search rules in
    on_ok_weaker c.grow.result
    (λ e. ap (λ starts. rows starts es) (e ∙ ap (λ k. ss ++ k ∷ []) l) ∙ rows-begin ss es ∙ ap (λ rs. rs ++ [] ∷ []) c.self.view_is)
    c.grow.ensures.grown
