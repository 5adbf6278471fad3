use Rattle.std.proofs.Common.{◌≡◌, List, [], ◌∷◌, ◌++◌, rules, sym, ap, ◌∙◌}
use Rattle.flat_form.specs.declared.copy.Choice.{Choice}
use Rattle.flat_form.specs.View.{expr_of}
use Rattle.flat_form.specs.Sizes.{kept_of}
use Rattle.flat_form.specs.Copies.{wrapped, kept_wrapped}
use Rattle.flat_form.proofs.Copies.{same-around, kept-around}
use Rattle.flat_form.proofs.copy.chosen.Goals as goal

pub loop-cond-preserved : goal.loop-cond-preserved
loop-cond-preserved c =
    let left = c.pop.new.self.items in
    let last = c.in-Some.field-0 in
    let all : c.loop-cond.around.items ≡ left ++ last ∷ [] = search rules in
    let x = c.in_ok-boxed.field-0 in
    let y = c.in_ok-boxed-2.field-0 in
    let z = c.in_ok-boxed-3.field-0 in
    let whole = c.loop-cond.whole in
    record {
      same = same-around left last x y z whole (ap expr_of c.in_ok-boxed.ensures) (ap expr_of c.in_ok-boxed-2.ensures) (ap expr_of c.in_ok-boxed-3.ensures)
          ∙ ap (λ (cs : List Choice). wrapped cs (expr_of whole)) (sym all) ∙ c.loop-cond.invariant.same;
      kept = kept-around left last x y z whole (ap kept_of c.in_ok-boxed.ensures) (ap kept_of c.in_ok-boxed-2.ensures) (ap kept_of c.in_ok-boxed-3.ensures)
          ∙ ap (λ (cs : List Choice). kept_wrapped cs (kept_of whole)) (sym all) ∙ c.loop-cond.invariant.kept;
    }
