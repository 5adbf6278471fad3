use Rattle.std.proofs.Common.{List, ap, ◌∙◌, subst}
use Rattle.std.specs.Prelude.{slice_get}
use Rattle.std.proofs.lemmas.Result.{IfOk-weaker}
use Rattle.flat_names.specs.declared.design.Entry.{Entry}
use Rattle.flat_design.specs.StartValues.{starts_from, GrowsBy}
use Rattle.flat_design.proofs.StartValues.{shows-constants}
use Rattle.flat_design.proofs.constants.add_constants.Goals as goal

pub returns-clause-exact : goal.returns-clause-exact
returns-clause-exact c = λ pins d h fit.
    let k = c.args.design.now in let held = c.as_slice.result.now in let new = c.add_starts.new.assigns in
    IfOk-weaker c.add_starts.result _ _
    (λ _ g. shows-constants pins k d h fit held (λ s. ap (λ xs. slice_get xs s) c.as_slice.ensures.value ∙ c.in_ok-held.ensures s) new
    (subst (λ (es : List Entry). GrowsBy k.assigns.items new.items (starts_from held 0 es)) c.as_slice-2.ensures.value g))
    c.add_starts.ensures

pub returns-clause-sizes : goal.returns-clause-sizes
returns-clause-sizes c = λ old.
    IfOk-weaker c.add_starts.result _ _ (λ _ g. record { assigns = g.sizes old.assigns; combs = old.combs; clocked = old.clocked }) c.add_starts.ensures
