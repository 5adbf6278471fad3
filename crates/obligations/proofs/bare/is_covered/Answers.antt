-- By the search's own answer.
use Rattle.std.proofs.Common.{◌∙◌, rules, sym, ap, ap₂}
use Rattle.std.proofs.lemmas.List.Sorted.{answers_always}
use Rattle.cdc_model.specs.declared.scheme.Cover.{Cover}
use Rattle.cdc_model.proofs.Keys.{Ends, ends_cmp, ends_key, ends_order, found, sorted}
use Rattle.obligations.proofs.bare.is_covered.Goals as goal

pub returns : goal.returns
returns c = λ up.
    let covers = c.args.covers.now in
    let k = c.args.crossing.now in
    let of = λ (c : Cover). let e : Ends = (c.to, c.from) in e in
    let at = found ends_cmp ends_order.total ends_order.same of covers (k.to, k.from) c.binary_search_by_key.result (sorted ends_cmp ends_key ends_order of covers up) c.binary_search_by_key.ensures.bound
    (c.binary_search_by_key.ensures.position of (answers_always _ _ _ (λ f a r g called. search rules))) in (
      λ e. let t = at.0 (sym c.is_ok.ensures.value ∙ e) in (t.0, t.1, ap (λ (p : Ends). p.1) t.2, ap (λ (p : Ends). p.0) t.2),
      λ t. c.is_ok.ensures.value ∙ at.1 (t.0, t.1, ap₂ (λ a b. let e : Ends = (a, b) in e) t.3 t.2),
    )
