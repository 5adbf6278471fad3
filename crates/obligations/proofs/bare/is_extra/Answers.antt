-- By the search's own answer.
use Rattle.std.proofs.Common.{◌∙◌, rules, refl, sym, ap, ap₂, subst, Contains}
use Rattle.std.proofs.lemmas.List.Sorted.{answers_always}
use Rattle.cdc_model.specs.declared.scheme.Crossing.{Crossing}
use Rattle.cdc_model.proofs.Keys.{Ends, ends_cmp, ends_key, ends_order, found, sorted}
use Rattle.obligations.proofs.bare.is_extra.Goals as goal

pub returns : goal.returns
returns c = λ up.
    let extra = c.args.extra.now in
    let k = c.args.crossing.now in
    let of = λ (c : Crossing). let e : Ends = (c.to, c.from) in e in
    let at = found ends_cmp ends_order.total ends_order.same of extra (of k) c.binary_search_by_key.result (sorted ends_cmp ends_key ends_order of extra up) c.binary_search_by_key.ensures.bound
    (c.binary_search_by_key.ensures.position of (answers_always _ _ _ (λ f a r g called. search rules))) in (
      λ e. let t = at.0 (sym c.is_ok.ensures.value ∙ e) in
          subst (Contains extra) (ap₂ (λ a b. let k : Crossing = record { from = a; to = b } in k) (ap (λ (p : Ends). p.1) t.2) (ap (λ (p : Ends). p.0) t.2)) t.1,
      λ i. c.is_ok.ensures.value ∙ at.1 (k, i, refl),
    )
