use Rattle.std.proofs.Common.{◌≡◌, ◌++◌, ◌∷◌, ◌==◌, [], true≢false, Bor, List, length, map, inl, inr, sym, subst, ap, ◌∙◌}
use Rattle.std.proofs.lemmas.Result.{IfOk-weaker}
use Rattle.std.proofs.lemmas.List.{map-append, length-map}
use Rattle.flat_meaning.specs.Flat.{Target, Group}
use Rattle.flat_form.specs.declared.flat.FTarget.{FTarget}
use Rattle.flat_form.specs.View.{target_of, targets_of}
use Rattle.flat_form.proofs.Folds.{target_of-Whole, target_of-At, target_of-Part, target_of-Join}
use Rattle.flat_targets.specs.Parts.{parts, parts_in}
use Rattle.flat_targets.proofs.Shared.{group-parts}
use Rattle.flat_targets.proofs.parts.+add_parts.Goals as goal

pub add_parts-returns-else-is_empty : goal.add_parts-returns-else-is_empty
add_parts-returns-else-is_empty t c =
    let f = λ (p : Bor FTarget). target_of p.now in
    let xs = c.as_slice-inner.result.now in
    let e : target_of c.args.target.now ≡ Group (targets_of (map target_of xs)) = ap target_of c.in-Join.is ∙ target_of-Join c.in-Join.inner ∙ ap (λ ys. Group (targets_of (map target_of ys))) (sym c.as_slice-inner.ensures) in
    let g : parts (target_of c.args.target.now) ≡ parts_in (targets_of (map target_of xs)) = ap parts e ∙ group-parts (map target_of xs) (λ z. absurd (true≢false (ap (λ n. n == 0) (sym (sym (length-map xs target_of) ∙ z)) ∙ sym c.is_empty.ensures ∙ c.if-is_empty.false))) in
    IfOk-weaker c.add_parts_of.result _ _ (λ _ h. h ∙ ap (λ ts. map f c.args.parts.now.items ++ ts) (sym g)) c.add_parts_of.ensures

pub add_parts-returns-in-Whole : goal.add_parts-returns-in-Whole
add_parts-returns-in-Whole t c =
    let f = λ (p : Bor FTarget). target_of p.now in
    let x = c.args.target in
    let e : parts (target_of x.now) ≡ target_of x.now ∷ [] = elim c.in-Whole.is [
      | inl w ↦ ap (λ z. parts (target_of z)) w.1 ∙ ap parts (target_of-Whole w.0) ∙ ap (λ z. z ∷ []) (sym (ap target_of w.1 ∙ target_of-Whole w.0))
      | inr (inl w) ↦ ap (λ z. parts (target_of z)) w.2 ∙ ap parts (target_of-At w.0 w.1) ∙ ap (λ z. z ∷ []) (sym (ap target_of w.2 ∙ target_of-At w.0 w.1))
      | inr (inr w) ↦ ap (λ z. parts (target_of z)) w.3 ∙ ap parts (target_of-Part w.0 w.1 w.2) ∙ ap (λ z. z ∷ []) (sym (ap target_of w.3 ∙ target_of-Part w.0 w.1 w.2))
    ] in
    IfOk-weaker c.push-in-Whole.result _ _ (λ _ h. ap (map f) h ∙ map-append f c.args.parts.now.items (x ∷ []) ∙ ap (λ ts. map f c.args.parts.now.items ++ ts) (sym e)) c.push-in-Whole.ensures.pushed
