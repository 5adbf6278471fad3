use Rattle.std.proofs.Common.{◌≡◌, ◌++◌, [], Bor, List, map, sym, subst, ap, ◌∙◌}
use Rattle.std.proofs.lemmas.Result.{IfOk-weaker}
use Rattle.std.specs.Prelude.{All}
use Rattle.flat_meaning.specs.Flat.{Target}
use Rattle.flat_form.specs.declared.flat.FTarget.{FTarget}
use Rattle.flat_form.specs.View.{target_of}
use Rattle.flat_targets.specs.Parts.{width_among, IsPart, parts, first_met}
use Rattle.flat_targets.proofs.Shared.{are-parts}
use Rattle.flat_targets.proofs.parts.first_meeting.Goals as goal

pub returns : goal.returns
returns c = λ n w.
    let wid = width_among c.args.entries.now in
    let t = target_of c.args.target.now in
    let f = λ (p : Bor FTarget). target_of p.now in
    let e : map f c.as_slice.result.now ≡ parts t = ap (map f) c.as_slice.ensures.value ∙ c.in_ok-add_parts.ensures ∙ ap (λ (xs : List (Bor FTarget)). map f xs ++ parts t) c.new-parts.ensures.items in
    IfOk-weaker c.first_met.result _ _ (λ o h. h ∙ ap (λ ts. first_met wid n ts [] ts) e) (c.first_met.ensures n w (subst (All IsPart) (sym e) (are-parts t)))
