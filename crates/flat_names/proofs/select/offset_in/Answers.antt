use Rattle.std.proofs.Common.{◌≤◌, sym, ap, subst, ◌∙◌, arith}
use Rattle.std.specs.Prelude.{option_map}
use Rattle.flat_form.specs.View.{expr_of}
use Rattle.flat_unfolding.specs.Names.{span, offset, offset_in, width_of}
use Rattle.flat_unfolding.specs.Constants.{own_value}
use Rattle.flat_names.specs.Looks.{range_of}
use Rattle.flat_names.proofs.Looked.{own-is}
use Rattle.flat_names.proofs.select.offset_in.Goals as goal

pub returns : goal.returns
returns c = λ s w.
    let b = c.in_ok-bounds.field-0 in
    let e = c.args.index.now in
    let n : span (range_of b) ≤ 64 = subst (λ o. width_of (option_map range_of o) ≤ 64) c.in_ok-bounds.was w in
    c.offset.ensures (omega arith) ∙ ap (λ v. offset v (range_of b)) (own-is e c.own_value.result s (c.own_value.ensures s).0)
    ∙ ap (λ o. offset_in (option_map range_of o) (own_value (expr_of e))) (sym c.in_ok-bounds.was)
