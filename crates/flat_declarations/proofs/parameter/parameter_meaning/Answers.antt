use Rattle.std.proofs.Common.{◌≡◌, ◌^◌, ◌&&◌, nat_le, [], ap, sym, refl, ◌∙◌, subst}
use Rattle.std.specs.Prelude.{is_none, option_map, option_copied}
use Rattle.std.proofs.lemmas.Bool.{and_parts}
use Rattle.verilog_reading.specs.SourceTree.{param_of as tree_of_param}
use Rattle.flat_form.specs.View.{expr_of}
use Rattle.flat_unfolding.specs.Outcome.{breaks_if}
use Rattle.flat_unfolding.specs.Constants.{own_value}
use Rattle.flat_names.specs.Noting.{all_noted}
use Rattle.flat_names.specs.Looks.{range_of}
use Rattle.flat_declarations.specs.Declaring.{override_of, IsGivenSized}
use Rattle.flat_declarations.proofs.Held.{override-meant, own-meant}
use Rattle.flat_declarations.proofs.parameter.parameter_meaning.Goals as goal
use Rattle.flat_declarations.proofs.parameter.parameter_meaning.Goals.{then-value, else-value}

pub returns-in_ok-note_sign-in-Some : goal.returns-in_ok-note_sign-in-Some
returns-in_ok-note_sign-in-Some c = λ l given shows is formed outer sized.
    let q = tree_of_param c.args.param.now in
    let b = c.in_ok-bounds.ensures l shows is formed.0 in
    let right = subst (λ o. IsGivenSized (option_copied o)) c.in-Some.is sized in
    override-meant l given q c.args.faults.now c.note_declared.new.faults c.declared_bounds.new.faults (option_map range_of c.in_ok-bounds.bounds) c.held.result
    (c.in_ok-note_declared.ensures l shows) b.1 b.0 c.note_sign.new.faults c.args.param.now.range c.in-Some.outer.now refl
    (sym outer ∙ ap (λ o. option_map override_of (option_copied o)) c.in-Some.is) (c.in_ok-note_sign-in-Some.ensures (λ k. right)) (λ k. c.held.ensures right k)

pub returns-in_ok-note_sign-in-None : goal.returns-in_ok-note_sign-in-None
returns-in_ok-note_sign-in-None c = λ l given shows is formed outer sized.
    let q = tree_of_param c.args.param.now in
    let b = c.in_ok-bounds.ensures l shows is formed.0 in
    let x = c.in_ok-value-in-None.value in
    let v = c.in_ok-value-in-None.ensures l shows is formed.1 in
    let signed : c.if-value.is_signed ≡ (x.is_sound && x.signs.is_signed) = elim c.if-value.branch [
      | then-value w ↦ w.is_signed-is ∙ ap (λ b. b && x.signs.is_signed) (sym w.if-value.true)
      | else-value w ↦ w.is_signed-is ∙ w.if-value.false ∙ ap (λ b. b && x.signs.is_signed) (sym w.if-value.false)
    ] in
    let told = c.in_ok-note_sign-in-None.ensures (λ k. v.0.sized (and_parts x.is_sound x.signs.is_signed (sym signed ∙ k)).0)
    ∙ ap (λ b. all_noted c.resolve_constant.new.faults (breaks_if (is_none c.args.param.now.range && b && nat_le (2 ^ 31) (own_value (expr_of x.expr))) 307 [])) signed in
    own-meant l given q c.args.faults.now c.note_declared.new.faults c.declared_bounds.new.faults (option_map range_of c.in_ok-bounds.bounds) c.held-in-None.result
    (c.in_ok-note_declared.ensures l shows) b.1 b.0 c.resolve_constant.new.faults c.note_sign-in-None.new.faults c.args.param.now.range x c.is_some-is_counted.result refl
    (sym outer ∙ ap (λ o. option_map override_of (option_copied o)) c.in-None.is) v.0 v.1 v.2 v.3 c.is_some-is_counted.ensures told c.held-in-None.ensures
