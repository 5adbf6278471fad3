use Rattle.std.proofs.Common.{◌≡◌, ◌&&◌, max, sym, ap, ap₂, subst, ◌∙◌}
use Rattle.flat_names.specs.Pieces.{IsPiece, choice_piece}
use Rattle.flat_names.proofs.Counted.{choice-number, choice-flag}
use Rattle.flat_names.proofs.resolved.counted_choice.Goals as goal
use Rattle.flat_names.proofs.resolved.counted_choice.Goals.{then-cond, else-cond, then-yes, else-yes}

pub returns-then-max-ne1 : goal.returns-then-max-ne1
returns-then-max-ne1 c = λ l p q o i j k pa fp qb fq oc fo ep eq eo whole.
    let size : c.max.result ≡ max j k = c.max.ensures ∙ ap₂ max (c.width.ensures ∙ qb.width j eq) (c.width-2.ensures ∙ oc.width k eo) in
    subst (IsPiece (choice_piece l p q o)) (sym c.whole_number.ensures) (choice-number l p q o i j k c.args.whole fp fq fo ep eq eo (λ e. c.if-max-ne1.true (size ∙ e)) whole)

pub returns : goal.returns
returns c = λ l p q o i j k pa fp qb fq oc fo ep eq eo whole.
    let a = c.args.cond.is_sound in
    let b = c.args.yes.is_sound in
    let d = c.args.other.is_sound in
    let size : c.max.result ≡ max j k = c.max.ensures ∙ ap₂ max (c.width.ensures ∙ qb.width j eq) (c.width-2.ensures ∙ oc.width k eo) in
    let both : c.if-cond.value ≡ (a && b) = elim c.if-cond.branch [ then-cond w ↦ w.value-is ∙ sym (ap (λ x. x && b) w.if-cond.true) | else-cond w ↦ w.value-is ∙ w.if-cond.false ∙ sym (ap (λ x. x && b) w.if-cond.false) ] in
    let sound : c.if-yes.is_sound ≡ ((a && b) && d) = elim c.if-yes.branch [
      | then-yes w ↦ w.is_sound-is ∙ sym (ap (λ x. x && d) (sym both ∙ w.if-yes.true))
      | else-yes w ↦ w.is_sound-is ∙ w.if-yes.false ∙ sym (ap (λ x. x && d) (sym both ∙ w.if-yes.false))
    ] in
    subst (IsPiece (choice_piece l p q o)) (sym c.counted_flag.ensures)
    (choice-flag l p q o c.args.cond c.args.yes c.args.other c.in_ok-expr.expr i j k c.if-yes.is_sound c.args.whole c.of_choice-signs.result pa fp qb fq oc fo ep eq eo (sym size ∙ c.if-max-ne1.false) whole c.in_ok-expr.ensures sound c.of_choice-signs.ensures)
