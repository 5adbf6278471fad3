use Rattle.std.proofs.Common.{◌≡◌, ◌++◌, ◌&&◌, sym, ap, subst, ◌∙◌}
use Rattle.flat_names.specs.Pieces.{IsPiece, pending}
use Rattle.flat_names.proofs.Notes.{then-noted}
use Rattle.flat_names.proofs.Counted.{choice-open}
use Rattle.flat_names.proofs.resolved.open_choice.Goals as goal
use Rattle.flat_names.proofs.resolved.open_choice.Goals.{then-cond, else-cond, then-yes, else-yes, then-cond-2, else-cond-2, then-yes-2, else-yes-2}

pub returns : goal.returns
returns c = λ l p q o pa fp qb fq oc fo none.
    let a = c.in_ok-cond.cond in
    let b = c.in_ok-yes.yes in
    let d = c.in_ok-other.other in
    let f0 = c.args.faults.now in
    let f1 = c.settled.new.faults in
    let f2 = c.settled-2.new.faults in
    let f3 = c.settled-3.new.faults in
    let first = c.in_ok-cond.ensures p pa fp in
    let second = c.in_ok-yes.ensures q qb fq in
    let third = c.in_ok-other.ensures o oc fo in
    let value : c.if-cond.value ≡ (a.is_sound && b.is_sound) =
    elim c.if-cond.branch [ then-cond w ↦ w.value-is ∙ sym (ap (λ x. x && b.is_sound) w.if-cond.true) | else-cond w ↦ w.value-is ∙ w.if-cond.false ∙ sym (ap (λ x. x && b.is_sound) w.if-cond.false) ] in
    let sound : c.if-yes.is_sound ≡ ((a.is_sound && b.is_sound) && d.is_sound) = elim c.if-yes.branch [
      | then-yes w ↦ w.is_sound-is ∙ sym (ap (λ x. x && d.is_sound) (sym value ∙ w.if-yes.true))
      | else-yes w ↦ w.is_sound-is ∙ w.if-yes.false ∙ sym (ap (λ x. x && d.is_sound) (sym value ∙ w.if-yes.false))
    ] in
    let fixed : c.if-cond-2.value ≡ (a.is_constant && b.is_constant) =
    elim c.if-cond-2.branch [ then-cond-2 w ↦ w.value-is ∙ sym (ap (λ x. x && b.is_constant) w.if-cond-2.true) | else-cond-2 w ↦ w.value-is ∙ w.if-cond-2.false ∙ sym (ap (λ x. x && b.is_constant) w.if-cond-2.false) ] in
    let constant : c.if-yes-2.is_constant ≡ ((a.is_constant && b.is_constant) && d.is_constant) = elim c.if-yes-2.branch [
      | then-yes-2 w ↦ w.is_constant-is ∙ sym (ap (λ x. x && d.is_constant) (sym fixed ∙ w.if-yes-2.true))
      | else-yes-2 w ↦ w.is_constant-is ∙ w.if-yes-2.false ∙ sym (ap (λ x. x && d.is_constant) (sym fixed ∙ w.if-yes-2.false))
    ] in (
      choice-open l p q o a b d c.in_ok-expr.expr _ c.if-yes.is_sound c.if-yes-2.is_constant c.of_choice-signs.result (subst (IsPiece p) (sym first.0) pa) (subst (IsPiece q) (sym second.0) qb) (subst (IsPiece o) (sym third.0) oc) none
          c.in_ok-expr.ensures sound constant c.of_choice-signs.ensures,
      then-noted f0 f2 f3 (pending p ++ pending q) (pending o) (then-noted f0 f1 f2 (pending p) (pending q) first.1 second.1) third.1,
    )
