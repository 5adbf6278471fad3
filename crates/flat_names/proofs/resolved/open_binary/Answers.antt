use Rattle.std.proofs.Common.{◌≡◌, Bool, not, [], ◌++◌, ◌&&◌, ◌||◌, refl, sym, ap, ap₂, subst, ◌∙◌}
use Rattle.flat_unfolding.specs.Outcome.{breaks_if}
use Rattle.flat_unfolding.specs.Expressions.{is_whole_only}
use Rattle.flat_names.specs.Noting.{all_noted}
use Rattle.flat_names.specs.Pieces.{IsPiece, pending}
use Rattle.flat_names.specs.Signs.{orders_signed}
use Rattle.flat_names.proofs.Notes.{then-noted, noted-either}
use Rattle.flat_names.proofs.Wholes.{whole-only}
use Rattle.flat_names.proofs.Counted.{binary-open}
use Rattle.flat_names.proofs.resolved.open_binary.Goals as goal
use Rattle.flat_names.proofs.resolved.open_binary.Goals.{then-is_whole_only, else-is_whole_only, then-is_broken+in_ok-note, else-is_broken, then-a, else-a, then-b, else-b, then-a-2, else-a-2}

pub returns : goal.returns
returns c = λ l p q pa fp qb fq none.
    let op = c.args.op in
    let a = c.in_ok-a.a in
    let b = c.in_ok-b.b in
    let f0 = c.args.faults.now in
    let f1 = c.settled.new.faults in
    let f2 = c.settled-2.new.faults in
    let first = c.in_ok-a.ensures p pa fp in
    let second = c.in_ok-b.ensures q qb fq in
    let left = subst (IsPiece p) (sym first.0) pa in
    let right = subst (IsPiece q) (sym second.0) qb in
    let whole : c.is_whole_only.result ≡ is_whole_only op = c.is_whole_only.ensures ∙ whole-only op in
    let orders : Bool = orders_signed op a.signs b.signs in
    let broken : c.if-is_whole_only.is_broken ≡ (is_whole_only op || orders) = elim c.if-is_whole_only.branch [
      | then-is_whole_only w ↦ w.is_broken-is ∙ w.if-is_whole_only.true ∙ sym (ap (λ x. x || orders) (sym whole ∙ w.if-is_whole_only.true))
      | else-is_whole_only w ↦ w.is_broken-is ∙ w.orders_signed-is_broken.ensures ∙ sym (ap (λ x. x || orders) (sym whole ∙ w.if-is_whole_only.false))
    ] in
    let value : c.if-a.value ≡ (a.is_sound && b.is_sound) =
    elim c.if-a.branch [ then-a w ↦ w.value-is ∙ sym (ap (λ x. x && b.is_sound) w.if-a.true) | else-a w ↦ w.value-is ∙ w.if-a.false ∙ sym (ap (λ x. x && b.is_sound) w.if-a.false) ] in
    let sound : c.if-b.is_sound ≡ ((a.is_sound && b.is_sound) && not (is_whole_only op || orders)) = elim c.if-b.branch [
      | then-b w ↦ w.is_sound-is ∙ ap not broken ∙ sym (ap (λ x. x && not (is_whole_only op || orders)) (sym value ∙ w.if-b.true))
      | else-b w ↦ w.is_sound-is ∙ w.if-b.false ∙ sym (ap (λ x. x && not (is_whole_only op || orders)) (sym value ∙ w.if-b.false))
    ] in
    let constant : c.if-a-2.is_constant ≡ (a.is_constant && b.is_constant) =
    elim c.if-a-2.branch [ then-a-2 w ↦ w.is_constant-is ∙ sym (ap (λ x. x && b.is_constant) w.if-a-2.true) | else-a-2 w ↦ w.is_constant-is ∙ w.if-a-2.false ∙ sym (ap (λ x. x && b.is_constant) w.if-a-2.false) ] in
    let whole_noted = all_noted f2 (breaks_if (is_whole_only op) 307 []) in
    let noted : c.if-is_broken.faults ≡ all_noted whole_noted (breaks_if orders 307 []) = elim c.if-is_broken.branch [
      | then-is_broken+in_ok-note w ↦ w.faults-is ∙ w.in_ok-note.ensures ∙ ap (λ t. all_noted f2 (breaks_if t 307 [])) (sym w.if-is_broken.true ∙ broken) ∙ noted-either f2 (is_whole_only op) orders
      | else-is_broken w ↦ w.faults-is ∙ ap (λ t. all_noted f2 (breaks_if t 307 [])) (sym w.if-is_broken.false ∙ broken) ∙ noted-either f2 (is_whole_only op) orders
    ] in
    let last = noted ∙ ap (λ t. all_noted whole_noted (breaks_if t 307 [])) (ap₂ (orders_signed op) left.signs right.signs) in (
      binary-open l op p q a b c.in_ok-expr.expr _ c.if-b.is_sound c.if-a-2.is_constant c.of_binary-signs.result left right none c.in_ok-expr.ensures sound constant c.of_binary-signs.ensures,
      then-noted f0 whole_noted c.if-is_broken.faults (pending p ++ pending q ++ breaks_if (is_whole_only op) 307 []) (breaks_if (orders_signed op p.signs q.signs) 307 [])
          (then-noted f0 f2 whole_noted (pending p ++ pending q) (breaks_if (is_whole_only op) 307 []) (then-noted f0 f1 f2 (pending p) (pending q) first.1 second.1) refl) last,
    )
