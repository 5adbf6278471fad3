use Rattle.std.proofs.Common.{◌≡◌, not, ◌&&◌, sym, ap, ap₂, subst, ◌∙◌}
use Rattle.flat_meaning.specs.Flat.{binary_size}
use Rattle.flat_form.specs.View.{binary_of}
use Rattle.flat_unfolding.specs.Expressions.{is_whole_only}
use Rattle.flat_names.specs.Pieces.{IsPiece, binary_piece}
use Rattle.flat_names.proofs.Wholes.{whole-only}
use Rattle.flat_names.proofs.Counted.{binary-number, binary-flag}
use Rattle.flat_names.proofs.resolved.counted_binary.Goals as goal
use Rattle.flat_names.proofs.resolved.counted_binary.Goals.{then-a, else-a, then-b, else-b}

pub returns-then-binary_size-ne1 : goal.returns-then-binary_size-ne1
returns-then-binary_size-ne1 c = λ l p q j k pa fp qb fq ep eq whole.
    let size : c.binary_size.result ≡ binary_size (binary_of c.args.op) j k = c.binary_size.ensures ∙ ap₂ (binary_size (binary_of c.args.op)) (c.width.ensures ∙ pa.width j ep) (c.width-2.ensures ∙ qb.width k eq) in
    subst (IsPiece (binary_piece l c.args.op p q)) (sym c.whole_number.ensures) (binary-number l c.args.op p q j k c.args.whole fp fq ep eq (λ e. c.if-binary_size-ne1.true (size ∙ e)) whole)

pub returns : goal.returns
returns c = λ l p q j k pa fp qb fq ep eq whole.
    let op = c.args.op in
    let a = c.args.a.is_sound in
    let b = c.args.b.is_sound in
    let size : c.binary_size.result ≡ binary_size (binary_of op) j k = c.binary_size.ensures ∙ ap₂ (binary_size (binary_of op)) (c.width.ensures ∙ pa.width j ep) (c.width-2.ensures ∙ qb.width k eq) in
    let both : c.if-a.value ≡ (a && b) = elim c.if-a.branch [ then-a w ↦ w.value-is ∙ sym (ap (λ x. x && b) w.if-a.true) | else-a w ↦ w.value-is ∙ w.if-a.false ∙ sym (ap (λ x. x && b) w.if-a.false) ] in
    let sound : c.if-b.is_sound ≡ ((a && b) && not (is_whole_only op)) = elim c.if-b.branch [
      | then-b w ↦ w.is_sound-is ∙ ap not (w.is_whole_only.ensures ∙ whole-only op) ∙ sym (ap (λ x. x && not (is_whole_only op)) (sym both ∙ w.if-b.true))
      | else-b w ↦ w.is_sound-is ∙ w.if-b.false ∙ sym (ap (λ x. x && not (is_whole_only op)) (sym both ∙ w.if-b.false))
    ] in
    subst (IsPiece (binary_piece l op p q)) (sym c.counted_flag.ensures)
    (binary-flag l op p q c.args.a c.args.b c.in_ok-expr.expr j k c.if-b.is_sound c.args.whole c.of_binary-signs.result pa fp qb fq ep eq (sym size ∙ c.if-binary_size-ne1.false) whole c.in_ok-expr.ensures sound c.of_binary-signs.ensures)
